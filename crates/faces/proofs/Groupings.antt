-- The group of the faces, and what an entry holds.
use Rattle.std.proofs.Common.{◌≡◌, ℕ, ◌+◌, ◌<◌, min, Bool, true, false, List, [], ◌∷◌, length, Some, None, Option, MatchOption, IsTrue, ◌↔◌, sym, refl, ◌∙◌, subst, append-nil, arith, drop-drop}
use Rattle.std.specs.Bool.{then_some}
use Rattle.std.specs.Option.{is_some}
use Rattle.std.proofs.lemmas.Bool.{false≢true}
use Rattle.object.specs.Objects.{Begins, IsNotOnly, header_size}
use Rattle.object.specs.Readers.{Took, Missed, IsOnly, rest_of}
use Rattle.object.specs.declared.reader.Reader.{Reader}
use Rattle.object.specs.declared.reader.Value.{Value}
use Rattle.object.proofs.Laws.{same, begins_past}
use Rattle.faces.specs.Rows.{Row}
use Rattle.faces.specs.Groups.{IsCount, Grouped, entries_place, Found}
use Rattle.faces.specs.Rising.{LawfulFeatures}
use Rattle.faces.specs.Faces.{Entry, Described}

-- the entries stand after the count
after_count : (start k p : ℕ) (g w : List ℕ) → k ∷ [] ≡ w → p ≡ start + header_size 0x7F61 g + header_size 0x02 w + length w → p ≡ entries_place start k g
after_count start k p g w e at = at ∙ subst (λ y. start + header_size 0x7F61 g + header_size 0x02 y + length y ≡ entries_place start k g) e refl

-- The template's value, in which a reader has the group alone, and another reader inside the group, at its place in the
-- file; what this takes stands in the group's value.
module _ {a : Reader} {g : Value} (o : IsOnly a 0x7F61 g) (i : Reader) (e : i.bytes.now ≡ a.bytes.now) (f : i.position ≡ min g.place (length a.bytes.now)) where
  inside_at : i.position ≡ a.position + header_size 0x7F61 g.bytes.now
  inside_at = omega (arith, f, o.at, o.ends)

  inside : rest_of i ≡ g.bytes.now
  inside = rw (e, inside_at) (sym (drop-drop (header_size 0x7F61 g.bytes.now) a.position a.bytes.now) ∙ begins_past o.begins ∙ append-nil g.bytes.now)

  count_of : (h : Grouped (rest_of a)) → Begins (rest_of i) 0x02 (h.0 ∷ []) h.2
  count_of h = subst (λ r. Begins r 0x02 (h.0 ∷ []) h.2) ((same h.3.alone o.begins).1 ∙ sym inside) h.3.counted

  pub no_count : {j : Reader} → Missed i j 0x02 → Grouped (rest_of a) → ⊥
  no_count m h = m.lacks (h.0 ∷ []) h.2 (count_of h)

  module _ {j : Reader} {w : Value} (t : Took i j 0x02 w) where
    pub other_count : ((k : ℕ) → IsCount w.bytes.now k → ⊥) → Grouped (rest_of a) → ⊥
    other_count n h = n h.0 (h.3.some, h.3.few, (same (count_of h) t.begins).1)

    other_row : (k : ℕ) → k ∷ [] ≡ w.bytes.now → (Row 0x7F60 k (rest_of j) → ⊥) → Grouped (rest_of a) → ⊥
    other_row k c n h =
        let s = same (count_of h) t.begins in
        let q : h.0 ≡ k = cc (s.1, c) in
        n (subst (λ m. Row 0x7F60 m (rest_of j)) q (subst (λ r. Row 0x7F60 h.0 r) s.2 h.3.row))

    found : (k : ℕ) → IsCount w.bytes.now k → Row 0x7F60 k (rest_of j) → Found a j
    found k l row =
        let c = subst (λ r. Begins r 0x02 w.bytes.now (rest_of j)) inside t.begins in
        record {
          count = k;
          inside = g.bytes.now;
          group = record { some = l.0; few = l.1; alone = o.begins; counted = subst (λ v. Begins g.bytes.now 0x02 v (rest_of j)) (sym l.2) c; row = row };
          at = after_count a.position k j.position g.bytes.now w.bytes.now l.2 (omega (arith, inside_at, t.at, t.position));
          bytes = t.bytes ∙ e;
        }

    pub found_when : (k : ℕ) → IsCount w.bytes.now k → (b : Bool) → IsTrue b ↔ Row 0x7F60 k (rest_of j) → MatchOption (then_some b j) (Grouped (rest_of a) → ⊥) (Found a)
    found_when k l true h = found k l (h.0 refl)
    found_when k l false h = other_row k l.2 (λ row. false≢true (h.1 row))

-- whether an object was taken or not
pub taken : {A : Type 0} (P : Type 0) {Q : A → Type 0} (o : Option A) → is_some o ≡ true → MatchOption o P Q → (x : A) × Q x
taken P None e m = absurd (false≢true e)
taken P (Some x) e m = (x, m)

pub missed : {A P : Type 0} (Q : A → Type 0) (o : Option A) → is_some o ≡ false → MatchOption o P Q → P
missed Q None e m = m
missed Q (Some x) e m = absurd (false≢true (sym e))

-- an object of this tag was looked for: it was taken, or it is missing
abbrev pub Sought : Reader → Reader → ℕ → Option Value → Type 0
Sought a b tag o = MatchOption o (Missed a b tag) (Took a b tag)

-- an entry, where a header was looked for, and then a block alone, which is not empty
module _ (a b : Reader) {xs : List ℕ} (e : rest_of a ≡ xs) (o : Option Value) (m : Sought a b 0xA1 o) where
  pub no_header : is_some o ≡ false → Entry xs → ⊥
  no_header n f = (missed _ o n m).lacks f.header f.rest (rw e f.first)

  module _ (y : is_some o ≡ true) (r : Bool) (F : Value → Type 0) (f : (v : Value) → F v → IsTrue r ↔ (0 < length v.bytes.now)) where
    header : (v : Value) × Begins xs 0xA1 v.bytes.now (rest_of b)
    header = let t = taken _ o y m in (t.0, rw e at t.1.begins)

    block : (h : Entry xs) → Begins (rest_of b) 0x5F2E h.block []
    block h = rw (same header.1 h.first).2 h.second

    pub entry_when : (p : Option Value) → MatchOption p (IsNotOnly (rest_of b) 0x5F2E) (IsOnly b 0x5F2E) → MatchOption p (r ≡ false) F → IsTrue r ↔ Entry xs
    entry_when None n z = ((λ w. absurd (false≢true (sym z ∙ w))), λ h. absurd (n h.block (block h)))
    entry_when (Some v) n z = (
      (λ w. record { header = header.0.bytes.now; rest = rest_of b; block = v.bytes.now; first = header.1; second = n.begins; some = (f v z).0 w }),
      λ h. (f v z).1 (rw (same n.begins (block h)).1 h.some),
    )

-- a test of the object that was taken, where it says yes exactly if P holds
pub described_when : (a b : Reader) {xs : List ℕ} (o : Option Value) (r : Bool) (F : Value → Type 0) → rest_of a ≡ xs
    → Sought a b 0xA1 o → MatchOption o (r ≡ false) F
    → ((v : Value) → F v → IsTrue r ↔ LawfulFeatures v.bytes.now) → IsTrue r ↔ Described xs
described_when a b None r F e m n f = (λ y. absurd (false≢true (sym n ∙ y)), λ d. absurd (m.lacks d.0 d.1 (rw e d.2)))
described_when a b (Some v) r F e m n f = (
  (λ y. (v.bytes.now, _, rw e at m.begins, (f v n).0 y)),
  (λ d. (f v n).1 (subst LawfulFeatures (same d.2 (rw e at m.begins)).1 d.3)),
)
