-- Going through a row, field by field: what has been passed, and where it ends or breaks.
use Rattle.std.proofs.Common.{◌≡◌, ℕ, Bool, ◌+◌, ◌-◌, ◌<◌, ◌≤◌, true, false, cond, eqb, List, [], ◌∷◌, length, get_or, set, Some, None, Ok, Err, Option, Result, sym, refl, ap, ◌∙◌, subst, inl, inr, ⊎_elim, arith, length-append, length-set, get_or-set_other, rules}
use denote.Param.Members.{Mut}
use denote.Ref.{Bor}
use Rattle.std.proofs.lemmas.Bool.{cases_eq}
use Rattle.std.proofs.lemmas.Grind.{get_or-set_at}
use Rattle.std.proofs.lemmas.List.{nil_from_length}
use Rattle.std.specs.Fn.{CalledAt}
use Rattle.std.specs.Iterator.{Yields, FindsItem}
use Rattle.std.specs.List.{FoldsTo}
use Rattle.std.specs.Option.{option_map, option_or}
use Rattle.std.specs.Result.{result_unwrap_or}
use Rattle.card.specs.Cards.{files_at}
use Rattle.image.specs.Images.{ImageField, field, row_of, LawfulField, RisingFields, IsImage, Breaks, here, later, file_of, files_in}
use Rattle.image.specs.Checks.{Starts, ImageOf, BrokenAt, Checks, StandsFor}
use Rattle.image.specs.declared.image.StoredField.{StoredField}
use Rattle.image.specs.declared.image.Fields.{Fields}
use Rattle.image.specs.declared.image.Image.{Image}
use Rattle.image.specs.declared.image.ImageRefusal.{ImageRefusal}
use Rattle.image.specs.declared.image.ImageRefusal.TheVariants.{Malformed}
use Rattle.image.proofs.Rows.{same_field, files_next, files_of_row, one_row, one_row_of_files, no_break, one_break, too_few}

-- a row of which lawful fields have been passed, and what is left of it
pub record Passed (bytes rest : List ℕ) (lowest : ℕ) : Type 0 where
  pub within : length rest ≤ length bytes
  pub breaks : (q : ℕ) → Breaks lowest (length bytes - length rest) rest q → Breaks 0 0 bytes q
  pub fields : (fs : List ImageField) → RisingFields lowest fs → row_of fs ≡ rest → (gs : List ImageField) × IsImage bytes gs

pub long : (k : ℕ) (bs next rest : List ℕ) → field k bs next ≡ rest → length rest ≡ length next + 3 + length bs
long k bs next rest e = sym (ap length e) ∙ omega (arith, length-append bs next)

pub pass : (bytes rest next : List ℕ) (lowest k : ℕ) (bs : List ℕ) → Passed bytes rest lowest → LawfulField lowest k bs → field k bs next ≡ rest → Passed bytes next (k + 1)
pass bytes rest next lowest k bs p w e =
    let n = long k bs next rest e in
    let m = p.within in
    record {
      within = omega arith;
      breaks = λ q b. p.breaks q (later k bs next w e (subst (λ z. Breaks (k + 1) z next q) (let z : length bytes - length next ≡ length bytes - length rest + 3 + length bs = omega arith in z) b));
      fields = λ fs r d. p.fields (record { number = k; content = bs } ∷ fs) (w, r) (ap (field k bs) d ∙ e);
    }

broken : (bytes : List ℕ) (p : ℕ) → Breaks 0 0 bytes p → BrokenAt bytes p
broken bytes p b = record { breaks = b; nowhere_else = λ q d. one_break 0 0 q p bytes d b; no_image = λ fs i. no_break 0 0 p bytes fs i.lawful i.writes b }

-- a field whose number is out of order
pub out_of_order : (bytes rest next : List ℕ) (lowest k : ℕ) (bs : List ℕ) → Passed bytes rest lowest → field k bs next ≡ rest → (lowest ≤ k → k ≤ 17 → ⊥) → BrokenAt bytes (length bytes - length rest)
out_of_order bytes rest next lowest k bs p e n =
    let l = long k bs next rest e in
    broken bytes (length bytes - length rest) (p.breaks _ (here (omega arith) (λ j cs more w d.
    let s = same_field j k cs bs more next (d ∙ sym e) in
    let t = s.0 in
    n (omega (arith, w.rises)) (omega (arith, w.card)))))

-- bytes that no field begins
pub unread : (bytes rest next : List ℕ) (lowest : ℕ) → Passed bytes rest lowest → Starts rest None next → 0 < length rest → BrokenAt bytes (length bytes - length rest)
unread bytes rest next lowest p s h = broken bytes (length bytes - length rest) (p.breaks _ (here h (λ k bs more w e. s.1 k bs more w.short e)))

pub image_of : (bytes : List ℕ) (fs : List ImageField) → IsImage bytes fs → ImageOf bytes (files_in bytes)
image_of bytes fs i =
    let has : (k : ℕ) → files_in bytes k ≡ file_of fs k = λ k. ap (λ xs. files_in xs k) (sym i.writes) ∙ files_of_row 0 fs i.lawful k in
    record {
      fields = fs;
      is_image = i;
      no_others = λ gs j. one_row gs fs (j.writes ∙ sym i.writes);
      has_files = has;
      same_bytes = λ other gs j same. sym j.writes ∙ ap row_of (one_row_of_files 0 gs fs j.lawful i.lawful (λ k. same k ∙ has k)) ∙ i.writes;
    }

-- the row's end
pub all_passed : (bytes rest : List ℕ) (lowest : ℕ) → Passed bytes rest lowest → length rest ≤ 0 → ImageOf bytes (files_in bytes)
all_passed bytes rest lowest p h =
    let g = p.fields [] tt (sym (nil_from_length rest (omega arith))) in
    image_of bytes g.0 g.1

-- bytes that are no image stand for no files
pub stands : (bytes : List ℕ) (checked : Result Image ImageRefusal) (without : Image) → Checks bytes checked → length without.row.now ≤ 0 → StandsFor bytes (files_in (result_unwrap_or checked without).row.now)
stands bytes (Ok image) without h e = inl h
stands bytes (Err (Malformed place)) without h e = inr (record { place = place; broken = h; none = (too_few without.row.now [] (omega arith)).0 })

-- a file that is sought field by field
pub found : (k j : ℕ) (bs next rest : List ℕ) → length bs ≤ 32767 → field k bs next ≡ rest → k ≡ j → files_in rest j ≡ Some bs
found k j bs next rest h e n =
    let t : eqb k j ≡ true = search rules in
    ap (λ xs. files_in xs j) (sym e) ∙ files_next k j bs next h ∙ ap (λ b. cond b (Some bs) (files_in next j)) t

pub passed_by : (k j : ℕ) (bs next rest : List ℕ) → length bs ≤ 32767 → field k bs next ≡ rest → (k ≡ j → ⊥) → files_in rest j ≡ files_in next j
passed_by k j bs next rest h e n =
    let t : eqb k j ≡ false = search rules in
    ap (λ xs. files_in xs j) (sym e) ∙ files_next k j bs next h ∙ ap (λ b. cond b (Some bs) (files_in next j)) t

-- a search for a number, by a closure that finds fields of that number and no others, and stays as it is
module _ {P : Type 0} {g : Mut P (Bor StoredField × Unit {0}) Bool} {p : P} (j : ℕ)
    (misses : (x : StoredField) (q : P) → CalledAt g p x false q → (q ≡ p) × (x.number ≡ j → ⊥)) (hits : (x : StoredField) (q : P) → CalledAt g p x true q → x.number ≡ j) where
  none_before : (xs : List StoredField) (s t : Fields) (q : P) → Yields (λ s r t. Starts s.row.now r t.row.now) s xs t → FoldsTo (λ p x q. CalledAt g p x false q) p xs q → (files_in s.row.now j ≡ files_in t.row.now j) × (p ≡ q)
  none_before [] s t q y f = (ap (λ z. files_in z.row.now j) y, f)
  none_before (x ∷ xs) s t q y f =
      let m = misses x f.0 f.1 in
      let rest = none_before xs y.0 t q y.2 (subst (λ z. FoldsTo (λ p x q. CalledAt g p x false q) z xs q) m.0 f.2) in
      (passed_by x.number j x.content.now y.0.row.now s.row.now y.1.0 y.1.1 m.1 ∙ rest.0, rest.1)

  pub sought : (s u : Fields) (r : Option StoredField) → FindsItem (λ s r t. Starts s.row.now r t.row.now) g s p r u → option_map (λ x. x.content.now) r ≡ files_in s.row.now j
  sought s u None ran = let before = none_before ran.0 s ran.2.0 ran.1 ran.2.1 ran.3 in sym (before.0 ∙ ran.2.2.0 j)
  sought s u (Some x) ran =
      let before = none_before ran.0 s ran.2.0 ran.1 ran.2.1 ran.3 in
      let hit = subst (λ z. CalledAt g z x true ran.4.0) (sym before.1) ran.4.1 in
      sym (before.0 ∙ found x.number j x.content.now u.row.now ran.2.0.row.now ran.2.2.0 ran.2.2.1 (hits x ran.4.0 hit))

-- a table in which each file of a row stands or is still to come, and which is free from a number on
pub record Gathered (row rest : List ℕ) (lowest : ℕ) (table : List (Option (Bor (List ℕ)))) : Type 0 where
  pub long : length table ≡ 18
  pub each : (j : ℕ) → option_or (files_at table j) (files_in rest j) ≡ files_in row j
  pub free : (j : ℕ) → lowest ≤ j → get_or table j None ≡ None

-- one field more
pub gather : (row rest next : List ℕ) (lowest k : ℕ) (table : List (Option (Bor (List ℕ)))) (content : Bor (List ℕ)) → Gathered row rest lowest table → LawfulField lowest k content.now
    → field k content.now next ≡ rest → Gathered row next (k + 1) (set table k (Some content))
gather row rest next lowest k table content g w e = record {
  long = length-set table k (Some content) ∙ g.long;
  each = λ j. ⊎_elim
      (λ (s : j ≡ k).
      ap (λ z. option_or (option_map (λ x. x.now) z) (files_in next j)) (get_or-set_at table k j (Some content) None s (omega (arith, g.long, w.card)))
      ∙ sym (found k j content.now next rest w.short e (sym s))
      ∙ ap (λ z. option_or (option_map (λ x. x.now) z) (files_in rest j)) (sym (g.free j (omega (arith, w.rises)))) ∙ g.each j)
      (λ (n : j ≡ k → ⊥).
      ap (λ z. option_or (option_map (λ x. x.now) z) (files_in next j)) (get_or-set_other table k j (Some content) None n)
      ∙ ap (option_or (files_at table j)) (sym (passed_by k j content.now next rest w.short e (λ s. n (sym s)))) ∙ g.each j)
      (cases_eq j k);
  free = λ j l. get_or-set_other table k j (Some content) None (λ s. omega arith) ∙ g.free j (omega (arith, w.rises));
}

-- all fields of an image
pub gathered : (bytes rest : List ℕ) (lowest : ℕ) (table : List (Option (Bor (List ℕ)))) → Gathered bytes rest lowest table → length rest ≤ 0 → ImageOf bytes (files_in bytes)
    → ImageOf bytes (files_at table)
gathered bytes rest lowest table g h image =
    let same : (j : ℕ) → files_at table j ≡ files_in bytes j = λ j. alone (files_at table j) ∙ ap (option_or (files_at table j)) (sym ((too_few rest [] (omega arith)).0 j)) ∙ g.each j in
    record {
      fields = image.fields;
      is_image = image.is_image;
      no_others = image.no_others;
      has_files = λ j. same j ∙ image.has_files j;
      same_bytes = λ other gs i e. image.same_bytes other gs i (λ j. e j ∙ same j);
    }
  where
    alone : (held : Option (List ℕ)) → held ≡ option_or held None
    alone None = refl
    alone (Some x) = refl
