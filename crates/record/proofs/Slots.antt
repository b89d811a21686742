-- Slots that follow one another: cutting a zone into them and joining them are inverse.
use Rattle.std.proofs.Common.{◌≡◌, ℕ, zero, suc, ◌+◌, ◌-◌, ◌<◌, ◌≤◌, List, [], ◌∷◌, ◌++◌, length, get_or, take, drop, sym, refl, ap, ◌∙◌, subst, append_assoc, arith, length-append, length-drop, length-take-le, get_or-drop, drop-cons, get_or-take, drop-drop, take_at, take-add, drop_at}
use Rattle.std.specs.List.{flat_map}
use Rattle.text.specs.Characters.{ZoneCharacter}
use Rattle.zone.specs.Fields.{ZoneCharacters}
use Rattle.zone.specs.Layouts.{span, part, Within}
use Rattle.zone.specs.declared.layout.Span.{Span}
use Rattle.record.specs.ZoneWriting.{Slot}

-- something holds of each of these slots
abbrev pub All : (Slot → Type 0) → List Slot → Type 0
All P [] = Unit {0}
All P (s ∷ ss) = P s × All P ss

pub all_of : (P : Slot → Type 0) → ((s : Slot) → P s) → (ss : List Slot) → All P ss
all_of P h [] = tt
all_of P h (s ∷ ss) = (h s, all_of P h ss)

-- the slots follow one another from a to c
abbrev pub Chain : (Slot → Span) → ℕ → List Slot → ℕ → Type 0
Chain at a [] c = a ≡ c
Chain at a (s ∷ ss) c = ((at s).start ≡ a) × (a ≤ (at s).end) × Chain at (at s).end ss c

chain-le : (at : Slot → Span) (ss : List Slot) (a c : ℕ) → Chain at a ss c → a ≤ c
chain-le at [] a c h = omega arith
chain-le at (s ∷ ss) a c h = let k = chain-le at ss (at s).end c h.2 in omega (arith, h.1)

pub chain_within : (at : Slot → Span) (ss : List Slot) (a c : ℕ) → Chain at a ss c → All (λ s. Within c (at s)) ss
chain_within at [] a c h = tt
chain_within at (s ∷ ss) a c h = ((omega (arith, h.0, h.1), chain-le at ss (at s).end c h.2), chain_within at ss (at s).end c h.2)

-- two parts that meet
seam : (zone : List ℕ) (a b c : ℕ) → a ≤ b → b ≤ c → part zone (span a b) ++ part zone (span b c) ≡ part zone (span a c)
seam zone a b c p q =
    let m : a + (b - a) ≡ b = omega arith in
    let n : b - a + (c - b) ≡ c - a = omega arith in
    let t = take-add (b - a) (c - b) (drop a zone) in
    let d : drop (b - a) (drop a zone) ≡ drop b zone = drop-drop (b - a) a zone ∙ ap (λ k. drop k zone) m in
    ap (λ xs. take (b - a) (drop a zone) ++ take (c - b) xs) (sym d) ∙ sym t ∙ ap (λ k. take k (drop a zone)) n

pub joined_same : (t u : Slot → List ℕ) (ss : List Slot) → All (λ s. t s ≡ u s) ss → flat_map t ss ≡ flat_map u ss
joined_same t u [] h = refl
joined_same t u (s ∷ ss) h = let a = h.0 in let b = joined_same t u ss h.1 in cc

pub joined_append : (t : Slot → List ℕ) (xs ys : List Slot) → flat_map t xs ++ flat_map t ys ≡ flat_map t (xs ++ ys)
joined_append t [] ys = refl
joined_append t (x ∷ xs) ys = append_assoc (t x) (flat_map t xs) (flat_map t ys) ∙ ap (λ r. t x ++ r) (joined_append t xs ys)

-- the parts of a zone, joined, are the part from the first to the last
pub joined_parts : (at : Slot → Span) (zone : List ℕ) (ss : List Slot) (a c : ℕ) → Chain at a ss c
    → flat_map (λ s. part zone (at s)) ss ≡ part zone (span a c)
joined_parts at zone [] a c h = let z : c - a ≡ 0 = omega arith in ap (λ n. take n (drop a zone)) (sym z)
joined_parts at zone (s ∷ ss) a c h =
    let ih = joined_parts at zone ss (at s).end c h.2 in
    let k = chain-le at ss (at s).end c h.2 in
    let e : part zone (at s) ≡ part zone (span a (at s).end) = ap (λ x. part zone (span x (at s).end)) h.0 in
    let j = seam zone a (at s).end c h.1 k in
    cc

-- texts of the right widths
module _ (at : Slot → Span) (t : Slot → List ℕ) (w : (s : Slot) → length (t s) ≡ (at s).end - (at s).start) where
  -- joined, they are the parts of what they write
  pub parts_joined : (zone before : List ℕ) (ss : List Slot) (a c : ℕ) → length before ≡ a → Chain at a ss c → zone ≡ before ++ flat_map t ss
      → All (λ s. part zone (at s) ≡ t s) ss
  parts_joined zone before [] a c l h z = tt
  parts_joined zone before (s ∷ ss) a c l h z =
      let e = h.0 in
      let k = h.1 in
      let ls : length (t s) ≡ (at s).end - (at s).start = w s in
      let d : drop (at s).start zone ≡ t s ++ flat_map t ss = ap (drop (at s).start) z ∙ drop_at before (t s ++ flat_map t ss) (at s).start (l ∙ sym e) in
      let here : part zone (at s) ≡ t s = ap (take ((at s).end - (at s).start)) d ∙ take_at (t s) (flat_map t ss) ((at s).end - (at s).start) ls in
      let next : length (before ++ t s) ≡ (at s).end = length-append before (t s) ∙ omega arith in
      (here, parts_joined zone (before ++ t s) ss (at s).end c next h.2 (z ∙ sym (append_assoc before (t s) (flat_map t ss))))

  pub joined_length : (ss : List Slot) (a c : ℕ) → Chain at a ss c → a + length (flat_map t ss) ≡ c
  joined_length [] a c h = omega arith
  joined_length (s ∷ ss) a c h =
      let ih = joined_length ss (at s).end c h.2 in
      let e = h.0 in
      let k = h.1 in
      omega (arith, length-append (t s) (flat_map t ss), w s)

-- characters of a zone, joined and cut
characters_append : (xs ys : List ℕ) → ZoneCharacters xs → ZoneCharacters ys → ZoneCharacters (xs ++ ys)
characters_append [] ys p q k h = q k h
characters_append (x ∷ xs) ys p q zero h = p zero (omega arith)
characters_append (x ∷ xs) ys p q (suc k) h = characters_append xs ys (λ j l. p (suc j) (omega arith)) q k (omega arith)

pub joined_characters : (t : Slot → List ℕ) → ((s : Slot) → ZoneCharacters (t s)) → (ss : List Slot) → ZoneCharacters (flat_map t ss)
joined_characters t h [] k l = absurd (omega arith)
joined_characters t h (s ∷ ss) k l = characters_append (t s) (flat_map t ss) (h s) (joined_characters t h ss) k l

module _ (zone : List ℕ) (s : Span) where
  part_get : (k : ℕ) → k < s.end - s.start → get_or (part zone s) k 0 ≡ get_or zone (s.start + k) 0
  part_get k h = get_or-take (s.end - s.start) (drop s.start zone) k 0 h ∙ get_or-drop s.start zone k 0

  pub part_first : s.start < s.end → get_or (part zone s) 0 0 ≡ get_or zone s.start 0
  part_first h = let z : s.start + 0 ≡ s.start = omega arith in part_get 0 (omega arith) ∙ ap (λ k. get_or zone k 0) z

  pub part_length : Within (length zone) s → length (part zone s) ≡ s.end - s.start
  part_length w = length-take-le (s.end - s.start) (drop s.start zone) (omega (arith, length-drop s.start zone, w.0, w.1))

  pub part_characters : Within (length zone) s → ZoneCharacters zone → ZoneCharacters (part zone s)
  part_characters w h k l =
      let n = part_length w in
      let i : k < s.end - s.start = omega arith in
      subst ZoneCharacter (sym (part_get k i)) (h (s.start + k) (omega (arith, w.0, w.1)))

-- a part of one character
pub one : (zone : List ℕ) (place : ℕ) → place < length zone → part zone (span place (place + 1)) ≡ get_or zone place 0 ∷ []
one zone place h =
    let n : place + 1 - place ≡ 1 = omega arith in
    ap (λ k. take k (drop place zone)) n ∙ ap (take 1) (drop-cons zone place 0 h)

pub one_is : (zone : List ℕ) (place c : ℕ) → part zone (span place (place + 1)) ≡ c ∷ [] → get_or zone place 0 ≡ c
one_is zone place c h = sym (part_first zone (span place (place + 1)) (omega arith)) ∙ ap (λ xs. get_or xs 0 0) h
