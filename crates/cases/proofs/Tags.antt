-- Every template tag is a tag of one byte.
use Rattle.std.proofs.Common.{◌≡◌, ℕ, zero, suc, ◌%◌, ◌<◌, ◌≤◌, Bool, true, false, not, ◌&&◌, eqb, ltb, List, [], ◌∷◌, length, get_or, refl, arith, rules}
use Rattle.object.specs.Objects.{ShortTag}
use Rattle.card.specs.Cards.{template_tags, template_tag_of}

abbrev is_short : ℕ → Bool
is_short t = ltb 0 t && (ltb t 256 && not (eqb (t % 32) 31))

abbrev all_short : List ℕ → Bool
all_short [] = true
all_short (t ∷ ts) = is_short t && all_short ts

both : (a b : Bool) → (a && b) ≡ true → (a ≡ true) × (b ≡ true)
both true b e = (refl, e)
both false b e = let z : ◌≡◌ {A = ℕ} 0 1 = cc in absurd (omega arith)

short : (t : ℕ) → is_short t ≡ true → ShortTag t
short t e =
    let p = both (ltb 0 t) (ltb t 256 && not (eqb (t % 32) 31)) e in
    let q = both (ltb t 256) (not (eqb (t % 32) 31)) p.1 in
    let a : ltb 0 t ≡ true = p.0 in
    let b : ltb t 256 ≡ true = q.0 in
    let d : not (eqb (t % 32) 31) ≡ true = q.1 in
    record { positive = search rules; small = search rules; low = search rules }

each : (ts : List ℕ) (i : ℕ) → all_short ts ≡ true → i < length ts → is_short (get_or ts i 0) ≡ true
each [] i e l = absurd (omega arith)
each (t ∷ ts) zero e l = (both (is_short t) (all_short ts) e).0
each (t ∷ ts) (suc i) e l = each ts i (both (is_short t) (all_short ts) e).1 (omega arith)

pub tag_short : (file : ℕ) → file ≤ 17 → ShortTag (template_tag_of file)
tag_short file h = short (template_tag_of file) (each template_tags file refl (omega arith))
