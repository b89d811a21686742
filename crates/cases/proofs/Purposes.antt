-- A file that is for something special is one file only.
use Rattle.std.proofs.Common.{◌≡◌, ℕ, zero, suc, ◌+◌, ◌<◌, ◌≤◌, Bool, true, false, ◌&&◌, not, ◌||◌, eqb, List, [], ◌∷◌, length, get_or, sym, ap, arith, rules, eq-eqb}
use Rattle.card.specs.Purposes.{purposes, purpose_of}
use Rattle.card.specs.declared.files.Purpose.{Purpose}
use Rattle.card.specs.declared.files.Purpose.TheVariants.{Common, Zone, Faces, Trees, Free, Security}
use Rattle.sheet.proofs.Counting.{both}

-- whether an element passes a test only where it stands at a number
abbrev only_at : (Purpose → Bool) → ℕ → ℕ → List Purpose → Bool
only_at test n k [] = true
only_at test n k (p ∷ ps) = (not (test p) || eqb k n) && only_at test n (k + 1) ps

there : (b c : Bool) → (not b || c) ≡ true → b ≡ true → c ≡ true
there true c e t = e
there false c e t = cc

found : (test : Purpose → Bool) (n k : ℕ) (ps : List Purpose) → only_at test n k ps ≡ true → (i : ℕ) → i < length ps → test (get_or ps i Trees) ≡ true → k + i ≡ n
found test n k [] e i l t = absurd (omega arith)
found test n k (p ∷ ps) e zero l t =
    let a = both (not (test p) || eqb k n) (only_at test n (k + 1) ps) e in
    let h = there (test p) (eqb k n) a.0 t in
    let z : k ≡ n = search rules in
    omega arith
found test n k (p ∷ ps) e (suc i) l t =
    let a = both (not (test p) || eqb k n) (only_at test n (k + 1) ps) e in
    omega (arith, found test n (k + 1) ps a.1 i (omega arith) t)

-- the purposes in a row
abbrev number_of : Purpose → ℕ
number_of Common = 0
number_of Zone = 1
number_of Faces = 2
number_of Trees = 3
number_of Free = 4
number_of Security = 5

-- the file that alone has a purpose
pub only_file : (purpose : Purpose) (home : ℕ) → only_at (λ p. eqb (number_of p) (number_of purpose)) home 0 purposes ≡ true → (file : ℕ) → file ≤ 17 → purpose ≡ purpose_of file → file ≡ home
only_file purpose home t file l e =
    let same : eqb (number_of (purpose_of file)) (number_of purpose) ≡ true = eq-eqb (number_of (purpose_of file)) (number_of purpose) (ap number_of (sym e)) in
    omega (arith, found (λ p. eqb (number_of p) (number_of purpose)) home 0 purposes t file (omega arith) same)
