-- Facts about the numbers below one, and about bytes, by tests that compute.
use Rattle.std.proofs.Common.{◌≡◌, ℕ, zero, suc, ◌<◌, Bool, true, false, ◌&&◌, ◌||◌, eqb, leb, List, [], ◌∷◌, length, Some, None, Option, refl, ap, ◌∙◌, ⊎_elim, arith, leb-true}
use Rattle.std.proofs.lemmas.Bool.{cases_Bool, cases_eq, and_parts, eqb-true}
use Rattle.card.specs.Cards.{Short}

-- a test that holds of each number below n
abbrev pub below : ℕ → (ℕ → Bool) → Bool
below zero t = true
below (suc n) t = t n && below n t

pub below_true : (n : ℕ) (t : ℕ → Bool) → below n t ≡ true → (k : ℕ) → k < n → t k ≡ true
below_true zero t h k l = absurd (omega arith)
below_true (suc n) t h k l =
    let p = and_parts (t n) (below n t) h in
    ⊎_elim (λ e. ap t e ∙ p.0) (λ e. below_true n t p.1 k (omega arith)) (cases_eq k n)

-- a test that holds of some number below n
abbrev pub some : ℕ → (ℕ → Bool) → Bool
some zero t = false
some (suc n) t = t n || some n t

pub some_true : (n : ℕ) (t : ℕ → Bool) → some n t ≡ true → (k : ℕ) × (k < n) × (t k ≡ true)
some_true zero t h = absurd (cc)
some_true (suc n) t h = ⊎_elim
    (λ e. (n, omega arith, e))
    (λ e. let w = some_true n t (rw e at h) in (w.0, omega (arith, w.1), w.2))
    (cases_Bool (t n))

-- two files are the same
abbrev same_bytes : List ℕ → List ℕ → Bool
same_bytes [] [] = true
same_bytes [] (y ∷ ys) = false
same_bytes (x ∷ xs) [] = false
same_bytes (x ∷ xs) (y ∷ ys) = eqb x y && same_bytes xs ys

bytes_same : (xs ys : List ℕ) → same_bytes xs ys ≡ true → xs ≡ ys
bytes_same [] [] e = refl
bytes_same [] (y ∷ ys) e = cc
bytes_same (x ∷ xs) [] e = cc
bytes_same (x ∷ xs) (y ∷ ys) e =
    let p = and_parts (eqb x y) (same_bytes xs ys) e in
    let head = eqb-true x y p.0 in
    let tail = bytes_same xs ys p.1 in
    cc

abbrev pub same_file : Option (List ℕ) → Option (List ℕ) → Bool
same_file None None = true
same_file None (Some ys) = false
same_file (Some xs) None = false
same_file (Some xs) (Some ys) = same_bytes xs ys

pub file_same : (a b : Option (List ℕ)) → same_file a b ≡ true → a ≡ b
file_same None None e = refl
file_same None (Some ys) e = cc
file_same (Some xs) None e = cc
file_same (Some xs) (Some ys) e = ap Some (bytes_same xs ys e)

-- a file is not too long
abbrev pub is_short : Option (List ℕ) → Bool
is_short None = true
is_short (Some bytes) = leb (length bytes) 32767

pub short : (content : Option (List ℕ)) → is_short content ≡ true → Short content
short None e = tt
short (Some bytes) e = leb-true (length bytes) 32767 e
