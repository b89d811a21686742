-- Weighted sums: one character put for another.
use Rattle.std.proofs.Common.{◌≡◌, ℕ, zero, suc, ◌+◌, ◌-◌, ◌*◌, ◌/◌, ◌%◌, ◌<◌, ◌⊎◌, List, [], ◌∷◌, length, get_or, set, refl, ap, inl, inr, add-zero, zero-add, arith}
use Rattle.std.proofs.lemmas.Bool.Decides.{nat_tests}
use Rattle.text.specs.Characters.{Digit}
use Rattle.text.specs.Digits.{value_of, weights, weight_at, weighted, check_digit_of, ChangesShow}

-- each weight is 7, 3 or 1
weight_of : (r : ℕ) → r < 3 → (get_or weights r 0 ≡ 7) ⊎ ((get_or weights r 0 ≡ 3) ⊎ (get_or weights r 0 ≡ 1))
weight_of zero h = inl refl
weight_of (suc zero) h = inr (inl refl)
weight_of (suc (suc zero)) h = inr (inr refl)
weight_of (suc (suc (suc r))) h = absurd (omega arith)

weight_cases : (k : ℕ) → (weight_at k ≡ 7) ⊎ ((weight_at k ≡ 3) ⊎ (weight_at k ≡ 1))
weight_cases k = weight_of (k % 3) (omega arith)

-- what one character put for another does to the sum
weighted_set : (xs : List ℕ) (i k d : ℕ) → i < length xs →
    weighted k (set xs i d) + weight_at (k + i) * value_of (get_or xs i 0) ≡ weighted k xs + weight_at (k + i) * value_of d
weighted_set [] i k d h = absurd (omega arith)
weighted_set (x ∷ xs) zero k d h = rw add-zero (omega arith)
weighted_set (x ∷ xs) (suc i) k d h =
    let e : suc k + i ≡ k + suc i = omega arith in
    let w : weight_at (suc k + i) ≡ weight_at (k + suc i) = ap weight_at e in
    let ih : weighted (suc k) (set xs i d) + weight_at (k + suc i) * value_of (get_or xs i 0) ≡ weighted (suc k) xs + weight_at (k + suc i) * value_of d
    = rw w at (weighted_set xs i (suc k) d (omega arith)) in
    omega arith

digit_value : (b : ℕ) → Digit b → value_of b ≡ b - 48
digit_value b h = grind (arith, nat_tests)

same_rest : (u v n m : ℕ) → u < 10 → v < 10 → u + 10 * n ≡ v + 10 * m → u ≡ v
same_rest u v n m p q e = omega arith

-- 7, 3 and 1 can be divided out by 10: other digits give another remainder
differ : (w a b v u : ℕ) → ((w ≡ 7) ⊎ ((w ≡ 3) ⊎ (w ≡ 1))) → v < 10 → u < 10 → (u ≡ v → ⊥) → a + w * v ≡ b + w * u → a % 10 ≡ b % 10 → ⊥
differ w a b v u (inl e) p q n s t = let s7 : a + 7 * v ≡ b + 7 * u = rw e at s in n (same_rest u v (2 * u + 3 * (b / 10)) (2 * v + 3 * (a / 10)) q p (omega arith))
differ w a b v u (inr (inl e)) p q n s t = let s3 : a + 3 * v ≡ b + 3 * u = rw e at s in n (same_rest u v (2 * u + 7 * (b / 10)) (2 * v + 7 * (a / 10)) q p (omega arith))
differ w a b v u (inr (inr e)) p q n s t = let s1 : a + 1 * v ≡ b + 1 * u = rw e at s in omega arith

-- the law of changed digits
pub changed : (xs : List ℕ) → ChangesShow xs (check_digit_of xs)
changed xs i d h p q n e =
    let g = get_or xs i 0 in
    let s = weighted_set xs i 0 d h in
    let z : 0 + i ≡ i = zero-add i in
    let vg = digit_value g p in
    let vd = digit_value d q in
    differ (weight_at (0 + i)) (weighted 0 (set xs i d)) (weighted 0 xs) (value_of g) (value_of d) (weight_cases (0 + i))
    (omega arith) (omega arith) (λ same. n (omega arith)) s e
