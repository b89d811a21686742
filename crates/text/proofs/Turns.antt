-- The weights in turn: what three characters add to the weighted sum, and that it goes on behind a part.
use Rattle.std.proofs.Common.{◌≡◌, ℕ, suc, ◌+◌, ◌-◌, ◌*◌, ◌%◌, ◌≤◌, List, [], ◌∷◌, ◌++◌, length, get_or, take, drop, refl, ap, add-zero, zero-add, arith, length-drop}
use Rattle.std.proofs.lemmas.List.{take_all}
use Rattle.text.specs.Digits.{value_of, weights, weight_at, weighted}

-- the sum at places that have the same weights
same_turn : (xs : List ℕ) (j k : ℕ) → j % 3 ≡ k % 3 → weighted j xs ≡ weighted k xs
same_turn [] j k e = refl
same_turn (x ∷ xs) j k e =
    let w : weight_at j ≡ weight_at k = ap (λ r. get_or weights r 0) e in
    let ih = same_turn xs (suc j) (suc k) (omega arith) in
    cc

-- the first three characters apart
three : (k : ℕ) (xs : List ℕ) → 3 ≤ length xs → weighted k xs ≡
    weight_at k * value_of (get_or xs 0 0) + (weight_at (k + 1) * value_of (get_or xs 1 0) + (weight_at (k + 2) * value_of (get_or xs 2 0) + weighted k (drop 3 xs)))
three k [] h = absurd (omega arith)
three k (x ∷ []) h = absurd (omega arith)
three k (x ∷ (y ∷ [])) h = absurd (omega arith)
three k (x ∷ (y ∷ (z ∷ xs))) h =
    let s = same_turn xs (suc (suc (suc k))) k (omega arith) in
    let e : suc k ≡ k + 1 = omega arith in
    let f : suc (suc k) ≡ k + 2 = omega arith in
    cc

-- one step of the loop: the sum, or what is left of it by 10, takes up three characters
pub step : (k sum left total x y z : ℕ) (xs ws : List ℕ) → 3 ≤ length xs → ws ≡ weight_at k ∷ weight_at (k + 1) ∷ weight_at (k + 2) ∷ []
    → x ≡ get_or ws 0 0 * value_of (get_or xs 0 0) → y ≡ get_or ws 1 0 * value_of (get_or xs 1 0) → z ≡ get_or ws 2 0 * value_of (get_or xs 2 0)
    → left % 10 ≡ sum % 10 → (sum + weighted k xs) % 10 ≡ total % 10 → (left + x + y + z + weighted k (take (length xs - 3) (drop 3 xs))) % 10 ≡ total % 10
step k sum left total x y z xs ws h e p q r l i =
    let t = three k xs h in
    let a : take (length xs - 3) (drop 3 xs) ≡ drop 3 xs = grind (arith, take_all, length-drop) in
    let p2 = rw e at p in
    let q2 = rw e at q in
    let r2 = rw e at r in
    rw a (omega arith)

-- the sum goes on behind a part
pub behind : (xs ys : List ℕ) (k : ℕ) → weighted k (xs ++ ys) ≡ weighted k xs + weighted (k + length xs) ys
behind [] ys k = rw (add-zero, zero-add) refl
behind (x ∷ xs) ys k = let ih = behind xs ys (suc k) in let s = same_turn ys (suc k + length xs) (k + suc (length xs)) (omega arith) in omega arith

-- and behind two
pub behind_two : (xs ys zs : List ℕ) (a b c : ℕ) → a ≡ weighted 0 xs % 10 → b ≡ weighted (length xs) ys % 10 → c ≡ weighted (length xs % 3 + length ys % 3) zs % 10
    → (a + b + c) % 10 ≡ weighted 0 (xs ++ (ys ++ zs)) % 10
behind_two xs ys zs a b c e f g =
    let p = behind xs (ys ++ zs) 0 in
    let q = behind ys zs (0 + length xs) in
    let s = same_turn ys (0 + length xs) (length xs) (omega arith) in
    let t = same_turn zs (0 + length xs + length ys) (length xs % 3 + length ys % 3) (omega arith) in
    omega arith
