-- The binary digits of the numbers that stand for sets.
use Rattle.std.proofs.Common.{◌≡◌, ℕ, zero, suc, ◌+◌, ◌-◌, ◌*◌, ◌/◌, ◌%◌, ◌^◌, ◌<◌, ◌≤◌, min, max, true, false, ◌||◌, eqb, ◌⊎◌, sym, refl, ap, ◌∙◌, subst, inl, inr, ⊎_elim, eq-or-lt_of_le, div-one, add-one, one-add, arith, pow_pos, pow_mono, pow-add, shr-shr, shr_lt, rules}
use Prim.Native.Nat.{differ}
use native.Mathlib.Nat.{div-eq_of_lt}
use lib.Bits.{bit_and, bit_or, bit_xor, and_step, or_step, xor_step, and_shr, or_shr, xor_shr, and_le_r}
use lib.Count.{count_trailing_zeros, under, trailing_le}
use lib.Pow.{pow-lt, shl-shr, ones_split, high, ones_lt}
use Rattle.std.proofs.lemmas.Nat.{mod-mul-add, mod_below, one_shl}
use Rattle.std.proofs.lemmas.Bool.{cases_order, cases_eq, cases_lt}
use Rattle.card.specs.Sets.{has}
use Rattle.sheet.specs.Sheets.{LowestMissing}
use Rattle.sheet.specs.declared.files.FileSet.{FileSet}

abbrev pub digit : ℕ → ℕ → ℕ
digit n f = n / 2 ^ f % 2

pub digit_two : (n f : ℕ) → digit n f < 2
digit_two n f = mod_below (n / 2 ^ f) 2 (omega arith)

two : (x : ℕ) → x < 2 → (x ≡ 0) ⊎ (x ≡ 1)
two x h = ⊎_elim (λ (e : x ≡ 0). inl e) (λ (ne : x ≡ 0 → ⊥). inr (omega arith)) (cases_eq x 0)

pub digit_and : (a b f : ℕ) → digit (bit_and a b) f ≡ min (digit a f) (digit b f)
digit_and a b f =
    let x = a / 2 ^ f in
    let y = b / 2 ^ f in
    let l : min (x % 2) (y % 2) < 2 = omega (arith, digit_two a f) in
    ap (λ z. z % 2) (and_shr a b f) ∙ ap (λ z. z % 2) (and_step x y) ∙ mod-mul-add (bit_and (x / 2) (y / 2)) 2 (min (x % 2) (y % 2)) l

pub digit_or : (a b f : ℕ) → digit (bit_or a b) f ≡ max (digit a f) (digit b f)
digit_or a b f =
    let x = a / 2 ^ f in
    let y = b / 2 ^ f in
    let l : max (x % 2) (y % 2) < 2 = omega (arith, digit_two a f, digit_two b f) in
    ap (λ z. z % 2) (or_shr a b f) ∙ ap (λ z. z % 2) (or_step x y) ∙ mod-mul-add (bit_or (x / 2) (y / 2)) 2 (max (x % 2) (y % 2)) l

differ_lt : (p q : ℕ) → p < 2 → q < 2 → differ p q < 2
differ_lt p q h k = ⊎_elim
    (λ (e : p ≡ 0). ⊎_elim (λ (d : q ≡ 0). rw (e, d) (omega arith)) (λ (d : q ≡ 1). rw (e, d) (omega arith)) (two q k))
    (λ (e : p ≡ 1). ⊎_elim (λ (d : q ≡ 0). rw (e, d) (omega arith)) (λ (d : q ≡ 1). rw (e, d) (omega arith)) (two q k))
    (two p h)

pub digit_xor : (a b f : ℕ) → digit (bit_xor a b) f ≡ differ (digit a f) (digit b f)
digit_xor a b f =
    let x = a / 2 ^ f in
    let y = b / 2 ^ f in
    ap (λ z. z % 2) (xor_shr a b f) ∙ ap (λ z. z % 2) (xor_step x y) ∙ mod-mul-add (bit_xor (x / 2) (y / 2)) 2 (differ (x % 2) (y % 2)) (differ_lt (x % 2) (y % 2) (digit_two a f) (digit_two b f))

-- 2 ^ k has one digit
pub digit_same : (k : ℕ) → digit (2 ^ k) k ≡ 1
digit_same k = ap (λ z. z % 2) (let e : 2 ^ k / 2 ^ k ≡ 1 = ap (λ z. z / 2 ^ k) (let d : 2 ^ k ≡ 1 * 2 ^ k = omega arith in d) ∙ shl-shr 1 k in e)

even : (j : ℕ) → 2 ^ (j + 1) % 2 ≡ 0
even j = ap (λ z. z % 2) (pow-add 2 j 1 ∙ (let d : 2 ^ j * 2 ^ 1 ≡ 2 ^ j * 2 + 0 = omega arith in d)) ∙ mod-mul-add (2 ^ j) 2 0 (omega arith)

pub digit_other : (k f : ℕ) → (f ≡ k → ⊥) → digit (2 ^ k) f ≡ 0
digit_other k f ne = ⊎_elim
    (λ (e : f ≡ k). absurd (ne e))
    (⊎_elim
    (λ (l : f < k).
    let e : k ≡ ((k - f - 1) + 1) + f = omega arith in
    ap (λ z. 2 ^ z / 2 ^ f % 2) e ∙ ap (λ z. z / 2 ^ f % 2) (pow-add 2 ((k - f - 1) + 1) f) ∙ ap (λ z. z % 2) (shl-shr (2 ^ ((k - f - 1) + 1)) f) ∙ even (k - f - 1))
    (λ (l : k < f). ap (λ z. z % 2) (div-eq_of_lt (pow-lt l))))
    (cases_order f k)

-- 2 ^ k - 1 has every digit below k
pub digit_ones : (k f : ℕ) → f < k → digit (2 ^ k - 1) f ≡ 1
digit_ones k f h =
    let e : k ≡ ((k - f - 1) + 1) + f = omega arith in
    ap (λ z. (2 ^ z - 1) / 2 ^ f % 2) e
    ∙ ap (λ z. z / 2 ^ f % 2) (ones_split ((k - f - 1) + 1) f)
    ∙ ap (λ z. z % 2) (high (2 ^ ((k - f - 1) + 1) - 1) f (ones_lt f))
    ∙ ap (λ z. z % 2) (ones_split (k - f - 1) 1)
    ∙ mod-mul-add (2 ^ (k - f - 1) - 1) 2 1 (omega arith)

-- what `insert` does
pub has_insert : (a k f : ℕ) → k < 32 → has (bit_or a ((1 * 2 ^ k) % 4294967296)) f ≡ (eqb f k || has a f)
has_insert a k f h =
    let p : (1 * 2 ^ k) % 4294967296 ≡ 2 ^ k = one_shl k 32 h in
    let d : digit (bit_or a ((1 * 2 ^ k) % 4294967296)) f ≡ max (digit a f) (digit (2 ^ k) f) = ap (λ z. digit (bit_or a z) f) p ∙ digit_or a (2 ^ k) f in
    let t = digit_two a f in
    ap (λ z. eqb z 1) d ∙ ⊎_elim
    (λ (e : f ≡ k).
    let b : eqb f k ≡ true = search rules in
    let o : max (digit a f) (digit (2 ^ k) f) ≡ 1 = omega (arith, subst (λ z. digit (2 ^ k) z ≡ 1) (sym e) (digit_same k)) in
    ap (λ z. eqb z 1) o ∙ sym (ap (λ z. z || has a f) b))
    (λ (ne : f ≡ k → ⊥).
    let b : eqb f k ≡ false = search rules in
    let o : max (digit a f) (digit (2 ^ k) f) ≡ digit a f = omega (arith, digit_other k f ne) in
    ap (λ z. eqb z 1) o ∙ sym (ap (λ z. z || has a f) b))
    (cases_eq f k)

-- the digits of what is missing
pub digit_missing : (a f : ℕ) → f < 18 → digit (bit_and (bit_xor a 262143) 262143) f ≡ 1 - digit a f
digit_missing a f h =
    let o : digit 262143 f ≡ 1 = digit_ones 18 f h in
    let x : differ (digit a f) 1 ≡ 1 - digit a f = ⊎_elim (λ (e : digit a f ≡ 0). ap (λ z. differ z 1) e ∙ sym (ap (λ z. 1 - z) e)) (λ (e : digit a f ≡ 1). ap (λ z. differ z 1) e ∙ sym (ap (λ z. 1 - z) e)) (two (digit a f) (digit_two a f)) in
    let m : digit (bit_xor a 262143) f ≡ 1 - digit a f = digit_xor a 262143 f ∙ ap (λ z. differ (digit a f) z) o ∙ x in
    digit_and (bit_xor a 262143) 262143 f ∙ omega (arith, o, m)

-- a digit at a place past the number is 0
pub digit_past : (n k f : ℕ) → n < 2 ^ k → k ≤ f → digit n f ≡ 0
digit_past n k f h l = ap (λ z. z % 2) (div-eq_of_lt (let p : 2 ^ k ≤ 2 ^ f = pow_mono l in omega arith))

-- `trailing_zeros`: the digits below it are 0, it has digit 1, and only 0 has none
half : (n f : ℕ) → digit (n / 2) f ≡ digit n (suc f)
half n f = ap (λ z. z % 2) (shr-shr n 1 f ∙ ap (λ z. n / 2 ^ z) (one-add f))

-- a digit and what is above it
below_first : (n t f : ℕ) → ((g : ℕ) → g < t → digit (n / 2) g ≡ 0) → (r : ℕ) → n % 2 ≡ r → f < under r t → digit n f ≡ 0
below_first n t zero ih zero e l = ap (λ z. z % 2) (div-one n) ∙ e
below_first n t (suc f) ih zero e l = sym (half n f) ∙ ih f (omega arith)
below_first n t f ih (suc r) e l = absurd (omega arith)

pub trailing_below : (k n f : ℕ) → f < count_trailing_zeros k n → digit n f ≡ 0
unfolding count_trailing_zeros
trailing_below zero n f h = absurd (omega arith)
trailing_below (suc k) n f h = below_first n (count_trailing_zeros k (n / 2)) f (λ g l. trailing_below k (n / 2) g l) (n % 2) refl h

at_first : (n t k : ℕ) → (t < k → digit (n / 2) t ≡ 1) → (r : ℕ) → n % 2 ≡ r → r < 2 → under r t < suc k → digit n (under r t) ≡ 1
at_first n t k ih zero e two' l = sym (half n t) ∙ ih (omega arith)
at_first n t k ih (suc r) e two' l = ap (λ z. z % 2) (div-one n) ∙ e ∙ (let o : suc r ≡ 1 = omega arith in o)

pub trailing_at : (k n : ℕ) → count_trailing_zeros k n < k → digit n (count_trailing_zeros k n) ≡ 1
unfolding count_trailing_zeros
trailing_at zero n h = absurd (omega arith)
trailing_at (suc k) n h = at_first n (count_trailing_zeros k (n / 2)) k (trailing_at k (n / 2)) (n % 2) refl (mod_below n 2 (omega arith)) h

none_first : (n t k : ℕ) → (t ≡ k → n / 2 ≡ 0) → (r : ℕ) → n % 2 ≡ r → under r t ≡ suc k → n ≡ 0
none_first n t k ih zero e l = let h : n / 2 ≡ 0 = ih (omega arith) in omega arith
none_first n t k ih (suc r) e l = absurd (omega arith)

pub trailing_none : (k n : ℕ) → n < 2 ^ k → count_trailing_zeros k n ≡ k → n ≡ 0
unfolding count_trailing_zeros
trailing_none zero n h e = omega arith
trailing_none (suc k) n h e = none_first n (count_trailing_zeros k (n / 2)) k (λ t. trailing_none k (n / 2) (shr_lt k 1 (subst (λ z. n < 2 ^ z) (sym (add-one k)) h)) t) (n % 2) refl e

-- the lowest of the missing
pub lowest : (set : FileSet) → (bit_and (bit_xor set.bits 262143) 262143 ≡ 0 → ⊥) → LowestMissing (has set.bits) (count_trailing_zeros 32 (bit_and (bit_xor set.bits 262143) 262143))
lowest set some =
    let a = set.bits in
    let n = bit_and (bit_xor a 262143) 262143 in
    let t = count_trailing_zeros 32 n in
    let small : n < 2 ^ 18 = let q : n ≤ 262143 = and_le_r (bit_xor a 262143) 262143 in omega arith in
    let less : t < 32 = ⊎_elim (λ (e : t ≡ 32). absurd (some (trailing_none 32 n (omega arith) e))) (λ (l : t < 32). l) (eq-or-lt_of_le (trailing_le 32 n)) in
    let one : digit n t ≡ 1 = trailing_at 32 n less in
    let low : t < 18 = ⊎_elim (λ (l : t < 18). l) (λ (g : 18 ≤ t). absurd (let z : digit n t ≡ 0 = digit_past n 18 t small g in omega arith)) (cases_lt t 18) in
    record {
      card = omega arith;
      missing = let d : digit a t ≡ 0 = omega (arith, digit_missing a t low, digit_two a t) in ap (λ z. eqb z 1) d;
      below = λ f l. let d : digit a f ≡ 1 = omega (arith, digit_missing a f (omega arith), trailing_below 32 n f l, digit_two a f) in ap (λ z. eqb z 1) d;
    }

pub all_there : (a : ℕ) → bit_and (bit_xor a 262143) 262143 ≡ 0 → (f : ℕ) → f < 18 → has a f ≡ true
all_there a e f h =
    let z : digit (bit_and (bit_xor a 262143) 262143) f ≡ 0 = ap (λ x. digit x f) e ∙ ap (λ x. x % 2) (div-eq_of_lt (pow_pos f)) in
    let d : digit a f ≡ 1 = omega (arith, digit_missing a f h, digit_two a f) in
    ap (λ x. eqb x 1) d
