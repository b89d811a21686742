-- Sets as numbers: what holds of their bits.
use Rattle.std.proofs.Common.{◌≡◌, ℕ, ◌*◌, ◌%◌, ◌^◌, ◌<◌, true, ◌⊎◌, sym, ap, ◌∙◌, inl, inr, ⊎_elim, zero-mul, w16, arith}
use lib.Bits.{bit_and, bit_or}
use Rattle.std.specs.Int.{bit_at}
use Rattle.std.proofs.lemmas.Nat.{one_shl, pow_pos}
use Rattle.std.proofs.lemmas.Nat.Bits.{bit_at-lt, bit_at_or, bit_at_set_same, bit_at_set_other, and_pow, same_from_bits_below}
use Rattle.std.proofs.lemmas.Bool.{cases_eq, eqb-true, eq-eqb}
use Rattle.card.specs.Sets.{has}

-- a member is a bit that is 1
has_bit : (n k : ℕ) → has n k ≡ true → bit_at n k ≡ 1
has_bit n k h = eqb-true _ _ h

bit_has : (n k : ℕ) → bit_at n k ≡ 1 → has n k ≡ true
bit_has n k e = eq-eqb _ _ e

-- the set with one member, as the code makes it
abbrev pub only : ℕ → ℕ
only f = (1 * 2 ^ f) % 65536

-- its bit, where it stands in a set
common_bit : (s f : ℕ) → f < 16 → bit_and s (only f) ≡ bit_at s f * 2 ^ f
common_bit s f l = ap (bit_and s) (one_shl f 16 l) ∙ and_pow s f

pub absent : (s f : ℕ) → f < 16 → bit_and s (only f) ≡ 0 → has s f ≡ true → ⊥
absent s f l e h = let q : 1 * 2 ^ f ≡ 0 = rw (has_bit s f h) at (sym (common_bit s f l) ∙ e) in omega (arith, pow_pos f)

pub present : (s f : ℕ) → f < 16 → (bit_and s (only f) ≡ 0 → ⊥) → has s f ≡ true
present s f l n =
    ⊎_elim (λ z. absurd (n (common_bit s f l ∙ ap (λ b. b * 2 ^ f) z ∙ zero-mul (2 ^ f)))) (λ m. bit_has s f (omega (arith, bit_at-lt s f))) (cases_eq (bit_at s f) 0)

-- a set with one member more
module _ (s f : ℕ) (low : f < 16) where
  pub stays : (k : ℕ) → has s k ≡ true → has (bit_or s (only f)) k ≡ true
  stays k h = bit_has _ k (omega (arith, bit_at_or s (only f) k, has_bit s k h, bit_at-lt (only f) k))

  pub added : has (bit_or s (only f)) f ≡ true
  added = bit_has _ f (bit_at_set_same w16 s f low)

  pub either : (k : ℕ) → has (bit_or s (only f)) k ≡ true → (k ≡ f) ⊎ (has s k ≡ true)
  either k h = ⊎_elim inl (λ n. inr (bit_has s k (sym (bit_at_set_other w16 s f low k n) ∙ has_bit _ k h))) (cases_eq k f)

-- sets with the same members are equal
pub same_members : (d e : ℕ) → d < 65536 → e < 65536 → ((f : ℕ) → f < 16 → (has d f ≡ true → has e f ≡ true) × (has e f ≡ true → has d f ≡ true)) → d ≡ e
same_members d e a b m =
    same_from_bits_below 16 d e a b (λ f l.
    let up : bit_at d f ≡ 1 → bit_at e f ≡ 1 = λ h. has_bit e f ((m f l).0 (bit_has d f h)) in
    let down : bit_at e f ≡ 1 → bit_at d f ≡ 1 = λ h. has_bit d f ((m f l).1 (bit_has e f h)) in
    ⊎_elim (λ h. h ∙ sym (up h)) (λ n. ⊎_elim (λ g. down g ∙ sym g) (λ o. omega (arith, bit_at-lt d f, bit_at-lt e f)) (cases_eq (bit_at e f) 1)) (cases_eq (bit_at d f) 1))
