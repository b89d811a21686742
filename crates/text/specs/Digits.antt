-- Check digits: values of characters, weights, and the remainder of the weighted sum by 10.
use Rattle.std.specs.Prelude.{ℕ, suc, ◌+◌, ◌-◌, ◌*◌, ◌%◌, ◌<◌, ◌&&◌, if◌then◌else◌, List, [], ◌∷◌, length, ◌≢◌, nat_le, slice_index, slice_set}
use Rattle.text.specs.Characters.{Digit}

-- a digit has its own value, the letters A to Z have 10 to 35, the filler has 0
abbrev pub value_of : ℕ → ℕ
value_of c =
    if nat_le 48 c && nat_le c 57 then c - 48
    else (if nat_le 65 c && nat_le c 90 then c - 55 else 0)

-- the weights are 7, 3 and 1 in turn
abbrev pub weights : List ℕ
weights = 7 ∷ 3 ∷ 1 ∷ []

abbrev pub weight_at : ℕ → ℕ
weight_at k = slice_index weights (k % 3)

-- the weighted sum of characters of which the first stands at k
abbrev pub weighted : ℕ → List ℕ → ℕ
weighted k [] = 0
weighted k (c ∷ cs) = weight_at k * value_of c + weighted (suc k) cs

-- the check digit, as a number from 0 to 9
abbrev pub check_digit_of : List ℕ → ℕ
check_digit_of characters = weighted 0 characters % 10

-- Any one digit of the characters put for another gives another check digit than this.
abbrev pub ChangesShow : List ℕ → ℕ → Type 0
ChangesShow characters digit = (i d : ℕ) → i < length characters
    → Digit (slice_index characters i) → Digit d → (d ≢ slice_index characters i)
    → check_digit_of (slice_set characters i d) ≢ digit
