-- The table of values has each character's value at its code.
use Rattle.std.proofs.Common.{◌≡◌, ℕ, ◌<◌, ◌≤◌, map, get_or, refl, ap, ◌∙◌, arith}
use Rattle.std.proofs.lemmas.Bool.Decides.{nat_tests}
use Rattle.std.proofs.lemmas.List.FromFn.{get_or-map-range_with_len}
use Rattle.std.specs.List.{range_with_len}
use Rattle.text.specs.Digits.{value_of}
use Rattle.text.specs.declared.digits.TheConstants.{VALUES}

table : VALUES ≡ map value_of (range_with_len 0 256)
table = refl

pub value_at : (c : ℕ) → c < 256 → get_or VALUES c 0 ≡ value_of c
value_at c h = ap (λ xs. get_or xs c 0) table ∙ get_or-map-range_with_len value_of 0 256 c c 0 h (omega arith)

pub small_at : (c : ℕ) → c < 256 → get_or VALUES c 0 ≤ 35
small_at c h = rw (value_at c h) (grind (arith, nat_tests))
