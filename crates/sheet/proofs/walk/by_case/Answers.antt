use Rattle.std.proofs.Common.{◌≡◌, ℕ, List, ◌+◌, ◌/◌, ◌%◌, map, Some, refl, ap, sym, ◌∙◌, arith}
use Rattle.std.specs.List.{range_with_len, flat_map}
use Rattle.card.specs.Cases.{own_rows, lines_of_row}
use Rattle.sheet.proofs.Walking.{get_left, get_right, given_by}
use Rattle.sheet.proofs.walk.by_case.Goals as goal

-- the lines of cases 1 to 3, and those of the rows
abbrev shared : List (ℕ × ℕ)
shared = flat_map (λ case. map (λ file. (case, file)) (range_with_len 0 18)) (range_with_len 1 3)

abbrev own : List (ℕ × ℕ)
own = flat_map lines_of_row own_rows

pub returns-then-passed-shared : goal.returns-then-passed-shared
returns-then-passed-shared c = c.in_rows.ensures ∙ sym (get_right shared own c.args.passed c.if-passed-shared.true)

pub returns : goal.returns
returns c = sym (get_left shared own c.args.passed (omega arith) ∙ given_by (λ k. (k / 18 + 1, k % 18)) 0 shared refl c.args.passed (omega arith) ∙ ap (λ n. Some (n / 18 + 1, n % 18)) (let z : 0 + c.args.passed ≡ c.args.passed = omega arith in z))
