use Rattle.std.proofs.Common.{◌≡◌, ℕ, List, ◌+◌, ◌/◌, ◌%◌, Some, refl, ap, sym, ◌∙◌, arith}
use Rattle.std.specs.List.{range_with_len, flat_map}
use Rattle.card.specs.Cases.{own_rows, lines_of_row}
use Rattle.sheet.proofs.Walking.{get_left, get_right, given_by}
use Rattle.sheet.proofs.Listing.{all_listed}
use Rattle.sheet.proofs.walk.line_at.Goals as goal

-- the lines of cases 1 to 3, and those of the rows
abbrev shared : List (ℕ × ℕ)
shared = flat_map (λ file. lines_of_row (record { file = file; first = 1; count = 3 })) (range_with_len 0 18)

abbrev own : List (ℕ × ℕ)
own = flat_map lines_of_row own_rows

pub returns-then-index-shared-clause-line : goal.returns-then-index-shared-clause-line
returns-then-index-shared-clause-line c = c.in_rows.ensures ∙ sym (get_right shared own c.args.index c.if-index-shared.true)

pub returns-clause-line : goal.returns-clause-line
returns-clause-line c = sym (get_left shared own c.args.index (omega arith) ∙ given_by (λ k. (k % 3 + 1, k / 3)) 0 shared refl c.args.index (omega arith) ∙ ap (λ n. Some (n % 3 + 1, n / 3)) (let z : 0 + c.args.index ≡ c.args.index = omega arith in z))

pub returns-then-index-shared-clause-lists : goal.returns-then-index-shared-clause-lists
returns-then-index-shared-clause-lists c = all_listed

pub returns-clause-lists : goal.returns-clause-lists
returns-clause-lists c = all_listed
