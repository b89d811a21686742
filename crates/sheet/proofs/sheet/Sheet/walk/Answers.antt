use Rattle.std.proofs.Common.{map, drop, ap, ◌∙◌}
use Rattle.card.specs.Cases.{lines_by_case}
use Rattle.sheet.specs.Walks.{sheet_line, walked, still_to_give}
use Rattle.sheet.proofs.Listing.{walk_listed, walk_ascends}
use Rattle.sheet.proofs.sheet.Sheet.walk.Goals as goal

pub returns-clause-gives : goal.returns-clause-gives
unfolding walked still_to_give
returns-clause-gives c =
    ap (λ s. map (sheet_line s) (drop c.over.result.passed lines_by_case)) c.over.ensures.0 ∙ ap (λ n. map (sheet_line c.args.self.now) (drop n lines_by_case)) c.over.ensures.1

pub returns-clause-order : goal.returns-clause-order
returns-clause-order c = (walk_listed, walk_ascends)
