use Rattle.std.proofs.Common.{◌≡◌, ◌≤◌, drop, length}
use Rattle.std.specs.List.{slice_get, flat_map}
use Rattle.card.specs.Cases.{own_rows, lines_of_row}
use Rattle.sheet.proofs.walk.in_rows.Given as goal

-- the line is that one of the rows left
abbrev pub invariant-loop-row : goal.invariant-loop-row
invariant-loop-row l = record {
  few : l.row-index ≤ length own_rows;
  same : slice_get (flat_map lines_of_row own_rows) l.passed ≡ slice_get (flat_map lines_of_row (drop l.row-index own_rows)) l.left;
}
