use Rattle.std.proofs.Common.{◌≤◌, drop, length}
use Rattle.card.specs.Cases.{own_rows}
use Rattle.sheet.proofs.Places.{Seeking}
use Rattle.sheet.proofs.sheet.index.Given as goal

-- none of the rows so far has the case
abbrev pub invariant-loop-row : goal.invariant-loop-row
invariant-loop-row l = record {
  few : l.row-index ≤ length own_rows;
  seeking : Seeking l.case l.file (drop l.row-index own_rows) l.at;
}
