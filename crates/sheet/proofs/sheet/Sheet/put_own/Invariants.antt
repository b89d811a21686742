use Rattle.std.proofs.Common.{◌≡◌, ◌≤◌, drop, length}
use Rattle.card.specs.Cases.{own_rows}
use Rattle.sheet.proofs.Writing.{SoFar}
use Rattle.sheet.proofs.sheet.Sheet.put_own.Given as goal

-- the lines of the rows so far are put
abbrev pub invariant-loop-row : goal.invariant-loop-row
invariant-loop-row l = record {
  few : l.row-index ≤ length own_rows;
  so_far : SoFar l.file l.own l.initial.self.lines (drop l.row-index own_rows) l.at l.rest l.self.lines;
  judged : l.self.judged ≡ l.initial.self.judged;
}
