use Rattle.std.proofs.Common.{◌≡◌, ◌+◌, ◌≤◌, take, sum_by}
use Rattle.card.specs.Sheets.{passing, failing, unapplied, blocked}
use Rattle.sheet.proofs.tally.tally_of.Given as goal

-- the lines so far are counted, each once at most
abbrev pub invariant-loop-line : goal.invariant-loop-line
invariant-loop-line l =
    (l.tally.pass + l.tally.fail + l.tally.not_applicable + l.tally.blocked ≤ l.line-index)
    × (l.tally.pass ≡ sum_by passing (take l.line-index l.lines))
    × (l.tally.fail ≡ sum_by failing (take l.line-index l.lines))
    × (l.tally.not_applicable ≡ sum_by unapplied (take l.line-index l.lines))
    × (l.tally.blocked ≡ sum_by blocked (take l.line-index l.lines))
