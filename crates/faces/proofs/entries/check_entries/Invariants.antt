use Rattle.std.proofs.Common.{◌≡◌, length}
use Rattle.std.specs.Fn.{FnReturnsAt}
use Rattle.object.specs.Readers.{rest_of}
use Rattle.faces.proofs.Rows.{Walk}
use Rattle.faces.proofs.entries.check_entries.Given as goal

abbrev pub invariant-loop-value : goal.invariant-loop-value
invariant-loop-value g l =
    Walk 0x7F60 (FnReturnsAt g.F.Fn l.passes) l.initial.entries l.entries × (l.start ≡ l.entries.position)

abbrev pub decreases-loop-value : goal.decreases-loop-value
decreases-loop-value g l = length (rest_of l.entries)
