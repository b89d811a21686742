use Rattle.std.proofs.Common.{length, ◌↔◌}
use Rattle.object.specs.Readers.{rest_of}
use Rattle.faces.specs.Rising.{Has}
use Rattle.faces.proofs.features.has.Given as goal

abbrev pub invariant-loop-object : goal.invariant-loop-object
invariant-loop-object l = (Has (rest_of l.reader) l.tag l.value) ↔ (Has (rest_of l.initial.reader) l.tag l.value)

abbrev pub decreases-loop-object : goal.decreases-loop-object
decreases-loop-object l = length (rest_of l.reader)
