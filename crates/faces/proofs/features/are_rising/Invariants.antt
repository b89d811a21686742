use Rattle.std.proofs.Common.{length, ◌↔◌}
use Rattle.object.specs.Readers.{rest_of}
use Rattle.faces.specs.Rising.{feature_list, RisingFeatures}
use Rattle.faces.proofs.features.are_rising.Given as goal

abbrev pub invariant-loop-object : goal.invariant-loop-object
invariant-loop-object l = (RisingFeatures feature_list l.last (rest_of l.reader)) ↔ (RisingFeatures feature_list 0 (rest_of l.initial.reader))

abbrev pub decreases-loop-object : goal.decreases-loop-object
decreases-loop-object l = length (rest_of l.reader)
