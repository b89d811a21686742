use Rattle.common.specs.Tags.{Names}
use Rattle.common.proofs.tags.tag_set.Given as goal

abbrev pub invariant-loop-i : goal.invariant-loop-i
invariant-loop-i l = Names l.tags.bytes.now l.i l.set
