use Rattle.std.proofs.Common.{arith}
use Rattle.cases.proofs.verdict.write_zone.Goals as goal

pub returns : goal.returns
returns c = record { lines = _; given = rw (c.by_case.ensures, c.by_case-2.ensures) c.judge_zone-zone.ensures; written = c.write.ensures.sets (omega arith) }
