use Rattle.std.proofs.Common.{arith}
use Rattle.cases.proofs.verdict.write_free.Goals as goal

pub returns : goal.returns
returns c = record { lines = _; given = rw c.by_case.ensures c.judge_free-free.ensures; written = c.write.ensures.sets (omega arith) }
