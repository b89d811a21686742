use Rattle.std.proofs.Common.{arith}
use Rattle.cases.proofs.verdict.write_security.Goals as goal

pub returns : goal.returns
returns c = record { lines = _; given = rw c.by_case.ensures c.judge_security-security.ensures; written = c.write.ensures.sets (omega arith) }
