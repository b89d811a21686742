use Rattle.std.proofs.Common.{arith}
use Rattle.cases.proofs.verdict.write_faces.Goals as goal

pub returns : goal.returns
returns c = record { lines = _; given = rw (c.by_case.ensures, c.by_case-2.ensures) c.judge_faces-faces.ensures; written = c.write.ensures.sets (omega arith) }
