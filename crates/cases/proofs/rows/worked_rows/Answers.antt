use Rattle.std.proofs.Common.{refl}
use Rattle.cases.proofs.Worked.{rows}
use Rattle.cases.proofs.rows.worked_rows.Goals as goal

pub returns : goal.returns
returns c = record { count = refl; rows = rows }
