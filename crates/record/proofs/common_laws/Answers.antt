use Rattle.record.proofs.Commons.{common_laws}
use Rattle.record.proofs.common_laws.Goals as goal

pub returns : goal.returns
returns c = common_laws
