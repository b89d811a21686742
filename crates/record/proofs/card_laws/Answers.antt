use Rattle.record.proofs.All.{laws}
use Rattle.record.proofs.card_laws.Goals as goal

pub returns : goal.returns
returns c = laws
