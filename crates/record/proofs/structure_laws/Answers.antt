use Rattle.record.proofs.Structures.{structure_laws}
use Rattle.record.proofs.structure_laws.Goals as goal

pub returns : goal.returns
returns c = structure_laws
