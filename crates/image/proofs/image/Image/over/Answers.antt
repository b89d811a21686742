use Rattle.std.proofs.Common.{arith}
use Rattle.image.proofs.Passing.{stands}
use Rattle.image.proofs.image.Image.over.Goals as goal

pub returns : goal.returns
returns c = rw c.unwrap_or.ensures (stands c.args.bytes.now c.check.result _ c.check.ensures (omega arith))
