use Rattle.std.proofs.Common.{arith}
use Rattle.zone.proofs.Holding.{found_zone}
use Rattle.zone.proofs.contents.read_zone.Goals as goal

pub returns : goal.returns
returns c = found_zone c.in_ok-zone.ensures (omega arith)
