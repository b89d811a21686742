use Rattle.std.proofs.Common.{arith}
use Rattle.sheet.proofs.Digits.{has_insert}
use Rattle.sheet.proofs.files.FileSet.insert.Goals as goal

pub returns : goal.returns
returns c f = has_insert c.args.self.now.bits c.args.file f (omega arith)
