use Rattle.std.proofs.Common.{arith}
use Rattle.sheet.proofs.Digits.{lowest, all_there}
use Rattle.sheet.proofs.files.FileSet.lowest_missing.Goals as goal

pub returns-then-missing-eq0 : goal.returns-then-missing-eq0
returns-then-missing-eq0 c file h = all_there c.args.self.bits c.if-missing-eq0.true file (omega arith)

pub returns : goal.returns
returns c = lowest c.args.self c.if-missing-eq0.false
