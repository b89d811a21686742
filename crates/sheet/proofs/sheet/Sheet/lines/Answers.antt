use Rattle.sheet.proofs.Counting.{whole_table}
use Rattle.sheet.proofs.sheet.Sheet.lines.Goals as goal

pub returns : goal.returns
returns c = whole_table c.args.self.now.lines c.args.self.now.long
