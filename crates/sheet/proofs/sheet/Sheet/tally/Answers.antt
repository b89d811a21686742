use Rattle.std.proofs.Common.{◌∙◌}
use Rattle.card.specs.Sheets.{passing, failing, unapplied, blocked}
use Rattle.sheet.proofs.Counting.{sum_table}
use Rattle.sheet.proofs.sheet.Sheet.tally.Goals as goal

pub returns : goal.returns
returns c =
    let t = c.tally_of.ensures in
    let table = c.args.self.now.lines in
    let long = c.args.self.now.long in
    record {
      pass = t.pass ∙ sum_table passing table long;
      fail = t.fail ∙ sum_table failing table long;
      not_applicable = t.unapplied ∙ sum_table unapplied table long;
      blocked = t.blocked ∙ sum_table blocked table long;
    }
