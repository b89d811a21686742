use Rattle.std.proofs.Common.{ap, ◌∙◌, eqb, ◌||◌}
use Rattle.card.specs.Sets.{has}
use Rattle.sheet.proofs.Writing.{all_lines_set}
use Rattle.sheet.proofs.sheet.Sheet.write.Goals as goal

pub returns-clause-sets : goal.returns-clause-sets
returns-clause-sets c = λ card.
    record {
      each = all_lines_set c.args.file card c.args.shared.now c.args.own.now c.args.self.now.lines c.put.new.self.lines c.put_own.new.self.lines c.told-shared
          (rw c.from.ensures at c.put.ensures.lines) c.put_own.ensures.lines;
      judged = λ f. c.insert.ensures f ∙ ap (λ z. eqb f c.args.file || has z.bits f) (c.put_own.ensures.judged ∙ c.put.ensures.judged);
    }
