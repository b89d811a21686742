use Rattle.std.proofs.lemmas.List.{get_or-replicate}
use Rattle.card.specs.declared.line.Line.TheVariants.{Open}
use Rattle.sheet.proofs.Places.{within}
use Rattle.sheet.proofs.sheet.Sheet.new.Goals as goal

pub returns : goal.returns
returns c = record {
  lines = λ case file h. get_or-replicate _ _ Open Open (within case file h);
  judged = c.empty.ensures;
}
