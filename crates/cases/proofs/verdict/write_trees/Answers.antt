use Rattle.std.proofs.Common.{[], sym, subst}
use Rattle.std.specs.Option.{option_copied}
use Rattle.sheet.specs.Sheets.{line_on}
use Rattle.sheet.specs.Tables.{lines_of}
use Rattle.cases.specs.Verdicts.{Lines, AreLinesFor}
use Rattle.cases.proofs.verdict.write_trees.Goals as goal

pub returns : goal.returns
returns c =
    let file = c.args.file in
    let lines : Lines = lines_of file c.by_case.result [] (λ case. line_on c.args.sheet.now case file) in
    record {
      lines = lines;
      given = subst (λ p. AreLinesFor p c.args.profile file (option_copied c.args.content) lines) (sym c.requires.1) (rw c.by_case.ensures c.judge_trees-trees.ensures);
      written = c.write.ensures.sets c.requires.0;
    }
