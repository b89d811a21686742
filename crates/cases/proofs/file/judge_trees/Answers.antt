use Rattle.std.specs.Option.{option_copied}
use Rattle.card.specs.Cards.{template_tag_of}
use Rattle.card.specs.Profiles.{required}
use Rattle.cases.specs.Files.{no_cases}
use Rattle.cases.proofs.Structures.{stopped, passed}
use Rattle.cases.proofs.file.judge_trees.Goals as goal

pub returns-in-Ok : goal.returns-in-Ok
returns-in-Ok c = passed (template_tag_of c.args.file) (required c.args.profile c.args.file) (option_copied c.args.content) c.in-Ok.field-0 no_cases c.in-Ok.ensures tt

pub returns-in-Err : goal.returns-in-Err
returns-in-Err c = stopped (template_tag_of c.args.file) (required c.args.profile c.args.file) (option_copied c.args.content) c.in-Err.stopped no_cases c.in-Err.ensures tt
