use Rattle.std.proofs.Common.{refl}
use Rattle.std.specs.Option.{option_copied}
use Rattle.card.specs.Cards.{template_tag_of}
use Rattle.card.specs.Profiles.{required}
use Rattle.cases.proofs.Structures.{stopped, passed}
use Rattle.cases.proofs.file.judge_file.Goals as goal

pub returns-in-Ok : goal.returns-in-Ok
returns-in-Ok g c =
    passed (template_tag_of c.args.file) (required c.args.profile c.args.file) (option_copied c.args.content) c.in-Ok.reader _ c.in-Ok.ensures (c.in-Ok.reader, refl, refl, c.own.ensures)

pub returns-in-Err : goal.returns-in-Err
returns-in-Err g c =
    stopped (template_tag_of c.args.file) (required c.args.profile c.args.file) (option_copied c.args.content) c.in-Err.stopped _ c.in-Err.ensures c.unjudged.ensures
