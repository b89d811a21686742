use Rattle.std.proofs.Common.{rules, subst}
use Rattle.std.specs.Option.{option_copied}
use Rattle.card.specs.Cards.{template_tag_of}
use Rattle.card.specs.Profiles.{required}
use Rattle.object.specs.Readers.{rest_of}
use Rattle.cases.specs.Files.{common_cases}
use Rattle.cases.specs.Structures.{Later}
use Rattle.cases.proofs.Structures.{said}
use Rattle.cases.proofs.file.judge_common.Goals as goal

pub returns : goal.returns
returns c =
    let own = c.judge_file.result.own in
    let later : Later = common_cases c.args.profile own in
    said (template_tag_of 0) c.judge_file.result.structure _ later
    (λ place value w. subst (later.judged place) w.2 (subst (λ p. later.judged p (rest_of w.0)) w.1 (search rules))) (λ line e. search rules)
    (required c.args.profile 0) (option_copied c.args.content) c.judge_file.ensures
