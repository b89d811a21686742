use Rattle.std.proofs.Common.{sym, ◌∙◌}
use Rattle.zone.proofs.Saying.{under_kind}
use Rattle.zone.proofs.lines.zone_lines.Goals as goal

pub returns-in-Td1 : goal.returns-in-Td1
returns-in-Td1 c = under_kind c.args.profile _ _ _ _ (sym c.in-Td1.is ∙ c.zone_kind.ensures) c.judge.ensures.lines

pub returns-in-Td2 : goal.returns-in-Td2
returns-in-Td2 c = under_kind c.args.profile _ _ _ _ (sym c.in-Td2.is ∙ c.zone_kind.ensures) c.judge-in-Td2.ensures.lines

pub returns-in-Td3 : goal.returns-in-Td3
returns-in-Td3 c = under_kind c.args.profile _ _ _ _ (sym c.in-Td3.is ∙ c.zone_kind.ensures) c.judge-in-Td3.ensures.lines
