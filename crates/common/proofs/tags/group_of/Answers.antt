use Rattle.std.proofs.Common.{◌≡◌, ◌≢◌, rules, tests}
use Rattle.std.proofs.lemmas.Iterator.{IsFirst-from_position, YieldsList-from_slice}
use Rattle.common.proofs.Members.{groups, group_at}
use Rattle.common.proofs.tags.group_of.Goals as goal

pub returns : goal.returns
returns c =
    group_at c.args.tag c.position.result
    (IsFirst-from_position _ _ c.position.result (λ t. t ≡ c.args.tag) (λ t. t ≢ c.args.tag) c.position.ensures.ran (YieldsList-from_slice groups cc) (λ x q k. search (rules, tests)) (λ x q k. search (rules, tests)))
