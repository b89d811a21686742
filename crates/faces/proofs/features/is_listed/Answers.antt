use Rattle.std.proofs.Common.{rules, tests}
use Rattle.std.proofs.lemmas.Iterator.{cases_from_any, YieldsList-from_slice}
use Rattle.faces.specs.Rising.{feature_list, Allows}
use Rattle.faces.proofs.Risings.{listed_when}
use Rattle.faces.proofs.features.is_listed.Goals as goal

pub returns : goal.returns
returns c =
    listed_when feature_list c.args.tag c.args.length c.any.result
    (cases_from_any _ _ c.any.result (λ f. Allows f c.args.tag c.args.length) (λ f. Allows f c.args.tag c.args.length → ⊥) c.any.ensures.ran (YieldsList-from_slice feature_list cc) (λ x q k. search (rules, tests)) (λ x q k. search (rules, tests)))
