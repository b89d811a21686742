use Rattle.std.proofs.Common.{◌≤◌, ◌∙◌, sym, ap, subst, get_or}
use Rattle.text.proofs.Values.{value_at, small_at}
use Rattle.text.specs.declared.digits.TheConstants.{VALUES}
use Rattle.text.proofs.digits.value.Goals as goal

pub returns-clause-value : goal.returns-clause-value
returns-clause-value c = ap (λ k. get_or VALUES k 0) c.from.ensures ∙ value_at c.args.character c.ranges.character.fits

pub returns-clause-small : goal.returns-clause-small
returns-clause-small c = subst (λ k. get_or VALUES k 0 ≤ 35) (sym c.from.ensures) (small_at c.args.character c.ranges.character.fits)
