use Rattle.std.proofs.Common.{◌∙◌}
use Rattle.text.proofs.Weights.{changed}
use Rattle.text.proofs.digits.check_digit.Goals as goal

pub returns-clause-changes : goal.returns-clause-changes
returns-clause-changes c = λ i d h p q n e. changed c.args.characters.now i d h p q n (e ∙ c.remainder.ensures)
