use Rattle.text.proofs.Turns.{behind_two}
use Rattle.text.proofs.digits.composite_digit.Goals as goal

pub returns : goal.returns
returns c = behind_two c.args.first.now c.args.second.now c.args.third.now _ _ _ c.remainder.ensures c.remainder-2.ensures c.remainder-3.ensures
