use Rattle.std.proofs.Common.{arith}
use Rattle.text.proofs.Turns.{step}
use Rattle.text.proofs.digits.remainder.Goals as goal

pub loop-rest-preserved : goal.loop-rest-preserved
loop-rest-preserved c = (
  omega arith,
  step c.args.before c.loop-rest.sum c.kept_small.result _ _ _ _ c.loop-rest.rest.now c.weights_after.result (omega arith) c.weights_after.ensures.turn
      c.weigh.ensures.product c.weigh-in-len3-up.ensures.product c.weigh-in-len3-up-2.ensures.product c.kept_small.ensures.same c.loop-rest.invariant.1,
)
