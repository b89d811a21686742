use Rattle.std.proofs.Common.{◌≡◌, ◌+◌, ◌%◌, ◌≤◌, length}
use Rattle.text.specs.Digits.{weighted}
use Rattle.text.specs.declared.digits.TheConstants.{LARGE}
use Rattle.text.proofs.digits.remainder.Given as goal

abbrev pub invariant-loop-rest : goal.invariant-loop-rest
invariant-loop-rest l =
    (l.sum ≤ LARGE + 735) × ((l.sum + weighted l.fn.before l.rest) % 10 ≡ weighted l.fn.before l.fn.characters % 10)

abbrev pub decreases-loop-rest : goal.decreases-loop-rest
decreases-loop-rest l = length l.rest
