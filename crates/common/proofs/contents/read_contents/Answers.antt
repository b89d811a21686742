use Rattle.common.proofs.Holding.{no_unicode, no_tags, found}
use Rattle.common.proofs.contents.read_contents.Goals as goal

pub returns-in_err-take-2 : goal.returns-in_err-take-2
returns-in_err-take-2 c = rw c.from_residual-in_err-take-2.ensures (no_unicode c.in_ok-take.ensures.begins c.in_err-take-2.ensures.lacks)

pub returns-in_err-only : goal.returns-in_err-only
returns-in_err-only c = rw c.from_residual-in_err-only.ensures (no_tags c.in_ok-take.ensures.begins c.in_ok-take-2.ensures.begins c.in_err-only.ensures)

pub returns : goal.returns
returns c = found c.in_ok-take.ensures c.in_ok-take-2.ensures c.in_ok-only.ensures
