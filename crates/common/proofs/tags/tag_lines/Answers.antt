use Rattle.std.proofs.Common.{refl, arith}
use Rattle.common.proofs.Members.{tag_lines_when}
use Rattle.common.proofs.tags.tag_lines.Goals as goal

pub returns-in-Ok : goal.returns-in-Ok
returns-in-Ok c = rw (c.judged.ensures, c.declared.ensures) (tag_lines_when _ _ _ _ c.in-Ok.ensures (omega arith) (omega arith))

pub returns-in-Err : goal.returns-in-Err
returns-in-Err c = let h = c.in-Err.ensures in rw c.from.ensures ((λ s. s h.0 h.1.within h.1.breaks), h, refl)
