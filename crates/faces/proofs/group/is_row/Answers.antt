use Rattle.std.proofs.Common.{arith}
use Rattle.std.proofs.lemmas.Bool.{false≢true}
use Rattle.object.specs.Readers.{rest_of}
use Rattle.faces.proofs.Rows.{row_on, row_not}
use Rattle.faces.proofs.Groupings.{taken, missed}
use Rattle.faces.proofs.group.is_row.Goals as goal

pub returns-then-is_none : goal.returns-then-is_none
returns-then-is_none c =
    let m = missed _ c.take.result c.if-is_none.ensures c.take.ensures in
    (λ w. absurd (false≢true w), λ w. absurd (row_not _ _ c.loop.counter (omega arith) m.lacks (c.loop.invariant.1 w)))

pub loop-preserved : goal.loop-preserved
loop-preserved c =
    let t = taken _ c.take.result c.if-is_none.ensures c.take.ensures in
    row_on _ _ c.loop.counter {r = rest_of c.take.new.self} (omega arith) t.1.begins c.loop.invariant
