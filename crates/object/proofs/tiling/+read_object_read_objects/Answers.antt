use Rattle.std.proofs.Common.{refl, inl, inr, arith}
use Rattle.object.specs.Trees.{none}
use Rattle.object.proofs.Trees.{first_here}
use Rattle.object.proofs.Steps.{step_plain, nested, inner, to_read, all_read}
use Rattle.object.proofs.tiling.+read_object_read_objects.Goals as goal

pub read_object-returns-then-levels-eq0 : goal.read_object-returns-then-levels-eq0
read_object-returns-then-levels-eq0 t c = first_here _ _ _ (to_read c.args.reader.now c.requires) (inl c.if-levels-eq0.true)

pub read_object-returns-in_default : goal.read_object-returns-in_default
read_object-returns-in_default t c = first_here _ _ _ (to_read c.args.reader.now c.requires) (inr c.in_default.ensures.unread)

pub read_object-returns-in-Plain : goal.read_object-returns-in-Plain
read_object-returns-in-Plain t c = step_plain _ (rw c.in-Plain.is at c.in-Some.ensures) refl (omega arith)

pub read_object-returns-in-Nested : goal.read_object-returns-in-Nested
read_object-returns-in-Nested t c =
    let k = rw c.in-Nested.is at c.in-Some.ensures in
    let e = inner _ k c.split_at.ensures.front in
    nested c.args.levels c.read_objects.result k refl (omega arith) (rw e at c.read_objects.ensures)

pub read_objects-returns : goal.read_objects-returns
read_objects-returns t c =
    rw (c.at-reader.ensures.position, c.at-reader.ensures.bytes) at
    (c.loop-reader.invariant.tiled (none, tt, all_read c.loop-reader.reader c.loop-reader-test.false))
