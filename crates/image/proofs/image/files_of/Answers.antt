use Rattle.std.proofs.Common.{◌≤◌, length, arith}
use Rattle.image.specs.Images.{LawfulField}
use Rattle.image.proofs.Passing.{pass, long, out_of_order, unread, all_passed, gather, gathered}
use Rattle.image.proofs.image.files_of.Goals as goal
use Rattle.image.proofs.image.files_of.Goals.{then-field-lowest-via-then-field-lowest, then-field-lowest-via-else-field-lowest+then-field-gt-EF_SOD}

pub returns-then-field-lowest : goal.returns-then-field-lowest
returns-then-field-lowest c =
    let f = c.in-Some.field in
    rw c.loop-field.invariant.place (out_of_order c.args.bytes.now c.loop-field.field-iterator.row.now c.next.new.self.row.now c.loop-field.lowest f.number f.content.now c.loop-field.invariant.passed c.in-Some.ensures.steps.1
    (λ h k. elim c.then-field-lowest.branch [
      | then-field-lowest-via-then-field-lowest w ↦ omega (arith, w.if-field-lowest.true)
      | then-field-lowest-via-else-field-lowest+then-field-gt-EF_SOD w ↦ omega (arith, w.if-field-gt-EF_SOD.true)
    ]))

pub loop-field-preserved : goal.loop-field-preserved
loop-field-preserved c =
    let f = c.in-Some.field in
    let v = c.loop-field.invariant in
    let h = c.in-Some.ensures.steps in
    let w : LawfulField c.loop-field.lowest f.number f.content.now = record { rises = c.if-field-lowest.false; card = c.if-field-gt-EF_SOD.false; short = h.0 } in
    record {
      can_next = tt;
      ends = tt;
      passed = pass c.args.bytes.now c.loop-field.field-iterator.row.now c.next.new.self.row.now c.loop-field.lowest f.number f.content.now v.passed w h.1;
      gathered = rw c.from.ensures (gather c.args.bytes.now c.loop-field.field-iterator.row.now c.next.new.self.row.now c.loop-field.lowest f.number c.loop-field.by_number f.content v.gathered w h.1);
      place = omega (arith, long f.number f.content.now c.next.new.self.row.now c.loop-field.field-iterator.row.now h.1, v.passed.within);
    }

pub returns-then-position-bytes : goal.returns-then-position-bytes
returns-then-position-bytes c =
    let v = c.loop-field.invariant in
    rw v.place (unread c.args.bytes.now c.loop-field.field-iterator.row.now c.next.new.self.row.now c.loop-field.lowest v.passed c.in-None.ensures.steps (omega arith))

pub returns : goal.returns
returns c =
    let v = c.loop-field.invariant in
    let h : length c.loop-field.field-iterator.row.now ≤ 0 = omega (arith, v.passed.within) in
    gathered c.args.bytes.now c.loop-field.field-iterator.row.now c.loop-field.lowest c.loop-field.by_number v.gathered h
    (all_passed c.args.bytes.now c.loop-field.field-iterator.row.now c.loop-field.lowest v.passed h)
