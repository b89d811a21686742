use Rattle.std.proofs.Common.{◌≡◌, length, refl, subst, arith}
use Rattle.common.specs.Tags.{Names}
use Rattle.common.proofs.Members.{twice, one_more}
use Rattle.common.proofs.tags.tag_set.Goals as goal

pub returns-then-set-member-ne0 : goal.returns-then-set-member-ne0
returns-then-set-member-ne0 c =
    let e = c.in-Some.ensures in
    (c.loop-i.i, twice c.args.tags.bytes.now c.loop-i.i c.loop-i.set c.in-Some.group e.0 e.1 c.loop-i.invariant c.loop-i-test.true c.if-set-member-ne0.true, refl)

pub loop-i-preserved : goal.loop-i-preserved
loop-i-preserved c =
    let e = c.in-Some.ensures in
    one_more c.args.tags.bytes.now c.loop-i.i c.loop-i.set c.in-Some.group e.0 e.1 c.loop-i.invariant c.if-set-member-ne0.false

pub returns : goal.returns
returns c =
    let e : c.loop-i.i ≡ length c.args.tags.bytes.now = omega arith in
    subst (λ n. Names c.args.tags.bytes.now n c.loop-i.set) e c.loop-i.invariant
