use Rattle.std.proofs.Common.{true, false, refl, rules}
use Rattle.std.specs.Fn.{FnReturnsAt}
use Rattle.faces.proofs.Rows.{walk_step, walk_stop, walk_done}
use Rattle.faces.proofs.entries.check_entries.Goals as goal

pub returns-then-not-passes : goal.returns-then-not-passes
returns-then-not-passes g c =
    let v = c.in-Some.value.bytes.now in
    let fails : FnReturnsAt g.F.Fn c.args.passes v false = search rules in
    rw c.loop-value.invariant.1 (walk_stop c.loop-value.invariant.0 {c = c.take.new.self} c.in-Some.ensures fails)

pub loop-value-preserved : goal.loop-value-preserved
loop-value-preserved g c =
    let passes : FnReturnsAt g.F.Fn c.args.passes c.in-Some.value.bytes.now true = search rules in
    (walk_step c.loop-value.invariant.0 c.in-Some.ensures passes, refl)

pub returns : goal.returns
returns g c = walk_done c.loop-value.invariant.0 c.in_default.ensures.lacks
