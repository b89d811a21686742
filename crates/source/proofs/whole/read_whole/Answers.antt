use Rattle.std.proofs.Common.{◌≡◌, ap, arith, rules}
use Rattle.source.specs.Outcomes.{all_there, none_left, not_there, refused, brought}
use Rattle.source.proofs.ReadingOn.{tells, more}
use Rattle.source.proofs.whole.read_whole.Goals as goal

pub returns-in-Ok-None-clause-outcome : goal.returns-in-Ok-None-clause-outcome
returns-in-Ok-None-clause-outcome g c = λ _.
    c.loop-have.invariant.outcome _ _ (not_there c.loop-have-test.true (tells g.S.Source.outcomes (cc) (c.in-Ok-None.ensures.outcomes (search rules)) (cc)))

pub returns-in-Ok-Some-clause-outcome : goal.returns-in-Ok-Some-clause-outcome
returns-in-Ok-Some-clause-outcome g c = λ _.
    let none : c.in-Ok-Some.count ≡ 0 = omega arith in
    rw c.from-in-Ok-Some.ensures (c.loop-have.invariant.outcome _ _ (none_left c.loop-have-test.true (tells g.S.Source.outcomes (cc) (c.in-Ok-Some.ensures.outcomes (search rules)) (cc))))

pub loop-have-preserved : goal.loop-have-preserved
loop-have-preserved g c =
    let n = c.in-Ok-Some.count in
    let h = c.in-Ok-Some.ensures in
    let v = c.loop-have.invariant in
    record {
      files = search rules;
      so_far = more c.args.file c.min-wanted.result n c.read.new.buffer (ap (λ F. F c.args.file) v.files) v.so_far (omega arith) (cc) h.lasts (omega arith) (search rules) (search rules);
      outcome = λ answer t r. v.outcome answer t (brought n c.loop-have-test.true (omega arith) (tells g.S.Source.outcomes (cc) (h.outcomes (search rules)) (cc)) r);
    }

pub returns-in-Err-Lost-clause-outcome : goal.returns-in-Err-Lost-clause-outcome
returns-in-Err-Lost-clause-outcome g c = λ _.
    c.loop-have.invariant.outcome _ _ (refused c.in-Err-Lost.loss c.loop-have-test.true (tells g.S.Source.outcomes (cc) (c.in-Err-Lost.ensures.outcomes (search rules)) (cc)))

pub returns-clause-outcome : goal.returns-clause-outcome
returns-clause-outcome g c = λ _.
    let few = c.loop-have.invariant.so_far.few in
    let all : c.loop-have.have ≡ 32767 = omega arith in
    rw c.from-2.ensures (c.loop-have.invariant.outcome _ _ (rw all all_there))
