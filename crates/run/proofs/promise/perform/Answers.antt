use Rattle.std.proofs.Common.{◌≡◌, get_or, take, sym, ap, ◌∙◌, subst, arith, length-set, take_all}
use Rattle.run.specs.Histories.{Moment, basis, new_run, Turns, Runs}
use Rattle.run.specs.Holding.{scene_of, moment_of}
use Rattle.run.specs.Steps.{event, history, SameCalls}
use Rattle.run.proofs.Closing.{close_means}
use Rattle.run.proofs.TurnLemmas.{rest_more, same_turn, runs_turn, runs_lead}
use Rattle.run.proofs.promise.perform.Goals as goal

pub loop-step-preserved : goal.loop-step-preserved
loop-step-preserved g c =
    let m = g.S.Source in
    let v = c.loop-step.invariant in
    let k = c.make.ensures in
    let run = c.loop-step.run in
    let run' = c.make.new.run in
    let opened = c.open-run.result in
    let files = m.files opened.source in
    let xs = c.args.steps.now in
    let ys = c.loop-step.steps in
    let i = c.loop-step.step-index in
    let x = get_or ys i c.step-item.result in
    let y = c.make.new.step in
    let read : x ≡ get_or ys i x = ap (λ z. get_or ys i z) c.step-item.is in
    let h = c.loop-step-test.true in
    let turns = subst (λ z. Turns (basis m.lost m.outcomes files z) (scene_of m.lost run) (event x y) (scene_of m.lost run')) v.profile
    (subst (λ z. Turns (basis m.lost m.outcomes z run.profile) (scene_of m.lost run) (event x y) (scene_of m.lost run')) v.files k.turns) in
    record {
      few = omega arith;
      long = length-set ys i y ∙ v.long;
      files = k.files ∙ v.files;
      profile = k.profile ∙ v.profile;
      kept = k.kept;
      waiting = rest_more xs ys i x y h v.long v.waiting read;
      same = same_turn xs ys i x y h v.long v.waiting read v.same k.same;
      runs = runs_turn xs ys i x y h v.long v.waiting read (basis m.lost m.outcomes files opened.profile) (record { moment = new_run (m.lost opened.source); source = opened.source }) (scene_of m.lost run) (scene_of m.lost run') v.runs turns;
    }

pub returns : goal.returns
returns g c =
    let m = g.S.Source in
    let v = c.loop-step.invariant in
    let o = c.open-run.ensures in
    let back = c.into_source.ensures in
    let source = c.args.source in
    let opened = c.open-run.result in
    let xs = c.args.steps.now in
    let ys = c.loop-step.steps in
    let i = c.loop-step.step-index in
    let last : Moment = moment_of m.lost c.loop-step.run in
    let ex : take i xs ≡ xs = take_all i xs c.loop-step-test.false in
    let ey : take i ys ≡ ys = take_all i ys (omega arith) in
    let same : SameCalls xs ys = subst (λ z. SameCalls z ys) ex (subst (λ z. SameCalls (take i xs) z) ey v.same) in
    let ran = subst (λ z. Runs (basis m.lost m.outcomes (m.files opened.source) opened.profile) (record { moment = new_run (m.lost opened.source); source = opened.source }) z (scene_of m.lost c.loop-step.run))
    (ap (λ z. history z (take i ys)) ex ∙ ap (λ z. history xs z) ey) v.runs in
    let of_profile = subst (λ z. Runs (basis m.lost m.outcomes (m.files opened.source) z) (record { moment = new_run (m.lost opened.source); source = opened.source }) (history xs ys) (scene_of m.lost c.loop-step.run)) o.profile ran in
    let of_source = subst (λ z. Runs (basis m.lost m.outcomes (m.files z) c.args.profile) (record { moment = new_run (m.lost z); source = z }) (history xs ys) (scene_of m.lost c.loop-step.run)) o.source of_profile in
    let on = basis m.lost m.outcomes (m.files source) c.args.profile in
    let runs = subst (λ z. Runs on (record { moment = new_run (m.lost source); source = source }) (history xs ys) (record { moment = last; source = z })) (sym back) of_source in
    let leads = runs_lead on (record { moment = new_run (m.lost source); source = source }) (record { moment = last; source = c.into_source.result }) (history xs ys) runs in
    record {
      files = ap m.files back ∙ v.files ∙ ap m.files o.source;
      promise = record {
        same_calls = same;
        lawful_throughout = record { last = last; runs = runs };
        lawful_history = record { last = last; leads = leads; lost_at_last = ap m.lost (sym back) };
        every_close = λ summary a. close_means (m.files source) c.args.profile _ last (history xs ys) summary (λ file _. m.bounded source file) leads a;
      };
    }
