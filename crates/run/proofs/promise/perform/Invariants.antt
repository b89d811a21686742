use Rattle.std.proofs.Common.{◌≡◌, ◌≤◌, length, take, drop}
use Rattle.run.specs.Histories.{basis, new_run, Runs}
use Rattle.run.specs.Holding.{scene_of, Kept}
use Rattle.run.specs.Steps.{history, SameCalls}
use Rattle.run.proofs.promise.perform.Given as goal

-- the calls so far are a lawful history that led to the run's moment, and the others wait
abbrev pub invariant-loop-step : goal.invariant-loop-step
invariant-loop-step g l =
    let m = g.S.Source in
    let first = l.initial.run in
    let card = m.files first.source in
    let done = take l.step-index l.initial.steps in
    record {
      few : l.step-index ≤ length l.initial.steps;
      long : length l.steps ≡ length l.initial.steps;
      files : m.files l.run.source ≡ card;
      profile : l.run.profile ≡ first.profile;
      kept : Kept m.files l.run;
      waiting : drop l.step-index l.steps ≡ drop l.step-index l.initial.steps;
      same : SameCalls done (take l.step-index l.steps);
      runs : Runs (basis m.lost m.outcomes card first.profile) (record { moment = new_run (m.lost first.source); source = first.source }) (history done (take l.step-index l.steps)) (scene_of m.lost l.run);
    }
