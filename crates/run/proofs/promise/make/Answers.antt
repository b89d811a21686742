use Rattle.std.proofs.Common.{◌≡◌, false, Some, vec_items, sym, refl, ap, ◌∙◌, subst}
use Rattle.std.proofs.lemmas.List.{with_items_is}
use Rattle.std.specs.Vec.{with_items}
use Rattle.source.specs.Whole.{Ready}
use Rattle.run.specs.Calls.{judge_call, JudgeReads}
use Rattle.run.specs.Histories.{Judging}
use Rattle.run.specs.Holding.{moment_of}
use Rattle.run.specs.Steps.{SameCall, buffer}
use Rattle.run.specs.declared.promise.Step.TheVariants.{Judge}
use Rattle.run.proofs.promise.make.Goals as goal

pub returns-in-Judge : goal.returns-in-Judge
returns-in-Judge g c =
    let m = g.S.Source in
    let run = c.args.run.now in
    let run' = c.judge-judged.new.self in
    let e = c.judge-judged.ensures in
    let files = m.files run.source in
    let file = c.in-Judge.file in
    let before = c.as_mut_slice.result.now in
    let after = c.judge-judged.new.buffer in
    let answer = c.judge-judged.result in
    let filled : vec_items (with_items c.in-Judge.buffer after) ≡ after = with_items_is c.in-Judge.buffer after (c.judge-judged.auto.buffer ∙ c.as_mut_slice.ensures.len) in
    let was : before ≡ buffer c.args.step.now = c.as_mut_slice.ensures.value ∙ ap buffer (sym c.in-Judge.is) in
    let from = moment_of m.lost run in
    let to = moment_of m.lost run' in
    let moves = subst (λ z. Judging files from (judge_call file z (vec_items (with_items c.in-Judge.buffer after)) answer) to) was
    (subst (λ z. Judging files from (judge_call file before z answer) to) (sym filled) e.judging) in
    let handles = subst (λ z. (run.closed ≡ false → Ready file z → JudgeReads m.outcomes file run.source answer run'.source) × ((run.closed ≡ false → Ready file z → ⊥) → run'.source ≡ run.source)) was (e.reads, e.still) in
    record {
      files = e.files;
      profile = e.same.0;
      kept = e.kept c.requires;
      same = subst (λ z. SameCall z (Judge file (with_items c.in-Judge.buffer after) (Some answer))) (sym c.in-Judge.is) refl;
      turns = record { moves = moves; handles = handles; link = refl };
    }
