use Rattle.std.proofs.Common.{subst, arith}
use Rattle.card.specs.Cards.{files_at}
use Rattle.cases.specs.Verdicts.{Judged}
use Rattle.cases.proofs.Cards.{holds_more, judged_more}
use Rattle.cases.proofs.verdict.judge_card.Goals as goal

pub loop-file-preserved : goal.loop-file-preserved
loop-file-preserved c =
    let v = c.loop-file.invariant in
    let file = c.loop-file.file in
    let sheet = c.loop-file.sheet in
    let sheet' = c.write_verdict.new.sheet in
    let w = c.write_verdict.ensures.judged (omega arith) in
    let judged = subst (λ z. Judged c.args.profile file z sheet sheet') c.get.ensures w in
    record {
      holds = holds_more c.args.profile file (files_at c.args.files.now.by_number) sheet sheet' judged v.holds;
      judged = judged_more file w.lines sheet sheet' w.written v.judged;
    }
