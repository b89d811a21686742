use Rattle.std.proofs.Common.{◌≡◌, Ok, sym, refl, ◌∙◌, subst, arith, rules}
use Rattle.std.specs.Option.{option_copied}
use Rattle.cases.specs.Verdicts.{Judged}
use Rattle.run.specs.Holding.{KeptSheet}
use Rattle.run.proofs.Keeping.{kept_judged}
use Rattle.run.proofs.Reading.{read_whole}
use Rattle.run.proofs.run.Run.judge.Goals as goal

pub returns : goal.returns
returns g c =
    let m = g.S.Source in
    let run = c.args.self.now in
    let file = c.args.file in
    let bytes = m.files run.source file in
    let sheet' = c.write_verdict.new.sheet in
    let h = c.in_ok-count.ensures in
    let whole = read_whole bytes c.args.buffer.now c.read_whole.new.buffer c.in_ok-count.count h.wholly.1 in
    let content_is : option_copied c.map-content.result ≡ bytes = search rules ∙ whole.1 in
    let judged : Judged run.profile file bytes run.sheet sheet' = subst (λ z. Judged run.profile file z run.sheet sheet') content_is (c.write_verdict.ensures.judged (omega arith)) in
    let unclosed = c.if-self.false in
    record {
      files = h.files;
      lasts = h.lasts;
      same = (refl, refl);
      judging = record { not_closed = unclosed; ready = h.wholly.0; not_lost = h.loss; buffer = whole.0; judged = judged.written.judged; closed = refl };
      sheet = judged;
      kept = λ k. subst (λ z. KeptSheet z run.profile sheet') (sym h.files) (kept_judged (m.files run.source) run.profile run.sheet sheet' file judged k);
      reads = λ _ r. record { outcome = Ok c.in_ok-count.count; reads = h.outcome r; comes = tt };
      still = λ n. h.still (n unclosed);
    }
