use Rattle.std.proofs.Common.{◌≡◌, ℕ, ◌<◌, true}
use Rattle.card.specs.Cards.{files_at}
use Rattle.sheet.specs.Sheets.{line_on, is_judged}
use Rattle.cases.specs.Verdicts.{HoldsVerdict}
use Rattle.cases.proofs.verdict.judge_card.Given as goal

-- the files so far have their lines, and count as judged
abbrev pub invariant-loop-file : goal.invariant-loop-file
invariant-loop-file l = record {
  holds : (f : ℕ) → f < l.file → HoldsVerdict l.profile f (files_at l.files.by_number f) (λ case. line_on l.sheet case f);
  judged : (f : ℕ) → f < l.file → is_judged l.sheet f ≡ true;
}
