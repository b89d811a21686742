-- The lines of a whole card, from those of its files.
use Rattle.std.proofs.Common.{◌≡◌, ℕ, ◌+◌, ◌<◌, ◌≤◌, true, cond, ◌||◌, ◌⊎◌, sym, ap, ◌∙◌, subst, inl, inr, ⊎_elim, arith, eq-eqb, ne_eqb}
use Rattle.std.proofs.lemmas.Bool.{cases_lt, cases_eq}
use Rattle.card.specs.Cards.{Files}
use Rattle.card.specs.Cases.{HasLine}
use Rattle.card.specs.Sheets.{CardLines}
use Rattle.card.specs.declared.profile.Profile.{Profile}
use Rattle.card.specs.declared.line.Line.TheVariants.{Open}
use Rattle.sheet.specs.Sheets.{line_on, is_judged, Written}
use Rattle.sheet.specs.declared.sheet.Sheet.{Sheet}
use Rattle.cases.specs.Verdicts.{Lines, AreFileLines, Judged, CardGives, HoldsVerdict}
use Rattle.sheet.proofs.CaseRows.{on_a_card}

module _ (profile : Profile) (files : Files) (held : CardLines)
    (holds : (file : ℕ) → file ≤ 17 → HoldsVerdict profile file (files file) (λ case. held case file)) where
  pub on_card : (file : ℕ) → (file ≤ 17) ⊎ (17 < file)
  on_card file = ⊎_elim (λ (l : file < 18). inl (omega arith)) (λ (g : 18 ≤ file). inr (omega arith)) (cases_lt file 18)

  pub of_file : (file : ℕ) → (file ≤ 17) ⊎ (17 < file) → Lines
  of_file file (inl l) = (holds file l).lines
  of_file file (inr g) = λ _. Open

  -- lines that the cases give for the card, and that are held
  pub card_lines : CardLines
  card_lines case file = of_file file (on_card file) case

  pub card_given : CardGives profile files card_lines
  unfolding of_file card_lines
  card_given file l = by (on_card file)
    where
      by : (o : (file ≤ 17) ⊎ (17 < file)) → AreFileLines profile file (files file) (of_file file o)
      by (inl m) = (holds file m).given
      by (inr g) = absurd (omega arith)

  pub card_held : (case file : ℕ) → HasLine case file → held case file ≡ card_lines case file
  unfolding of_file card_lines
  card_held case file h = by (on_card file)
    where
      by : (o : (file ≤ 17) ⊎ (17 < file)) → held case file ≡ of_file file o case
      by (inl m) = (holds file m).same case h
      by (inr g) = absurd (omega (arith, on_a_card case file h))

-- one file more on the sheet
pub holds_more : (profile : Profile) (file : ℕ) (files : Files) (sheet sheet' : Sheet) → Judged profile file (files file) sheet sheet'
    → ((f : ℕ) → f < file → HoldsVerdict profile f (files f) (λ case. line_on sheet case f))
    → (f : ℕ) → f < file + 1 → HoldsVerdict profile f (files f) (λ case. line_on sheet' case f)
holds_more profile file files sheet sheet' judged before f l = ⊎_elim
    (λ (e : f ≡ file). record {
      lines = judged.lines;
      given = subst (λ n. AreFileLines profile n (files n) judged.lines) (sym e) judged.given;
      same = λ case h. judged.written.each case f h ∙ ap (λ z. cond z (judged.lines case) (line_on sheet case f)) (eq-eqb f file e);
    })
    (λ (n : f ≡ file → ⊥). let v = before f (omega arith) in record {
      lines = v.lines;
      given = v.given;
      same = λ case h. judged.written.each case f h ∙ ap (λ z. cond z (judged.lines case) (line_on sheet case f)) (ne_eqb f file n) ∙ v.same case h;
    })
    (cases_eq f file)

-- and it counts as judged, as those before it do
pub judged_more : (file : ℕ) (lines : Lines) (sheet sheet' : Sheet) → Written file lines sheet sheet'
    → ((f : ℕ) → f < file → is_judged sheet f ≡ true) → (f : ℕ) → f < file + 1 → is_judged sheet' f ≡ true
judged_more file lines sheet sheet' written before f l = ⊎_elim
    (λ (e : f ≡ file). written.judged f ∙ ap (λ z. z || is_judged sheet f) (eq-eqb f file e))
    (λ (n : f ≡ file → ⊥). written.judged f ∙ ap (λ z. z || is_judged sheet f) (ne_eqb f file n) ∙ before f (omega arith))
    (cases_eq f file)
