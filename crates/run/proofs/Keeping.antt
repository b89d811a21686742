-- What the calls do to the sheet, and to the moment that the run stands at.
use Rattle.std.proofs.Common.{◌≡◌, ℕ, ◌≤◌, Bool, true, false, cond, ◌||◌, eqb, Ok, Err, MatchBool, sym, refl, ap, ◌∙◌, subst, ⊎_elim, eq-eqb, ne_eqb}
use mathlib.Core.Path.{fun_ext}
use Rattle.std.proofs.lemmas.Bool.{cases_eq}
use Rattle.card.specs.Cards.{Files}
use Rattle.card.specs.Cases.{HasLine}
use Rattle.card.specs.Sheets.{CardLines, count, failing, passing, unapplied, blocked}
use Rattle.card.specs.declared.line.Line.{Line}
use Rattle.card.specs.declared.line.Line.TheVariants.{Open}
use Rattle.card.specs.declared.profile.Profile.{Profile}
use Rattle.cases.specs.Verdicts.{AreFileLines, Judged, HoldsVerdict, Verdict}
use Rattle.cases.proofs.Cards.{card_lines, card_given, card_held}
use Rattle.cases.proofs.Verdicts.{one_verdict}
use Rattle.sheet.specs.Sheets.{line_on, is_judged, Blank, Complete, IsTally}
use Rattle.sheet.specs.declared.sheet.Sheet.{Sheet}
use Rattle.sheet.specs.declared.tally.Tally.{Tally}
use Rattle.sheet.proofs.CaseRows.{on_a_card}
use Rattle.sheet.proofs.Rows.{count_same}
use Rattle.run.specs.Calls.{AskAnswer, CloseAnswer, ask_call}
use Rattle.run.specs.Histories.{Moment, new_run, Asking, Counted, Closing}
use Rattle.run.specs.Holding.{KeptSheet, Asks, ClosesSheet}
use Rattle.run.specs.declared.refusal.CloseRefusal.TheVariants.{Closed as Shut, Unjudged}

-- the lines of a file that the sheet holds
abbrev Held : Files → Profile → Sheet → ℕ → Type 0
Held files profile sheet file = HoldsVerdict profile file (files file) (λ case. line_on sheet case file)

-- the lines of a file are open
abbrev AllOpen : Sheet → ℕ → Type 0
AllOpen sheet file = (case : ℕ) → HasLine case file → line_on sheet case file ≡ Open

when_map : (b b' : Bool) (P Q P' Q' : Type 0) → b' ≡ b → (P → P') → (Q → Q') → MatchBool b P Q → MatchBool b' P' Q'
when_map true b' P Q P' Q' e f g w = subst (λ b. MatchBool b P' Q') (sym e) (f w)
when_map false b' P Q P' Q' e f g w = subst (λ b. MatchBool b P' Q') (sym e) (g w)

-- the moment of a sheet
abbrev pub at_sheet : Sheet → Bool → Bool → Moment
at_sheet sheet closed lost = record { judged = is_judged sheet; closed = closed; lost = lost }

made : (judged : ℕ → Bool) (closed lost : Bool) → Moment
made judged closed lost = record { judged = judged; closed = closed; lost = lost }

-- a new run
pub kept_blank : (files : Files) (profile : Profile) (sheet : Sheet) → Blank sheet → KeptSheet files profile sheet
kept_blank files profile sheet b file l = subst (λ z. MatchBool z (Held files profile sheet file) (AllOpen sheet file)) (sym (b.judged file)) (λ case h. b.lines case file h)

pub new_blank : (sheet : Sheet) (lost : Bool) → Blank sheet → at_sheet sheet false lost ≡ new_run lost
unfolding made
new_blank sheet lost b = ap (λ j. made j false lost) (fun_ext b.judged)

-- a judge that went through
module _ (files : Files) (profile : Profile) (sheet sheet' : Sheet) (given : ℕ) (w : Judged profile given (files given) sheet sheet') (k : KeptSheet files profile sheet) where
  here : (file : ℕ) → file ≡ given → Held files profile sheet' file
  here file e =
      let t : eqb file given ≡ true = eq-eqb file given e in
      record {
        lines = w.lines;
        given = subst (λ n. AreFileLines profile n (files n) w.lines) (sym e) w.given;
        same = λ case h. w.written.each case file h ∙ ap (λ z. cond z (w.lines case) (line_on sheet case file)) t;
      }

  still : (file : ℕ) → (file ≡ given → ⊥) → (case : ℕ) → HasLine case file → line_on sheet' case file ≡ line_on sheet case file
  still file n case h = w.written.each case file h ∙ ap (λ z. cond z (w.lines case) (line_on sheet case file)) (ne_eqb file given n)

  pub kept_judged : KeptSheet files profile sheet'
  kept_judged file l = ⊎_elim
      (λ (e : file ≡ given).
      let t : is_judged sheet' file ≡ true = w.written.judged file ∙ ap (λ z. z || is_judged sheet file) (eq-eqb file given e) in
      subst (λ z. MatchBool z (Held files profile sheet' file) (AllOpen sheet' file)) (sym t) (here file e))
      (λ (n : file ≡ given → ⊥).
      let t : is_judged sheet' file ≡ is_judged sheet file = w.written.judged file ∙ ap (λ z. z || is_judged sheet file) (ne_eqb file given n) in
      when_map (is_judged sheet file) (is_judged sheet' file) _ _ _ _ t
      (λ v. record { lines = v.lines; given = v.given; same = λ case h. still file n case h ∙ v.same case h })
      (λ o case h. still file n case h ∙ o case h) (k file l))
      (cases_eq file given)

-- the line of an ask is the verdict of the cases, or open
pub asked_line : (files : Files) (profile : Profile) (sheet : Sheet) (case file : ℕ) (line : Line) → KeptSheet files profile sheet → HasLine case file → line ≡ line_on sheet case file
    → MatchBool (is_judged sheet file) (Verdict profile file (files file) case line) (line ≡ Open)
asked_line files profile sheet case file line k h e =
    when_map (is_judged sheet file) (is_judged sheet file) _ _ _ _ refl
    (λ v. record {
      lines = v.lines;
      given = v.given;
      line_is = sym (v.same case h) ∙ sym e;
      no_other = λ others g. one_verdict profile file (files file) others v.lines g v.given case h ∙ sym (v.same case h) ∙ sym e;
    })
    (λ o. e ∙ o case h) (k file (on_a_card case file h))

pub asking_moves : (files : Files) (profile : Profile) (sheet : Sheet) (closed lost : Bool) (case file : ℕ) (answer : AskAnswer) → KeptSheet files profile sheet
    → Asks sheet (ask_call case file answer) → Asking files profile (at_sheet sheet closed lost) (ask_call case file answer)
asking_moves files profile sheet closed lost case file (Ok line) k a = (a.0, asked_line files profile sheet case file line k a.0 a.1)
asking_moves files profile sheet closed lost case file (Err refusal) k a = a

-- a close of a sheet of which every file is judged
module _ (files : Files) (profile : Profile) (sheet : Sheet) (k : KeptSheet files profile sheet) (all : Complete (is_judged sheet)) where
  holds : (file : ℕ) → file ≤ 17 → Held files profile sheet file
  holds file l = subst (λ z. MatchBool z (Held files profile sheet file) (AllOpen sheet file)) (all file l) (k file l)

  abbrev verdicts : CardLines
  verdicts = card_lines profile files (line_on sheet) holds

  pub counted : (tally : Tally) → IsTally (line_on sheet) tally → Counted files profile tally
  counted tally c =
      let same : (one : Line → ℕ) → count one (line_on sheet) ≡ count one verdicts = λ one. count_same one (line_on sheet) verdicts (card_held profile files (line_on sheet) holds) in
      let given = card_given profile files (line_on sheet) holds in
      record {
        lines = verdicts;
        given = given;
        no_others = λ others g case file h.
            let l = on_a_card case file h in
            one_verdict profile file (files file) (λ n. others n file) (λ n. verdicts n file) (g file l) (given file l) case h;
        counts = record {
          pass = c.pass ∙ same passing;
          fail = c.fail ∙ same failing;
          not_applicable = c.not_applicable ∙ same unapplied;
          blocked = c.blocked ∙ same blocked;
        };
      }

pub closing_moves : (files : Files) (profile : Profile) (sheet : Sheet) (closed closed' lost : Bool) (answer : CloseAnswer)
    → KeptSheet files profile sheet → ClosesSheet sheet closed closed' answer → Closing files profile (at_sheet sheet closed lost) answer (at_sheet sheet closed' lost)
closing_moves files profile sheet closed closed' lost (Ok summary) k c = record {
  not_closed = c.0;
  complete = c.1;
  counted = counted files profile sheet k c.1 summary.tally c.2;
  clean = c.3 ∙ ap (λ n. eqb n 0) (sym c.2.fail);
  moment = ap (λ z. at_sheet sheet z lost) c.4;
}
closing_moves files profile sheet closed closed' lost (Err Shut) k c = (c.0, ap (λ z. at_sheet sheet z lost) c.1)
closing_moves files profile sheet closed closed' lost (Err (Unjudged file)) k c = (c.0, ap (λ z. at_sheet sheet z lost) c.1)
