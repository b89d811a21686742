-- What an accepted close means, by the laws of records.
use Rattle.std.proofs.Common.{◌≡◌, true, eqb, List, [], ◌∷◌, Some, None, Ok, Err, sym, refl, ◌∙◌, subst, ⊎_elim, arith, rules, eq-eqb}
use Rattle.card.specs.Cards.{Files}
use Rattle.card.specs.Sheets.{count, failing}
use Rattle.card.specs.declared.line.Line.{Line}
use Rattle.card.specs.declared.line.Line.TheVariants.{Open, Pass, Fail, NotApplicable, Blocked}
use Rattle.card.specs.declared.profile.Profile.{Profile}
use Rattle.record.specs.CardLaws.{AllShort, CleanCard}
use Rattle.record.specs.Clean.{Clean}
use Rattle.record.proofs.All.{laws}
use Rattle.sheet.proofs.Rows.{counted, count_none}
use Rattle.run.specs.Histories.{Moment, Event, judging, asking, closing, Leads, Accepted, Counted}
use Rattle.run.specs.Promise.{CloseMeans}
use Rattle.run.specs.declared.run.Summary.{Summary}

-- a line that is not counted among those that fail does not fail, and the other way round
clean_line : (line : Line) → failing line ≡ 0 → Clean line
clean_line Open e = tt
clean_line Pass e = tt
clean_line (Fail place) e = omega arith
clean_line NotApplicable e = tt
clean_line Blocked e = tt

unfailing : (line : Line) → Clean line → failing line ≡ 0
unfailing Open c = refl
unfailing Pass c = refl
unfailing (Fail place) c = absurd c
unfailing NotApplicable c = refl
unfailing Blocked c = refl

-- a close says clean exactly if none of the lines that it counted fails
module _ (files : Files) (profile : Profile) (summary : Summary) (c : Counted files profile summary.tally) (says : summary.clean ≡ eqb summary.tally.fail 0) where
  pub none_fails : summary.clean ≡ true → CleanCard c.lines
  none_fails t case file h =
      let z : summary.tally.fail ≡ 0 = let e : eqb summary.tally.fail 0 ≡ true = sym says ∙ t in search rules in
      clean_line (c.lines case file) (counted failing c.lines (sym c.counts.fail ∙ z) case file h)

  pub says_clean : CleanCard c.lines → summary.clean ≡ true
  says_clean k =
      let z : count failing c.lines ≡ 0 = count_none failing c.lines (λ case file h. unfailing (c.lines case file) (k case file h)) in
      says ∙ eq-eqb summary.tally.fail 0 (c.counts.fail ∙ z)

-- the answer of an accepted close, from the history
pub accepted : (files : Files) (profile : Profile) (m m' : Moment) (events : List Event) (summary : Summary) → Leads files profile m events m' → Accepted summary events
    → Counted files profile summary.tally × (summary.clean ≡ eqb summary.tally.fail 0)
accepted files profile m m' [] summary l a = absurd a
accepted files profile m m' (judging file before after answer ∷ events) summary l a = accepted files profile l.0 m' events summary l.1.1 a
accepted files profile m m' (asking case file answer ∷ events) summary l a = accepted files profile l.0 m' events summary l.1.1 a
accepted files profile m m' (closing None ∷ events) summary l a = accepted files profile l.0 m' events summary l.1.1 a
accepted files profile m m' (closing (Some (Err refusal)) ∷ events) summary l a = accepted files profile l.0 m' events summary l.1.1 a
accepted files profile m m' (closing (Some (Ok answer)) ∷ events) summary l a = ⊎_elim
    (λ (e : answer ≡ summary). subst (λ s. Counted files profile s.tally × (s.clean ≡ eqb s.tally.fail 0)) e (l.1.0.counted, l.1.0.clean))
    (λ b. accepted files profile l.0 m' events summary l.1.1 b) a

pub means : (files : Files) (profile : Profile) (summary : Summary) → AllShort files → Counted files profile summary.tally → summary.clean ≡ eqb summary.tally.fail 0
    → CloseMeans files profile summary
means files profile summary short c says =
    let law = laws.clean_exactly_when_written profile files short c.lines c.given in
    record {
      clean_exactly_when_written = (λ t. law.0 (none_fails files profile summary c says t), λ u. says_clean files profile summary c says (law.1 u));
      counts_of_the_cases = c;
      written_by_one_record_only = λ r other. laws.written_by_one_record_only r other files;
      changed_digit_never_closes_clean = λ r changed w d other lost lost' later h answer b t.
          let q = accepted changed other _ h.last later answer h.leads b in
          laws.changed_digit_is_never_clean r files changed w d other q.0.lines q.0.given (none_fails changed other answer q.0 q.1 t);
    }

pub close_means : (files : Files) (profile : Profile) (m m' : Moment) (events : List Event) (summary : Summary) → AllShort files
    → Leads files profile m events m' → Accepted summary events → CloseMeans files profile summary
close_means files profile m m' events summary short l a = let k = accepted files profile m m' events summary l a in means files profile summary short k.0 k.1
