-- What a run shows: its source, its profile, its sheet, and the moment that it stands at; and what its sheet holds then.
use Rattle.std.specs.Prelude.{◌≡◌, ℕ, ◌≤◌, Bool, true, false, Ok, Err, MatchBool, MatchResult, ◌==◌}
use Rattle.card.specs.Cards.{Files}
use Rattle.card.specs.Cases.{HasLine}
use Rattle.card.specs.Sheets.{count, failing}
use Rattle.card.specs.declared.line.Line.TheVariants.{Open}
use Rattle.card.specs.declared.profile.Profile.{Profile}
use Rattle.cases.specs.Verdicts.{Judged, HoldsVerdict}
use Rattle.sheet.specs.Sheets.{line_on, is_judged, Complete, IsTally}
use Rattle.sheet.specs.declared.sheet.Sheet.{Sheet}
use Rattle.run.specs.Calls.{JudgeCall, AskCall, CloseAnswer}
use Rattle.source.specs.Reads.{Request, Answer}
use Rattle.run.specs.Histories.{Moment, RefusesAsk, RefusesClose, Scene, Basis, basis}
use Rattle.run.specs.declared.run.Run.{Run}

abbrev pub source_of : {S : Type 0} → Run S → S
source_of run = run.source

abbrev pub profile_of : {S : Type 0} → Run S → Profile
profile_of run = run.profile

abbrev pub sheet_of : {S : Type 0} → Run S → Sheet
sheet_of run = run.sheet

abbrev pub is_closed : {S : Type 0} → Run S → Bool
is_closed run = run.closed

-- the files that a run is over; `files` tells which a source means
abbrev pub card_of : {S : Type 0} → (S → Files) → Run S → Files
card_of files run = files (source_of run)

-- the moment that a run stands at, and together with its source; `lost` tells whether a source's link is lost
abbrev pub moment_of : {S : Type 0} → (S → Bool) → Run S → Moment
moment_of lost run = record {
  judged = is_judged (sheet_of run);
  closed = is_closed run;
  lost = lost (source_of run);
}

abbrev pub scene_of : {S : Type 0} → (S → Bool) → Run S → Scene S
scene_of lost run = record { moment = moment_of lost run; source = source_of run }

-- what a run stands on
abbrev pub basis_of : {S : Type 0} → (S → Bool) → (S → Request → Answer → S → Type 0)
    → (S → Files) → Run S → Basis S
basis_of lost outcomes files run = basis lost outcomes (card_of files run) (profile_of run)

-- the lines of each judged file are lines that the cases give, and those of any other file are open
abbrev pub KeptSheet : Files → Profile → Sheet → Type 0
KeptSheet files profile sheet = (file : ℕ) → file ≤ 17 → MatchBool (is_judged sheet file)
    (HoldsVerdict profile file (files file) (λ case. line_on sheet case file))
    ((case : ℕ) → HasLine case file → line_on sheet case file ≡ Open)

abbrev pub Kept : {S : Type 0} → (S → Files) → Run S → Type 0
Kept files run = KeptSheet (card_of files run) (profile_of run) (sheet_of run)

-- what a judge does to the sheet: the file is judged, or it is refused and the sheet is as it was
abbrev pub JudgesOn : {S : Type 0} → (S → Files) → Run S → JudgeCall → Run S → Type 0
JudgesOn files run call run' = MatchResult call.answer
    (λ _. Judged (profile_of run) call.file (card_of files run call.file)
    (sheet_of run) (sheet_of run'))
    (λ _. sheet_of run' ≡ sheet_of run)

-- an ask: the line on the sheet, or the refusal that there is none
abbrev pub Asks : Sheet → AskCall → Type 0
Asks sheet call = MatchResult call.answer
    (λ line. HasLine call.case call.file × (line ≡ line_on sheet call.case call.file))
    (RefusesAsk call)

-- A close, with whether one was accepted before and after: it is accepted once every file was judged, and says clean
-- where no line fails.
abbrev pub ClosesSheet : Sheet → Bool → Bool → CloseAnswer → Type 0
ClosesSheet sheet closed closed' (Err refusal) =
    RefusesClose closed (is_judged sheet) refusal × (closed' ≡ closed)
ClosesSheet sheet closed closed' (Ok summary) =
    (closed ≡ false) × Complete (is_judged sheet) × IsTally (line_on sheet) summary.tally
    × (summary.clean ≡ (count failing (line_on sheet) == 0)) × (closed' ≡ true)

abbrev pub Closes : {S : Type 0} → Run S → CloseAnswer → Run S → Type 0
Closes run answer run' = ClosesSheet (sheet_of run) (is_closed run) (is_closed run') answer
