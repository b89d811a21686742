-- Which histories of calls and answers the rules allow, over a card's files and a profile. No program stands in them.
use Rattle.std.specs.Prelude.{◌≡◌, ℕ, ◌≤◌, Bool, true, false, ◌||◌, ◌⊎◌, List, [], ◌∷◌, length, take, Some, None, Ok, Err, MatchBool, MatchResult, Option, ◌==◌, if◌then◌else◌}
use Rattle.card.specs.Cards.{Files, content}
use Rattle.card.specs.Cases.{HasLine}
use Rattle.card.specs.Refusals.{Unless, Under, no_other, value}
use Rattle.card.specs.Sheets.{CardLines}
use Rattle.card.specs.declared.line.Line.{Line}
use Rattle.card.specs.declared.line.Line.TheVariants.{Open}
use Rattle.card.specs.declared.profile.Profile.{Profile}
use Rattle.cases.specs.Verdicts.{Verdict, CardGives}
use Rattle.sheet.specs.Sheets.{Complete, LowestMissing, IsTally}
use Rattle.sheet.specs.declared.tally.Tally.{Tally}
use Rattle.source.specs.Reads.{Request, Answer, laid}
use Rattle.source.specs.Whole.{Ready, Received}
use Rattle.run.specs.Calls.{JudgeAnswer, AskAnswer, CloseAnswer, JudgeCall, judge_call, AskCall, ask_call, JudgeLoss, JudgeNames, AskNames, JudgeReads}
use Rattle.run.specs.Numbers.{of_judge, of_ask, of_close}
use Rattle.run.specs.declared.refusal.AskRefusal.{AskRefusal}
use Rattle.run.specs.declared.refusal.CloseRefusal.{CloseRefusal}
use Rattle.run.specs.declared.refusal.JudgeRefusal.{JudgeRefusal}
use Rattle.run.specs.declared.run.Summary.{Summary}

-- A moment of a run: which files were judged, whether a close was accepted, and whether the link is lost.
pub record Moment : Type 0 where
  pub judged : ℕ → Bool
  pub closed : Bool
  pub lost : Bool

-- a new run, over a link that is lost or not
abbrev pub new_run : Bool → Moment
new_run lost = record { judged = λ _. false; closed = false; lost = lost }

-- the same moment with the link lost
abbrev pub cut_off : Moment → Moment
cut_off m = record { judged = m.judged; closed = m.closed; lost = true }

-- the same moment with a close accepted
abbrev pub shut : Moment → Moment
shut m = record { judged = m.judged; closed = true; lost = m.lost }

-- A judge that goes through. One file more is judged; the link may have been lost by the last reads.
pub record JudgesFile (files : Files) (m : Moment) (call : JudgeCall) (m' : Moment) : Type 0 where
  pub not_closed : m.closed ≡ false
  pub ready : Ready call.file call.before
  pub not_lost : m.lost ≡ false
  pub buffer : call.after ≡ laid (content (files call.file)) call.before
  pub judged : (file : ℕ) → m'.judged file ≡ (file == call.file || m.judged file)
  pub closed : m'.closed ≡ m.closed

-- A judge that is refused. Its conditions are tried in this order: no close was accepted, there is such a file, the
-- buffer is long enough, and every read is answered. Of the refusals 6 alone changes the moment, and only by the loss.
pub record RefusesJudge (files : Files) (m : Moment) (call : JudgeCall) (m' : Moment)
    (refusal : JudgeRefusal) : Type 0 where
  pub number : Unless 5 (m.closed ≡ false) (Unless 2 (call.file ≤ 17)
      (Unless 3 (32767 ≤ length call.before)
      (Under 6 (Received (content (files call.file))) no_other))) (of_judge refusal)
  pub names : JudgeNames call refusal
  pub link : JudgeLoss m.lost m'.lost refusal
  pub buffer : call.after
      ≡ laid (take (value (of_judge refusal)) (content (files call.file))) call.before
  pub moment : m' ≡ (if (of_judge refusal).number == 6 then cut_off m else m)

-- A judge, from one moment to the next.
abbrev pub Judging : Files → Moment → JudgeCall → Moment → Type 0
Judging files m call m' =
    MatchResult call.answer (λ _. JudgesFile files m call m') (RefusesJudge files m call m')

-- the line that an ask answers at a moment: it is open until its file is judged, and then the verdict of the cases
abbrev pub IsAskedLine : Files → Profile → Moment → AskCall → Line → Type 0
IsAskedLine files profile m call line =
    HasLine call.case call.file
    × MatchBool (m.judged call.file)
    (Verdict profile call.file (files call.file) call.case line) (line ≡ Open)

-- An ask that is refused: there is no such line.
pub record RefusesAsk (call : AskCall) (refusal : AskRefusal) : Type 0 where
  pub number : Unless 2 (HasLine call.case call.file) no_other (of_ask refusal)
  pub names : AskNames call refusal

-- An ask at a moment.
abbrev pub Asking : Files → Profile → Moment → AskCall → Type 0
Asking files profile m call =
    MatchResult call.answer (IsAskedLine files profile m call) (RefusesAsk call)

-- the four counts are those of the lines that the cases give for the whole card, and they give no others
pub record Counted (files : Files) (profile : Profile) (tally : Tally) : Type 0 where
  pub lines : CardLines
  pub given : CardGives profile files lines
  pub no_others : (others : CardLines) → CardGives profile files others
      → (case file : ℕ) → HasLine case file → others case file ≡ lines case file
  pub counts : IsTally lines tally

-- A close that is accepted: every file was judged, and it is clean where no line fails.
pub record AcceptsClose (files : Files) (profile : Profile) (m : Moment) (summary : Summary)
    (m' : Moment) : Type 0 where
  pub not_closed : m.closed ≡ false
  pub complete : Complete m.judged
  pub counted : Counted files profile summary.tally
  pub clean : summary.clean ≡ (summary.tally.fail == 0)
  pub moment : m' ≡ shut m

-- A close that is refused, by whether one was accepted and by the judged files; 4 names the lowest file that was not judged.
abbrev pub RefusesClose : Bool → (ℕ → Bool) → CloseRefusal → Type 0
RefusesClose closed judged refusal =
    Unless 5 (closed ≡ false) (Under 4 (LowestMissing judged) no_other) (of_close refusal)

-- A close at a moment.
abbrev pub Closing : Files → Profile → Moment → CloseAnswer → Moment → Type 0
Closing files profile m (Err refusal) m' = RefusesClose m.closed m.judged refusal × (m' ≡ m)
Closing files profile m (Ok summary) m' = AcceptsClose files profile m summary m'

-- a call with its answer, which every call has, and a judge's buffer before and after
pub data Event : Type 0 where
  judging : (file : ℕ) (before after : List ℕ) → Option JudgeAnswer → Event
  asking : (case file : ℕ) → Option AskAnswer → Event
  closing : Option CloseAnswer → Event

-- a call and its answer lead from one moment to the next
abbrev pub Moves : Files → Profile → Moment → Event → Moment → Type 0
Moves files profile m (judging file before after None) m' = ⊥
Moves files profile m (judging file before after (Some answer)) m' =
    Judging files m (judge_call file before after answer) m'
Moves files profile m (asking case file None) m' = ⊥
Moves files profile m (asking case file (Some answer)) m' =
    Asking files profile m (ask_call case file answer) × (m' ≡ m)
Moves files profile m (closing None) m' = ⊥
Moves files profile m (closing (Some answer)) m' = Closing files profile m answer m'

-- a list of them leads from one moment to another
abbrev pub Leads : Files → Profile → Moment → List Event → Moment → Type 0
Leads files profile m [] m' = m' ≡ m
Leads files profile m (event ∷ events) m' =
    (next : Moment) × (Moves files profile m event next × Leads files profile next events m')

-- What a run stands on: when its source's link is lost and what its reads do, the files that the source means, and the
-- profile.
pub record Basis (S : Type 0) : Type 1 where
  pub lost : S → Bool
  pub outcomes : S → Request → Answer → S → Type 0
  pub files : Files
  pub profile : Profile

abbrev pub basis : {S : Type 0} → (S → Bool) → (S → Request → Answer → S → Type 0)
    → Files → Profile → Basis S
basis lost outcomes files profile =
    record { lost = lost; outcomes = outcomes; files = files; profile = profile }

-- What a call makes of the source: a judge that 5, 2 and 3 do not refuse reads its file whole and answers what comes of
-- it, and nothing else touches the source.
abbrev pub Handles : {S : Type 0} → Basis S → Moment → Event → S → S → Type 0
Handles b m (judging file before after None) s t = ⊥
Handles b m (judging file before after (Some answer)) s t =
    (m.closed ≡ false → Ready file before → JudgeReads b.outcomes file s answer t)
    × ((m.closed ≡ false → Ready file before → ⊥) → t ≡ s)
Handles b m (asking case file answer) s t = t ≡ s
Handles b m (closing answer) s t = t ≡ s

-- a moment of a run together with its source
pub record Scene (S : Type 0) : Type 0 where
  pub moment : Moment
  pub source : S

-- One call over a source that nothing else handles: each moment's link is that of the source at this moment.
pub record Turns {S : Type 0} (b : Basis S) (from : Scene S) (event : Event) (to : Scene S)
    : Type 0 where
  pub moves : Moves b.files b.profile from.moment event to.moment
  pub handles : Handles b from.moment event from.source to.source
  pub link : to.moment.lost ≡ b.lost to.source

-- a list of them
abbrev pub Runs : {S : Type 0} → Basis S → Scene S → List Event → Scene S → Type 0
Runs b from [] to = to ≡ from
Runs {S} b from (event ∷ events) to =
    (next : Scene S) × (Turns b from event next × Runs b next events to)

-- A lawful history of a new run over a source, from the source as it was to the source that is handed back.
pub record LawfulRun {S : Type 0} (b : Basis S) (source : S) (events : List Event) (source' : S)
    : Type 0 where
  pub last : Moment
  pub runs : Runs b (record { moment = new_run (b.lost source); source = source }) events
      (record { moment = last; source = source' })

-- A lawful history of a run that was new before it, over a link of which only the loss is told: lost or not before the
-- first call and after the last.
pub record LawfulHistory (files : Files) (profile : Profile) (lost : Bool) (events : List Event)
    (lost' : Bool) : Type 0 where
  pub last : Moment
  pub leads : Leads files profile (new_run lost) events last
  pub lost_at_last : last.lost ≡ lost'

-- a close of the history was accepted with this answer
abbrev pub Accepted : Summary → List Event → Type 0
Accepted summary [] = ⊥
Accepted summary (judging file before after answer ∷ events) = Accepted summary events
Accepted summary (asking case file answer ∷ events) = Accepted summary events
Accepted summary (closing None ∷ events) = Accepted summary events
Accepted summary (closing (Some (Err refusal)) ∷ events) = Accepted summary events
Accepted summary (closing (Some (Ok answer)) ∷ events) =
    (answer ≡ summary) ⊎ Accepted summary events
