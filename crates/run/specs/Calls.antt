-- Calls on a run with what they answered, and what a judge makes of the link and of the source.
use Rattle.std.specs.Prelude.{◌≡◌, ℕ, Bool, List, Ok, Err, Result, ⊤}
use Rattle.card.specs.declared.line.Line.{Line}
use Rattle.source.specs.Reads.{Request, Answer}
use Rattle.source.specs.Whole.{WholeAnswer, WholeLoss, WholeNames}
use Rattle.source.specs.Outcomes.{ReadsWhole}
use Rattle.run.specs.declared.refusal.AskRefusal.{AskRefusal}
use Rattle.run.specs.declared.refusal.AskRefusal.TheVariants.{NoLine}
use Rattle.run.specs.declared.refusal.CloseRefusal.{CloseRefusal}
use Rattle.run.specs.declared.refusal.JudgeRefusal.{JudgeRefusal}
use Rattle.run.specs.declared.refusal.JudgeRefusal.TheVariants.{Closed, Unread}
use Rattle.run.specs.declared.run.Summary.{Summary}

-- what the three calls answer
abbrev pub JudgeAnswer : Type 0
JudgeAnswer = Result (Unit {0}) JudgeRefusal

abbrev pub AskAnswer : Type 0
AskAnswer = Result Line AskRefusal

abbrev pub CloseAnswer : Type 0
CloseAnswer = Result Summary CloseRefusal

-- a judge of a file, with its buffer before and after, and its answer
pub record JudgeCall : Type 0 where
  pub file : ℕ
  pub before : List ℕ
  pub after : List ℕ
  pub answer : JudgeAnswer

abbrev pub judge_call : ℕ → List ℕ → List ℕ → JudgeAnswer → JudgeCall
judge_call file before after answer =
    record { file = file; before = before; after = after; answer = answer }

-- an ask for the line of a case and a file, and its answer
pub record AskCall : Type 0 where
  pub case : ℕ
  pub file : ℕ
  pub answer : AskAnswer

abbrev pub ask_call : ℕ → ℕ → AskAnswer → AskCall
ask_call case file answer = record { case = case; file = file; answer = answer }

-- whether the link is lost before and after a judge that is refused: as reading the file whole says, or as it was
abbrev pub JudgeLoss : Bool → Bool → JudgeRefusal → Type 0
JudgeLoss lost lost' Closed = lost' ≡ lost
JudgeLoss lost lost' (Unread refusal) = WholeLoss lost lost' (Err refusal)

-- what the refusals of a judge and of an ask name
abbrev pub JudgeNames : JudgeCall → JudgeRefusal → Type 0
JudgeNames call Closed = ⊤
JudgeNames call (Unread refusal) = WholeNames call.file call.before (Err refusal)

abbrev pub AskNames : AskCall → AskRefusal → Type 0
AskNames call (NoLine case file) = (case ≡ call.case) × (file ≡ call.file)

-- what a judge past 5 answers comes of reading the file whole
abbrev pub ComesOf : WholeAnswer → JudgeAnswer → Type 0
ComesOf (Ok whole) (Ok done) = ⊤
ComesOf (Ok whole) (Err refusal) = ⊥
ComesOf (Err refusal) (Ok done) = ⊥
ComesOf (Err refusal) (Err Closed) = ⊥
ComesOf (Err refusal) (Err (Unread given)) = given ≡ refusal

-- The reads of a judge, from one state of the source to another: it reads the file whole, once, and answers what comes of
-- it. So 6 is its answer where a read answers 6, and nowhere else; it comes with the bytes of the reads before.
pub record JudgeReads {S : Type 0} (outcomes : S → Request → Answer → S → Type 0)
    (file : ℕ) (s : S) (answer : JudgeAnswer) (t : S) : Type 0 where
  pub outcome : WholeAnswer
  pub reads : ReadsWhole outcomes file s outcome t
  pub comes : ComesOf outcome answer
