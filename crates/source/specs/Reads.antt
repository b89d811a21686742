-- What one read of a source may answer.
use Rattle.std.specs.Prelude.{◌≡◌, ℕ, ◌-◌, ◌<◌, ◌≤◌, Bool, true, false, List, ◌++◌, length, take, drop, Some, None, Ok, Err, Option, Result, ⊤}
use Rattle.card.specs.Refusals.{Unless, Under, no_other}
use Rattle.source.specs.Numbers.{of_fault}
use Rattle.source.specs.declared.read.Fault.{Fault}
use Rattle.source.specs.declared.read.Fault.TheVariants.{Lost, Malformed}

-- what a read asks for: at most so many bytes of a file, from a place on
pub record Request : Type 0 where
  pub file : ℕ
  pub place : ℕ
  pub wanted : ℕ

abbrev pub request : ℕ → ℕ → ℕ → Request
request file place wanted = record { file = file; place = place; wanted = wanted }

-- what a read answers: how many bytes it brought, `None` where the file is absent
abbrev pub Answer : Type 0
Answer = Result (Option ℕ) Fault

-- a read that a source may take, into this buffer
pub record WellFormed (asked : Request) (buffer : List ℕ) : Type 0 where
  pub card : asked.file ≤ 17
  pub some : 0 < asked.wanted
  pub few : asked.wanted ≤ 255
  pub room : asked.wanted ≤ length buffer

-- The count of an answer is a source's own choice, but for this.
pub record ChosenCount (bs : List ℕ) (asked : Request) (count : ℕ) : Type 0 where
  pub most : count ≤ asked.wanted
  pub within : count ≤ length bs - asked.place
  pub some : asked.place < length bs → 0 < count

-- The moment of a loss is a source's other choice, but for this: no read is answered over a link that was lost before it, a
-- read that is refused for the loss leaves the link lost, and a malformed read is no such moment.
abbrev pub ChosenLoss : Bool → Bool → Answer → Type 0
ChosenLoss lost lost' (Ok answer) = lost ≡ false
ChosenLoss lost lost' (Err (Lost loss)) = lost' ≡ true
ChosenLoss lost lost' (Err Malformed) = lost' ≡ lost

-- the bytes laid over the start of a buffer
abbrev pub laid : List ℕ → List ℕ → List ℕ
laid bs buffer = bs ++ drop (length bs) buffer

-- so many bytes of the file from the place on stand at the buffer's start, and the rest is as it was
abbrev pub Brings : Option (List ℕ) → Request → ℕ → List ℕ → List ℕ → Type 0
Brings None asked count before after = ⊥
Brings (Some bs) asked count before after =
    ChosenCount bs asked count × (after ≡ take count (drop asked.place bs) ++ drop count before)

-- the answer to a read that is not refused, with the buffer before and after
abbrev pub Answers : Option (List ℕ) → Request → Option ℕ → List ℕ → List ℕ → Type 0
Answers content asked None before after = (content ≡ None) × (after ≡ before)
Answers content asked (Some count) before after = Brings content asked count before after

-- The outcome of a read, with the buffer before and after: a malformed read is refused with 7, a well-formed one only with 6,
-- and `ChosenLoss` says when. A refusal leaves the buffer.
abbrev pub Reads : Option (List ℕ) → Request → Answer → List ℕ → List ℕ → Type 0
Reads content asked (Err fault) before after =
    Unless 7 (WellFormed asked before) (Under 6 (λ _. ⊤) no_other) (of_fault fault)
    × (after ≡ before)
Reads content asked (Ok answer) before after =
    WellFormed asked before × Answers content asked answer before after
