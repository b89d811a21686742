-- How reading a whole file comes out of the answers of its reads.
use Rattle.std.specs.Prelude.{ℕ, ◌+◌, ◌-◌, ◌<◌, min, Some, None, Ok, Err}
use Rattle.source.specs.Reads.{Request, request, Answer}
use Rattle.source.specs.Whole.{WholeAnswer}
use Rattle.source.specs.declared.read.Fault.TheVariants.{Lost}
use Rattle.source.specs.declared.read.Loss.{Loss}
use Rattle.source.specs.declared.whole.WholeRefusal.TheVariants.{Lost as CutOff}

-- the read that is made of a file once so many bytes are there: it begins behind them, and wants 255 bytes, or all
-- up to 32,767 if they are fewer
abbrev pub next_read : ℕ → ℕ → Request
next_read file have = request file have (min (32767 - have) 255)

-- The reads that are made of a file of which so many bytes are there, what each answered and made of the source, and what
-- comes of them; `asks` says of the read that is made once so many bytes are there what it may answer and make of the
-- source. No read follows one that brings nothing, because it answers 0 bytes, says absent or is refused with 6, and
-- none is made once 32,767 bytes are there.
pub data ReadsOn {S : Type 0} (asks : ℕ → S → Answer → S → Type 0)
    : ℕ → S → WholeAnswer → S → Type 0 where
  all_there : {s : S} → ReadsOn asks 32767 s (Ok (Some 32767)) s
  none_left : {have : ℕ} {s t : S} → have < 32767 → asks have s (Ok (Some 0)) t
      → ReadsOn asks have s (Ok (Some have)) t
  not_there : {have : ℕ} {s t : S} → have < 32767 → asks have s (Ok None) t
      → ReadsOn asks have s (Ok None) t
  refused : {have : ℕ} {s t : S} (loss : Loss) → have < 32767 → asks have s (Err (Lost loss)) t
      → ReadsOn asks have s (Err (CutOff have loss)) t
  brought : {have : ℕ} {s t u : S} {answer : WholeAnswer} (count : ℕ) → have < 32767 → 0 < count
      → asks have s (Ok (Some count)) t → ReadsOn asks (have + count) t answer u
      → ReadsOn asks have s answer u

-- the same of a file that is read from its start, over what a source's reads may answer and make of it
abbrev pub ReadsWhole : {S : Type 0} → (S → Request → Answer → S → Type 0)
    → ℕ → S → WholeAnswer → S → Type 0
ReadsWhole outcomes file s answer t =
    ReadsOn (λ have s answer t. outcomes s (next_read file have) answer t) 0 s answer t
