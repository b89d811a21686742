-- What reading a whole file may answer.
use Rattle.std.specs.Prelude.{◌≡◌, ℕ, ◌<◌, ◌≤◌, Bool, true, false, List, length, take, Some, None, Ok, Err, Option, Result, ⊤}
use Rattle.card.specs.Cards.{content}
use Rattle.card.specs.Refusals.{Unless, Under, no_other, value}
use Rattle.source.specs.Numbers.{of_whole}
use Rattle.source.specs.Reads.{laid}
use Rattle.source.specs.declared.whole.WholeRefusal.{WholeRefusal}
use Rattle.source.specs.declared.whole.WholeRefusal.TheVariants.{NoFile, ShortBuffer, Lost}

-- what reading a whole file answers: how many bytes it has, `None` where it is absent
abbrev pub WholeAnswer : Type 0
WholeAnswer = Result (Option ℕ) WholeRefusal

-- a file of a card, and a buffer that the longest file fits into
abbrev pub Ready : ℕ → List ℕ → Type 0
Ready file buffer = (file ≤ 17) × (32767 ≤ length buffer)

-- the file is laid over the start of the buffer; an absent one leaves the buffer as it was
abbrev pub BufferHolds : Option (List ℕ) → Option ℕ → List ℕ → List ℕ → Type 0
BufferHolds None None before after = after ≡ before
BufferHolds None (Some count) before after = ⊥
BufferHolds (Some bs) None before after = ⊥
BufferHolds (Some bs) (Some count) before after = (count ≡ length bs) × (after ≡ laid bs before)

-- how many bytes can have been received before the link was lost
abbrev pub Received : List ℕ → ℕ → Type 0
Received bs count = (count ≤ length bs) × (count < 32767)

-- The outcome of reading a whole file, with the buffer before and after. On a refusal the buffer's start has what was
-- received until then.
abbrev pub Wholly : Option (List ℕ) → ℕ → WholeAnswer → List ℕ → List ℕ → Type 0
Wholly file number (Err refusal) before after =
    Unless 2 (number ≤ 17) (Unless 3 (32767 ≤ length before)
    (Under 6 (Received (content file)) no_other)) (of_whole refusal)
    × (after ≡ laid (take (value (of_whole refusal)) (content file)) before)
Wholly file number (Ok answer) before after =
    Ready number before × BufferHolds file answer before after

-- Whether the link is lost, before and after: no file is answered over a link that was lost before, a refusal for the loss
-- leaves the link lost, with no byte received where it was lost before, and the other refusals leave it as it was.
abbrev pub WholeLoss : Bool → Bool → WholeAnswer → Type 0
WholeLoss lost lost' (Ok answer) = lost ≡ false
WholeLoss lost lost' (Err (NoFile file)) = lost' ≡ lost
WholeLoss lost lost' (Err (ShortBuffer size)) = lost' ≡ lost
WholeLoss lost lost' (Err (Lost received loss)) = (lost' ≡ true) × (lost ≡ true → received ≡ 0)

-- a refusal names the file that no card has, or the size of the buffer that is too short
abbrev pub WholeNames : ℕ → List ℕ → WholeAnswer → Type 0
WholeNames number buffer (Ok answer) = ⊤
WholeNames number buffer (Err (NoFile file)) = file ≡ number
WholeNames number buffer (Err (ShortBuffer size)) = size ≡ length buffer
WholeNames number buffer (Err (Lost received loss)) = ⊤
