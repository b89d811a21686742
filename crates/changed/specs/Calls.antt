-- What a change does to the files, in the order in which changes come: a later setting of a place replaces an earlier
-- one, and nothing brings a removed file back. And what a changed source is, over the source below it.
use Rattle.std.specs.Prelude.{◌≡◌, ℕ, ◌<◌, ◌≤◌, Bool, if◌then◌else◌, List, length, None, Ok, Err, ◌==◌, slice_set, ⊤}
use Rattle.std.specs.Option.{option_map}
use Rattle.card.specs.Cards.{Files, Short}
use Rattle.card.specs.Refusals.{Unless, no_other}
use Rattle.source.specs.Reads.{Request, Answer}
use Rattle.changed.specs.Numbers.{of_change}
use Rattle.changed.specs.Changes.{ChangeAnswer, removed, laid_on, laid_on_short}
use Rattle.changed.specs.declared.change.Change.{Change}
use Rattle.changed.specs.declared.change.ChangeRefusal.{ChangeRefusal}
use Rattle.changed.specs.declared.change.ChangeRefusal.TheVariants.{NoFile, NoPlace, Full}
use Rattle.changed.specs.declared.changed.Changed.{Changed}

-- the files without one of them
abbrev pub without : ℕ → Files → Files
without file files k = if file == k then None else files k

-- a removal, after so many changes, with the files before and after it
abbrev pub Removes : ℕ → ℕ → Files → Files → ChangeAnswer → Type 0
Removes file count before after (Ok u) =
    (file ≤ 17) × (count < 16) × ((k : ℕ) → after k ≡ without file before k)
Removes file count before after (Err e) =
    Unless 2 (file ≤ 17) (Unless 9 (count < 16) no_other) (of_change e)

-- the byte that is to stand at a place of a file
pub record Setting : Type 0 where
  pub file : ℕ
  pub place : ℕ
  pub byte : ℕ

abbrev pub setting : ℕ → ℕ → ℕ → Setting
setting file place byte = record { file = file; place = place; byte = byte }

-- the files with this setting; `slice_set` leaves bytes as they are where the place is at or past their end
abbrev pub with_byte : Setting → Files → Files
with_byte set files k =
    if set.file == k then option_map (λ bytes. slice_set bytes set.place set.byte) (files k)
    else files k

-- a setting, after so many changes, with the files before and after it
abbrev pub Sets : Setting → ℕ → Files → Files → ChangeAnswer → Type 0
Sets set count before after (Ok u) =
    (set.file ≤ 17) × (set.place ≤ 32766) × (count < 16)
    × ((k : ℕ) → after k ≡ with_byte set before k)
Sets set count before after (Err e) =
    Unless 2 (set.file ≤ 17) (Unless 10 (set.place ≤ 32766) (Unless 9 (count < 16) no_other))
    (of_change e)

-- a refusal names the file that no card has, and the place at which no file has a byte
abbrev pub NamesFile : ℕ → ChangeRefusal → Type 0
NamesFile file (NoFile named) = named ≡ file
NamesFile file (NoPlace place) = ⊤
NamesFile file Full = ⊤

abbrev pub NamesPlace : ℕ → ChangeRefusal → Type 0
NamesPlace place (NoFile file) = ⊤
NamesPlace place (NoPlace named) = named ≡ place
NamesPlace place Full = ⊤

-- the source below a changed one, and the changes, in the order in which they came
abbrev pub below_of : {S : Type 0} → Changed S → S
below_of s = s.below

abbrev pub changes_of : {S : Type 0} → Changed S → List Change
changes_of s = s.changes.items

abbrev pub change_count : {S : Type 0} → Changed S → ℕ
change_count s = length (changes_of s)

-- its files: what the changes make of the files of the source below; none of them is too long
abbrev pub changed_files : {S : Type 0} → (S → Files) → Changed S → Files
changed_files files s = laid_on (changes_of s) (files (below_of s))

pub changed_short : {S : Type 0} (files : S → Files) → ((s : S) (f : ℕ) → Short (files s f))
    → (s : Changed S) (f : ℕ) → Short (changed_files files s f)
changed_short files short s f =
    laid_on_short (changes_of s) (files (below_of s)) f (short (below_of s) f)

-- what becomes of the answer from below: a refusal is passed on, a removed file is absent, and any other answer stays
abbrev pub passed_on : Bool → Answer → Answer
passed_on gone (Err fault) = Err fault
passed_on gone (Ok answer) = Ok (if gone then None else answer)

-- A read of a changed source makes the same read below, passes on what that answers, and leaves the changes as they are;
-- `outcomes` says what a read of the source below may answer and make of it.
abbrev pub ChangedReads : {S : Type 0} → (S → Request → Answer → S → Type 0)
    → Changed S → Request → Answer → Changed S → Type 0
ChangedReads outcomes s asked answer t =
    ((below : Answer) × outcomes (below_of s) asked below (below_of t)
    × (answer ≡ passed_on (removed (changes_of s) asked.file) below))
    × (t.changes ≡ s.changes)
