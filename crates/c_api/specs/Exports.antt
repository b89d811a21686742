-- What the calls exported for C answer, and what they write.
use Rattle.std.specs.Prelude.{◌≡◌, ℕ, ◌≤◌, List, map, Some, MatchBool, ◌==◌, ◌≢◌, slice_get}
use Rattle.card.specs.Cards.{Files}
use Rattle.card.specs.Cases.{all_lines}
use Rattle.card.specs.ProfileNumbers.{LawfulProfile}
use Rattle.card.specs.Profiles.{IsProfileOf}
use Rattle.card.specs.Refusals.{Unless, Under, no_other, valued}
use Rattle.card.specs.Sheets.{CardLines, count, passing, failing, unapplied, blocked}
use Rattle.card.specs.declared.line.Line.{Line}
use Rattle.card.specs.declared.line.Line.TheVariants.{Open, Pass, Fail, NotApplicable, Blocked}
use Rattle.card.specs.declared.profile.Profile.{Profile}
use Rattle.cases.specs.Verdicts.{CardGives}
use Rattle.image.specs.Checks.{ImageOf, BrokenAt}
use Rattle.sheet.specs.Tables.{line_count}
use Rattle.sheet.specs.declared.tally.Tally.{Tally}
use Rattle.c_api.specs.declared.Counts.{Counts}

-- the number of a line's state
abbrev pub state_of : Line → ℕ
state_of Open = 0
state_of Pass = 1
state_of (Fail at) = 2
state_of NotApplicable = 3
state_of Blocked = 4

-- the place of a line that fails, 0 of any other
abbrev pub place_of : Line → ℕ
place_of Open = 0
place_of Pass = 0
place_of (Fail at) = at
place_of NotApplicable = 0
place_of Blocked = 0

-- an array has the number of each line, in the order of the list of all lines
abbrev pub NumbersLines : (Line → ℕ) → CardLines → List ℕ → Type 0
NumbersLines number lines array = array ≡ map (λ at. number (lines at.0 at.1)) all_lines

-- the four counts
pub record CountsLines (lines : CardLines) (counts : Counts) : Type 0 where
  pub pass : counts.pass ≡ count passing lines
  pub fail : counts.fail ≡ count failing lines
  pub not_applicable : counts.not_applicable ≡ count unapplied lines
  pub blocked : counts.blocked ≡ count blocked lines

-- the four counts of a tally
pub record SameCounts (tally : Tally) (counts : Counts) : Type 0 where
  pub pass : counts.pass ≡ tally.pass
  pub fail : counts.fail ≡ tally.fail
  pub not_applicable : counts.not_applicable ≡ tally.not_applicable
  pub blocked : counts.blocked ≡ tally.blocked

-- the position that comes with a refused image, before and after a call
pub record Position : Type 0 where
  pub before : ℕ
  pub after : ℕ

-- bytes that are no image are refused with 8 and where they break
abbrev pub RefusesImage : List ℕ → Position → ℕ → Type 0
RefusesImage bytes position answer =
    Under 8 (BrokenAt bytes) no_other (valued answer position.after)

-- Checking an image: 0 if it is one, else 8 with the place where it breaks.
abbrev pub ChecksImage : List ℕ → Position → ℕ → Type 0
ChecksImage bytes position answer = MatchBool (answer == 0)
    (((files : Files) × ImageOf bytes files) × (position.after ≡ position.before))
    (RefusesImage bytes position answer)

-- The case and the file of the line at an index of the arrays, before and after a call: 0 with these numbers, or 2 where there
-- is no such line, and then nothing is written.
abbrev pub NamesLine : ℕ → ℕ × ℕ → ℕ × ℕ → ℕ → Type 0
NamesLine index before after answer = MatchBool (answer == 0)
    (slice_get all_lines index ≡ Some after)
    ((answer ≡ 2) × (line_count ≤ index) × (after ≡ before))

-- what a sheet is asked for: a kind and a declared set, and the bytes of an image
pub record SheetCall : Type 0 where
  pub kind : ℕ
  pub declared : ℕ
  pub bytes : List ℕ

abbrev pub sheet_call : ℕ → ℕ → List ℕ → SheetCall
sheet_call kind declared bytes = record { kind = kind; declared = declared; bytes = bytes }

-- what the caller lends, before or after a call
pub record Lent : Type 0 where
  pub states : List ℕ
  pub places : List ℕ
  pub counts : Counts
  pub position : ℕ

-- the sheet of the image under the profile is written, and the position is as it was
pub record WritesSheet (call : SheetCall) (before after : Lent) : Type 0 where
  pub profile : Profile
  pub asked : IsProfileOf call.kind call.declared profile
  pub files : Files
  pub image : ImageOf call.bytes files
  pub lines : CardLines
  pub given : CardGives profile files lines
  pub states : NumbersLines state_of lines after.states
  pub places : NumbersLines place_of lines after.places
  pub counts : CountsLines lines after.counts
  pub position : after.position ≡ before.position

-- nothing is written, but for the position that comes with 8
pub record Untouched (before after : Lent) (answer : ℕ) : Type 0 where
  pub states : after.states ≡ before.states
  pub places : after.places ≡ before.places
  pub counts : after.counts ≡ before.counts
  pub position : (answer ≢ 8) → after.position ≡ before.position

-- Making the sheet of an image: 0 with the sheet, or a refusal; these are tried in the order 1, 8.
abbrev pub MakesSheet : SheetCall → Lent → Lent → ℕ → Type 0
MakesSheet call before after answer = MatchBool (answer == 0) (WritesSheet call before after)
    (Unless 1 (LawfulProfile call.kind call.declared)
    (Under 8 (BrokenAt call.bytes) no_other) (valued answer after.position)
    × Untouched before after answer)
