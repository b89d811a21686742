-- What a sheet shows, and what its calls do to it.
use Rattle.std.specs.Prelude.{◌≡◌, ℕ, ◌<◌, ◌≤◌, Bool, true, false, ◌||◌, List, map, ◌==◌, if◌then◌else◌}
use Rattle.card.specs.Sets.{has}
use Rattle.card.specs.Cases.{HasLine, all_lines}
use Rattle.card.specs.Sheets.{CardLines, count, passing, failing, unapplied, blocked}
use Rattle.card.specs.declared.line.Line.{Line}
use Rattle.card.specs.declared.line.Line.TheVariants.{Open}
use Rattle.sheet.specs.Tables.{line_in}
use Rattle.sheet.specs.declared.sheet.Sheet.{Sheet}
use Rattle.sheet.specs.declared.tally.Tally.{Tally}

-- the line of a case and a file on a sheet
abbrev pub line_on : Sheet → CardLines
line_on sheet case file = line_in sheet.lines case file

-- whether a file counts as judged
abbrev pub is_judged : Sheet → ℕ → Bool
is_judged sheet file = has sheet.judged.bits file

-- every line is open, and no file is judged
pub record Blank (sheet : Sheet) : Type 0 where
  pub lines : (case file : ℕ) → HasLine case file → line_on sheet case file ≡ Open
  pub judged : (file : ℕ) → is_judged sheet file ≡ false

-- The lines of one file are these, by case, and the file counts as judged; all other lines are as they were, and no other file
-- counts as judged for it.
pub record Written (file : ℕ) (lines : ℕ → Line) (sheet sheet' : Sheet) : Type 0 where
  pub each : (case other : ℕ) → HasLine case other
      → line_on sheet' case other ≡ (if other == file then lines case else line_on sheet case other)
  pub judged : (other : ℕ) → is_judged sheet' other ≡ (other == file || is_judged sheet other)

-- the lines of a sheet in the order of the list of all lines
abbrev pub table_of : Sheet → List Line
table_of sheet = map (λ at. line_on sheet at.0 at.1) all_lines

-- every file of a card is among those that a test picks
abbrev pub Complete : (ℕ → Bool) → Type 0
Complete picks = (file : ℕ) → file ≤ 17 → picks file ≡ true

-- the lowest file that is not among them
pub record LowestMissing (picks : ℕ → Bool) (lowest : ℕ) : Type 0 where
  pub card : lowest ≤ 17
  pub missing : picks lowest ≡ false
  pub below : (file : ℕ) → file < lowest → picks file ≡ true

-- the lines counted by their state; an open one is in no count
pub record IsTally (lines : CardLines) (tally : Tally) : Type 0 where
  pub pass : tally.pass ≡ count passing lines
  pub fail : tally.fail ≡ count failing lines
  pub not_applicable : tally.not_applicable ≡ count unapplied lines
  pub blocked : tally.blocked ≡ count blocked lines
