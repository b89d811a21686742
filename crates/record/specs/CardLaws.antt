-- What the lines of a whole card have to do with records.
use Rattle.std.specs.Prelude.{◌≡◌, ℕ, ◌≤◌, List, Some, ◌≢◌}
use Rattle.card.specs.Cards.{Files, Short}
use Rattle.card.specs.Cases.{HasLine}
use Rattle.card.specs.Profiles.{kind_of}
use Rattle.card.specs.Sheets.{CardLines}
use Rattle.card.specs.declared.profile.Kind.{Kind}
use Rattle.card.specs.declared.profile.Profile.{Profile}
use Rattle.cases.specs.Verdicts.{CardGives}
use Rattle.record.specs.Clean.{Clean}
use Rattle.record.specs.Digits.{DigitChanged}
use Rattle.record.specs.Laws.{Iff}
use Rattle.record.specs.Records.{Record, WritesCard, WrittenUnder}

-- no file is too long
abbrev pub AllShort : Files → Type 0
AllShort files = (file : ℕ) → file ≤ 17 → Short (files file)

-- no line of the card fails
abbrev pub CleanCard : CardLines → Type 0
CleanCard lines = (case file : ℕ) → HasLine case file → Clean (lines case file)

-- the cards differ in DG1 alone, and there in one digit of the zone of this kind, which stands at a checked place
pub record CardChanged (kind : Kind) (files changed : Files) : Type 0 where
  pub others : (file : ℕ) → file ≤ 17 → (file ≢ 1) → changed file ≡ files file
  pub before : List ℕ
  pub after : List ℕ
  pub zone_before : files 1 ≡ Some before
  pub zone_after : changed 1 ≡ Some after
  pub digit : DigitChanged kind before after

-- for all files and all profiles
pub record CardLaws : Type 0 where
  -- if some record of the profile writes the files, no line fails; if none does, a line fails
  pub clean_exactly_when_written :
      (profile : Profile) (files : Files) → AllShort files
      → (lines : CardLines) → CardGives profile files lines
      → Iff (CleanCard lines) (WrittenUnder profile files)
  -- records that write the same files are the same, in the profile too
  pub written_by_one_record_only :
      (r other : Record) (files : Files) → WritesCard r files → WritesCard other files → r ≡ other
  -- where a record writes the files, some line of the files with a changed digit fails, under any profile
  pub changed_digit_is_never_clean :
      (r : Record) (files changed : Files)
      → WritesCard r files → CardChanged (kind_of r.profile) files changed
      → (profile : Profile) (lines : CardLines) → CardGives profile changed lines
      → CleanCard lines → ⊥
