-- DG1: no line fails exactly when lawful fields write the file, and only those of one kind do; a changed digit shows.
use Rattle.std.specs.Prelude.{◌≡◌, ℕ, true, List, Option}
use Rattle.card.specs.Cards.{Short}
use Rattle.card.specs.Profiles.{kind_of}
use Rattle.card.specs.declared.profile.Kind.{Kind}
use Rattle.card.specs.declared.profile.Profile.{Profile}
use Rattle.cases.specs.Files.{ZoneFile}
use Rattle.cases.specs.declared.structure.Structure.{Structure}
use Rattle.zone.specs.declared.lines.ZoneLines.{ZoneLines}
use Rattle.record.specs.Clean.{CleanStructure, CleanZone}
use Rattle.record.specs.Laws.{Iff, Fits}
use Rattle.record.specs.Zones.{Fields}
use Rattle.record.specs.ZoneWriting.{WritesZone}
use Rattle.record.specs.Digits.{DigitChanged}

-- What holds of DG1, absent or of at most 32,767 bytes, and of its lines. It is required under every profile. Its bytes
-- tell the kind too.
pub record ZoneLaws : Type 0 where
  pub zone_clean_exactly_when_written :
      (profile : Profile) (content : Option (List ℕ)) (lines : Structure) (zone : ZoneLines)
      → Short content → ZoneFile profile content lines zone
      → Iff (CleanStructure lines × CleanZone zone)
      (Fits (WritesZone (kind_of profile)) true content)
  pub zone_written_by_one_kind_and_fields :
      (kind other : Kind) (fields others : Fields) (bytes : List ℕ)
      → WritesZone kind fields bytes → WritesZone other others bytes
      → (kind ≡ other) × (fields ≡ others)
  pub changed_digit_is_not_written :
      (kind other : Kind) (fields others : Fields) (bytes changed : List ℕ)
      → WritesZone kind fields bytes → DigitChanged kind bytes changed
      → WritesZone other others changed → ⊥
