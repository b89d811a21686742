-- Worked rows: what the definitions give for short files, for numbers and dates with their check digits, and for a
-- composite.
use Rattle.std.specs.Prelude.{◌≡◌, ℕ, true, List, [], ◌∷◌, ◌++◌, Some, codes}
use Rattle.card.specs.Profiles.{declares}
use Rattle.card.specs.declared.line.Line.{Line}
use Rattle.card.specs.declared.line.Line.TheVariants.{Pass, Fail}
use Rattle.card.specs.declared.profile.Profile.{Profile}
use Rattle.text.specs.Digits.{check_digit_of}
use Rattle.zone.specs.Fields.{Number, Dated}
use Rattle.zone.specs.Layouts.{span}
use Rattle.cases.specs.Verdicts.{Verdict}

-- under every profile that declares the file, these bytes have this line of the case
abbrev pub Gives : ℕ → List ℕ → ℕ → Line → Type 0
Gives file bytes case line = (profile : Profile) → declares profile file ≡ true
    → Verdict profile file (Some bytes) case line

-- a number of nine characters, with the character behind it
abbrev pub Nine : List ℕ → Type 0
Nine characters = Number characters (span 0 9)

-- a date, with the character behind it
abbrev pub Six : List ℕ → Type 0
Six characters = Dated characters (span 0 6)

-- short files: DG13 at case 2, and DG15 at case 3; there is a profile that declares both
pub record StructureRows : Type 0 where
  pub profile : Profile
  pub declares_both : (declares profile 13 ≡ true) × (declares profile 15 ≡ true)
  pub empty_template : Gives 13 (0x6D ∷ 0x00 ∷ []) 2 Pass
  pub length_80 : Gives 13 (0x6D ∷ 0x80 ∷ []) 2 (Fail 1)
  pub ends_early : Gives 13 (0x6D ∷ 0x01 ∷ 0x00 ∷ 0x00 ∷ []) 2 (Fail 3)
  pub ends_late : Gives 13 (0x6D ∷ 0x02 ∷ 0x00 ∷ []) 2 (Fail 3)
  pub tiled : Gives 15 (0x6F ∷ 0x02 ∷ 0x30 ∷ 0x00 ∷ []) 3 Pass
  pub passes_the_end : Gives 15 (0x6F ∷ 0x02 ∷ 0x30 ∷ 0x01 ∷ []) 3 (Fail 2)

-- numbers and dates with their check digits, and a composite
pub record ZoneRows : Type 0 where
  pub number_with_6 : Nine (codes "L898902C36")
  pub number_with_7 : Nine (codes "D231458907")
  pub number_with_filler : Nine (codes "D23145890<") → ⊥
  pub date_with_2 : Six (codes "7408122")
  pub leap_day : Six (codes "0002299")
  pub no_leap_day : (digit : ℕ) → Six (codes "010229" ++ (digit ∷ [])) → ⊥
  pub composite : check_digit_of
      (codes "L898902C36" ++ (codes "7408122" ++ codes "1204159ZE184226B<<<<<1")) ≡ 0

-- all rows, as one fact
pub record Rows : Type 0 where
  pub structure : StructureRows
  pub zone : ZoneRows
