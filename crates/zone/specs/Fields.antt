-- When a field of the zone is right.
use Rattle.std.specs.Prelude.{◌≡◌, ℕ, ◌+◌, ◌<◌, Bool, ◌⊎◌, List, length, MatchBool, ◌≢◌, slice_index, slice_index_or}
use Rattle.text.specs.Characters.{Letter, filler, PlainCharacter, ZoneCharacter}
use Rattle.text.specs.Digits.{check_digit_of}
use Rattle.text.specs.Dates.{Date}
use Rattle.text.specs.Names.{AllFillers}
use Rattle.zone.specs.Layouts.{part, covered}
use Rattle.zone.specs.declared.layout.Span.{Span}
use Rattle.zone.specs.declared.layout.Cover.{Cover}

-- each byte of the zone is a letter, a digit or the filler
abbrev pub ZoneCharacters : List ℕ → Type 0
ZoneCharacters zone = (k : ℕ) → k < length zone → ZoneCharacter (slice_index zone k)

-- the byte at k is none of these, and all before it are
pub record FirstOther (zone : List ℕ) (k : ℕ) : Type 0 where
  pub within : k < length zone
  pub other : ZoneCharacter (slice_index zone k) → ⊥
  pub before : (j : ℕ) → j < k → ZoneCharacter (slice_index zone j)

-- the code of a passport: it begins with P (80), and behind that stands any letter or the filler
pub record PassportCode (field : List ℕ) : Type 0 where
  pub two : length field ≡ 2
  pub first : slice_index_or field 0 0 ≡ 80
  pub second : PlainCharacter (slice_index field 1)

-- the code of a card: it begins with A (65), C (67) or I (73); behind that stands the filler or any letter but V (86)
pub record CardCode (field : List ℕ) : Type 0 where
  pub two : length field ≡ 2
  pub first : (slice_index field 0 ≡ 65) ⊎ ((slice_index field 0 ≡ 67) ⊎ (slice_index field 0 ≡ 73))
  pub second : PlainCharacter (slice_index field 1)
  pub not_visa : slice_index_or field 1 0 ≡ 86 → ⊥

abbrev pub Code : Bool → List ℕ → Type 0
Code passport field = MatchBool passport (PassportCode field) (CardCode field)

-- an issuer or a nationality: three letters, or fillers in place of the last or the last two
pub record State (field : List ℕ) : Type 0 where
  pub three : length field ≡ 3
  pub first : Letter (slice_index field 0)
  pub plain : (k : ℕ) → k < 3 → PlainCharacter (slice_index field k)
  pub then_fillers : (j k : ℕ) → j < k → k < 3
      → slice_index field j ≡ filler → slice_index field k ≡ filler

-- the character behind the field is the character 0 to 9 of the field's check digit
abbrev pub RightDigit : List ℕ → Span → Type 0
RightDigit zone s = slice_index zone s.end ≡ check_digit_of (part zone s) + 48

-- a number, which does not begin with a filler, with the right check digit behind it
abbrev pub Number : List ℕ → Span → Type 0
Number zone s = (slice_index zone s.start ≢ filler) × RightDigit zone s

-- a date with the right check digit behind it
abbrev pub Dated : List ℕ → Span → Type 0
Dated zone s = Date (part zone s) × RightDigit zone s

-- M (77), F (70) or the filler
abbrev pub Sex : ℕ → Type 0
Sex c = (c ≡ 77) ⊎ ((c ≡ 70) ⊎ (c ≡ filler))

-- the check digit is right; or the whole field is fillers and a filler stands for the digit
abbrev pub Optional : List ℕ → Span → Type 0
Optional zone s =
    RightDigit zone s ⊎ ((slice_index zone s.end ≡ filler) × AllFillers (part zone s))

-- the character at this index is the check digit of all covered characters taken together
abbrev pub Composite : List ℕ → Cover → ℕ → Type 0
Composite zone cover index = slice_index zone index ≡ check_digit_of (covered zone cover) + 48
