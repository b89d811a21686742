-- The characters of the machine readable zone, by their ASCII codes.
use Rattle.std.specs.Prelude.{◌≡◌, ℕ, ◌≤◌, ◌⊎◌}

-- 0 to 9
abbrev pub Digit : ℕ → Type 0
Digit c = (48 ≤ c) × (c ≤ 57)

-- A to Z
abbrev pub Letter : ℕ → Type 0
Letter c = (65 ≤ c) × (c ≤ 90)

-- <
abbrev pub filler : ℕ
filler = 60

-- a letter or the filler
abbrev pub PlainCharacter : ℕ → Type 0
PlainCharacter c = Letter c ⊎ (c ≡ filler)

-- what a zone is made of: a letter, a digit or the filler
abbrev pub ZoneCharacter : ℕ → Type 0
ZoneCharacter c = PlainCharacter c ⊎ Digit c
