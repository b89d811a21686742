-- A digit of the zone put for another.
use Rattle.std.specs.Prelude.{◌≡◌, ℕ, ◌<◌, ◌≤◌, ◌⊎◌, List, slice_index, slice_set}
use Rattle.card.specs.declared.line.Line.TheVariants.{Pass}
use Rattle.text.specs.Characters.{Digit}
use Rattle.zone.specs.Contents.{HoldsZone}
use Rattle.zone.specs.Fields.{Composite}
use Rattle.zone.specs.declared.layout.Span.{Span}
use Rattle.zone.specs.declared.layout.Cover.{Cover}
use Rattle.zone.specs.declared.layout.Places.{Places}
use Rattle.zone.specs.declared.lines.ZoneLines.{ZoneLines}

-- i is a place of the span
abbrev pub In : Span → ℕ → Type 0
In s i = (s.start ≤ i) × (i < s.end)

-- the composite covers i
abbrev pub Covers : Cover → ℕ → Type 0
Covers cover i = In cover.first i ⊎ (In cover.second i ⊎ In cover.third i)

-- a checked place: the composite covers it, or it is the composite's own
abbrev pub CheckedPlace : Places → ℕ → Type 0
CheckedPlace p i = Covers p.cover i ⊎ (i ≡ p.composite)

-- another digit than the one that stands there, at a checked place
pub record OtherDigit (p : Places) (zone : List ℕ) (i d : ℕ) : Type 0 where
  pub place : CheckedPlace p i
  pub digit : Digit (slice_index zone i)
  pub new : Digit d
  pub other : d ≡ slice_index zone i → ⊥

-- Where case 20 passes, the composite is wrong in every zone that differs from this one in one digit at a checked place.
abbrev pub DigitChangesShow : Places → List ℕ → ZoneLines → Type 0
DigitChangesShow p template lines = lines.composite ≡ Pass
    → (h : HoldsZone p.len template) (i d : ℕ) → OtherDigit p h.zone i d
    → Composite (slice_set h.zone i d) p.cover p.composite → ⊥
