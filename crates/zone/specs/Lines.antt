-- What the lines of cases 9 to 20 of DG1 say.
use Rattle.std.specs.Prelude.{◌≡◌, ℕ, ◌+◌, List, Some, None, Option, MatchOption, slice_index}
use Rattle.card.specs.Lines.{Says, Gates}
use Rattle.card.specs.declared.line.Line.{Line}
use Rattle.card.specs.declared.line.Line.TheVariants.{NotApplicable, Blocked}
use Rattle.card.specs.declared.profile.Profile.{Profile}
use Rattle.text.specs.Names.{Name}
use Rattle.zone.specs.Layouts.{part, layout_of}
use Rattle.zone.specs.Contents.{HoldsZone, zone_place}
use Rattle.zone.specs.Fields.{ZoneCharacters, FirstOther, Code, State, Number, Dated, Sex, Optional, Composite}
use Rattle.zone.specs.declared.layout.Span.{Span}
use Rattle.zone.specs.declared.layout.Places.{Places}
use Rattle.zone.specs.declared.lines.ZoneLines.{ZoneLines}

-- the line of case 19 where the own cases are not judged and the others are this one: not applicable where the layout
-- has no digit for the optional field
abbrev pub optional_unjudged : Line → Option Span → Line
optional_unjudged line None = NotApplicable
optional_unjudged line (Some s) = line

-- the lines where the own cases are not judged, under a layout: each is this one, but for a case 19 that does not apply
abbrev pub unjudged_under : Line → Places → ZoneLines
unjudged_under line p = record {
  zone = line;
  characters = line;
  code = line;
  issuer = line;
  name = line;
  number = line;
  nationality = line;
  birth = line;
  sex = line;
  expiry = line;
  optional = optional_unjudged line p.optional;
  composite = line;
}

-- the same under the layout of a profile
abbrev pub zone_unjudged : Line → Profile → ZoneLines
zone_unjudged line profile = unjudged_under line (layout_of profile)

-- Case 19, over a zone that stands at this place: it applies where the layout has a check digit for the optional field,
-- and fails at that field.
abbrev pub IsOptionalLine : Option Span → ℕ → List ℕ → Line → Type 0
IsOptionalLine optional place zone line = MatchOption optional (line ≡ NotApplicable)
    (λ s. Says line (Optional zone s) (λ at. at ≡ place + s.start))

-- Cases 11 to 20, over a zone that stands at this place: each fails at its field, case 20 at the composite.
pub record AreFieldLines (p : Places) (place : ℕ) (zone : List ℕ) (lines : ZoneLines) : Type 0 where
  pub code : Says lines.code (Code p.passport (part zone p.code)) (λ at. at ≡ place + p.code.start)
  pub issuer : Says lines.issuer (State (part zone p.issuer)) (λ at. at ≡ place + p.issuer.start)
  pub name : Says lines.name (Name (part zone p.name)) (λ at. at ≡ place + p.name.start)
  pub number : Says lines.number (Number zone p.number) (λ at. at ≡ place + p.number.start)
  pub nationality : Says lines.nationality (State (part zone p.nationality))
      (λ at. at ≡ place + p.nationality.start)
  pub birth : Says lines.birth (Dated zone p.birth) (λ at. at ≡ place + p.birth.start)
  pub sex : Says lines.sex (Sex (slice_index zone p.sex)) (λ at. at ≡ place + p.sex)
  pub expiry : Says lines.expiry (Dated zone p.expiry) (λ at. at ≡ place + p.expiry.start)
  pub optional : IsOptionalLine p.optional place zone lines.optional
  pub composite : Says lines.composite (Composite zone p.cover p.composite)
      (λ at. at ≡ place + p.composite)

-- Cases 11 to 20 where case 9 or 10 failed.
pub record FieldsBlocked (p : Places) (lines : ZoneLines) : Type 0 where
  pub code : lines.code ≡ Blocked
  pub issuer : lines.issuer ≡ Blocked
  pub name : lines.name ≡ Blocked
  pub number : lines.number ≡ Blocked
  pub nationality : lines.nationality ≡ Blocked
  pub birth : lines.birth ≡ Blocked
  pub sex : lines.sex ≡ Blocked
  pub expiry : lines.expiry ≡ Blocked
  pub optional : lines.optional ≡ optional_unjudged Blocked p.optional
  pub composite : lines.composite ≡ Blocked

-- Cases 10 to 20, over a zone that stands at this place. Case 10 fails at the first byte that is no letter, digit or
-- filler, and blocks the others.
abbrev pub AreCharacterLines : Places → ℕ → List ℕ → ZoneLines → Type 0
AreCharacterLines p place zone lines =
    Gates lines.characters (ZoneCharacters zone)
    (λ at. (k : ℕ) × FirstOther zone k × (at ≡ place + k))
    (λ _. AreFieldLines p place zone lines)
    (FieldsBlocked p lines)

-- Cases 9 to 20 under a layout, over the template's value, which stands at this place. Case 9 fails there, and blocks the
-- others.
abbrev pub AreLayoutLines : Places → ℕ → List ℕ → ZoneLines → Type 0
AreLayoutLines p place template lines =
    Gates lines.zone (HoldsZone p.len template) (λ at. at ≡ place)
    (λ h. AreCharacterLines p (zone_place place h) h.zone lines)
    ((lines.characters ≡ Blocked) × FieldsBlocked p lines)

-- The same under the layout of a profile.
abbrev pub AreZoneLines : Profile → ℕ → List ℕ → ZoneLines → Type 0
AreZoneLines profile = AreLayoutLines (layout_of profile)
