-- The lines of cases 9 to 20 do not fail exactly if the zone is right.
use Rattle.std.proofs.Common.{ℕ, List, IfSome, Some, None, Option}
use Rattle.card.specs.declared.line.Line.{Line}
use Rattle.zone.specs.Fields.{ZoneCharacters, Optional}
use Rattle.zone.specs.Lines.{IsOptionalLine, AreFieldLines}
use Rattle.zone.specs.declared.layout.Span.{Span}
use Rattle.zone.specs.declared.layout.Places.{Places}
use Rattle.zone.specs.declared.lines.ZoneLines.{ZoneLines}
use Rattle.record.specs.Clean.{Clean, CleanZone}
use Rattle.record.proofs.Gates.{passes, clean, unused}
use Rattle.record.proofs.ZoneFields.{Right}

optional_passes : (optional : Option Span) (place : ℕ) (zone : List ℕ) (line : Line) → IsOptionalLine optional place zone line → Clean line
    → IfSome optional (Optional zone)
optional_passes None place zone line s c = tt
optional_passes (Some span) place zone line s c = passes line _ _ s c

optional_clean : (optional : Option Span) (place : ℕ) (zone : List ℕ) (line : Line) → IsOptionalLine optional place zone line
    → IfSome optional (Optional zone) → Clean line
optional_clean None place zone line s r = unused s
optional_clean (Some span) place zone line s r = clean line _ _ s r

module _ (p : Places) (place : ℕ) (zone : List ℕ) (lines : ZoneLines) (s : AreFieldLines p place zone lines) where
  pub lines_right : ZoneCharacters zone → CleanZone lines → Right p zone
  lines_right characters c = record {
    characters = characters;
    code = passes lines.code _ _ s.code c.code;
    issuer = passes lines.issuer _ _ s.issuer c.issuer;
    name = passes lines.name _ _ s.name c.name;
    number = passes lines.number _ _ s.number c.number;
    nationality = passes lines.nationality _ _ s.nationality c.nationality;
    birth = passes lines.birth _ _ s.birth c.birth;
    sex = passes lines.sex _ _ s.sex c.sex;
    expiry = passes lines.expiry _ _ s.expiry c.expiry;
    optional = optional_passes p.optional place zone lines.optional s.optional c.optional;
    composite = passes lines.composite _ _ s.composite c.composite;
  }

  pub right_lines : Clean lines.zone → Clean lines.characters → Right p zone → CleanZone lines
  right_lines first second r = record {
    zone = first;
    characters = second;
    code = clean lines.code _ _ s.code r.code;
    issuer = clean lines.issuer _ _ s.issuer r.issuer;
    name = clean lines.name _ _ s.name r.name;
    number = clean lines.number _ _ s.number r.number;
    nationality = clean lines.nationality _ _ s.nationality r.nationality;
    birth = clean lines.birth _ _ s.birth r.birth;
    sex = clean lines.sex _ _ s.sex r.sex;
    expiry = clean lines.expiry _ _ s.expiry r.expiry;
    optional = optional_clean p.optional place zone lines.optional s.optional r.optional;
    composite = clean lines.composite _ _ s.composite r.composite;
  }
