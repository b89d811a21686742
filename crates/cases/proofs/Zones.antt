-- Cases 9 to 20 of DG1: each has one line only.
use Rattle.std.proofs.Common.{◌≡◌, ℕ, List, [], ◌∷◌, Some, None, Option, sym, ap, ◌∙◌}
use Rattle.card.specs.Cards.{template_tag_of}
use Rattle.card.specs.declared.line.Line.{Line}
use Rattle.object.proofs.Laws.{same}
use Rattle.zone.specs.Contents.{HoldsZone}
use Rattle.zone.specs.Fields.{ZoneCharacters}
use Rattle.zone.specs.Layouts.{layout_of}
use Rattle.zone.specs.Lines.{IsOptionalLine, AreFieldLines, FieldsBlocked, AreCharacterLines, AreLayoutLines}
use Rattle.zone.specs.declared.layout.Span.{Span}
use Rattle.zone.specs.declared.layout.Places.{Places}
use Rattle.zone.specs.declared.lines.ZoneLines.{ZoneLines}
use Rattle.cases.specs.Files.{ZoneFile, zone_cases}
use Rattle.card.specs.Profiles.{required}
use Rattle.card.specs.declared.profile.Profile.{Profile}
use Rattle.cases.specs.Verdicts.{Lines, structure_of, zone_of}
use Rattle.cases.proofs.Gates.{gates_once, says_at, place_is}
use Rattle.cases.proofs.FailingPlaces.{first_other_once}
use Rattle.cases.proofs.Agreeing.{Agree}
use Rattle.cases.proofs.OnceStructured.{structured_once}

-- the lines of cases 11 to 20, in their order
abbrev fields_row : ZoneLines → List Line
fields_row lines =
    lines.code ∷ lines.issuer ∷ lines.name ∷ lines.number ∷ lines.nationality ∷ lines.birth ∷ lines.sex ∷ lines.expiry ∷ lines.optional
    ∷ lines.composite ∷ []

-- and those of cases 9 to 20
abbrev row_of_zone : ZoneLines → List Line
row_of_zone lines = lines.zone ∷ lines.characters ∷ fields_row lines

-- case 19
optional_once : (optional : Option Span) (place : ℕ) (zone : List ℕ) (line other : Line) → IsOptionalLine optional place zone line
    → IsOptionalLine optional place zone other → line ≡ other
optional_once None place zone line other a b = a ∙ sym b
optional_once (Some span) place zone line other a b = says_at line other _ _ a b

module _ (p : Places) (place : ℕ) (lines others : ZoneLines) where
  -- cases 11 to 20, judged and blocked
  fields_once : (zone : List ℕ) → AreFieldLines p place zone lines → AreFieldLines p place zone others → fields_row lines ≡ fields_row others
  fields_once zone a b =
      let code = says_at lines.code others.code _ _ a.code b.code in
      let issuer = says_at lines.issuer others.issuer _ _ a.issuer b.issuer in
      let name = says_at lines.name others.name _ _ a.name b.name in
      let number = says_at lines.number others.number _ _ a.number b.number in
      let nationality = says_at lines.nationality others.nationality _ _ a.nationality b.nationality in
      let birth = says_at lines.birth others.birth _ _ a.birth b.birth in
      let sex = says_at lines.sex others.sex _ _ a.sex b.sex in
      let expiry = says_at lines.expiry others.expiry _ _ a.expiry b.expiry in
      let optional = optional_once p.optional place zone lines.optional others.optional a.optional b.optional in
      let composite = says_at lines.composite others.composite _ _ a.composite b.composite in
      cc

  blocked_once : FieldsBlocked p lines → FieldsBlocked p others → fields_row lines ≡ fields_row others
  blocked_once a b = cc

  -- cases 10 to 20
  characters_once : (zone : List ℕ) → AreCharacterLines p place zone lines → AreCharacterLines p place zone others
      → (lines.characters ≡ others.characters) × (fields_row lines ≡ fields_row others)
  characters_once zone g k =
      gates_once lines.characters others.characters (ZoneCharacters zone) _ _ _ _ _ (fields_row lines ≡ fields_row others)
      (first_other_once zone place) (λ _ _ a b. fields_once zone a b) blocked_once g k

-- cases 9 to 20 over the template's value
own_once : (p : Places) (place : ℕ) (value : List ℕ) (lines others : ZoneLines) → AreLayoutLines p place value lines → AreLayoutLines p place value others
    → row_of_zone lines ≡ row_of_zone others
own_once p place value lines others g k =
    let rows = gates_once lines.zone others.zone (HoldsZone p.len value) _ _ _ _ _
    ((lines.characters ≡ others.characters) × (fields_row lines ≡ fields_row others)) (place_is place)
    (λ h i a b.
    let e = (same i.has_zone h.has_zone).1 in
    characters_once p _ lines others h.zone a (rw e at b))
    (λ a b. (a.0 ∙ sym b.0, blocked_once p place lines others a.1 b.1))
    g k in
    cc (rows.0, rows.1.0, rows.1.1)

-- DG1
pub zone_once : (profile : Profile) (content : Option (List ℕ)) (lines others : Lines) → ZoneFile profile content (structure_of lines) (zone_of lines)
    → ZoneFile profile content (structure_of others) (zone_of others) → Agree 3 1 lines others × Agree 12 9 lines others
zone_once profile content lines others =
    structured_once (template_tag_of 1) (structure_of lines) (structure_of others) (zone_cases profile (zone_of lines)) (zone_cases profile (zone_of others)) (Agree 12 9 lines others)
    (λ place value a b. own_once (layout_of profile) place value (zone_of lines) (zone_of others) a b) (λ _ a b. ap row_of_zone (a ∙ sym b)) (required profile 1) content
