-- What a record says of the machine readable zone: its fields, without any check digit, and the rules on them.
use Rattle.std.specs.Prelude.{◌≡◌, ℕ, ◌+◌, ◌-◌, List, length, Some, None, Option, slice_index, slice_index_or}
use Rattle.card.specs.declared.profile.Kind.{Kind}
use Rattle.card.specs.declared.profile.Kind.TheVariants.{Td1, Td2, Td3}
use Rattle.text.specs.Characters.{filler}
use Rattle.text.specs.Dates.{Date}
use Rattle.text.specs.Names.{Name, AllFillers}
use Rattle.zone.specs.Fields.{ZoneCharacters, Code, State, Sex}
use Rattle.zone.specs.Layouts.{span, places_of}
use Rattle.zone.specs.declared.layout.Span.{Span}

-- the fields of a zone
pub data Field : Type 0 where
  code : Field
  issuer : Field
  name : Field
  number : Field
  nationality : Field
  birth : Field
  sex : Field
  expiry : Field
  first_optional : Field
  second_optional : Field

-- What a record says of the digit behind an optional field that is all fillers, where the layout has one: that it is a
-- filler, or 0. Of any other field it says nothing, since the field tells its digit.
pub data UnusedDigit : Type 0 where
  untold : UnusedDigit
  a_filler : UnusedDigit
  a_zero : UnusedDigit

-- the characters of each field, fillers included, and what is said of the digit of an unused optional field
pub record Fields : Type 0 where
  pub code : List ℕ
  pub issuer : List ℕ
  pub name : List ℕ
  pub number : List ℕ
  pub nationality : List ℕ
  pub birth : List ℕ
  pub sex : List ℕ
  pub expiry : List ℕ
  pub first_optional : List ℕ
  pub second_optional : List ℕ
  pub unused_digit : UnusedDigit

-- the characters of one field
abbrev pub characters_of : Fields → Field → List ℕ
characters_of fields code = fields.code
characters_of fields issuer = fields.issuer
characters_of fields name = fields.name
characters_of fields number = fields.number
characters_of fields nationality = fields.nationality
characters_of fields birth = fields.birth
characters_of fields sex = fields.sex
characters_of fields expiry = fields.expiry
characters_of fields first_optional = fields.first_optional
characters_of fields second_optional = fields.second_optional

-- where the optional fields stand; TD2 and TD3 have one, so that their second is empty
abbrev pub first_optional_span : Kind → Span
first_optional_span Td1 = span 15 30
first_optional_span Td2 = span 64 71
first_optional_span Td3 = span 72 86

abbrev pub second_optional_span : Kind → Span
second_optional_span Td1 = span 48 59
second_optional_span Td2 = span 71 71
second_optional_span Td3 = span 87 87

-- where a field stands in the zone of a kind
abbrev pub field_span : Kind → Field → Span
field_span kind code = (places_of kind).code
field_span kind issuer = (places_of kind).issuer
field_span kind name = (places_of kind).name
field_span kind number = (places_of kind).number
field_span kind nationality = (places_of kind).nationality
field_span kind birth = (places_of kind).birth
field_span kind sex = span (places_of kind).sex ((places_of kind).sex + 1)
field_span kind expiry = (places_of kind).expiry
field_span kind first_optional = first_optional_span kind
field_span kind second_optional = second_optional_span kind

-- how many characters it has there
abbrev pub width : Kind → Field → ℕ
width kind field = (field_span kind field).end - (field_span kind field).start

-- what may be said of the optional field's own digit: a filler or 0 if there is such a digit and the field is all
-- fillers, and nothing otherwise
abbrev pub RightlyTold : Option Span → UnusedDigit → List ℕ → Type 0
RightlyTold None told field = told ≡ untold
RightlyTold (Some s) untold field = AllFillers field → ⊥
RightlyTold (Some s) a_filler field = AllFillers field
RightlyTold (Some s) a_zero field = AllFillers field

-- The rules on the fields of a kind. None of them is on check digits, which writing computes.
pub record LawfulFields (kind : Kind) (fields : Fields) : Type 0 where
  pub widths : (field : Field) → length (characters_of fields field) ≡ width kind field
  pub characters : (field : Field) → ZoneCharacters (characters_of fields field)
  pub code : Code (places_of kind).passport fields.code
  pub issuer : State fields.issuer
  pub name : Name fields.name
  pub number : slice_index_or fields.number 0 0 ≡ filler → ⊥
  pub nationality : State fields.nationality
  pub birth : Date fields.birth
  pub sex : Sex (slice_index fields.sex 0)
  pub expiry : Date fields.expiry
  pub unused_digit : RightlyTold (places_of kind).optional fields.unused_digit fields.first_optional
