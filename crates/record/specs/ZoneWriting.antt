-- Writing the machine readable zone and DG1: the fields and their check digits in the order of the layout.
use Rattle.std.specs.Prelude.{ℕ, ◌+◌, List, [], ◌∷◌, Some, None, Option}
use Rattle.std.specs.List.{flat_map}
use Rattle.card.specs.declared.profile.Kind.{Kind}
use Rattle.card.specs.declared.profile.Kind.TheVariants.{Td1, Td2, Td3}
use Rattle.text.specs.Characters.{filler}
use Rattle.text.specs.Digits.{check_digit_of}
use Rattle.zone.specs.Layouts.{places_of}
use Rattle.zone.specs.declared.layout.Span.{Span}
use Rattle.record.specs.Parts.{object, Form, Writes}
use Rattle.record.specs.Zones.{Field, code, issuer, name, number, nationality, birth, sex, expiry, first_optional, second_optional}
use Rattle.record.specs.Zones.{UnusedDigit, untold, a_filler, a_zero, Fields, characters_of, LawfulFields}

-- the fields that have a check digit in every layout
pub data CheckedField : Type 0 where
  of_number : CheckedField
  of_birth : CheckedField
  of_expiry : CheckedField

-- each of them as a field
abbrev pub checked : CheckedField → Field
checked of_number = number
checked of_birth = birth
checked of_expiry = expiry

-- what stands in a zone: the fields, their digits, the optional field's own digit and the composite
pub data Slot : Type 0 where
  field : Field → Slot
  digit : CheckedField → Slot
  optional_digit : Slot
  composite : Slot

-- the order in which they stand in TD1, line by line
abbrev pub three_lines : List Slot
three_lines =
    field code ∷ field issuer ∷ field number ∷ digit of_number
    ∷ field first_optional ∷ optional_digit
    ∷ field birth ∷ digit of_birth ∷ field sex ∷ field expiry ∷ digit of_expiry ∷ field nationality
    ∷ field second_optional ∷ composite
    ∷ field name ∷ []

-- the order in which they stand in TD2 and TD3, line by line
abbrev pub two_lines : List Slot
two_lines =
    field code ∷ field issuer ∷ field name
    ∷ field number ∷ digit of_number ∷ field nationality ∷ field birth ∷ digit of_birth
    ∷ field sex ∷ field expiry ∷ digit of_expiry
    ∷ field first_optional ∷ optional_digit ∷ field second_optional ∷ composite ∷ []

-- the order of a kind
abbrev pub order : Kind → List Slot
order Td1 = three_lines
order Td2 = two_lines
order Td3 = two_lines

-- what the composite of TD1 covers, in the same order: the number, the dates and the optional fields, with their digits
abbrev pub covered_of_three_lines : List Slot
covered_of_three_lines =
    field number ∷ digit of_number ∷ field first_optional ∷ optional_digit
    ∷ field birth ∷ digit of_birth ∷ field expiry ∷ digit of_expiry ∷ field second_optional ∷ []

-- what the composite of TD2 and TD3 covers: the same in their order
abbrev pub covered_of_two_lines : List Slot
covered_of_two_lines =
    field number ∷ digit of_number ∷ field birth ∷ digit of_birth ∷ field expiry ∷ digit of_expiry
    ∷ field first_optional ∷ optional_digit ∷ field second_optional ∷ []

-- what the composite of a kind covers
abbrev pub covered_slots : Kind → List Slot
covered_slots Td1 = covered_of_three_lines
covered_slots Td2 = covered_of_two_lines
covered_slots Td3 = covered_of_two_lines

-- the character 0 to 9 of the check digit
abbrev pub check_character : List ℕ → ℕ
check_character characters = check_digit_of characters + 48

-- the optional field's own digit, in a layout that has it: the check digit, or what is said of it
abbrev pub write_optional_digit : Option Span → UnusedDigit → List ℕ → List ℕ
write_optional_digit None told characters = []
write_optional_digit (Some s) untold characters = check_character characters ∷ []
write_optional_digit (Some s) a_filler characters = filler ∷ []
write_optional_digit (Some s) a_zero characters = 48 ∷ []

-- what is written into a slot; `whole` is written for the composite
abbrev pub write_slot : Kind → Fields → List ℕ → Slot → List ℕ
write_slot kind fields whole (field f) = characters_of fields f
write_slot kind fields whole (digit f) = check_character (characters_of fields (checked f)) ∷ []
write_slot kind fields whole optional_digit =
    write_optional_digit (places_of kind).optional fields.unused_digit fields.first_optional
write_slot kind fields whole composite = whole

-- the characters that the composite covers; it is not among them itself
abbrev pub covered_characters : Kind → Fields → List ℕ
covered_characters kind fields = flat_map (write_slot kind fields []) (covered_slots kind)

-- the composite: the check character of all these taken together
abbrev pub composite_character : Kind → Fields → ℕ
composite_character kind fields = check_character (covered_characters kind fields)

-- the zone: all slots one after the other
abbrev pub write_zone : Kind → Fields → List ℕ
write_zone kind fields =
    flat_map (write_slot kind fields (composite_character kind fields ∷ [])) (order kind)

-- DG1's template holds one object 5F1F with the zone
abbrev pub zone_value : Kind → Fields → List ℕ
zone_value kind fields = object 0x5F1F (write_zone kind fields)

-- DG1: the zone of lawful fields
abbrev pub zone_form : Kind → Form Fields
zone_form kind = record { file = 1; lawful = LawfulFields kind; value = zone_value kind }

abbrev pub WritesZone : Kind → Fields → List ℕ → Type 0
WritesZone kind = Writes (zone_form kind)
