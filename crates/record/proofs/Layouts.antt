-- Where the slots of a zone stand, and what the proofs take of a kind; the three kinds have that.
use Rattle.std.proofs.Common.{◌≡◌, ℕ, ◌+◌, ◌<◌, List, [], ◌∷◌, ◌++◌, refl, lit<, rules}
use Rattle.std.specs.List.{flat_map}
use Rattle.card.specs.declared.profile.Kind.{Kind}
use Rattle.card.specs.declared.profile.Kind.TheVariants.{Td1, Td2, Td3}
use Rattle.zone.specs.Layouts.{span, places_of, part, covered, LawfulPlaces}
use Rattle.zone.specs.declared.layout.Span.{Span}
use Rattle.record.specs.Zones.{code, issuer, name, number, nationality, birth, sex, expiry, first_optional, second_optional, Fields, field_span}
use Rattle.record.specs.ZoneWriting.{CheckedField, of_number, of_birth, of_expiry, checked, Slot, field, digit, optional_digit, composite}
use Rattle.record.specs.ZoneWriting.{three_lines, two_lines, order, covered_slots, write_slot, covered_characters}
use Rattle.record.proofs.Slots.{All, Chain, joined_parts, joined_append}
use Rattle.record.proofs.Optionals.{digits, behind, IsOptional}

-- where a slot stands, and what a zone has there
abbrev pub slot_span : Kind → Slot → Span
slot_span kind (field f) = field_span kind f
slot_span kind (digit f) = behind (field_span kind (checked f)) 1
slot_span kind optional_digit = behind (field_span kind first_optional) (digits (places_of kind).optional)
slot_span kind composite = span (places_of kind).composite ((places_of kind).composite + 1)

abbrev pub cut : Kind → List ℕ → Slot → List ℕ
cut kind zone s = part zone (slot_span kind s)

-- The slots follow one another through the whole zone, and each slot is among them. The covered ones are what the layout
-- says that the composite covers, and the composite is none of them.
pub record Laid (kind : Kind) : Type 1 where
  pub every : (P : Slot → Type 0) → All P (order kind) → (s : Slot) → P s
  pub chain : Chain (slot_span kind) 0 (order kind) (places_of kind).len
  pub cover : (zone : List ℕ) → covered zone (places_of kind).cover ≡ flat_map (cut kind zone) (covered_slots kind)
  pub apart : (fields : Fields) (whole : List ℕ) → flat_map (write_slot kind fields whole) (covered_slots kind) ≡ covered_characters kind fields
  pub optional : IsOptional (places_of kind).optional (field_span kind first_optional)
  pub number : (places_of kind).number.start < (places_of kind).number.end
  pub lawful : LawfulPlaces (places_of kind)

every_three : (P : Slot → Type 0) → All P three_lines → (s : Slot) → P s
every_three P h (field code) = h.0
every_three P h (field issuer) = h.1.0
every_three P h (field number) = h.1.1.0
every_three P h (digit of_number) = h.1.1.1.0
every_three P h (field first_optional) = h.1.1.1.1.0
every_three P h optional_digit = h.1.1.1.1.1.0
every_three P h (field birth) = h.1.1.1.1.1.1.0
every_three P h (digit of_birth) = h.1.1.1.1.1.1.1.0
every_three P h (field sex) = h.1.1.1.1.1.1.1.1.0
every_three P h (field expiry) = h.1.1.1.1.1.1.1.1.1.0
every_three P h (digit of_expiry) = h.1.1.1.1.1.1.1.1.1.1.0
every_three P h (field nationality) = h.1.1.1.1.1.1.1.1.1.1.1.0
every_three P h (field second_optional) = h.1.1.1.1.1.1.1.1.1.1.1.1.0
every_three P h composite = h.1.1.1.1.1.1.1.1.1.1.1.1.1.0
every_three P h (field name) = h.1.1.1.1.1.1.1.1.1.1.1.1.1.1.0

every_two : (P : Slot → Type 0) → All P two_lines → (s : Slot) → P s
every_two P h (field code) = h.0
every_two P h (field issuer) = h.1.0
every_two P h (field name) = h.1.1.0
every_two P h (field number) = h.1.1.1.0
every_two P h (digit of_number) = h.1.1.1.1.0
every_two P h (field nationality) = h.1.1.1.1.1.0
every_two P h (field birth) = h.1.1.1.1.1.1.0
every_two P h (digit of_birth) = h.1.1.1.1.1.1.1.0
every_two P h (field sex) = h.1.1.1.1.1.1.1.1.0
every_two P h (field expiry) = h.1.1.1.1.1.1.1.1.1.0
every_two P h (digit of_expiry) = h.1.1.1.1.1.1.1.1.1.1.0
every_two P h (field first_optional) = h.1.1.1.1.1.1.1.1.1.1.1.0
every_two P h optional_digit = h.1.1.1.1.1.1.1.1.1.1.1.1.0
every_two P h (field second_optional) = h.1.1.1.1.1.1.1.1.1.1.1.1.1.0
every_two P h composite = h.1.1.1.1.1.1.1.1.1.1.1.1.1.1.0

-- three stretches, each of some slots, are what those slots hold together
stretches : (kind : Kind) (xs ys zs : List Slot) (a b c d e f : ℕ)
    → Chain (slot_span kind) a xs b → Chain (slot_span kind) c ys d → Chain (slot_span kind) e zs f
    → (zone : List ℕ) → part zone (span a b) ++ (part zone (span c d) ++ part zone (span e f)) ≡ flat_map (cut kind zone) (xs ++ (ys ++ zs))
stretches kind xs ys zs a b c d e f p q r zone =
    let x = joined_parts (slot_span kind) zone xs a b p in
    let y = joined_parts (slot_span kind) zone ys c d q in
    let z = joined_parts (slot_span kind) zone zs e f r in
    let m = joined_append (cut kind zone) ys zs in
    let n = joined_append (cut kind zone) xs (ys ++ zs) in
    cc

-- what TD2's and TD3's composite covers: the number, the birth, and the rest from the expiry on
abbrev with_digit : CheckedField → List Slot
with_digit f = field (checked f) ∷ digit f ∷ []

abbrev from_expiry : List Slot
from_expiry = field expiry ∷ digit of_expiry ∷ field first_optional ∷ optional_digit ∷ field second_optional ∷ []

pub laid : (kind : Kind) → Laid kind
laid Td1 = record {
  every = every_three;
  chain = search rules;
  cover = stretches Td1 (field number ∷ digit of_number ∷ field first_optional ∷ optional_digit ∷ with_digit of_birth)
      (with_digit of_expiry) (field second_optional ∷ []) 5 37 38 45 48 59 (search rules) (search rules) (search rules);
  apart = λ fields whole. refl;
  optional = tt;
  number = lit< tt;
  lawful = search rules;
}
laid Td2 = record {
  every = every_two;
  chain = search rules;
  cover = stretches Td2 (with_digit of_number) (with_digit of_birth) from_expiry 36 46 49 56 57 71 (search rules) (search rules) (search rules);
  apart = λ fields whole. refl;
  optional = tt;
  number = lit< tt;
  lawful = search rules;
}
laid Td3 = record {
  every = every_two;
  chain = search rules;
  cover = stretches Td3 (with_digit of_number) (with_digit of_birth) from_expiry 44 54 57 64 65 87 (search rules) (search rules) (search rules);
  apart = λ fields whole. refl;
  optional = refl;
  number = lit< tt;
  lawful = search rules;
}
