-- A zone is right exactly if lawful fields write it, and no two fields write the same zone.
use Rattle.std.proofs.Common.{◌≡◌, ℕ, ◌-◌, ◌<◌, List, [], ◌∷◌, length, get_or, IfSome, sym, refl, ap, ◌∙◌, subst, arith, take_all}
use Rattle.card.specs.declared.profile.Kind.{Kind}
use Rattle.text.specs.Dates.{Date}
use Rattle.text.specs.Names.{Name}
use Rattle.zone.specs.Fields.{ZoneCharacters, Code, State, RightDigit, Number, Dated, Sex, Optional, Composite}
use Rattle.zone.specs.Layouts.{places_of, part, covered, Within}
use Rattle.zone.specs.declared.layout.Places.{Places}
use Rattle.record.specs.Zones.{Field, code, issuer, name, number, nationality, birth, sex, expiry, first_optional, second_optional}
use Rattle.record.specs.Zones.{UnusedDigit, Fields, characters_of, field_span, RightlyTold, LawfulFields}
use Rattle.record.specs.ZoneWriting.{CheckedField, of_number, of_birth, of_expiry, checked, Slot, field, digit, optional_digit, composite}
use Rattle.record.specs.ZoneWriting.{order, covered_slots, check_character, write_optional_digit, write_slot, covered_characters, composite_character, write_zone}
use Rattle.record.proofs.Slots.{all_of, chain_within, joined_same, joined_parts, parts_joined, joined_length, joined_characters}
use Rattle.record.proofs.Slots.{one, one_is, part_first, part_length, part_characters}
use Rattle.record.proofs.Optionals.{told, meets, told_once, told_length, check_is_character, told_characters}
use Rattle.record.proofs.Layouts.{slot_span, cut, Laid}

-- what cases 10 to 20 ask of a zone
pub record Right (p : Places) (zone : List ℕ) : Type 0 where
  pub characters : ZoneCharacters zone
  pub code : Code p.passport (part zone p.code)
  pub issuer : State (part zone p.issuer)
  pub name : Name (part zone p.name)
  pub number : Number zone p.number
  pub nationality : State (part zone p.nationality)
  pub birth : Dated zone p.birth
  pub sex : Sex (get_or zone p.sex 0)
  pub expiry : Dated zone p.expiry
  pub optional : IfSome p.optional (Optional zone)
  pub composite : Composite zone p.cover p.composite

-- what is written into each slot of the whole zone
abbrev slots : Kind → Fields → Slot → List ℕ
slots kind fields = write_slot kind fields (composite_character kind fields ∷ [])

-- the slots of a zone hold what is written into them, where this is written for the composite
abbrev Filled : Kind → Fields → List ℕ → List ℕ → Type 0
Filled kind fields whole zone = (s : Slot) → cut kind zone s ≡ write_slot kind fields whole s

slot_width : (kind : Kind) (fields : Fields) → LawfulFields kind fields → (s : Slot)
    → length (slots kind fields s) ≡ (slot_span kind s).end - (slot_span kind s).start
slot_width kind fields h (field f) = h.widths f
slot_width kind fields h (digit f) = omega arith
slot_width kind fields h optional_digit = omega (arith, told_length (places_of kind).optional fields.unused_digit fields.first_optional)
slot_width kind fields h composite = omega arith

slot_characters : (kind : Kind) (fields : Fields) → LawfulFields kind fields → (s : Slot) → ZoneCharacters (slots kind fields s)
slot_characters kind fields h (field f) = h.characters f
slot_characters kind fields h (digit f) = check_is_character (characters_of fields (checked f))
slot_characters kind fields h optional_digit = told_characters (places_of kind).optional fields.unused_digit fields.first_optional
slot_characters kind fields h composite = check_is_character (covered_characters kind fields)

-- fields by their characters
abbrev fields_of : (Field → List ℕ) → UnusedDigit → Fields
fields_of t u = record {
  code = t code;
  issuer = t issuer;
  name = t name;
  number = t number;
  nationality = t nationality;
  birth = t birth;
  sex = t sex;
  expiry = t expiry;
  first_optional = t first_optional;
  second_optional = t second_optional;
  unused_digit = u;
}

characters_are : (t : Field → List ℕ) (u : UnusedDigit) (f : Field) → t f ≡ characters_of (fields_of t u) f
characters_are t u code = refl
characters_are t u issuer = refl
characters_are t u name = refl
characters_are t u number = refl
characters_are t u nationality = refl
characters_are t u birth = refl
characters_are t u sex = refl
characters_are t u expiry = refl
characters_are t u first_optional = refl
characters_are t u second_optional = refl

-- fields with the same characters, of which the same is said, are the same
same_fields : (f g : Fields) → ((k : Field) → characters_of f k ≡ characters_of g k) → f.unused_digit ≡ g.unused_digit → f ≡ g
same_fields f g e d = λ i. fields_of (λ k. e k i) (d i)

module _ (kind : Kind) (law : Laid kind) where
  covered_same : (fields : Fields) (whole zone : List ℕ) → Filled kind fields whole zone
      → covered zone (places_of kind).cover ≡ covered_characters kind fields
  covered_same fields whole zone h =
      let t = write_slot kind fields whole in
      law.cover zone ∙ joined_same (cut kind zone) t (covered_slots kind) (all_of (λ s. cut kind zone s ≡ t s) h (covered_slots kind)) ∙ law.apart fields whole

  -- a zone whose slots are filled is what is written
  filled : (fields : Fields) (zone : List ℕ) → length zone ≡ (places_of kind).len → Filled kind fields (composite_character kind fields ∷ []) zone
      → write_zone kind fields ≡ zone
  filled fields zone n h =
      let t = slots kind fields in
      sym (joined_same (cut kind zone) t (order kind) (all_of (λ s. cut kind zone s ≡ t s) h (order kind)))
      ∙ joined_parts (slot_span kind) zone (order kind) 0 (places_of kind).len law.chain
      ∙ take_all ((places_of kind).len - 0) zone (omega arith)

  -- lawful fields write a zone that is right
  module _ (fields : Fields) (h : LawfulFields kind fields) where
    abbrev zone : List ℕ
    zone = write_zone kind fields

    pub zone_length : length zone ≡ (places_of kind).len
    zone_length =
        let e = joined_length (slot_span kind) (slots kind fields) (slot_width kind fields h) (order kind) 0 (places_of kind).len law.chain in
        omega arith

    fills : Filled kind fields (composite_character kind fields ∷ []) zone
    fills =
        law.every (λ s. cut kind zone s ≡ slots kind fields s)
        (parts_joined (slot_span kind) (slots kind fields) (slot_width kind fields h) zone [] (order kind) 0 (places_of kind).len refl law.chain refl)

    right_digit : (f : CheckedField) → RightDigit zone (field_span kind (checked f))
    right_digit f =
        one_is zone (field_span kind (checked f)).end (check_character (characters_of fields (checked f))) (fills (digit f))
        ∙ ap check_character (sym (fills (field (checked f))))

    first_character : (f : Field) → (field_span kind f).start < (field_span kind f).end
        → get_or (characters_of fields f) 0 0 ≡ get_or zone (field_span kind f).start 0
    first_character f l = ap (λ xs. get_or xs 0 0) (sym (fills (field f))) ∙ part_first zone (field_span kind f) l

    pub right : Right (places_of kind) zone
    right =
        let p = places_of kind in
        let c = composite_character kind fields in
        record {
          characters = joined_characters (slots kind fields) (slot_characters kind fields h) (order kind);
          code = subst (Code p.passport) (sym (fills (field code))) h.code;
          issuer = subst State (sym (fills (field issuer))) h.issuer;
          name = subst Name (sym (fills (field name))) h.name;
          number = (λ e. h.number (first_character number law.number ∙ e), right_digit of_number);
          nationality = subst State (sym (fills (field nationality))) h.nationality;
          birth = (subst Date (sym (fills (field birth))) h.birth, right_digit of_birth);
          sex = subst Sex (first_character sex (omega arith)) h.sex;
          expiry = (subst Date (sym (fills (field expiry))) h.expiry, right_digit of_expiry);
          optional = meets p.optional fields.unused_digit zone fields.first_optional (field_span kind first_optional) law.optional
              (fills (field first_optional)) (fills optional_digit) h.unused_digit;
          composite = one_is zone p.composite c (fills composite) ∙ ap check_character (sym (covered_same fields (c ∷ []) zone fills));
        }

  -- a zone that is right is written by the fields that are read off it
  module _ (zone : List ℕ) (n : length zone ≡ (places_of kind).len) (h : Right (places_of kind) zone) where
    within : (s : Slot) → Within (length zone) (slot_span kind s)
    within s =
        rw n (law.every (λ t. Within (places_of kind).len (slot_span kind t))
        (chain_within (slot_span kind) (order kind) 0 (places_of kind).len law.chain) s)

    said : (u : UnusedDigit) × RightlyTold (places_of kind).optional u (cut kind zone (field first_optional))
        × (cut kind zone optional_digit ≡ write_optional_digit (places_of kind).optional u (cut kind zone (field first_optional)))
    said = told (places_of kind).optional zone (field_span kind first_optional) law.optional h.optional (within optional_digit).1

    abbrev read : Fields
    read = fields_of (λ f. cut kind zone (field f)) said.0

    read_is : (f : Field) → cut kind zone (field f) ≡ characters_of read f
    read_is f = characters_are (λ k. cut kind zone (field k)) said.0 f

    read_digit : (f : CheckedField) → RightDigit zone (field_span kind (checked f))
    read_digit of_number = h.number.1
    read_digit of_birth = h.birth.1
    read_digit of_expiry = h.expiry.1

    read_fills : (c : ℕ) → cut kind zone composite ≡ c ∷ [] → Filled kind read (c ∷ []) zone
    read_fills c e (field f) = read_is f
    read_fills c e (digit f) =
        one zone (field_span kind (checked f)).end (omega (arith, (within (digit f)).1))
        ∙ ap (λ x. x ∷ []) (read_digit f ∙ ap check_character (read_is (checked f)))
    read_fills c e optional_digit = said.2
    read_fills c e composite = e

    read_lawful : LawfulFields kind read
    read_lawful = record {
      widths = λ f. ap length (sym (read_is f)) ∙ part_length zone (field_span kind f) (within (field f));
      characters = λ f. subst ZoneCharacters (read_is f) (part_characters zone (field_span kind f) (within (field f)) h.characters);
      code = h.code;
      issuer = h.issuer;
      name = h.name;
      number = λ e. h.number.0 (sym (part_first zone (places_of kind).number law.number) ∙ e);
      nationality = h.nationality;
      birth = h.birth.0;
      sex = subst Sex (sym (part_first zone (field_span kind sex) (omega arith))) h.sex;
      expiry = h.expiry.0;
      unused_digit = said.1;
    }

    pub written : (fields : Fields) × LawfulFields kind fields × (write_zone kind fields ≡ zone)
    written =
        let d = get_or zone (places_of kind).composite 0 in
        let e = one zone (places_of kind).composite (omega (arith, (within composite).1)) in
        let c : d ≡ composite_character kind read = h.composite ∙ ap check_character (covered_same read (d ∷ []) zone (read_fills d e)) in
        (read, read_lawful, filled read zone n (read_fills (composite_character kind read) (e ∙ ap (λ x. x ∷ []) c)))

  -- fields that write the same zone are the same
  pub one_fields : (f g : Fields) → LawfulFields kind f → LawfulFields kind g → write_zone kind f ≡ write_zone kind g → f ≡ g
  one_fields f g p q e =
      let o = (places_of kind).optional in
      let same : (s : Slot) → slots kind f s ≡ slots kind g s = λ s. sym (fills f p s) ∙ ap (λ z. cut kind z s) e ∙ fills g q s in
      let t : f.first_optional ≡ g.first_optional = same (field first_optional) in
      same_fields f g (λ k. same (field k)) (told_once o f.unused_digit g.unused_digit f.first_optional p.unused_digit
      (subst (RightlyTold o g.unused_digit) (sym t) q.unused_digit) (same optional_digit ∙ ap (write_optional_digit o g.unused_digit) (sym t)))
