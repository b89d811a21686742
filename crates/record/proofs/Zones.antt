-- The laws of DG1.
use Rattle.std.proofs.Common.{◌≡◌, ℕ, ◌+◌, ◌<◌, ◌≤◌, false, cond, eqb, List, [], length, set, sym, refl, ap, ◌∙◌, subst, inr, ⊎_elim, add_assoc, arith, length-set}
use Rattle.card.specs.Cards.{template_tag_of}
use Rattle.object.specs.Objects.{Begins, LawfulTag, nests, header_size}
use Rattle.object.specs.Trees.{none}
use Rattle.object.proofs.Laws.{same, begins_long}
use Rattle.object.proofs.Trees.{tiled_plain}
use Rattle.card.specs.Profiles.{kind_of, required}
use Rattle.card.specs.declared.profile.Kind.{Kind}
use Rattle.card.specs.declared.profile.Kind.TheVariants.{Td1, Td2, Td3}
use Rattle.card.specs.declared.profile.Profile.{Profile}
use Rattle.cases.specs.Files.{zone_cases}
use Rattle.cases.specs.Structures.{Framed}
use Rattle.cases.specs.declared.structure.Structure.{Structure}
use Rattle.zone.specs.Changes.{CheckedPlace}
use Rattle.zone.specs.Contents.{HoldsZone}
use Rattle.zone.specs.Fields.{Composite}
use Rattle.zone.specs.Layouts.{places_of, LawfulPlaces}
use Rattle.zone.specs.declared.layout.Places.{Places}
use Rattle.zone.specs.declared.lines.ZoneLines.{ZoneLines}
use Rattle.zone.proofs.Changing.{change_shows}
use Rattle.record.specs.Clean.{Clean, CleanZone}
use Rattle.record.specs.Digits.{DigitChanged}
use Rattle.record.specs.Laws.{SomePart}
use Rattle.record.specs.Parts.{object}
use Rattle.record.specs.ZoneLaws.{ZoneLaws}
use Rattle.record.specs.ZoneWriting.{write_zone, zone_value, zone_form, WritesZone}
use Rattle.record.specs.Zones.{Fields, LawfulFields}
use Rattle.record.proofs.Gates.{opens, opened}
use Rattle.record.proofs.Layouts.{laid}
use Rattle.record.proofs.Present.{always}
use Rattle.record.proofs.Puts.{put_inside}
use Rattle.record.proofs.Wholes.{holds, made, through, through_back, object_alone, alone_object, object_long}
use Rattle.record.proofs.ZoneFields.{Right, right, written, zone_length, one_fields}
use Rattle.record.proofs.ZoneLines.{lines_right, right_lines}

tag_5F1F : LawfulTag 0x5F1F
tag_5F1F = inr record { small = omega arith; low = refl; second = omega arith }

plain_5F1F : nests 0x5F1F ≡ false
unfolding nests
plain_5F1F = refl

-- the template and the zone in a file that fields write
module _ (kind : Kind) (fields : Fields) (bytes : List ℕ) (w : WritesZone kind fields bytes) where
  outer : Begins bytes (template_tag_of 1) (zone_value kind fields) []
  outer = holds (zone_form kind) (omega arith) fields bytes w

  inner : Begins (zone_value kind fields) 0x5F1F (write_zone kind fields) []
  inner = object_alone 0x5F1F (write_zone kind fields) tag_5F1F (omega (arith, outer.small, object_long 0x5F1F (write_zone kind fields)))

  -- whatever zone stands in this file is the one that the fields write
  the_zone : {value zone : List ℕ} → Begins bytes (template_tag_of 1) value [] → Begins value 0x5F1F zone [] → zone ≡ write_zone kind fields
  the_zone {zone = zone} b c = (same (subst (λ v. Begins v 0x5F1F zone []) (same b outer).1 c) inner).1

module _ (profile : Profile) (lines : Structure) (zone : ZoneLines) (bytes : List ℕ) (l : length bytes ≤ 32767)
    (g : Framed (template_tag_of 1) bytes lines (zone_cases profile zone)) where
  abbrev kind : Kind
  kind = kind_of profile

  clean_written : Clean lines.template × Clean lines.tiling × CleanZone zone → SomePart (WritesZone kind) bytes
  clean_written c =
      let w = through (template_tag_of 1) bytes lines (zone_cases profile zone) g c.0 c.1 in
      let h = opens zone.zone _ _ _ _ w.3 c.2.zone in
      let k = opens zone.characters _ _ _ _ h.1 c.2.characters in
      let r = lines_right (places_of kind) _ h.0.zone zone k.1 k.0 c.2 in
      let f = written kind (laid kind) h.0.zone h.0.long r in
      let e : zone_value kind f.0 ≡ w.0 = ap (object 0x5F1F) f.2 ∙ alone_object h.0.has_zone in
      let b = subst (λ v. Begins bytes (template_tag_of 1) v []) (sym e) w.1 in
      (f.0, made (zone_form kind) (omega arith) f.0 bytes l f.1 b)

  written_clean : SomePart (WritesZone kind) bytes → Clean lines.template × Clean lines.tiling × CleanZone zone
  written_clean p =
      let fields = p.0 in
      let o = outer kind fields bytes p.1 in
      let i = inner kind fields bytes p.1 in
      let z : HoldsZone (places_of kind).len (zone_value kind fields)
      = record { zone = write_zone kind fields; has_zone = i; long = zone_length kind (laid kind) fields p.1.lawful } in
      let k = through_back (template_tag_of 1) bytes lines (zone_cases profile zone) g (zone_value kind fields) o
      (tiled_plain 15 i plain_5F1F (omega arith) (none, tt, refl)) in
      let h = opened zone.zone _ _ _ _ k.2 z in
      let r : Right (places_of kind) h.1.0.zone
      = subst (Right (places_of kind)) (sym (the_zone kind fields bytes p.1 o h.1.0.has_zone)) (right kind (laid kind) fields p.1.lawful) in
      let m = opened zone.characters _ _ _ _ h.1.1 r.characters in
      (k.0, k.1, right_lines (places_of kind) _ h.1.0.zone zone m.1.1 h.0 m.0 r)

-- the length of a zone tells its kind
abbrev kind_of_length : ℕ → Kind
kind_of_length n = cond (eqb n 90) Td1 (cond (eqb n 72) Td2 Td3)

kind_told : (kind : Kind) → kind_of_length (places_of kind).len ≡ kind
kind_told Td1 = refl
kind_told Td2 = refl
kind_told Td3 = refl

one_kind : (kind other : Kind) → (places_of other).len ≡ (places_of kind).len → other ≡ kind
one_kind kind other e = sym (kind_told other) ∙ ap kind_of_length e ∙ kind_told kind

checked_within : (p : Places) → LawfulPlaces p → (i : ℕ) → CheckedPlace p i → i < p.len
checked_within p law i c =
    let first = law.first.1 in
    let second = law.second.1 in
    let third = law.third.1 in
    let whole = law.composite in
    ⊎_elim (⊎_elim (λ h. omega (arith, h.1)) (⊎_elim (λ h. omega (arith, h.1)) (λ h. omega (arith, h.1)))) (λ e. omega arith) c

one_kind_and_fields : (kind other : Kind) (fields others : Fields) (bytes : List ℕ) → WritesZone kind fields bytes → WritesZone other others bytes
    → (kind ≡ other) × (fields ≡ others)
one_kind_and_fields kind other fields others bytes v w =
    let z = the_zone other others bytes w (outer kind fields bytes v) (inner kind fields bytes v) in
    let m = zone_length kind (laid kind) fields v.lawful in
    let n = zone_length other (laid other) others w.lawful in
    let k : other ≡ kind = one_kind kind other (sym n ∙ ap length (sym z) ∙ m) in
    let h = subst (λ j. LawfulFields j others) k w.lawful in
    (sym k, one_fields kind (laid kind) fields others v.lawful h (z ∙ ap (λ j. write_zone j others) k))

not_written : (kind other : Kind) (fields others : Fields) (bytes changed : List ℕ) → WritesZone kind fields bytes → DigitChanged kind bytes changed
    → WritesZone other others changed → ⊥
not_written kind other fields others bytes changed v x w =
    let p = places_of kind in
    let law = laid kind in
    let value = x.value in
    let zone = x.zone in
    let i = x.place in
    let new = x.digit in
    let z : zone ≡ write_zone kind fields = the_zone kind fields bytes v x.template x.inside in
    let m : length zone ≡ p.len = ap length z ∙ zone_length kind law fields v.lawful in
    let l : i < length zone = omega (arith, checked_within p law.lawful i x.other.place) in
    let s : Begins (set value (header_size 0x5F1F zone + i) new) 0x5F1F (set zone i new) [] = put_inside i new x.inside l in
    let t = put_inside (header_size 0x5F1F zone + i) new x.template (omega (arith, (begins_long x.inside).1)) in
    let e : set bytes (header_size (template_tag_of 1) value + (header_size 0x5F1F zone + i)) new ≡ changed
    = ap (λ j. set bytes j new) (sym (add_assoc (header_size (template_tag_of 1) value) (header_size 0x5F1F zone) i)) ∙ sym x.put in
    let y : set zone i new ≡ write_zone other others
    = the_zone other others changed w (subst (λ q. Begins q (template_tag_of 1) (set value (header_size 0x5F1F zone + i) new) []) e t) s in
    let n = zone_length other (laid other) others w.lawful in
    let k : other ≡ kind = one_kind kind other (sym n ∙ ap length (sym y) ∙ length-set zone i new ∙ m) in
    let before : Composite zone p.cover p.composite
    = subst (λ q. Composite q p.cover p.composite) (sym z) (right kind law fields v.lawful).composite in
    let after : Composite (set zone i new) p.cover p.composite
    = subst (λ j. Composite (set zone i new) (places_of j).cover (places_of j).composite) k
    (subst (λ q. Composite q (places_of other).cover (places_of other).composite) (sym y) (right other (laid other) others w.lawful).composite) in
    change_shows p law.lawful zone i new m x.other before after

pub zone_laws : ZoneLaws
zone_laws = record {
  zone_clean_exactly_when_written = λ profile content lines zone s h.
      always (WritesZone (kind_of profile)) (template_tag_of 1) lines (zone_cases profile zone) (CleanZone zone)
      (λ bytes l g. (clean_written profile lines zone bytes l g, written_clean profile lines zone bytes l g)) (required profile 1) content s profile.lawful.2 h;
  zone_written_by_one_kind_and_fields = one_kind_and_fields;
  changed_digit_is_not_written = not_written;
}
