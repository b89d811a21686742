-- The header of a face entry: lawful features are what one face's header writes.
use Rattle.std.proofs.Common.{◌≡◌, ℕ, ◌<◌, ◌≤◌, List, length, Some, sym, refl, ◌∙◌, subst, arith}
use Rattle.object.specs.Trees.{Tiled}
use Rattle.faces.specs.Rising.{feature_list, Has, LawfulFeatures}
use Rattle.record.specs.Faces.{Face, LawfulFace, owner, format, header_value}
use Rattle.record.proofs.Features.{Values, AllSized, written, value_of, ascends, rising_values, values_rising, values_tiled, has_value, value_has, same_value}

-- the values of a face's header, for each feature of the list
abbrev values : Face → Values feature_list
values f =
    (f.header_version, (f.biometric_type, (f.biometric_subtype, (f.creation_date, (f.validity_period, (f.creator, (Some owner, (Some format, tt))))))))

sized : (face : Face) → LawfulFace face → AllSized feature_list (values face)
sized face l =
    let two : (2 ≤ 2) × (2 ≤ 2) = (omega arith, omega arith) in
    (l.header_version, (l.biometric_type, (l.biometric_subtype, (l.creation_date, (l.validity_period, (l.creator, (two, (two, tt))))))))

pub header_lawful : (face : Face) → LawfulFace face → LawfulFeatures (header_value face)
header_lawful face l = record {
  rising = values_rising feature_list 0 (values face) ascends (sized face l);
  owner = value_has feature_list 0 (values face) ascends (sized face l) refl;
  format = value_has feature_list 0 (values face) ascends (sized face l) refl;
}

pub header_tiled : (face : Face) → LawfulFace face → Tiled 12 (header_value face)
header_tiled face l = values_tiled 12 (omega arith) feature_list 0 (values face) ascends (sized face l)

-- the face of these values and this block
abbrev face_of : Values feature_list → List ℕ → Face
face_of vs block = record {
  header_version = vs.0;
  biometric_type = vs.1.0;
  biometric_subtype = vs.1.1.0;
  creation_date = vs.1.1.1.0;
  validity_period = vs.1.1.1.1.0;
  creator = vs.1.1.1.1.1.0;
  block = block;
}

-- with the owner and the format, its header writes them
header_of : (vs : Values feature_list) (block : List ℕ) → value_of feature_list vs 0x87 ≡ Some owner → value_of feature_list vs 0x88 ≡ Some format
    → written feature_list vs ≡ header_value (face_of vs block)
header_of vs block o f = rw (o, f) refl

pub lawful_header : {bytes : List ℕ} → LawfulFeatures bytes → (block : List ℕ) → 0 < length block
    → (face : Face) × LawfulFace face × (header_value face ≡ bytes) × (face.block ≡ block)
lawful_header l block some =
    let w = rising_values feature_list 0 ascends l.rising in
    let s = w.1 in
    let o = (has_value feature_list 0 w.0 ascends s (subst (λ z. Has z 0x87 owner) (sym w.2) l.owner)).1 in
    let f = (has_value feature_list 0 w.0 ascends s (subst (λ z. Has z 0x88 format) (sym w.2) l.format)).1 in (
      face_of w.0 block,
      record {
        header_version = s.0;
        biometric_type = s.1.0;
        biometric_subtype = s.1.1.0;
        creation_date = s.1.1.1.0;
        validity_period = s.1.1.1.1.0;
        creator = s.1.1.1.1.1.0;
        block = some;
      },
      sym (header_of w.0 block o f) ∙ w.2,
      refl,
    )

-- faces whose headers and blocks are the same are the same
pub one_face : (face other : Face) → LawfulFace face → LawfulFace other → header_value face ≡ header_value other → face.block ≡ other.block → face ≡ other
one_face face other l m e b =
    let at = same_value feature_list 0 (values face) (values other) ascends (sized face l) (sized other m) e in
    let version : face.header_version ≡ other.header_version = at 0x80 in
    let type : face.biometric_type ≡ other.biometric_type = at 0x81 in
    let subtype : face.biometric_subtype ≡ other.biometric_subtype = at 0x82 in
    let date : face.creation_date ≡ other.creation_date = at 0x83 in
    let period : face.validity_period ≡ other.validity_period = at 0x85 in
    let creator : face.creator ≡ other.creator = at 0x86 in
    let all : face_of (values face) face.block ≡ face_of (values other) other.block = cc in
    all
