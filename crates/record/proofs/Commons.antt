-- The laws of EF.COM.
use Rattle.std.proofs.Common.{◌≡◌, ℕ, ◌<◌, ◌≤◌, List, [], ◌++◌, length, codes, sym, refl, ap, ◌∙◌, subst, arith, length-append}
use Rattle.card.specs.Cards.{template_tag_of}
use Rattle.object.specs.Objects.{Begins, LawfulTag, nests}
use Rattle.object.specs.Trees.{Tiled, none}
use Rattle.object.proofs.Laws.{same}
use Rattle.object.proofs.Trees.{tiled_plain}
use Rattle.card.specs.Profiles.{declared_set, required}
use Rattle.card.specs.declared.profile.Profile.{Profile}
use Rattle.common.specs.Contents.{HoldsCommon}
use Rattle.common.specs.declared.lines.CommonLines.{CommonLines}
use Rattle.cases.specs.Files.{common_cases}
use Rattle.cases.specs.Structures.{Framed}
use Rattle.cases.specs.declared.structure.Structure.{Structure}
use Rattle.record.specs.Clean.{Clean, CleanCommon}
use Rattle.record.specs.Parts.{object, Order, common_value, common_form, WritesCommon}
use Rattle.record.specs.Laws.{SomePart, CommonLaws}
use Rattle.record.proofs.Tags.{lawful_tag}
use Rattle.record.proofs.Gates.{passes, clean, opens, opened}
use Rattle.record.proofs.Wholes.{holds, made, through, through_back, object_alone, alone_object, begins_object, begins_is}
use Rattle.record.proofs.Present.{always}
use Rattle.record.proofs.Orders.{order_from, order_sound, order_set, one_declared}

tag_5C : LawfulTag 0x5C
tag_5C = lawful_tag 0x5C refl

tag_5F01 : LawfulTag 0x5F01
tag_5F01 = lawful_tag 0x5F01 refl

tag_5F36 : LawfulTag 0x5F36
tag_5F36 = lawful_tag 0x5F36 refl

-- what is written holds the three objects
wrote : (tags : List ℕ) → length tags < 65536 → HoldsCommon (common_value tags)
wrote tags l = record {
  version = codes "0107";
  unicode = codes "040000";
  tags = tags;
  after_version = object 0x5F36 (codes "040000") ++ object 0x5C tags;
  after_unicode = object 0x5C tags;
  has_version = begins_object 0x5F01 (codes "0107") _ tag_5F01 (omega arith);
  has_unicode = begins_object 0x5F36 (codes "040000") _ tag_5F36 (omega arith);
  has_tags = object_alone 0x5C tags tag_5C l;
}

-- and what holds the three objects is so written
holds_is : {value : List ℕ} (h : HoldsCommon value) → object 0x5F01 h.version ++ (object 0x5F36 h.unicode ++ object 0x5C h.tags) ≡ value
holds_is h =
    ap (λ r. object 0x5F01 h.version ++ (object 0x5F36 h.unicode ++ r)) (alone_object h.has_tags)
    ∙ ap (λ r. object 0x5F01 h.version ++ r) (begins_is h.has_unicode) ∙ begins_is h.has_version

holds_tiled : {value : List ℕ} → HoldsCommon value → Tiled 15 value
unfolding nests
holds_tiled h =
    tiled_plain 15 h.has_version refl (omega arith)
    (tiled_plain 15 h.has_unicode refl (omega arith) (tiled_plain 15 h.has_tags refl (omega arith) (none, tt, refl)))

holds_same : {value : List ℕ} (h k : HoldsCommon value) → (h.version ≡ k.version) × (h.unicode ≡ k.unicode) × (h.tags ≡ k.tags)
holds_same h k =
    let x = same h.has_version k.has_version in
    let y = same (rw x.2 at h.has_unicode) k.has_unicode in
    let z = same (rw y.2 at h.has_tags) k.has_tags in
    (x.1, y.1, z.1)

tags_long : (tags : List ℕ) → length tags ≤ length (common_value tags)
tags_long tags = simp length-append (omega arith)

-- two lists of tags that are written alike are the same
same_tags : (tags order : List ℕ) → length tags < 65536 → length order < 65536 → common_value tags ≡ common_value order → tags ≡ order
same_tags tags order l m e =
    let a = begins_object 0x5F01 (codes "0107") (object 0x5F36 (codes "040000") ++ object 0x5C tags) tag_5F01 (omega arith) in
    let b = begins_object 0x5F01 (codes "0107") (object 0x5F36 (codes "040000") ++ object 0x5C order) tag_5F01 (omega arith) in
    let r = (same (subst (λ z. Begins z 0x5F01 (codes "0107") (object 0x5F36 (codes "040000") ++ object 0x5C tags)) e a) b).2 in
    let c = begins_object 0x5F36 (codes "040000") (object 0x5C tags) tag_5F36 (omega arith) in
    let d = begins_object 0x5F36 (codes "040000") (object 0x5C order) tag_5F36 (omega arith) in
    let s = (same (subst (λ z. Begins z 0x5F36 (codes "040000") (object 0x5C tags)) r c) d).2 in
    (same (subst (λ z. Begins z 0x5C tags []) s (object_alone 0x5C tags tag_5C l)) (object_alone 0x5C order tag_5C m)).1

module _ (set : ℕ) (tags bytes : List ℕ) (w : WritesCommon set tags bytes) where
  outer : Begins bytes (template_tag_of 0) (common_value tags) []
  outer = holds (common_form set) (omega arith) tags bytes w

  inner : HoldsCommon (common_value tags)
  inner = wrote tags (omega (arith, outer.small, tags_long tags))

module _ (profile : Profile) (lines : Structure) (common : CommonLines) (bytes : List ℕ) (l : length bytes ≤ 32767)
    (g : Framed (template_tag_of 0) bytes lines (common_cases profile common)) where
  abbrev set : ℕ
  set = declared_set profile

  clean_written : Clean lines.template × Clean lines.tiling × CleanCommon common → SomePart (WritesCommon set) bytes
  clean_written c =
      let w = through (template_tag_of 0) bytes lines (common_cases profile common) g c.0 c.1 in
      let h = opens common.contents _ _ _ _ w.3 c.2.0 in
      let v = passes common.version _ _ h.1.0 c.2.1 in
      let u = passes common.unicode _ _ h.1.1 c.2.2 in
      let k = opens common.tags _ _ _ _ h.1.2 c.2.3 in
      let s = passes common.declared _ _ k.1 c.2.4 in
      let tags = h.0.tags in
      let e : common_value tags ≡ w.0 = ap (λ a. object 0x5F01 a ++ (object 0x5F36 (codes "040000") ++ object 0x5C tags)) (sym v)
      ∙ ap (λ b. object 0x5F01 h.0.version ++ (object 0x5F36 b ++ object 0x5C tags)) (sym u) ∙ holds_is h.0 in
      (tags, made (common_form set) (omega arith) tags bytes l (order_from set tags k.0 s) (subst (λ z. Begins bytes (template_tag_of 0) z []) (sym e) w.1))

  written_clean : SomePart (WritesCommon set) bytes → Clean lines.template × Clean lines.tiling × CleanCommon common
  unfolding inner wrote
  written_clean p =
      let tags = p.0 in
      let b = outer set tags bytes p.1 in
      let i = inner set tags bytes p.1 in
      let k = through_back (template_tag_of 0) bytes lines (common_cases profile common) g (common_value tags) b (holds_tiled i) in
      let h = opened common.contents _ _ _ _ k.2 i in
      let s = holds_same h.1.0 i in
      let m = opened common.tags _ _ _ _ h.1.1.2 (rw s.2 (order_sound set tags p.1.lawful)) in (
        k.0,
        k.1,
        (
          h.0,
          clean common.version _ _ h.1.1.0 s.0,
          clean common.unicode _ _ h.1.1.1 s.1,
          m.0,
          clean common.declared _ _ m.1.1 (rw s.2 (order_set set tags p.1.lawful)),
        ),
      )

pub common_laws : CommonLaws
common_laws = record {
  common_clean_exactly_when_written = λ profile content lines common s h.
      always (WritesCommon (declared_set profile)) (template_tag_of 0) lines (common_cases profile common) (CleanCommon common)
      (λ bytes l g. (clean_written profile lines common bytes l g, written_clean profile lines common bytes l g)) (required profile 0) content s refl h;
  common_written_by_one_order_of_one_set = λ set other tags order bytes a b v w.
      let o = outer set tags bytes v in
      let u = outer other order bytes w in
      let t : tags ≡ order = same_tags tags order (omega (arith, o.small, tags_long tags)) (omega (arith, u.small, tags_long order)) (same o u).1 in
      (t, one_declared set other order a b (subst (Order set) t v.lawful) w.lawful);
}
