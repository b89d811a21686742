-- The laws of DG2.
use Rattle.std.proofs.Common.{◌≡◌, ℕ, zero, suc, ◌<◌, ◌≤◌, List, [], ◌∷◌, ◌++◌, length, sym, refl, ap, ◌∙◌, subst, arith, length-append}
use Rattle.card.specs.Cards.{template_tag_of}
use Rattle.object.specs.Objects.{Begins, nests}
use Rattle.object.specs.Trees.{Tiled, none}
use Rattle.object.proofs.Laws.{same, begins_long}
use Rattle.object.proofs.Trees.{tiled_plain, tiled_nested}
use Rattle.faces.specs.Rows.{Row, Each, done, next}
use Rattle.faces.specs.Groups.{Group}
use Rattle.faces.specs.Faces.{Entry, Described}
use Rattle.faces.specs.declared.lines.FaceLines.{FaceLines}
use Rattle.card.specs.Profiles.{required}
use Rattle.cases.specs.Files.{face_cases}
use Rattle.cases.specs.Structures.{Framed}
use Rattle.cases.specs.declared.structure.Structure.{Structure}
use Rattle.record.specs.Clean.{Clean, CleanFaces}
use Rattle.record.specs.Laws.{OnePart, SomePart}
use Rattle.record.specs.Parts.{object}
use Rattle.record.specs.Faces.{Face, LawfulFace, header_value, entry_value, entries, group_value, faces_value, EachLawful, LawfulFaces, faces_form, WritesFaces}
use Rattle.record.specs.FaceLaws.{FaceLaws}
use Rattle.record.proofs.Gates.{passes, clean, opens, opened}
use Rattle.record.proofs.Present.{always}
use Rattle.record.proofs.Tags.{lawful_tag}
use Rattle.record.proofs.Wholes.{holds, made, through, through_back, object_alone, alone_object, begins_object, begins_is, object_long}
use Rattle.record.proofs.Headers.{header_lawful, header_tiled, lawful_header, one_face}

-- what is written inside is no longer than the whole
joined : (a b : List ℕ) → length (a ++ b) < 65536 → (length a < 65536) × (length b < 65536)
joined a b l = (omega (arith, length-append a b), omega (arith, length-append a b))

in_object : (tag : ℕ) (value : List ℕ) → length (object tag value) < 65536 → length value < 65536
in_object tag value l = omega (arith, object_long tag value)

-- one entry: the face of what was read
entry_face : {value : List ℕ} → Entry value → Described value → (face : Face) × LawfulFace face × (entry_value face ≡ value)
entry_face e d =
    let f = lawful_header d.3 e.block e.some in
    let s = same d.2 e.first in (
      f.0,
      f.1,
      ap (λ z. object 0xA1 z ++ object 0x5F2E f.0.block) (f.2 ∙ s.1) ∙ ap (λ z. object 0xA1 e.header ++ object 0x5F2E z) f.3
          ∙ ap (λ z. object 0xA1 e.header ++ z) (alone_object e.second) ∙ begins_is e.first,
    )

-- and what is read of a face
module _ (face : Face) (lawful : LawfulFace face) (small : length (entry_value face) < 65536) where
  header_begins : Begins (entry_value face) 0xA1 (header_value face) (object 0x5F2E face.block)
  header_begins =
      begins_object 0xA1 (header_value face) (object 0x5F2E face.block) (lawful_tag 0xA1 refl)
      (in_object 0xA1 (header_value face) (joined (object 0xA1 (header_value face)) (object 0x5F2E face.block) small).0)

  block_begins : Begins (object 0x5F2E face.block) 0x5F2E face.block []
  block_begins =
      object_alone 0x5F2E face.block (lawful_tag 0x5F2E refl)
      (in_object 0x5F2E face.block (joined (object 0xA1 (header_value face)) (object 0x5F2E face.block) small).1)

  face_entry : Entry (entry_value face)
  face_entry = record {
    header = header_value face;
    rest = object 0x5F2E face.block;
    block = face.block;
    first = header_begins;
    second = block_begins;
    some = lawful.block;
  }

  face_described : Described (entry_value face)
  face_described = (header_value face, object 0x5F2E face.block, header_begins, header_lawful face lawful)

  face_tiled : Tiled 13 (entry_value face)
  unfolding nests
  face_tiled = tiled_nested 13 header_begins refl (omega arith) (header_tiled face lawful) (tiled_plain 13 block_begins refl (omega arith) (none, tt, refl))

-- the entries, one after the other
each_next : {tag : ℕ} {P : List ℕ → Type 0} {bytes value rest : List ℕ} → Each tag P bytes → Begins bytes tag value rest → P value × Each tag P rest
each_next done b = absurd (omega (arith, begins_long b))
each_next {tag} {P} (next v r c p s) b = let e = same c b in (subst P e.1 p, subst (λ z. Each tag P z) e.2 s)

row_faces : (count : ℕ) (bytes : List ℕ) → Row 0x7F60 count bytes → Each 0x7F60 Entry bytes → Each 0x7F60 Described bytes
    → (faces : List Face) × (length faces ≡ count) × EachLawful faces × (entries faces ≡ bytes)
row_faces zero bytes w a b = ([], refl, tt, sym w)
row_faces (suc count) bytes w a b =
    let c = each_next a w.2 in
    let d = each_next b w.2 in
    let f = entry_face c.0 d.0 in
    let k = row_faces count w.1 w.3 c.1 d.1 in (
      f.0 ∷ k.0,
      ap suc k.1,
      (f.1, k.2),
      ap (λ z. object 0x7F60 z ++ entries k.0) f.2 ∙ ap (λ z. object 0x7F60 w.0 ++ z) k.3 ∙ begins_is w.2,
    )

module _ (face : Face) (faces : List Face) (small : length (entries (face ∷ faces)) < 65536) where
  entry_small : length (entry_value face) < 65536
  entry_small = in_object 0x7F60 (entry_value face) (joined (object 0x7F60 (entry_value face)) (entries faces) small).0

  others_small : length (entries faces) < 65536
  others_small = (joined (object 0x7F60 (entry_value face)) (entries faces) small).1

  entry_begins : Begins (entries (face ∷ faces)) 0x7F60 (entry_value face) (entries faces)
  entry_begins = begins_object 0x7F60 (entry_value face) (entries faces) (lawful_tag 0x7F60 refl) entry_small

-- what the cases say of the entries of lawful faces
record Read (faces : List Face) : Type 0 where
  row : Row 0x7F60 (length faces) (entries faces)
  held : Each 0x7F60 Entry (entries faces)
  described : Each 0x7F60 Described (entries faces)
  tiled : Tiled 14 (entries faces)

faces_read : (faces : List Face) → EachLawful faces → length (entries faces) < 65536 → Read faces
unfolding nests
faces_read [] a l = record { row = refl; held = done; described = done; tiled = (none, tt, refl) }
faces_read (face ∷ faces) a l =
    let b = entry_begins face faces l in
    let s = entry_small face faces l in
    let k = faces_read faces a.1 (others_small face faces l) in
    record {
      row = (entry_value face, entries faces, b, k.row);
      held = next (entry_value face) (entries faces) b (face_entry face a.0 s) k.held;
      described = next (entry_value face) (entries faces) b (face_described face a.0 s) k.described;
      tiled = tiled_nested 14 b refl (omega arith) (face_tiled face a.0 s) k.tiled;
    }

one_entries : (faces others : List Face) → EachLawful faces → EachLawful others → length (entries faces) < 65536
    → entries faces ≡ entries others → faces ≡ others
one_entries [] [] a b l q = refl
one_entries [] (other ∷ others) a b l q = absurd (omega (arith, begins_long (entry_begins other others (subst (λ z. length z < 65536) q l)), ap length q))
one_entries (face ∷ faces) [] a b l q = absurd (omega (arith, begins_long (entry_begins face faces l), ap length q))
one_entries (face ∷ faces) (other ∷ others) a b l q =
    let m : length (entries (other ∷ others)) < 65536 = subst (λ z. length z < 65536) q l in
    let i = entry_small face faces l in
    let j = entry_small other others m in
    let s = same (subst (λ z. Begins z 0x7F60 (entry_value face) (entries faces)) q (entry_begins face faces l)) (entry_begins other others m) in
    let k = subst (λ z. Begins z 0xA1 (header_value face) (object 0x5F2E face.block)) s.1 (header_begins face a.0 i) in
    let u = same k (header_begins other b.0 j) in
    let w = same (subst (λ z. Begins z 0x5F2E face.block []) u.2 (block_begins face a.0 i)) (block_begins other b.0 j) in
    let p : face ≡ other = one_face face other a.0 b.0 u.1 w.1 in
    let r : faces ≡ others = one_entries faces others a.1 b.1 (others_small face faces l) s.2 in
    cc

-- the group around them
module _ (faces : List Face) (bytes : List ℕ) (w : WritesFaces faces bytes) where
  outer : Begins bytes (template_tag_of 2) (faces_value faces) []
  outer = holds faces_form (omega arith) faces bytes w

  group_small : length (group_value faces) < 65536
  group_small = in_object 0x7F61 (group_value faces) outer.small

  entries_small : length (entries faces) < 65536
  entries_small = (joined (object 0x02 (length faces ∷ [])) (entries faces) group_small).1

  group_begins : Begins (faces_value faces) 0x7F61 (group_value faces) []
  group_begins = object_alone 0x7F61 (group_value faces) (lawful_tag 0x7F61 refl) group_small

  count_begins : Begins (group_value faces) 0x02 (length faces ∷ []) (entries faces)
  count_begins = begins_object 0x02 (length faces ∷ []) (entries faces) (lawful_tag 0x02 refl) (omega arith)

  read : Read faces
  read = faces_read faces w.lawful.each entries_small

  grouped : Group (faces_value faces) (length faces) (group_value faces) (entries faces)
  grouped = record { some = w.lawful.some; few = w.lawful.few; alone = group_begins; counted = count_begins; row = read.row }

  value_tiled : Tiled 15 (faces_value faces)
  unfolding nests
  value_tiled = tiled_nested 15 group_begins refl (omega arith) (tiled_plain 14 count_begins refl (omega arith) read.tiled) (none, tt, refl)

-- a value is one group with one count and one row of entries
entries_same : {value group other rest others : List ℕ} {count number : ℕ} → Group value count group rest → Group value number other others → rest ≡ others
entries_same a b =
    let x = same a.alone b.alone in
    (same (rw x.1 at a.counted) b.counted).2

group_is : {value group rest : List ℕ} {count : ℕ} → Group value count group rest → object 0x7F61 (object 0x02 (count ∷ []) ++ rest) ≡ value
group_is a = ap (object 0x7F61) (begins_is a.counted) ∙ alone_object a.alone

module _ (lines : Structure) (own : FaceLines) (bytes : List ℕ) (l : length bytes ≤ 32767)
    (g : Framed (template_tag_of 2) bytes lines (face_cases own)) where
  clean_written : Clean lines.template × Clean lines.tiling × CleanFaces own → SomePart WritesFaces bytes
  clean_written c =
      let w = through (template_tag_of 2) bytes lines (face_cases own) g c.0 c.1 in
      let h = opens own.group _ _ _ _ w.3 c.2.0 in
      let p = opens own.entries _ _ _ _ h.1 c.2.1 in
      let d = passes own.features _ _ p.1 c.2.2 in
      let r = h.0.3 in
      let f = row_faces h.0.0 h.0.2 r.row p.0 d in
      let e : faces_value f.0 ≡ w.0 = ap (λ z. object 0x7F61 (object 0x02 (z ∷ []) ++ entries f.0)) f.1
      ∙ ap (λ z. object 0x7F61 (object 0x02 (h.0.0 ∷ []) ++ z)) f.3 ∙ group_is r in
      let lawful : LawfulFaces f.0 = record { some = omega (arith, f.1, r.some); few = omega (arith, f.1, r.few); each = f.2 } in
      (f.0, made faces_form (omega arith) f.0 bytes l lawful (subst (λ z. Begins bytes (template_tag_of 2) z []) (sym e) w.1))

  written_clean : SomePart WritesFaces bytes → Clean lines.template × Clean lines.tiling × CleanFaces own
  written_clean p =
      let faces = p.0 in
      let w = p.1 in
      let o = outer faces bytes w in
      let k = through_back (template_tag_of 2) bytes lines (face_cases own) g (faces_value faces) o (value_tiled faces bytes w) in
      let h = opened own.group _ _ _ _ k.2 (length faces, group_value faces, entries faces, grouped faces bytes w) in
      let s : entries faces ≡ h.1.0.2 = entries_same (grouped faces bytes w) h.1.0.3 in
      let m = opened own.entries _ _ _ _ h.1.1 (subst (λ z. Each 0x7F60 Entry z) s (read faces bytes w).held) in
      (k.0, k.1, (h.0, m.0, clean own.features _ _ m.1.1 (subst (λ z. Each 0x7F60 Described z) s (read faces bytes w).described)))

faces_one_part : OnePart WritesFaces
faces_one_part faces others bytes v w =
    let q = (same (outer faces bytes v) (outer others bytes w)).1 in
    let u = (same (subst (λ z. Begins z 0x7F61 (group_value faces) []) q (group_begins faces bytes v)) (group_begins others bytes w)).1 in
    let t = (same (subst (λ z. Begins z 0x02 (length faces ∷ []) (entries faces)) u (count_begins faces bytes v)) (count_begins others bytes w)).2 in
    one_entries faces others v.lawful.each w.lawful.each (entries_small faces bytes v) t

pub face_laws : FaceLaws
face_laws = record {
  faces_clean_exactly_when_written = λ profile content lines own s h.
      always WritesFaces (template_tag_of 2) lines (face_cases own) (CleanFaces own)
      (λ bytes l g. (clean_written lines own bytes l g, written_clean lines own bytes l g)) (required profile 2) content s profile.lawful.3 h;
  faces_written_by_one_part = faces_one_part;
}
