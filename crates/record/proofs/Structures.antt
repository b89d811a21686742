-- The laws of data groups of trees, of DG13 and of EF.SOD.
use Rattle.std.proofs.Common.{◌≡◌, ℕ, ◌≤◌, List, [], length, refl, ap, ◌∙◌, arith}
use Rattle.card.specs.Cards.{template_tag_of}
use Rattle.card.specs.Lines.{Says}
use Rattle.card.specs.Profiles.{required}
use Rattle.card.specs.declared.line.Line.{Line}
use Rattle.object.specs.Objects.{Begins, nests}
use Rattle.object.specs.Trees.{Trees, none, writes, Tiled}
use Rattle.object.proofs.Laws.{same}
use Rattle.object.proofs.Trees.{apart, tiled_nested}
use Rattle.object.proofs.Unique.{unique}
use Rattle.cases.specs.Files.{no_cases, security_cases}
use Rattle.cases.specs.Structures.{Framed}
use Rattle.cases.specs.Templates.{One, Off}
use Rattle.cases.specs.declared.structure.Structure.{Structure}
use Rattle.record.specs.Clean.{Clean}
use Rattle.record.specs.Parts.{object, trees_form, WritesTrees, free_form, WritesFree, security_value, security_form, WritesSecurity}
use Rattle.record.specs.Laws.{Iff, OnePart, SomePart, StructureLaws}
use Rattle.record.proofs.Tags.{lawful_tag}
use Rattle.record.proofs.Gates.{passes, clean, unused}
use Rattle.record.proofs.Wholes.{holds, made, one_part, through, through_back, object_alone, alone_object, object_long}
use Rattle.record.proofs.Present.{structured, always, structured_free}

-- data groups of trees
module _ (file : ℕ) (low : file ≤ 17) where
  trees_law : (lines : Structure) (bytes : List ℕ) → length bytes ≤ 32767 → Framed (template_tag_of file) bytes lines no_cases
      → Iff (Clean lines.template × Clean lines.tiling × Unit {0}) (SomePart (WritesTrees file) bytes)
  trees_law lines bytes l g = (
    λ c. let w = through (template_tag_of file) bytes lines no_cases g c.0 c.1 in
        (w.2.0, made (trees_form file) low w.2.0 bytes l w.2.1 (rw w.2.2 w.1)),
    λ p. through_back (template_tag_of file) bytes lines no_cases g (writes p.0) (holds (trees_form file) low p.0 bytes p.1) (p.0, p.1.lawful, refl),
  )

  trees_one_part : OnePart (WritesTrees file)
  trees_one_part = one_part (trees_form file) low (λ x y a b e. unique x y 15 a b e)

-- DG13
free_law : (lines : Structure) (bytes : List ℕ) → length bytes ≤ 32767 → Says lines.template (One (template_tag_of 13) bytes) (Off (template_tag_of 13) bytes)
    → Iff (Clean lines.template) (SomePart WritesFree bytes)
free_law lines bytes l g = (
  λ c. let w = passes lines.template _ _ g c in (w.0, made free_form (omega arith) w.0 bytes l tt w.1),
  λ p. clean lines.template _ _ g (p.0, holds free_form (omega arith) p.0 bytes p.1),
)

free_one_part : OnePart WritesFree
free_one_part = one_part free_form (omega arith) (λ x y a b e. e)

-- EF.SOD: the object 30 in the template is small enough to be read
security_begins : (trees : Trees) (bytes : List ℕ) → Begins bytes (template_tag_of 17) (security_value trees) []
    → Begins (security_value trees) 0x30 (writes trees) []
security_begins trees bytes b =
    object_alone 0x30 (writes trees) (lawful_tag 0x30 refl) (omega (arith, b.small, object_long 0x30 (writes trees)))

security_law : (lines : Structure) (single : Line) (bytes : List ℕ) → length bytes ≤ 32767
    → Framed (template_tag_of 17) bytes lines (security_cases single)
    → Iff (Clean lines.template × Clean lines.tiling × Clean single) (SomePart WritesSecurity bytes)
unfolding nests
security_law lines single bytes l g = (
  λ c.
      let w = through (template_tag_of 17) bytes lines (security_cases single) g c.0 c.1 in
      let o = passes single _ _ w.3 c.2 in
      let u = (apart 15 w.2.0 w.2.1 w.2.2 o.1).1 refl in
      let e : security_value u.0 ≡ w.0 = ap (object 0x30) u.2 ∙ alone_object o.1 in
      (u.0, made security_form (omega arith) u.0 bytes l u.1 (rw e w.1)),
  λ p.
      let b = holds security_form (omega arith) p.0 bytes p.1 in
      let o = security_begins p.0 bytes b in
      let u : Tiled 15 (security_value p.0) = tiled_nested 15 o refl (omega arith) (p.0, p.1.lawful, refl) (none, tt, refl) in
      let k = through_back (template_tag_of 17) bytes lines (security_cases single) g (security_value p.0) b u in
      (k.0, k.1, clean single _ _ k.2 (writes p.0, o)),
)

security_one_part : OnePart WritesSecurity
security_one_part x y bytes v w =
    let b = holds security_form (omega arith) x bytes v in
    let c = holds security_form (omega arith) y bytes w in
    let e = (same b c).1 in
    unique x y 14 v.lawful w.lawful (same (rw e at (security_begins x bytes b)) (security_begins y bytes c)).1

pub structure_laws : StructureLaws
structure_laws = record {
  trees_clean_exactly_when_written = λ file low profile content lines s h.
      let k = structured (WritesTrees file) (template_tag_of file) lines no_cases (Unit {0}) (trees_law file low lines) (required profile file) content s (λ _. tt) h in
      (λ c. k.0 (c, tt), λ f. (k.1 f).0);
  trees_written_by_one_part = trees_one_part;
  free_clean_exactly_when_written = λ profile content lines s h.
      structured_free WritesFree (required profile 13) content lines s (free_law lines) (unused h.0) h.1;
  free_written_by_one_part = free_one_part;
  security_clean_exactly_when_written = λ profile content lines single s h.
      always WritesSecurity (template_tag_of 17) lines (security_cases single) (Clean single) (security_law lines single) (required profile 17) content s refl h;
  security_written_by_one_part = security_one_part;
}
