-- A file is one object, its template: what this gives for any kind of part.
use Rattle.std.proofs.Common.{◌≡◌, ℕ, ◌<◌, ◌≤◌, List, [], ◌++◌, length, sym, ◌∙◌, append_assoc, append-nil, inl, arith, length-append}
use Rattle.object.specs.Objects.{Begins, LawfulTag, header_size}
use Rattle.object.specs.Trees.{Tiled}
use Rattle.object.proofs.Laws.{same}
use Rattle.card.specs.Cards.{template_tag_of}
use Rattle.cases.specs.Structures.{Later, Framed}
use Rattle.cases.specs.declared.structure.Structure.{Structure}
use Rattle.record.specs.Clean.{Clean}
use Rattle.cases.proofs.Tags.{tag_short}
use Rattle.record.specs.Parts.{object, Form, Writes}
use Rattle.record.specs.Laws.{OnePart}
use Rattle.record.proofs.Gates.{opens, opened}

-- an object that is written can be read, and one that was read is as it is written
pub object_alone : (tag : ℕ) (value : List ℕ) → LawfulTag tag → length value < 65536 → Begins (object tag value) tag value []
object_alone tag value l s = record { lawful = l; small = s; written = simp append-nil }

pub alone_object : {bytes : List ℕ} {tag : ℕ} {value : List ℕ} → Begins bytes tag value [] → object tag value ≡ bytes
alone_object b = sym (b.written ∙ simp append-nil)

-- an object that is written before others, and one that was read before others
pub begins_object : (tag : ℕ) (value rest : List ℕ) → LawfulTag tag → length value < 65536 → Begins (object tag value ++ rest) tag value rest
begins_object tag value rest l s = record { lawful = l; small = s; written = simp append_assoc }

pub begins_is : {bytes : List ℕ} {tag : ℕ} {value rest : List ℕ} → Begins bytes tag value rest → object tag value ++ rest ≡ bytes
begins_is b = sym (b.written ∙ simp append_assoc)

pub object_long : (tag : ℕ) (value : List ℕ) → length value ≤ length (object tag value)
object_long tag value = simp length-append (omega arith)

-- a part's value stands in the template of the file that it writes, and no other part has this value
module _ {Part : Type 0} (form : Form Part) (low : form.file ≤ 17) where
  pub holds : (part : Part) (bytes : List ℕ) → Writes form part bytes → Begins bytes (template_tag_of form.file) (form.value part) []
  holds part bytes w =
      rw (← w.written) (object_alone (template_tag_of form.file) (form.value part) (inl (tag_short form.file low))
      (omega (arith, w.fits, object_long (template_tag_of form.file) (form.value part))))

  pub made : (part : Part) (bytes : List ℕ) → length bytes ≤ 32767 → form.lawful part → Begins bytes (template_tag_of form.file) (form.value part) []
      → Writes form part bytes
  made part bytes l h b = let e = alone_object b in record { lawful = h; fits = rw e l; written = e }

  pub one_part : ((x y : Part) → form.lawful x → form.lawful y → form.value x ≡ form.value y → x ≡ y) → OnePart (Writes form)
  one_part u x y bytes a b = u x y a.lawful b.lawful (same (holds x bytes a) (holds y bytes b)).1

-- cases 2 and 3 do not fail exactly if the file is its template and objects tile the value
module _ (tag : ℕ) (bytes : List ℕ) (lines : Structure) (later : Later) (framed : Framed tag bytes lines later) where
  pub through : Clean lines.template → Clean lines.tiling
      → (value : List ℕ) × Begins bytes tag value [] × Tiled 15 value × later.judged (header_size tag value) value
  through c d =
      let a = opens lines.template _ _ _ _ framed c in
      let b = opens lines.tiling _ _ _ _ a.1 d in
      (a.0.0, a.0.1, b.0, b.1)

  pub through_back : (value : List ℕ) → Begins bytes tag value [] → Tiled 15 value
      → Clean lines.template × Clean lines.tiling × later.judged (header_size tag value) value
  through_back value b u =
      let a = opened lines.template _ _ _ _ framed (value, b) in
      let e = (same a.1.0.1 b).1 in
      let k = opened lines.tiling _ _ _ _ a.1.1 (rw e u) in
      (a.0, k.0, rw e at k.1.1)
