-- The parts of a record that are trees, free bytes or an order of tags, and the files that they write.
use Rattle.std.specs.Prelude.{◌≡◌, ℕ, ◌<◌, ◌≤◌, true, List, ◌++◌, length, codes, ◌≢◌, slice_index}
use Rattle.card.specs.Cards.{template_tag_of}
use Rattle.card.specs.Sets.{has}
use Rattle.common.specs.Tags.{group_tag, Among}
use Rattle.object.specs.Objects.{tag_bytes, length_bytes}
use Rattle.object.specs.Trees.{Trees, writes, LawfulTrees}

-- an object as it is written: its tag, its length in the shortest form, and its value
abbrev pub object : ℕ → List ℕ → List ℕ
object tag value = tag_bytes tag ++ (length_bytes (length value) ++ value)

-- a file as it is written: its template with a value
abbrev pub template : ℕ → List ℕ → List ℕ
template file value = object (template_tag_of file) value

-- How the parts of one sort are written: into which file, which of them are lawful, and the value that the file's
-- template then has.
pub record Form (Part : Type 0) : Type 1 where
  pub file : ℕ
  pub lawful : Part → Type 0
  pub value : Part → List ℕ

-- A lawful part writes these bytes: they are the file's template with the part's value, and no more than a file holds.
pub record Writes {Part : Type 0} (form : Form Part) (part : Part) (bytes : List ℕ) : Type 0 where
  pub lawful : form.lawful part
  pub fits : length (template form.file (form.value part)) ≤ 32767
  pub written : template form.file (form.value part) ≡ bytes

-- a data group of trees: its trees stand on the levels 2 to 16
abbrev pub trees_form : ℕ → Form Trees
trees_form file = record { file = file; lawful = λ trees. LawfulTrees trees 15; value = writes }

abbrev pub WritesTrees : ℕ → Trees → List ℕ → Type 0
WritesTrees file = Writes (trees_form file)

-- DG13: any bytes
abbrev pub free_form : Form (List ℕ)
free_form = record { file = 13; lawful = λ _. Unit {0}; value = λ value. value }

abbrev pub WritesFree : List ℕ → List ℕ → Type 0
WritesFree = Writes free_form

-- EF.SOD: one object 30 with trees, which stand on the levels 3 to 16
abbrev pub security_value : Trees → List ℕ
security_value trees = object 0x30 (writes trees)

abbrev pub security_form : Form Trees
security_form =
    record { file = 17; lawful = λ trees. LawfulTrees trees 14; value = security_value }

abbrev pub WritesSecurity : Trees → List ℕ → Type 0
WritesSecurity = Writes security_form

-- An order of the tags of a set: each byte is the tag of a data group of the set, the tag of each such group stands in
-- it, and none stands in it twice.
pub record Order (set : ℕ) (tags : List ℕ) : Type 0 where
  pub only : (i : ℕ) → i < length tags
      → (group : ℕ) × (group < 16) × (has set group ≡ true) × (group_tag group ≡ slice_index tags i)
  pub every : (group : ℕ) → group < 16 → has set group ≡ true
      → Among tags (length tags) (group_tag group)
  pub once : (i j : ℕ) → i < j → j < length tags → slice_index tags i ≢ slice_index tags j

-- EF.COM: the texts 0107 and 040000, and the tags in an order
abbrev pub common_value : List ℕ → List ℕ
common_value tags =
    object 0x5F01 (codes "0107") ++ (object 0x5F36 (codes "040000") ++ object 0x5C tags)

abbrev pub common_form : ℕ → Form (List ℕ)
common_form set = record { file = 0; lawful = Order set; value = common_value }

abbrev pub WritesCommon : ℕ → List ℕ → List ℕ → Type 0
WritesCommon set = Writes (common_form set)
