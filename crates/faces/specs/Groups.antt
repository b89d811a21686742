-- The group of the faces: case 21.
use Rattle.std.specs.Prelude.{◌≡◌, ℕ, ◌+◌, ◌≤◌, List, [], ◌∷◌}
use Rattle.object.specs.Objects.{Begins, header_size}
use Rattle.object.specs.Readers.{rest_of}
use Rattle.object.specs.declared.reader.Reader.{Reader}
use Rattle.faces.specs.Rows.{Row}

-- the value is this count in one byte, from 1 to 9
abbrev pub IsCount : List ℕ → ℕ → Type 0
IsCount value count = (1 ≤ count) × (count ≤ 9) × (count ∷ [] ≡ value)

-- The template's value is one object 7F61, the group. In it stand one object 02, whose one byte is the count, from 1 to
-- 9, and then as many objects 7F60, the entries.
pub record Group (value : List ℕ) (count : ℕ) (group entries : List ℕ) : Type 0 where
  pub some : 1 ≤ count
  pub few : count ≤ 9
  pub alone : Begins value 0x7F61 group []
  pub counted : Begins group 0x02 (count ∷ []) entries
  pub row : Row 0x7F60 count entries

-- case 21: the template's value is a group, with this count and these entries
abbrev pub Grouped : List ℕ → Type 0
Grouped value =
    (count : ℕ) × (group : List ℕ) × (entries : List ℕ) × Group value count group entries

-- where the entries stand, if the group stands at this place
abbrev pub entries_place : ℕ → ℕ → List ℕ → ℕ
entries_place place count group =
    place + header_size 0x7F61 group + header_size 0x02 (count ∷ []) + 1

-- what the reader has before it is a group, whose entries the other reader has before it, in the same bytes
pub record Found (reader entries : Reader) : Type 0 where
  pub count : ℕ
  pub inside : List ℕ
  pub group : Group (rest_of reader) count inside (rest_of entries)
  pub at : entries.position ≡ entries_place reader.position count inside
  pub bytes : entries.bytes.now ≡ reader.bytes.now
