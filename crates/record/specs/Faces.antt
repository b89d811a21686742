-- The part of a record that is DG2: its face entries, and the file that they write.
use Rattle.std.specs.Prelude.{ℕ, ◌<◌, ◌≤◌, List, [], ◌∷◌, ◌++◌, length, Some, None, Option}
use Rattle.record.specs.Parts.{object, Form, Writes}

-- A face entry: six features of its header, each with its tag here, of which any may be absent, and the face block. The
-- header's two other features, 87 and 88, are the same in every entry.
pub record Face : Type 0 where
  -- 80
  pub header_version : Option (List ℕ)
  -- 81
  pub biometric_type : Option (List ℕ)
  -- 82
  pub biometric_subtype : Option (List ℕ)
  -- 83
  pub creation_date : Option (List ℕ)
  -- 85
  pub validity_period : Option (List ℕ)
  -- 86
  pub creator : Option (List ℕ)
  pub block : List ℕ

-- a feature that is there has at least and at most so many bytes
abbrev pub Sized : ℕ → ℕ → Option (List ℕ) → Type 0
Sized least most None = Unit {0}
Sized least most (Some value) = (least ≤ length value) × (length value ≤ most)

-- each feature that is there has a length that its tag allows, and the block is not empty
pub record LawfulFace (face : Face) : Type 0 where
  pub header_version : Sized 2 2 face.header_version
  pub biometric_type : Sized 1 3 face.biometric_type
  pub biometric_subtype : Sized 1 1 face.biometric_subtype
  pub creation_date : Sized 7 7 face.creation_date
  pub validity_period : Sized 8 8 face.validity_period
  pub creator : Sized 2 2 face.creator
  pub block : 0 < length face.block

-- a feature as it is written: an object of its tag, or nothing where it is absent
abbrev pub feature : ℕ → Option (List ℕ) → List ℕ
feature tag None = []
feature tag (Some value) = object tag value

-- the owner 0101 and the format 0008 of a face block, which every header names
abbrev pub owner : List ℕ
owner = 0x01 ∷ 0x01 ∷ []

abbrev pub format : List ℕ
format = 0x00 ∷ 0x08 ∷ []

-- the header's features in rising order of tags
abbrev pub header_value : Face → List ℕ
header_value face =
    feature 0x80 face.header_version ++ (feature 0x81 face.biometric_type ++
    (feature 0x82 face.biometric_subtype ++ (feature 0x83 face.creation_date ++
    (feature 0x85 face.validity_period ++ (feature 0x86 face.creator ++
    (object 0x87 owner ++ object 0x88 format))))))

-- an entry's value: A1, the header, and 5F2E, the face block
abbrev pub entry_value : Face → List ℕ
entry_value face = object 0xA1 (header_value face) ++ object 0x5F2E face.block

-- the entries, each an object 7F60, one after the other
abbrev pub entries : List Face → List ℕ
entries [] = []
entries (face ∷ faces) = object 0x7F60 (entry_value face) ++ entries faces

-- the value of the group: 02 with the count of the entries in one byte, and then the entries
abbrev pub group_value : List Face → List ℕ
group_value faces = object 0x02 (length faces ∷ []) ++ entries faces

-- the value of DG2's template: one object 7F61, the group
abbrev pub faces_value : List Face → List ℕ
faces_value faces = object 0x7F61 (group_value faces)

-- each face is lawful
abbrev pub EachLawful : List Face → Type 0
EachLawful [] = Unit {0}
EachLawful (face ∷ faces) = LawfulFace face × EachLawful faces

-- one to nine lawful faces
pub record LawfulFaces (faces : List Face) : Type 0 where
  pub some : 1 ≤ length faces
  pub few : length faces ≤ 9
  pub each : EachLawful faces

-- DG2: the group of its face entries
abbrev pub faces_form : Form (List Face)
faces_form = record { file = 2; lawful = LawfulFaces; value = faces_value }

abbrev pub WritesFaces : List Face → List ℕ → Type 0
WritesFaces = Writes faces_form
