-- The features that the header of an entry holds.
use Rattle.std.specs.Prelude.{◌≡◌, ℕ, ◌<◌, ◌≤◌, ◌⊎◌, List, [], ◌∷◌, length}
use Rattle.object.specs.Objects.{Begins}
use Rattle.faces.specs.declared.features.Feature.{Feature}

-- The features that a header may hold: a tag, and the least and the greatest length of the value. By their tags all of
-- them are plain objects.
abbrev pub feature_list : List Feature
feature_list =
    record { tag = 0x80; least = 2; most = 2 } ∷
    record { tag = 0x81; least = 1; most = 3 } ∷
    record { tag = 0x82; least = 1; most = 1 } ∷
    record { tag = 0x83; least = 7; most = 7 } ∷
    record { tag = 0x85; least = 8; most = 8 } ∷
    record { tag = 0x86; least = 2; most = 2 } ∷
    record { tag = 0x87; least = 2; most = 2 } ∷
    record { tag = 0x88; least = 2; most = 2 } ∷ []

-- the feature has this tag, and its value may have this length
abbrev pub Allows : Feature → ℕ → ℕ → Type 0
Allows feature tag size = (feature.tag ≡ tag) × (feature.least ≤ size) × (size ≤ feature.most)

-- a feature of the list has this tag, and its value may have this length
abbrev pub Listed : List Feature → ℕ → ℕ → Type 0
Listed [] tag size = ⊥
Listed (feature ∷ list) tag size = Allows feature tag size ⊎ Listed list tag size

-- the bytes are objects from the list, each with a greater tag than the one before it, and the first with a greater one
-- than `last`
pub data RisingFeatures (list : List Feature) : ℕ → List ℕ → Type 0 where
  stop : {last : ℕ} → RisingFeatures list last []
  more : {last : ℕ} {bytes : List ℕ} (tag : ℕ) (value rest : List ℕ)
      → Begins bytes tag value rest → last < tag → Listed list tag (length value)
      → RisingFeatures list tag rest → RisingFeatures list last bytes

-- one of the objects that stand in the bytes, one after the other, has this tag and value
pub data Has : List ℕ → ℕ → List ℕ → Type 0 where
  here : {bytes : List ℕ} {tag : ℕ} {value : List ℕ} (rest : List ℕ)
      → Begins bytes tag value rest → Has bytes tag value
  later : {bytes : List ℕ} {tag : ℕ} {value : List ℕ} (other : ℕ) (content rest : List ℕ)
      → Begins bytes other content rest → Has rest tag value → Has bytes tag value

-- The features of a header: objects from the list, each with a greater tag than the one before it. Among them are 87,
-- the owner, with the value 0101, and 88, the format, with the value 0008.
pub record LawfulFeatures (bytes : List ℕ) : Type 0 where
  pub rising : RisingFeatures feature_list 0 bytes
  pub owner : Has bytes 0x87 (0x01 ∷ 0x01 ∷ [])
  pub format : Has bytes 0x88 (0x00 ∷ 0x08 ∷ [])
