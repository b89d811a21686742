-- Trees of objects, the bytes that they write, ranges that objects tile, and where a range is broken.
use Rattle.std.specs.Prelude.{◌≡◌, ℕ, ◌+◌, ◌-◌, ◌<◌, ◌≤◌, true, false, ◌⊎◌, List, [], ◌++◌, length}
use Rattle.object.specs.Objects.{LawfulTag, tag_bytes, length_bytes, nests, Begins, Unread, header_size}

-- a tree is a plain object with bytes, or a nested one with a list of trees
mutual
  pub data Tree : Type 0 where
    plain : ℕ → List ℕ → Tree
    nested : ℕ → Trees → Tree

  pub data Trees : Type 0 where
    none : Trees
    more : Tree → Trees → Trees

-- what they write: tag, shortest length and value, one after the other
abbrev mutual
  pub write : Tree → List ℕ
  write (plain tag value) = tag_bytes tag ++ (length_bytes (length value) ++ value)
  write (nested tag trees) = tag_bytes tag ++ (length_bytes (length (writes trees)) ++ writes trees)

  pub writes : Trees → List ℕ
  writes none = []
  writes (more tree trees) = write tree ++ writes trees

-- lawful tags, and at most so many levels
abbrev mutual
  pub LawfulTree : Tree → ℕ → Type 0
  LawfulTree (plain tag value) levels =
      (0 < levels) × LawfulTag tag × (nests tag ≡ false) × (length value < 65536)
  LawfulTree (nested tag trees) levels =
      (0 < levels) × LawfulTag tag × (nests tag ≡ true) × (length (writes trees) < 65536)
      × LawfulTrees trees (levels - 1)

  pub LawfulTrees : Trees → ℕ → Type 0
  LawfulTrees none levels = Unit {0}
  LawfulTrees (more tree trees) levels = LawfulTree tree levels × LawfulTrees trees levels

-- objects tile the bytes at every level: some lawful trees write them
abbrev pub Tiled : ℕ → List ℕ → Type 0
Tiled levels bytes = (trees : Trees) × LawfulTrees trees levels × (writes trees ≡ bytes)

-- the trees that write the bytes, and there are no others
pub record TiledOnce (levels : ℕ) (bytes : List ℕ) : Type 0 where
  pub trees : Trees
  pub lawful : LawfulTrees trees levels
  pub written : writes trees ≡ bytes
  pub no_others : (others : Trees) → LawfulTrees others levels → writes others ≡ bytes
      → others ≡ trees

-- An object that is broken starts at the last place, in bytes that stand at the first and have so many levels left: it is
-- too deep, or its header cannot be read or it passes the bytes' end. It may stand first, inside the first object, or
-- after it.
pub data Broken : ℕ → ℕ → List ℕ → ℕ → Type 0 where
  here : {levels place : ℕ} {bytes : List ℕ} → 0 < length bytes → (levels ≡ 0) ⊎ Unread bytes
      → Broken levels place bytes place
  inside : {levels place broken : ℕ} {bytes : List ℕ} (tag : ℕ) (value rest : List ℕ)
      → Begins bytes tag value rest → nests tag ≡ true
      → Broken (levels - 1) (place + header_size tag value) value broken
      → Broken levels place bytes broken
  later : {levels place broken : ℕ} {bytes : List ℕ} (tag : ℕ) (value rest : List ℕ)
      → Begins bytes tag value rest
      → Broken levels (place + header_size tag value + length value) rest broken
      → Broken levels place bytes broken

-- the smallest place at which an object is broken
pub record First (levels place : ℕ) (bytes : List ℕ) (broken : ℕ) : Type 0 where
  pub is_broken : Broken levels place bytes broken
  pub least : (other : ℕ) → Broken levels place bytes other → broken ≤ other

-- no trees write the bytes, and this is the smallest place at which an object is broken
pub record NowhereTiled (levels place : ℕ) (bytes : List ℕ) (broken : ℕ) : Type 0 where
  pub first : First levels place bytes broken
  pub not_tiled : Tiled levels bytes → ⊥
