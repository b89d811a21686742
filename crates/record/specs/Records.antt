-- A record: what is meant to be loaded on a card. Writing it gives the card's files.
use Rattle.std.specs.Prelude.{◌≡◌, ℕ, ◌≤◌, Bool, true, false, ◌&&◌, List, Some, None, Option}
use Rattle.std.specs.Option.{option_map}
use Rattle.card.specs.Cards.{Files, Short}
use Rattle.card.specs.Profiles.{kind_of, declared_set, declares}
use Rattle.card.specs.Purposes.{purpose_of}
use Rattle.card.specs.declared.files.Purpose.{Purpose}
use Rattle.card.specs.declared.files.Purpose.TheVariants as purpose
use Rattle.card.specs.declared.profile.Profile.{Profile}
use Rattle.object.specs.Trees.{Trees, writes, LawfulTrees}
use Rattle.record.specs.Parts.{template, Order, common_value, security_value}
use Rattle.record.specs.Zones.{Fields, LawfulFields}
use Rattle.record.specs.ZoneWriting.{zone_value}
use Rattle.record.specs.Faces.{Face, LawfulFaces, faces_value}

pub record Record : Type 0 where
  -- the kind of zone and the declared set
  pub profile : Profile
  -- EF.COM: the tags of the declared groups in some order
  pub tags : List ℕ
  -- DG1: the fields of the zone, without check digits
  pub zone : Fields
  -- DG2: the face entries
  pub faces : List Face
  -- the trees of each declared data group from DG3 on other than DG13, by file number
  pub groups : ℕ → Option Trees
  -- DG13: its bytes, if it is declared
  pub free : Option (List ℕ)
  -- EF.SOD: the trees in its object 30
  pub security : Trees

-- whether a file of this purpose is written from trees alone
abbrev pub for_trees : Purpose → Bool
for_trees purpose.Common = false
for_trees purpose.Zone = false
for_trees purpose.Faces = false
for_trees purpose.Trees = true
for_trees purpose.Free = false
for_trees purpose.Security = false

-- the files whose part is a row of trees: DG3 to DG16 other than DG13, and numbers above 17, which no profile declares
abbrev pub tree_group : ℕ → Bool
tree_group file = for_trees (purpose_of file)

-- a part is given exactly if it is wanted, and then it is lawful
abbrev pub Given : {Part : Type 0} → Bool → (Part → Type 0) → Option Part → Type 0
Given true Lawful None = ⊥
Given true Lawful (Some part) = Lawful part
Given false Lawful None = Unit {0}
Given false Lawful (Some part) = ⊥

-- the value of the template that a record writes into a file of this purpose and number, if it writes the file
abbrev pub value_for : Purpose → Record → ℕ → Option (List ℕ)
value_for purpose.Common r file = Some (common_value r.tags)
value_for purpose.Zone r file = Some (zone_value (kind_of r.profile) r.zone)
value_for purpose.Faces r file = Some (faces_value r.faces)
value_for purpose.Trees r file = option_map writes (r.groups file)
value_for purpose.Free r file = r.free
value_for purpose.Security r file = Some (security_value r.security)

-- the files that a record writes
abbrev pub written : Record → Files
written r file = option_map (template file) (value_for (purpose_of file) r file)

-- A lawful record: it has the parts that its profile asks for and no others, each of them lawful, and no file that it
-- writes is too long. A group's trees have the levels 2 to 16, those in EF.SOD's object 30 the levels 3 to 16.
pub record LawfulRecord (r : Record) : Type 0 where
  pub tags : Order (declared_set r.profile) r.tags
  pub zone : LawfulFields (kind_of r.profile) r.zone
  pub faces : LawfulFaces r.faces
  pub groups : (file : ℕ) → Given (tree_group file && declares r.profile file)
      (λ trees. LawfulTrees trees 15) (r.groups file)
  pub free : Given (declares r.profile 13) (λ _. Unit {0}) r.free
  pub security : LawfulTrees r.security 14
  pub short : (file : ℕ) → file ≤ 17 → Short (written r file)

-- the card has each file that the lawful record writes, byte for byte, and no other
pub record WritesCard (r : Record) (files : Files) : Type 0 where
  pub lawful : LawfulRecord r
  pub exactly : (file : ℕ) → file ≤ 17 → written r file ≡ files file

-- some record with this profile writes the files
pub record WrittenUnder (profile : Profile) (files : Files) : Type 0 where
  pub the_record : Record
  pub its_profile : the_record.profile ≡ profile
  pub writes : WritesCard the_record files
