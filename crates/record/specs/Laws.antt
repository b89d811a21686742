-- Data groups of trees, DG13, EF.SOD and EF.COM: no line fails exactly when some part writes the file, and only one part
-- does.
use Rattle.std.specs.Prelude.{◌≡◌, ℕ, ◌<◌, ◌≤◌, Bool, true, false, List, Some, None, Option}
use Rattle.card.specs.Cards.{Short}
use Rattle.card.specs.Profiles.{declared_set, required}
use Rattle.card.specs.declared.line.Line.{Line}
use Rattle.card.specs.declared.profile.Profile.{Profile}
use Rattle.cases.specs.Files.{CommonFile, SecurityFile, TreeFile, FreeFile}
use Rattle.cases.specs.declared.structure.Structure.{Structure}
use Rattle.common.specs.declared.lines.CommonLines.{CommonLines}
use Rattle.record.specs.Clean.{Clean, CleanStructure, CleanCommon}
use Rattle.record.specs.Parts.{WritesTrees, WritesFree, WritesSecurity, WritesCommon}

-- each of the two follows from the other
abbrev pub Iff : Type 0 → Type 0 → Type 0
Iff P Q = (P → Q) × (Q → P)

-- no two parts write the same bytes
abbrev pub OnePart : {Part : Type 0} → (Part → List ℕ → Type 0) → Type 0
OnePart {Part} Writes =
    (part other : Part) (bytes : List ℕ) → Writes part bytes → Writes other bytes → part ≡ other

-- some part writes the bytes
abbrev pub SomePart : {Part : Type 0} → (Part → List ℕ → Type 0) → List ℕ → Type 0
SomePart {Part} Writes bytes = (part : Part) × Writes part bytes

-- a required file is there and some part writes it; any other file is absent
abbrev pub Fits : {Part : Type 0} → (Part → List ℕ → Type 0) → Bool → Option (List ℕ) → Type 0
Fits Writes true None = ⊥
Fits Writes false None = Unit {0}
Fits Writes true (Some bytes) = SomePart Writes bytes
Fits Writes false (Some bytes) = ⊥

-- What holds of these files, each absent or of at most 32,767 bytes, and of their lines. EF.SOD is required under every
-- profile.
pub record StructureLaws : Type 0 where
  pub trees_clean_exactly_when_written :
      (file : ℕ) → file ≤ 17
      → (profile : Profile) (content : Option (List ℕ)) (lines : Structure)
      → Short content → TreeFile profile file content lines
      → Iff (CleanStructure lines) (Fits (WritesTrees file) (required profile file) content)
  pub trees_written_by_one_part : (file : ℕ) → file ≤ 17 → OnePart (WritesTrees file)
  pub free_clean_exactly_when_written :
      (profile : Profile) (content : Option (List ℕ)) (lines : Structure)
      → Short content → FreeFile profile content lines
      → Iff (CleanStructure lines) (Fits WritesFree (required profile 13) content)
  pub free_written_by_one_part : OnePart WritesFree
  pub security_clean_exactly_when_written :
      (profile : Profile) (content : Option (List ℕ)) (lines : Structure) (single : Line)
      → Short content → SecurityFile profile content lines single
      → Iff (CleanStructure lines × Clean single) (Fits WritesSecurity true content)
  pub security_written_by_one_part : OnePart WritesSecurity

-- The same of EF.COM, which is required too. Its bytes tell the declared set as well.
pub record CommonLaws : Type 0 where
  pub common_clean_exactly_when_written :
      (profile : Profile) (content : Option (List ℕ)) (lines : Structure) (common : CommonLines)
      → Short content → CommonFile profile content lines common
      → Iff (CleanStructure lines × CleanCommon common)
      (Fits (WritesCommon (declared_set profile)) true content)
  pub common_written_by_one_order_of_one_set :
      (set other : ℕ) (tags order bytes : List ℕ) → set < 65536 → other < 65536
      → WritesCommon set tags bytes → WritesCommon other order bytes
      → (tags ≡ order) × (set ≡ other)
