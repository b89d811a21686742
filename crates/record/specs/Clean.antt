-- Lines that do not fail.
use Rattle.card.specs.declared.line.Line.{Line}
use Rattle.card.specs.declared.line.Line.TheVariants.{Open, Pass, Fail, NotApplicable, Blocked}
use Rattle.cases.specs.declared.structure.Structure.{Structure}
use Rattle.common.specs.declared.lines.CommonLines.{CommonLines}
use Rattle.faces.specs.declared.lines.FaceLines.{FaceLines}
use Rattle.zone.specs.declared.lines.ZoneLines.{ZoneLines}

-- the line does not fail
abbrev pub Clean : Line → Type 0
Clean Open = Unit {0}
Clean Pass = Unit {0}
Clean (Fail place) = ⊥
Clean NotApplicable = Unit {0}
Clean Blocked = Unit {0}

-- none of the lines of cases 1 to 3 fails
abbrev pub CleanStructure : Structure → Type 0
CleanStructure lines = Clean lines.present × Clean lines.template × Clean lines.tiling

-- none of the lines of cases 4 to 8 fails
abbrev pub CleanCommon : CommonLines → Type 0
CleanCommon lines =
    Clean lines.contents × Clean lines.version × Clean lines.unicode
    × Clean lines.tags × Clean lines.declared

-- none of the lines of cases 9 to 20 fails
pub record CleanZone (lines : ZoneLines) : Type 0 where
  pub zone : Clean lines.zone
  pub characters : Clean lines.characters
  pub code : Clean lines.code
  pub issuer : Clean lines.issuer
  pub name : Clean lines.name
  pub number : Clean lines.number
  pub nationality : Clean lines.nationality
  pub birth : Clean lines.birth
  pub sex : Clean lines.sex
  pub expiry : Clean lines.expiry
  pub optional : Clean lines.optional
  pub composite : Clean lines.composite

-- none of the lines of cases 21 to 23 fails
abbrev pub CleanFaces : FaceLines → Type 0
CleanFaces lines = Clean lines.group × Clean lines.entries × Clean lines.features
