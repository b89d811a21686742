-- The lines of a file by the numbers of their cases, which lines the cases give, and that they give each only once.
use Rattle.std.specs.Prelude.{◌≡◌, ℕ, ◌≤◌, List, Option}
use Rattle.card.specs.Cards.{Files}
use Rattle.card.specs.Cases.{HasLine}
use Rattle.card.specs.Purposes.{purpose_of}
use Rattle.card.specs.Sheets.{CardLines}
use Rattle.card.specs.declared.files.Purpose.{Purpose}
use Rattle.card.specs.declared.files.Purpose.TheVariants.{Common, Zone, Faces, Trees, Free, Security}
use Rattle.card.specs.declared.line.Line.{Line}
use Rattle.card.specs.declared.profile.Profile.{Profile}
use Rattle.common.specs.declared.lines.CommonLines.{CommonLines}
use Rattle.faces.specs.declared.lines.FaceLines.{FaceLines}
use Rattle.zone.specs.declared.lines.ZoneLines.{ZoneLines}
use Rattle.cases.specs.Files.{CommonFile, ZoneFile, FaceFile, SecurityFile, TreeFile, FreeFile}
use Rattle.cases.specs.declared.structure.Structure.{Structure}
use Rattle.sheet.specs.Sheets.{line_on, Written}
use Rattle.sheet.specs.declared.sheet.Sheet.{Sheet}

-- the lines of one file, by the numbers of the cases
abbrev pub Lines : Type 0
Lines = ℕ → Line

-- cases 1 to 3, which every file has
abbrev pub structure_of : Lines → Structure
structure_of lines = record { present = lines 1; template = lines 2; tiling = lines 3 }

-- cases 4 to 8, those of EF.COM
abbrev pub common_of : Lines → CommonLines
common_of lines = record {
  contents = lines 4;
  version = lines 5;
  unicode = lines 6;
  tags = lines 7;
  declared = lines 8;
}

-- cases 9 to 20, those of DG1
abbrev pub zone_of : Lines → ZoneLines
zone_of lines = record {
  zone = lines 9;
  characters = lines 10;
  code = lines 11;
  issuer = lines 12;
  name = lines 13;
  number = lines 14;
  nationality = lines 15;
  birth = lines 16;
  sex = lines 17;
  expiry = lines 18;
  optional = lines 19;
  composite = lines 20;
}

-- cases 21 to 23, those of DG2
abbrev pub faces_of : Lines → FaceLines
faces_of lines = record { group = lines 21; entries = lines 22; features = lines 23 }

-- The lines that the cases give for a file of this purpose and number, absent or of some bytes, under a profile.
abbrev pub AreLinesFor : Purpose → Profile → ℕ → Option (List ℕ) → Lines → Type 0
AreLinesFor Common profile file content lines =
    CommonFile profile content (structure_of lines) (common_of lines)
AreLinesFor Zone profile file content lines =
    ZoneFile profile content (structure_of lines) (zone_of lines)
AreLinesFor Faces profile file content lines =
    FaceFile profile content (structure_of lines) (faces_of lines)
AreLinesFor Trees profile file content lines =
    TreeFile profile file content (structure_of lines)
AreLinesFor Free profile file content lines =
    FreeFile profile content (structure_of lines)
AreLinesFor Security profile file content lines =
    SecurityFile profile content (structure_of lines) (lines 24)

-- The lines that the cases give for a file of this number.
abbrev pub AreFileLines : Profile → ℕ → Option (List ℕ) → Lines → Type 0
AreFileLines profile file = AreLinesFor (purpose_of file) profile file

-- A file is judged: its lines on the sheet are lines that the cases give, it counts as judged, and all else on the sheet is as
-- it was.
pub record Judged (profile : Profile) (file : ℕ) (content : Option (List ℕ))
    (sheet sheet' : Sheet) : Type 0 where
  pub lines : Lines
  pub given : AreFileLines profile file content lines
  pub written : Written file lines sheet sheet'

-- the lines that the cases give for a whole card
abbrev pub CardGives : Profile → Files → CardLines → Type 0
CardGives profile files lines =
    (file : ℕ) → file ≤ 17 → AreFileLines profile file (files file) (λ case. lines case file)

-- lines of a file that are, at each case that the file has, lines that the cases give
pub record HoldsVerdict (profile : Profile) (file : ℕ) (content : Option (List ℕ)) (held : Lines)
    : Type 0 where
  pub lines : Lines
  pub given : AreFileLines profile file content lines
  pub same : (case : ℕ) → HasLine case file → held case ≡ lines case

-- a sheet holds verdicts of all files of a card
abbrev pub HoldsCard : Profile → Files → Sheet → Type 0
HoldsCard profile files sheet = (file : ℕ) → file ≤ 17
    → HoldsVerdict profile file (files file) (λ case. line_on sheet case file)

-- The line that the cases give for a case of a file: some lines that they give have it, and no others have another.
pub record Verdict (profile : Profile) (file : ℕ) (content : Option (List ℕ)) (case : ℕ)
    (line : Line) : Type 0 where
  pub lines : Lines
  pub given : AreFileLines profile file content lines
  pub line_is : lines case ≡ line
  pub no_other : (others : Lines) → AreFileLines profile file content others → others case ≡ line

-- The cases give every line only once: whoever judges the same file under the same profile has the same line in each case that
-- the file has.
abbrev pub OneVerdict : Type 0
OneVerdict = (profile : Profile) (file : ℕ) (content : Option (List ℕ)) (lines others : Lines)
    → AreFileLines profile file content lines → AreFileLines profile file content others
    → (case : ℕ) → HasLine case file → lines case ≡ others case
