-- The lines of a file by what it is for: cases 1 to 3, and then those of its own.
use Rattle.std.specs.Prelude.{◌≡◌, ℕ, Bool, true, false, List, Some, None, Option}
use Rattle.card.specs.Cards.{template_tag_of}
use Rattle.card.specs.Lines.{Says}
use Rattle.card.specs.Profiles.{required}
use Rattle.card.specs.declared.line.Line.{Line}
use Rattle.card.specs.declared.line.Line.TheVariants.{Pass, Fail, NotApplicable, Blocked}
use Rattle.card.specs.declared.profile.Profile.{Profile}
use Rattle.common.specs.Lines.{AreCommonLines, common_unjudged}
use Rattle.common.specs.declared.lines.CommonLines.{CommonLines}
use Rattle.faces.specs.Faces.{AreFaceLines, faces_unjudged}
use Rattle.faces.specs.declared.lines.FaceLines.{FaceLines}
use Rattle.zone.specs.Lines.{AreZoneLines, zone_unjudged}
use Rattle.zone.specs.declared.lines.ZoneLines.{ZoneLines}
use Rattle.cases.specs.Templates.{One, Off}
use Rattle.cases.specs.Structures.{Later, Structured}
use Rattle.cases.specs.declared.structure.Structure.{Structure}

-- a file of this number, absent or of some bytes, has these lines of cases 1 to 3, and these of the later ones
abbrev pub FileHas : Profile → ℕ → Option (List ℕ) → Structure → Later → Type 0
FileHas profile file = Structured (template_tag_of file) (required profile file)

-- no later case
abbrev pub no_cases : Later
no_cases = record { judged = λ _ _. Unit {0}; unjudged = λ _. Unit {0} }

-- cases 4 to 8 of EF.COM
abbrev pub common_cases : Profile → CommonLines → Later
common_cases profile common = record {
  judged = λ place value. AreCommonLines profile place value common;
  unjudged = λ line. common ≡ common_unjudged line;
}

-- cases 9 to 20 of DG1
abbrev pub zone_cases : Profile → ZoneLines → Later
zone_cases profile zone = record {
  judged = λ place value. AreZoneLines profile place value zone;
  unjudged = λ line. zone ≡ zone_unjudged line profile;
}

-- cases 21 to 23 of DG2
abbrev pub face_cases : FaceLines → Later
face_cases faces = record {
  judged = λ place value. AreFaceLines place value faces;
  unjudged = λ line. faces ≡ faces_unjudged line;
}

-- case 24 of EF.SOD: the template's value is one object 30 and nothing more, else the case fails at its start
abbrev pub security_cases : Line → Later
security_cases single = record {
  judged = λ place value. Says single (One 0x30 value) (λ at. at ≡ place);
  unjudged = λ line. single ≡ line;
}

-- the lines of EF.COM, of DG1, of DG2 and of EF.SOD
abbrev pub CommonFile : Profile → Option (List ℕ) → Structure → CommonLines → Type 0
CommonFile profile content lines common =
    FileHas profile 0 content lines (common_cases profile common)

abbrev pub ZoneFile : Profile → Option (List ℕ) → Structure → ZoneLines → Type 0
ZoneFile profile content lines zone = FileHas profile 1 content lines (zone_cases profile zone)

abbrev pub FaceFile : Profile → Option (List ℕ) → Structure → FaceLines → Type 0
FaceFile profile content lines faces = FileHas profile 2 content lines (face_cases faces)

abbrev pub SecurityFile : Profile → Option (List ℕ) → Structure → Line → Type 0
SecurityFile profile content lines single =
    FileHas profile 17 content lines (security_cases single)

-- a data group of trees
abbrev pub TreeFile : Profile → ℕ → Option (List ℕ) → Structure → Type 0
TreeFile profile file content lines = FileHas profile file content lines no_cases

-- cases 1 and 2 of DG13, which is required or not
abbrev pub FreeTemplate : Bool → Option (List ℕ) → Structure → Type 0
FreeTemplate true None lines = (lines.present ≡ Fail 0) × (lines.template ≡ Blocked)
FreeTemplate false None lines = (lines.present ≡ Pass) × (lines.template ≡ NotApplicable)
FreeTemplate true (Some bytes) lines =
    (lines.present ≡ Pass)
    × Says lines.template (One (template_tag_of 13) bytes) (Off (template_tag_of 13) bytes)
FreeTemplate false (Some bytes) lines = (lines.present ≡ Fail 0) × (lines.template ≡ Blocked)

-- DG13, whose value is free: case 3 never applies to it
abbrev pub FreeFile : Profile → Option (List ℕ) → Structure → Type 0
FreeFile profile content lines =
    (lines.tiling ≡ NotApplicable) × FreeTemplate (required profile 13) content lines
