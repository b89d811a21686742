-- DG2: no line fails exactly when some face entries write the file, and only one list of entries does.
use Rattle.std.specs.Prelude.{ℕ, true, List, Option}
use Rattle.card.specs.Cards.{Short}
use Rattle.card.specs.declared.profile.Profile.{Profile}
use Rattle.cases.specs.Files.{FaceFile}
use Rattle.cases.specs.declared.structure.Structure.{Structure}
use Rattle.faces.specs.declared.lines.FaceLines.{FaceLines}
use Rattle.record.specs.Clean.{CleanStructure, CleanFaces}
use Rattle.record.specs.Faces.{WritesFaces}
use Rattle.record.specs.Laws.{Iff, OnePart, Fits}

-- What holds of DG2, absent or of at most 32,767 bytes, and of its lines. It is required under every profile.
pub record FaceLaws : Type 0 where
  pub faces_clean_exactly_when_written :
      (profile : Profile) (content : Option (List ℕ)) (lines : Structure) (faces : FaceLines)
      → Short content → FaceFile profile content lines faces
      → Iff (CleanStructure lines × CleanFaces faces) (Fits WritesFaces true content)
  pub faces_written_by_one_part : OnePart WritesFaces
