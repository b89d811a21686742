-- Cases 21 to 23 of DG2: each has one line only.
use Rattle.std.proofs.Common.{◌≡◌, ℕ, List, [], ◌∷◌, Option, sym, ap, ◌∙◌, subst}
use Rattle.card.specs.Cards.{template_tag_of}
use Rattle.card.specs.Profiles.{required}
use Rattle.card.specs.declared.line.Line.{Line}
use Rattle.card.specs.declared.profile.Profile.{Profile}
use Rattle.object.specs.Objects.{Begins}
use Rattle.object.proofs.Laws.{same}
use Rattle.faces.specs.Faces.{Entry, AreEntryLines, AreFaceLines}
use Rattle.faces.specs.Groups.{Grouped}
use Rattle.faces.specs.Rows.{Each}
use Rattle.faces.specs.declared.lines.FaceLines.{FaceLines}
use Rattle.cases.specs.Files.{FaceFile, face_cases}
use Rattle.cases.specs.Verdicts.{Lines, structure_of, faces_of}
use Rattle.cases.proofs.Gates.{gates_once, says_once, place_is}
use Rattle.cases.proofs.FailingPlaces.{entry_once}
use Rattle.cases.proofs.Agreeing.{Agree}
use Rattle.cases.proofs.OnceStructured.{structured_once}

-- the lines of cases 21 to 23, in their order
abbrev faces_row : FaceLines → List Line
faces_row lines = lines.group ∷ lines.entries ∷ lines.features ∷ []

-- the template's value is one group only, with one count and one row of entries
grouped_once : {value : List ℕ} (h k : Grouped value) → (h.0 ≡ k.0) × (h.1 ≡ k.1) × (h.2 ≡ k.2)
grouped_once h k =
    let x = same h.3.alone k.3.alone in
    let y = same (subst (λ group. Begins group 0x02 (h.0 ∷ []) h.2) x.1 h.3.counted) k.3.counted in
    let count : h.0 ≡ k.0 = cc y.1 in
    (count, x.1, y.2)

-- cases 22 and 23
entries_once : (place : ℕ) (bytes : List ℕ) (faces other : FaceLines) → AreEntryLines place bytes faces → AreEntryLines place bytes other
    → (faces.entries ≡ other.entries) × (faces.features ≡ other.features)
entries_once place bytes faces other g k =
    gates_once faces.entries other.entries (Each 0x7F60 Entry bytes) _ _ _ _ _ (faces.features ≡ other.features) (entry_once 0x7F60 Entry (λ entry. entry.start) place bytes)
    (λ _ _ a b. says_once faces.features other.features _ _ (entry_once 0x7F60 _ (λ entry. entry.value) place bytes) a b) (λ a b. a ∙ sym b) g k

-- cases 21 to 23 over the template's value
own_once : (place : ℕ) (value : List ℕ) (faces other : FaceLines) → AreFaceLines place value faces → AreFaceLines place value other
    → faces_row faces ≡ faces_row other
own_once place value faces other g k =
    let lines = gates_once faces.group other.group (Grouped value) _ _ _ _ _ ((faces.entries ≡ other.entries) × (faces.features ≡ other.features))
    (place_is place)
    (λ h i a b.
    let e = grouped_once i h in
    entries_once _ h.2 faces other a (rw (e.0, e.1, e.2) at b))
    (λ a b. (a.0 ∙ sym b.0, a.1 ∙ sym b.1))
    g k in
    cc (lines.0, lines.1.0, lines.1.1)

-- DG2
pub faces_once : (profile : Profile) (content : Option (List ℕ)) (lines others : Lines) → FaceFile profile content (structure_of lines) (faces_of lines)
    → FaceFile profile content (structure_of others) (faces_of others) → Agree 3 1 lines others × Agree 3 21 lines others
faces_once profile content lines others =
    structured_once (template_tag_of 2) (structure_of lines) (structure_of others) (face_cases (faces_of lines)) (face_cases (faces_of others)) (Agree 3 21 lines others)
    (λ place value a b. own_once place value (faces_of lines) (faces_of others) a b) (λ _ a b. ap faces_row (a ∙ sym b)) (required profile 2) content
