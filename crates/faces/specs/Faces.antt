-- What the lines of cases 21 to 23 say of the value of DG2's template.
use Rattle.std.specs.Prelude.{◌≡◌, ℕ, ◌<◌, List, [], length}
use Rattle.card.specs.declared.line.Line.{Line}
use Rattle.card.specs.declared.line.Line.TheVariants.{Blocked}
use Rattle.card.specs.Lines.{Says, Gates}
use Rattle.object.specs.Objects.{Begins}
use Rattle.faces.specs.Rows.{Each, IsAnswer, FirstFailing}
use Rattle.faces.specs.Groups.{Grouped, entries_place}
use Rattle.faces.specs.Rising.{LawfulFeatures}
use Rattle.faces.specs.declared.entries.FailingEntry.{FailingEntry}
use Rattle.faces.specs.declared.lines.FaceLines.{FaceLines}

-- the lines where the own cases are not judged: each is this one
abbrev pub faces_unjudged : Line → FaceLines
faces_unjudged line = record { group = line; entries = line; features = line }

-- case 22: an entry's value is exactly A1, the header, and 5F2E, the face block, which is not empty
pub record Entry (value : List ℕ) : Type 0 where
  pub header : List ℕ
  pub rest : List ℕ
  pub block : List ℕ
  pub first : Begins value 0xA1 header rest
  pub second : Begins rest 0x5F2E block []
  pub some : 0 < length block

-- case 23: an entry's value begins with an A1, the header, whose features are lawful
abbrev pub Described : List ℕ → Type 0
Described value =
    (header : List ℕ) × (rest : List ℕ) × Begins value 0xA1 header rest × LawfulFeatures header

-- the entries stand at this place, and this is the first of whose value P does not hold
abbrev pub FirstWithout : (List ℕ → Type 0) → ℕ → List ℕ → FailingEntry → Type 0
FirstWithout P = FirstFailing 0x7F60 (IsAnswer P)

-- Cases 22 and 23 over the entries, which stand at this place. Case 22 fails at the start of the first 7F60 of which it
-- does not hold, and case 23 at the start of its A1, the first byte of the 7F60's value.
abbrev pub AreEntryLines : ℕ → List ℕ → FaceLines → Type 0
AreEntryLines place bytes lines =
    Gates lines.entries (Each 0x7F60 Entry bytes)
    (λ at. (entry : FailingEntry) × FirstWithout Entry place bytes entry × (at ≡ entry.start))
    (λ _. Says lines.features (Each 0x7F60 Described bytes)
    (λ at. (entry : FailingEntry) × FirstWithout Described place bytes entry × (at ≡ entry.value)))
    (lines.features ≡ Blocked)

-- Cases 21 to 23 over the template's value, which stands at this place. Case 21 fails at that place, whatever is wrong.
abbrev pub AreFaceLines : ℕ → List ℕ → FaceLines → Type 0
AreFaceLines place value lines =
    Gates lines.group (Grouped value) (λ at. at ≡ place)
    (λ found. AreEntryLines (entries_place place found.0 found.1) found.2 lines)
    ((lines.entries ≡ Blocked) × (lines.features ≡ Blocked))
