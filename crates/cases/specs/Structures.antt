-- Cases 1 to 3 of a file, and what they leave to its later cases.
use Rattle.std.specs.Prelude.{◌≡◌, ℕ, Bool, true, false, List, [], Some, None, Option}
use Rattle.card.specs.Lines.{Gates}
use Rattle.card.specs.declared.line.Line.{Line}
use Rattle.card.specs.declared.line.Line.TheVariants.{Pass, Fail, NotApplicable, Blocked}
use Rattle.object.specs.Objects.{Begins, header_size}
use Rattle.object.specs.Trees.{Tiled, First}
use Rattle.object.specs.Readers.{rest_of}
use Rattle.object.specs.declared.reader.Reader.{Reader}
use Rattle.cases.specs.Templates.{One, Off}
use Rattle.cases.specs.declared.structure.Structure.{Structure}
use Rattle.cases.specs.declared.structure.Unjudged.{Unjudged}

-- What is said of the cases of a file behind the first three. They are judged over the template's value, which stands at a
-- place. Where they are not judged, each has this line: blocked behind a failed case, and not applicable where the file is
-- neither required nor there.
pub record Later : Type 1 where
  pub judged : ℕ → List ℕ → Type 0
  pub unjudged : Line → Type 0

-- What cases 2 and 3 say of a required file that is there.
abbrev pub Framed : ℕ → List ℕ → Structure → Later → Type 0
Framed tag bytes lines later =
    Gates lines.template (One tag bytes) (Off tag bytes)
    (λ one. Gates lines.tiling (Tiled 15 one.0) (First 15 (header_size tag one.0) one.0)
    (λ _. later.judged (header_size tag one.0) one.0) (later.unjudged Blocked))
    ((lines.tiling ≡ Blocked) × later.unjudged Blocked)

-- cases 1 to 3 of a file that is there and should not be, or is not there and should be
abbrev pub Misplaced : Structure → Type 0
Misplaced lines = (lines.present ≡ Fail 0) × (lines.template ≡ Blocked) × (lines.tiling ≡ Blocked)

-- cases 1 to 3 of a file that neither is there nor should be
abbrev pub Unused : Structure → Type 0
Unused lines =
    (lines.present ≡ Pass) × (lines.template ≡ NotApplicable) × (lines.tiling ≡ NotApplicable)

-- The lines of a file, absent or of some bytes, whose template has this tag and which is required or not.
abbrev pub Structured : ℕ → Bool → Option (List ℕ) → Structure → Later → Type 0
Structured tag true None lines later = Misplaced lines × later.unjudged Blocked
Structured tag false None lines later = Unused lines × later.unjudged NotApplicable
Structured tag true (Some bytes) lines later = (lines.present ≡ Pass) × Framed tag bytes lines later
Structured tag false (Some bytes) lines later = Misplaced lines × later.unjudged Blocked

-- one of the three does not pass, and each later case has the line that stands beside theirs
abbrev pub IsStopped : ℕ → Bool → Option (List ℕ) → Unjudged → Type 0
IsStopped tag required content stopped =
    Structured tag required content stopped.structure
    (record { judged = λ _ _. ⊥; unjudged = λ line. line ≡ stopped.later })

-- a required file that is there has these bytes
abbrev pub Expected : Bool → Option (List ℕ) → List ℕ → Type 0
Expected required None bytes = ⊥
Expected true (Some is) bytes = bytes ≡ is
Expected false (Some is) bytes = ⊥

-- there is no file to look into, or none that should be there
abbrev pub Unopened : Bool → Option (List ℕ) → Unjudged → Type 0
Unopened true None stopped = Misplaced stopped.structure × (stopped.later ≡ Blocked)
Unopened false None stopped = Unused stopped.structure × (stopped.later ≡ NotApplicable)
Unopened true (Some bytes) stopped = ⊥
Unopened false (Some bytes) stopped = Misplaced stopped.structure × (stopped.later ≡ Blocked)

-- all three pass, and the reader has the value of the template before it
pub record OpensFile (tag : ℕ) (bytes : List ℕ) (reader : Reader) : Type 0 where
  pub begins : Begins bytes tag (rest_of reader) []
  pub at : reader.position ≡ header_size tag (rest_of reader)
  pub tiled : Tiled 15 (rest_of reader)

abbrev pub IsSound : ℕ → Bool → Option (List ℕ) → Reader → Type 0
IsSound tag required None reader = ⊥
IsSound tag true (Some bytes) reader = OpensFile tag bytes reader
IsSound tag false (Some bytes) reader = ⊥
