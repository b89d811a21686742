-- Cases 1 to 3 of any file, and case 24: each has one line only.
use Rattle.std.proofs.Common.{◌≡◌, ℕ, Bool, true, false, List, [], ◌∷◌, Some, None, Option, sym, ◌∙◌, subst}
use Rattle.card.specs.Cards.{template_tag_of}
use Rattle.card.specs.Lines.{Gates}
use Rattle.card.specs.Profiles.{required}
use Rattle.card.specs.declared.line.Line.{Line}
use Rattle.card.specs.declared.line.Line.TheVariants.{NotApplicable, Blocked}
use Rattle.card.specs.declared.profile.Profile.{Profile}
use Rattle.object.specs.Objects.{header_size}
use Rattle.object.specs.Trees.{Tiled, First}
use Rattle.object.proofs.Laws.{same}
use Rattle.cases.specs.Files.{FreeTemplate, FreeFile, TreeFile, SecurityFile, no_cases, security_cases}
use Rattle.cases.specs.Structures.{Later, Misplaced, Unused, Framed, Structured}
use Rattle.cases.specs.Templates.{One}
use Rattle.cases.specs.Verdicts.{Lines, structure_of}
use Rattle.cases.specs.declared.structure.Structure.{Structure}
use Rattle.cases.proofs.Gates.{gates_once, says_once, says_at}
use Rattle.cases.proofs.Agreeing.{Agree}
use Rattle.cases.proofs.FailingPlaces.{off_once, first_once}

-- the lines of cases 1 to 3, in their order
abbrev row_of_structure : Structure → List Line
row_of_structure lines = lines.present ∷ lines.template ∷ lines.tiling ∷ []

-- case 3 over the template's value, and what waits for it
abbrev Tiling : ℕ → Line → Later → List ℕ → Type 0
Tiling tag tiling later value =
    Gates tiling (Tiled 15 value) (First 15 (header_size tag value) value) (λ _. later.judged (header_size tag value) value) (later.unjudged Blocked)

misplaced_once : (lines others : Structure) → Misplaced lines → Misplaced others → row_of_structure lines ≡ row_of_structure others
misplaced_once lines others g k = cc (g.0, g.1, g.2, k.0, k.1, k.2)

unused_once : (lines others : Structure) → Unused lines → Unused others → row_of_structure lines ≡ row_of_structure others
unused_once lines others g k = cc (g.0, g.1, g.2, k.0, k.1, k.2)

-- Two rows of lines of one file. What is the same of their later lines over any template's value, and where they are not
-- judged, is the same.
module _ (tag : ℕ) (lines others : Structure) (later also : Later) (Same : Type 0)
    (on : (place : ℕ) (value : List ℕ) → later.judged place value → also.judged place value → Same) (off : (line : Line) → later.unjudged line → also.unjudged line → Same) where
  tiling_once : (value : List ℕ) → Tiling tag lines.tiling later value → Tiling tag others.tiling also value → (lines.tiling ≡ others.tiling) × Same
  tiling_once value =
      gates_once lines.tiling others.tiling (Tiled 15 value) _ _ _ _ _ Same
      (first_once 15 (header_size tag value) value) (λ _ _. on (header_size tag value) value) (off Blocked)

  -- cases 2 and 3
  framed_once : (bytes : List ℕ) → Framed tag bytes lines later → Framed tag bytes others also
      → (lines.template ≡ others.template) × ((lines.tiling ≡ others.tiling) × Same)
  framed_once bytes =
      gates_once lines.template others.template (One tag bytes) _ _ _ _ _ ((lines.tiling ≡ others.tiling) × Same) (off_once tag bytes)
      (λ one two a b. tiling_once one.0 a (subst (Tiling tag others.tiling also) (same two.1 one.1).1 b))
      (λ a b. (a.0 ∙ sym b.0, off Blocked a.1 b.1))

  -- cases 1 to 3
  pub structured_once : (required : Bool) (content : Option (List ℕ)) → Structured tag required content lines later → Structured tag required content others also
      → (row_of_structure lines ≡ row_of_structure others) × Same
  structured_once true None g k = (misplaced_once lines others g.0 k.0, off Blocked g.1 k.1)
  structured_once false None g k = (unused_once lines others g.0 k.0, off NotApplicable g.1 k.1)
  structured_once true (Some bytes) g k = let f = framed_once bytes g.1 k.1 in (cc (g.0, k.0, f.0, f.1.0), f.1.1)
  structured_once false (Some bytes) g k = (misplaced_once lines others g.0 k.0, off Blocked g.1 k.1)

-- a file without later cases
pub trees_once : (profile : Profile) (file : ℕ) (content : Option (List ℕ)) (lines others : Lines) → TreeFile profile file content (structure_of lines)
    → TreeFile profile file content (structure_of others) → Agree 3 1 lines others
trees_once profile file content lines others g k =
    (structured_once (template_tag_of file) (structure_of lines) (structure_of others) no_cases no_cases (Unit {0}) (λ _ _ _ _. tt) (λ _ _ _. tt) (required profile file) content g k).0

-- DG13, which has no case 3
template_once : (required : Bool) (content : Option (List ℕ)) (lines others : Structure) → FreeTemplate required content lines → FreeTemplate required content others
    → (lines.present ≡ others.present) × (lines.template ≡ others.template)
template_once true None lines others g k = (g.0 ∙ sym k.0, g.1 ∙ sym k.1)
template_once false None lines others g k = (g.0 ∙ sym k.0, g.1 ∙ sym k.1)
template_once true (Some bytes) lines others g k = (g.0 ∙ sym k.0, says_once lines.template others.template _ _ (off_once (template_tag_of 13) bytes) g.1 k.1)
template_once false (Some bytes) lines others g k = (g.0 ∙ sym k.0, g.1 ∙ sym k.1)

pub free_once : (profile : Profile) (content : Option (List ℕ)) (lines others : Lines) → FreeFile profile content (structure_of lines)
    → FreeFile profile content (structure_of others) → Agree 3 1 lines others
free_once profile content lines others g k =
    let t = template_once (required profile 13) content (structure_of lines) (structure_of others) g.1 k.1 in
    cc (t.0, t.1, g.0, k.0)

-- EF.SOD, with its case 24
pub security_once : (profile : Profile) (content : Option (List ℕ)) (lines others : Lines) → SecurityFile profile content (structure_of lines) (lines 24)
    → SecurityFile profile content (structure_of others) (others 24) → Agree 3 1 lines others × (lines 24 ≡ others 24)
security_once profile content lines others =
    structured_once (template_tag_of 17) (structure_of lines) (structure_of others) (security_cases (lines 24)) (security_cases (others 24)) (lines 24 ≡ others 24)
    (λ place value a b. says_at (lines 24) (others 24) _ place a b) (λ _ a b. a ∙ sym b) (required profile 17) content
