-- Case 1: from a file that is required and there to any file.
use Rattle.std.proofs.Common.{◌≡◌, ℕ, ◌≤◌, Bool, true, false, List, length, Some, None, Option, refl, subst}
use borrow.Author.Tests.{both_ways}
use Rattle.card.specs.Cards.{Short, template_tag_of}
use Rattle.card.specs.Lines.{Says}
use Rattle.cases.specs.Files.{FreeTemplate}
use Rattle.cases.specs.Structures.{Later, Framed, Structured}
use Rattle.cases.specs.Templates.{One, Off}
use Rattle.cases.specs.declared.structure.Structure.{Structure}
use Rattle.record.specs.Clean.{Clean, CleanStructure}
use Rattle.record.specs.Laws.{Iff, SomePart, Fits}
use Rattle.record.proofs.Gates.{failed, passed, unused}

module _ {Part : Type 0} (Writes : Part → List ℕ → Type 0) (tag : ℕ) (lines : Structure) (later : Later) (Passes : Type 0)
    (law : (bytes : List ℕ) → length bytes ≤ 32767 → Framed tag bytes lines later
    → Iff (Clean lines.template × Clean lines.tiling × Passes) (SomePart Writes bytes)) where
  -- a file whose later cases do not fail exactly if `Passes` holds
  pub structured : (required : Bool) (content : Option (List ℕ)) → Short content → (required ≡ false → Passes)
      → Structured tag required content lines later → Iff (CleanStructure lines × Passes) (Fits Writes required content)
  structured true None s idle p = (λ c. failed p.0.0 c.0.0, λ z. absurd z)
  structured false None s idle p = (λ c. tt, λ z. ((passed p.0.0, unused p.0.1, unused p.0.2), idle refl))
  structured true (Some bytes) s idle p =
      let k = law bytes s p.1 in
      (λ c. k.0 (c.0.1, c.0.2, c.1), λ z. let r = k.1 z in ((passed p.0, r.0, r.1), r.2))
  structured false (Some bytes) s idle p = (λ c. failed p.0.0 c.0.0, λ z. absurd z)

  -- one that is required under every profile
  pub always : (required : Bool) (content : Option (List ℕ)) → Short content → required ≡ true
      → Structured tag required content lines later → Iff (CleanStructure lines × Passes) (Fits Writes true content)
  always required content s e p =
      structured true content s (λ n. elim (both_ways true n refl) [ ]) (subst (λ b. Structured tag b content lines later) e p)

-- DG13, which has no case 3
pub structured_free : {Part : Type 0} (Writes : Part → List ℕ → Type 0) (required : Bool) (content : Option (List ℕ)) (lines : Structure) → Short content
    → ((bytes : List ℕ) → length bytes ≤ 32767 → Says lines.template (One (template_tag_of 13) bytes) (Off (template_tag_of 13) bytes)
    → Iff (Clean lines.template) (SomePart Writes bytes))
    → Clean lines.tiling → FreeTemplate required content lines → Iff (CleanStructure lines) (Fits Writes required content)
structured_free Writes true None lines s law t p = (λ c. failed p.0 c.0, λ z. absurd z)
structured_free Writes false None lines s law t p = (λ c. tt, λ z. (passed p.0, unused p.1, t))
structured_free Writes true (Some bytes) lines s law t p = let k = law bytes s p.1 in (λ c. k.0 c.1, λ z. (passed p.0, k.1 z, t))
structured_free Writes false (Some bytes) lines s law t p = (λ c. failed p.0 c.0, λ z. absurd z)
