use Rattle.std.proofs.Common.{sym, refl, ◌∙◌}
use borrow.Author.Tests.{both_ways}
use Rattle.std.proofs.lemmas.Bool.Decides.{Decides-eqb}
use Rattle.std.proofs.lemmas.Slice.Eq.{slice_eq-Decides}
use Rattle.faces.proofs.Risings.{has_here, has_on}
use Rattle.faces.proofs.features.has.Goals as goal
use Rattle.faces.proofs.features.has.Goals.{else-tag-via-then-tag+else-eq, else-tag-via-else-tag}

pub returns-then-eq : goal.returns-then-eq
returns-then-eq c =
    let same = (slice_eq-Decides Decides-eqb _ _ _ c.eq.ensures).0 c.if-eq.true in
    (λ _. c.loop-object.invariant.0 (has_here c.in-Some.ensures.begins (sym c.tag.ensures ∙ c.if-tag.true) (sym c.value.ensures ∙ same)), λ _. refl)

pub loop-object-preserved : goal.loop-object-preserved
loop-object-preserved c =
    has_on c.in-Some.ensures.begins
    (λ e f. elim c.else-tag.branch [
      | else-tag-via-then-tag+else-eq w ↦ both_ways _ w.if-eq.false ((slice_eq-Decides Decides-eqb _ _ _ w.eq.ensures).1 (w.value.ensures ∙ f))
      | else-tag-via-else-tag w ↦ w.if-tag.false (c.tag.ensures ∙ e)
    ])
    c.loop-object.invariant
