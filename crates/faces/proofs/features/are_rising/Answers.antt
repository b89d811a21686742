use Rattle.std.proofs.Common.{◌≡◌, length, refl, arith}
use Rattle.std.proofs.lemmas.Bool.{false≢true}
use Rattle.object.specs.Readers.{rest_of, tag, value}
use Rattle.faces.specs.Rising.{feature_list, Listed}
use Rattle.faces.proofs.Risings.{rising_first, rising_on, rising_when}
use Rattle.faces.proofs.features.are_rising.Goals as goal
use Rattle.faces.proofs.features.are_rising.Goals.{then-tag-last-via-then-tag-last, then-tag-last-via-else-tag-last+then-not-is_listed}

pub returns-then-tag-last : goal.returns-then-tag-last
returns-then-tag-last c = (
  λ w. absurd (false≢true w),
  λ h.
      let first = rising_first c.in-Some.ensures.begins (c.loop-object.invariant.1 h) in
      absurd (elim c.then-tag-last.branch [
        | then-tag-last-via-then-tag-last w ↦ omega (arith, first.0, w.if-tag-last.true, c.tag-tag.ensures)
        | then-tag-last-via-else-tag-last+then-not-is_listed w ↦
            let a : Listed feature_list c.tag-tag.result (length w.value.result.now) = rw (c.tag-tag.ensures, w.value.ensures) first.1 in
            false≢true (w.if-not-is_listed.ensures.1 a)
      ]),
)

pub loop-object-preserved : goal.loop-object-preserved
loop-object-preserved c =
    let a : Listed feature_list c.tag-tag.result (length c.value.result.now) = c.if-not-is_listed.ensures.0 refl in
    let b : Listed feature_list (tag c.in-Some.object) (length (value c.in-Some.object)) = rw (c.tag-tag.ensures, c.value.ensures) at a in
    rw c.tag-tag.ensures (rising_on {r = rest_of c.next.new.self} c.in-Some.ensures.begins (rw c.tag-tag.ensures at c.if-tag-last.false) b c.loop-object.invariant)

pub returns : goal.returns
returns c =
    let s = c.in_default.ensures in
    let e : rest_of c.next.new.self ≡ rest_of c.loop-object.reader = rw (s.position, s.bytes) in
    rising_when _ _ s.unread e c.is_done.ensures c.loop-object.invariant
