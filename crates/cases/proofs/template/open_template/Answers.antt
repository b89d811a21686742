use Rattle.std.proofs.Common.{◌≡◌, ◌+◌, min, length, sym, ◌∙◌, subst, arith}
use Rattle.cases.specs.Templates.{Opens}
use Rattle.cases.proofs.Templates.{fails, off_tag, first_is, off_length, off_end, opens_at}
use Rattle.cases.proofs.template.open_template.Goals as goal

pub returns-in_default : goal.returns-in_default
returns-in_default c = fails c.requires (off_tag c.args.tag c.args.bytes.now c.in_default.ensures.cases)

pub returns-in_default-read_length : goal.returns-in_default-read_length
returns-in_default-read_length c =
    let p = c.in-Some.ensures.cases in
    fails c.requires (off_length c.args.tag c.args.bytes.now _ (first_is c.args.tag c.args.bytes.now _ p.0 p.1) c.in_default-read_length.ensures.value)

pub returns-then-end-bytes : goal.returns-then-end-bytes
returns-then-end-bytes c =
    let p = c.in-Some.ensures.cases in
    let h = c.in-Some-read_length.ensures in
    rw c.min.ensures
    (fails c.requires
    (off_end c.args.tag c.args.bytes.now _ c.in-Some-read_length.length c.in-Some-read_length.size (first_is c.args.tag c.args.bytes.now _ p.0 p.1) h.within.1 h.written h.value c.if-end-bytes.true))

pub returns : goal.returns
returns c =
    let p = c.in-Some.ensures.cases in
    let h = c.in-Some-read_length.ensures in
    let here : c.starting.result.position ≡ 1 + c.in-Some-read_length.size = c.starting.ensures.position ∙ (let z : min (1 + c.in-Some-read_length.size) (length c.args.bytes.now) ≡ 1 + c.in-Some-read_length.size = omega arith in z) in (
      c.starting.ensures.bytes,
      subst (Opens c.args.tag c.args.bytes.now) (sym here)
          (opens_at c.args.tag c.args.bytes.now _ c.in-Some-read_length.length c.in-Some-read_length.size (first_is c.args.tag c.args.bytes.now _ p.0 p.1) h.within.1 h.written h.value c.requires c.if-end-bytes.false),
    )
