use Rattle.std.proofs.Common.{◌+◌, drop, get_or, subst, sym, ap, ◌∙◌, arith}
use Rattle.std.proofs.lemmas.List.{drop_more, drop_all}
use Rattle.card.specs.Cases.{own_rows, InRow}
use Rattle.card.specs.declared.cases.CaseRow.{CaseRow}
use Rattle.sheet.proofs.Places.{Seeking, next_row, found_row, no_row}
use Rattle.sheet.proofs.sheet.index.Goals as goal

pub loop-row-preserved : goal.loop-row-preserved
loop-row-preserved c =
    let i = c.loop-row.row-index in
    let none : CaseRow = record { file = 0; first = 0; count = 0 } in
    let row = get_or own_rows i none in
    let more = drop (i + 1) own_rows in
    let s = subst (λ z. Seeking c.args.case c.args.file z c.loop-row.at) (drop_more own_rows i none c.loop-row-test.true) c.loop-row.invariant.seeking in
    let outside : InRow row c.args.case c.args.file → ⊥ = λ h. let t = c.has.ensures.1 h in let f = c.if-has.false in cc in
    record {
      few = omega arith;
      seeking = subst (λ n. Seeking c.args.case c.args.file more (c.loop-row.at + n)) (sym c.from-at.ensures) (next_row c.args.case c.args.file row more c.loop-row.at s outside);
    }

pub returns-then-has : goal.returns-then-has
returns-then-has c =
    let i = c.loop-row.row-index in
    let none : CaseRow = record { file = 0; first = 0; count = 0 } in
    let row = get_or own_rows i none in
    let more = drop (i + 1) own_rows in
    let s = subst (λ z. Seeking c.args.case c.args.file z c.loop-row.at) (drop_more own_rows i none c.loop-row-test.true) c.loop-row.invariant.seeking in
    let inside : InRow row c.args.case c.args.file = c.has.ensures.0 c.if-has.true in
    let f = found_row c.args.case c.args.file row more c.loop-row.at s inside in
    (f.0, ap (λ n. c.loop-row.at + n) c.from-then-has.ensures ∙ f.1)

pub returns : goal.returns
returns c = λ line. no_row c.args.case c.args.file c.loop-row.at (omega arith)
    (subst (λ z. Seeking c.args.case c.args.file z c.loop-row.at) (drop_all c.loop-row.row-index own_rows c.loop-row-test.false) c.loop-row.invariant.seeking) line
