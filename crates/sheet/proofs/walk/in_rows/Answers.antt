use Rattle.std.proofs.Common.{◌+◌, ◌-◌, drop, get_or, sym, ap, ◌∙◌, arith}
use Rattle.std.specs.List.{slice_get, flat_map}
use Rattle.std.proofs.lemmas.List.{drop_more}
use Rattle.card.specs.Cases.{own_rows, lines_of_row}
use Rattle.card.specs.declared.cases.CaseRow.{CaseRow}
use Rattle.sheet.proofs.Walking.{first_row, later_rows}
use Rattle.sheet.proofs.walk.in_rows.Goals as goal

pub loop-row-preserved : goal.loop-row-preserved
loop-row-preserved c =
    let i = c.loop-row.row-index in
    let none : CaseRow = record { file = 0; first = 0; count = 0 } in
    let row = get_or own_rows i none in
    let more = drop (i + 1) own_rows in
    let left = c.loop-row.left in
    record {
      few = omega arith;
      same = c.loop-row.invariant.same ∙ ap (λ z. slice_get (flat_map lines_of_row z) left) (drop_more own_rows i none c.loop-row-test.true)
          ∙ later_rows row more left (omega (arith, c.from.ensures)) ∙ ap (λ n. slice_get (flat_map lines_of_row more) (left - n)) (sym c.from-left.ensures);
    }

pub returns-then-left-from : goal.returns-then-left-from
returns-then-left-from c =
    let i = c.loop-row.row-index in
    let none : CaseRow = record { file = 0; first = 0; count = 0 } in
    let row = get_or own_rows i none in
    let left = c.loop-row.left in
    sym (c.loop-row.invariant.same ∙ ap (λ z. slice_get (flat_map lines_of_row z) left) (drop_more own_rows i none c.loop-row-test.true)
    ∙ first_row row (drop (i + 1) own_rows) left (omega (arith, c.from.ensures)))
