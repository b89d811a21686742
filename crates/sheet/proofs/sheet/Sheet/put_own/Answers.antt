use Rattle.std.proofs.Common.{◌≡◌, ◌+◌, min, length, take, drop, get_or, sym, ap, ◌∙◌, subst, arith}
use Rattle.std.proofs.lemmas.List.{drop_more, drop_all}
use Rattle.card.specs.Cases.{own_rows}
use Rattle.card.specs.declared.cases.CaseRow.{CaseRow}
use Rattle.sheet.specs.Tables.{Put}
use Rattle.sheet.proofs.Writing.{SoFar, row_of_another, row_of_this, all_put}
use Rattle.sheet.proofs.sheet.Sheet.put_own.Goals as goal
use Rattle.sheet.proofs.sheet.Sheet.put_own.Goals.{then-row-file, else-row-file}

pub loop-row-preserved : goal.loop-row-preserved
loop-row-preserved c =
    let file = c.args.file in
    let own = c.args.own.now in
    let before = c.args.self.now.lines in
    let i = c.loop-row.row-index in
    let at = c.loop-row.at in
    let rest = c.loop-row.rest.now in
    let table = c.loop-row.self.lines in
    let none : CaseRow = record { file = 0; first = 0; count = 0 } in
    let row = get_or own_rows i none in
    let more = drop (i + 1) own_rows in
    let count : c.from-count.result ≡ row.count = c.from-count.ensures in
    let s = subst (λ z. SoFar file own before z at rest table) (drop_more own_rows i none c.loop-row-test.true) c.loop-row.invariant.so_far in
    record {
      few = omega arith;
      so_far = elim c.if-row-file.branch [
        | then-row-file w ↦
            let n = w.min.result in
            let many : n ≡ min row.count (length rest) = w.min.ensures ∙ ap (λ k. min k (length rest)) count in
            let put : Put at (take n rest) table w.put.new.self.lines = subst (λ z. Put at z table w.put.new.self.lines) w.split_at.ensures.front w.put.ensures.lines in
            let next = row_of_this file own before row more at rest table s w.if-row-file.true n many w.put.new.self.lines put in
            let told : c.if-row-file.rest.now ≡ drop n rest = ap (λ r. r.now) w.rest-is ∙ w.split_at.ensures.back in
            subst (λ z. SoFar file own before more (at + z) c.if-row-file.rest.now c.if-row-file.self.lines) (sym count)
            (subst (λ z. SoFar file own before more (at + row.count) z c.if-row-file.self.lines) (sym told)
            (subst (SoFar file own before more (at + row.count) (drop n rest)) (sym (ap (λ t. t.lines) w.self-is)) next))
        | else-row-file w ↦
            let next = row_of_another file own before row more at rest table s w.if-row-file.false in
            subst (λ z. SoFar file own before more (at + z) c.if-row-file.rest.now c.if-row-file.self.lines) (sym count)
            (subst (λ z. SoFar file own before more (at + row.count) z c.if-row-file.self.lines) (sym (ap (λ r. r.now) w.rest-is))
            (subst (SoFar file own before more (at + row.count) rest) (sym (ap (λ t. t.lines) w.self-is)) next))
      ];
      judged = elim c.if-row-file.branch [
        | then-row-file w ↦ ap (λ t. t.judged) w.self-is ∙ w.put.ensures.judged ∙ c.loop-row.invariant.judged
        | else-row-file w ↦ ap (λ t. t.judged) w.self-is ∙ c.loop-row.invariant.judged
      ];
    }

pub returns-clause-lines : goal.returns-clause-lines
returns-clause-lines c =
    let file = c.args.file in
    let before = c.args.self.now.lines in
    all_put file c.loop-row.at c.args.own.now before c.loop-row.rest.now c.loop-row.self.lines
    (subst (λ z. SoFar file c.args.own.now before z c.loop-row.at c.loop-row.rest.now c.loop-row.self.lines) (drop_all c.loop-row.row-index own_rows c.loop-row-test.false) c.loop-row.invariant.so_far)
