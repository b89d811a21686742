use Rattle.std.proofs.Common.{length, sym, ap, ◌∙◌, arith}
use Rattle.sheet.proofs.Walking.{walked_line, ended, gives}
use Rattle.sheet.proofs.walk.WalkIterator.next.Goals as goal

pub returns-in_err-case-clause-steps : goal.returns-in_err-case-clause-steps
returns-in_err-case-clause-steps c = ended c.args.self.now c.from_residual.result c.from_residual.ensures (sym c.by_case.ensures ∙ c.in_err-case.was)

-- the line that comes next is one that there is
pub returns-in_err-line-clause-steps : goal.returns-in_err-line-clause-steps
returns-in_err-line-clause-steps c =
    let there = walked_line c.args.self.now.passed (c.in_ok-case.case, c.in_ok-case.file) (sym c.by_case.ensures ∙ c.in_ok-case.was) in
    let none = rw c.in_err-line.was at c.line.ensures in
    absurd (none there)

pub returns-clause-steps : goal.returns-clause-steps
returns-clause-steps c =
    let line = rw c.in_ok-line.was at c.line.ensures in
    gives c.args.self.now (c.in_ok-case.case, c.in_ok-case.file) c.in_ok-line.line (sym c.by_case.ensures ∙ c.in_ok-case.was) line.1

pub returns-clause-goes : goal.returns-clause-goes
returns-clause-goes c =
    let line = rw c.in_ok-line.was at c.line.ensures in
    let next = gives c.args.self.now (c.in_ok-case.case, c.in_ok-case.file) c.in_ok-line.line (sym c.by_case.ensures ∙ c.in_ok-case.was) line.1 in
    record { on = λ _. (tt, tt, omega (arith, ap length next)); keeps = tt; rests = λ _. tt }
