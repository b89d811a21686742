use Rattle.std.proofs.Common.{arith, rules}
use Rattle.image.proofs.Rows.{too_few, no_room}
use Rattle.image.proofs.image.FieldsIterator.next.Goals as goal

pub returns-in_default-clause-steps : goal.returns-in_default-clause-steps
returns-in_default-clause-steps c = too_few _ c.args.self.now.row.now (omega arith)

pub returns-then-size-from-clause-steps : goal.returns-then-size-from-clause-steps
returns-then-size-from-clause-steps c = no_room _ c.args.self.now.row.now (omega arith) (λ h. absurd (omega arith))

pub returns-in_err-content-clause-steps : goal.returns-in_err-content-clause-steps
returns-in_err-content-clause-steps c = rw c.from_residual.ensures (no_room _ c.args.self.now.row.now (omega arith) (λ h. search rules))
