use Rattle.faces.proofs.Groupings.{no_count, other_count, found_when}
use Rattle.faces.proofs.group.find_entries.Goals as goal

pub returns-in_err-take : goal.returns-in_err-take
returns-in_err-take c =
    let i = c.starting-inside.ensures in
    rw c.from_residual-in_err-take.ensures (no_count c.in_ok-group.ensures _ i.bytes i.position c.in_err-take.ensures)

pub returns-in_err-count : goal.returns-in_err-count
returns-in_err-count c =
    let i = c.starting-inside.ensures in
    rw c.from_residual-in_err-count.ensures (other_count c.in_ok-group.ensures _ i.bytes i.position c.in_ok-take.ensures c.in_err-count.ensures)

pub returns : goal.returns
returns c =
    let i = c.starting-inside.ensures in
    rw c.then_some.ensures (found_when c.in_ok-group.ensures _ i.bytes i.position c.in_ok-take.ensures c.in_ok-count.count c.in_ok-count.ensures c.is_row.result c.is_row.ensures)
