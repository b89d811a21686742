use Rattle.std.proofs.Common.{◌-◌, ◌↔◌}
use Rattle.object.specs.Readers.{rest_of}
use Rattle.faces.specs.Rows.{Row}
use Rattle.faces.proofs.group.is_row.Given as goal

abbrev pub invariant-loop : goal.invariant-loop
invariant-loop l = Row l.tag (l.count - l.counter) (rest_of l.reader) ↔ Row l.tag l.count (rest_of l.initial.reader)
