use Rattle.std.proofs.Common.{◌≡◌, ◌-◌, length}
use Rattle.image.proofs.Passing.{Passed, Gathered}
use Rattle.image.proofs.image.files_of.Given as goal

-- lawful fields have been passed up to the place, and their files stand in the table
abbrev pub invariant-loop-field : goal.invariant-loop-field
invariant-loop-field l =
    record {
      can_next : (goal.iterator-loop-field).can_next l.field-iterator;
      ends : (goal.iterator-loop-field).is_finite l.field-iterator;
      passed : Passed l.bytes l.field-iterator.row.now l.lowest;
      gathered : Gathered l.bytes l.field-iterator.row.now l.lowest l.by_number;
      place : l.position ≡ length l.bytes - length l.field-iterator.row.now;
    }
