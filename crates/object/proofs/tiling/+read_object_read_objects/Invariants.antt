use Rattle.std.proofs.Common.{◌+◌, ◌*◌, length}
use Rattle.object.specs.Readers.{Goes, rest_of}
use Rattle.object.proofs.tiling.+read_object_read_objects.Given as goal

abbrev pub decreases-read_object : goal.decreases-read_object
decreases-read_object l = 2 * l.levels

abbrev pub decreases-read_objects : goal.decreases-read_objects
decreases-read_objects l = 2 * l.levels + 1

abbrev pub invariant-read_objects-loop-reader : goal.invariant-read_objects-loop-reader
invariant-read_objects-loop-reader l = Goes l.levels l.initial.reader l.reader

abbrev pub decreases-read_objects-loop-reader : goal.decreases-read_objects-loop-reader
decreases-read_objects-loop-reader l = length (rest_of l.reader)
