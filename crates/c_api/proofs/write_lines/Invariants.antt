use Rattle.c_api.specs.Exports.{state_of, place_of}
use Rattle.c_api.proofs.Filling.{FilledTo}
use Rattle.c_api.proofs.write_lines.Given as goal

-- the lines so far are written
abbrev pub invariant-loop-i : goal.invariant-loop-i
invariant-loop-i l = FilledTo state_of l.lines l.i l.states × FilledTo place_of l.lines l.i l.places
