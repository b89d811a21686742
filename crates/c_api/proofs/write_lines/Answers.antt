use Rattle.c_api.specs.Exports.{state_of, place_of}
use Rattle.c_api.proofs.Filling.{filled}
use Rattle.c_api.proofs.write_lines.Goals as goal

pub returns-clause-states : goal.returns-clause-states
returns-clause-states c = filled state_of c.args.lines.now c.loop-i.i c.loop-i.states c.requires c.loop-i-test.false c.loop-i.invariant.0

pub returns-clause-places : goal.returns-clause-places
returns-clause-places c = filled place_of c.args.lines.now c.loop-i.i c.loop-i.places c.requires c.loop-i-test.false c.loop-i.invariant.1
