use Rattle.run.proofs.Keeping.{kept_blank, new_blank}
use Rattle.run.proofs.run.Run.open.Goals as goal

pub returns-clause-kept : goal.returns-clause-kept
returns-clause-kept g c = kept_blank (g.S.Source.files c.args.source) c.args.profile c.new.result c.new.ensures

pub returns-clause-new : goal.returns-clause-new
returns-clause-new g c = new_blank c.new.result (g.S.Source.lost c.args.source) c.new.ensures
