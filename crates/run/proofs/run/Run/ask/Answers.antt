use Rattle.std.proofs.Common.{rules}
use Rattle.run.specs.Calls.{ask_call}
use Rattle.run.specs.Holding.{Asks}
use Rattle.run.proofs.Keeping.{asking_moves}
use Rattle.run.proofs.run.Run.ask.Goals as goal

pub returns-clause-lawful : goal.returns-clause-lawful
returns-clause-lawful g c =
    let run = c.args.self.now in
    let asks : Asks run.sheet (ask_call c.args.case c.args.file c.ok_or.result) = search rules in
    λ k. asking_moves (g.S.Source.files run.source) run.profile run.sheet run.closed (g.S.Source.lost run.source) c.args.case c.args.file c.ok_or.result k asks
