use Rattle.std.proofs.Common.{true, eqb, Ok, refl, ap}
use Rattle.run.specs.Holding.{ClosesSheet}
use Rattle.run.specs.declared.run.Summary.{Summary}
use Rattle.run.proofs.Closing.{means}
use Rattle.run.proofs.Keeping.{closing_moves}
use Rattle.run.proofs.run.Run.close.Goals as goal

pub returns : goal.returns
returns g c =
    let m = g.S.Source in
    let run = c.args.self.now in
    let files = m.files run.source in
    let t = c.tally-tally.ensures in
    let summary : Summary = record { clean = eqb c.tally-tally.result.fail 0; tally = c.tally-tally.result } in
    let j : ClosesSheet run.sheet run.closed true (Ok summary) = (c.if-self.false, c.in_default.ensures, t, ap (λ n. eqb n 0) t.fail, refl) in
    record {
      source = refl;
      profile = refl;
      sheet = refl;
      closes = j;
      lawful = λ k. closing_moves files run.profile run.sheet run.closed true (m.lost run.source) (Ok summary) k j;
      means = λ k. let l = closing_moves files run.profile run.sheet run.closed true (m.lost run.source) (Ok summary) k j in means files run.profile summary (λ file _. m.bounded run.source file) l.counted l.clean;
    }
