use Rattle.std.proofs.Common.{◌≡◌, false, rules}
use Rattle.source.specs.Reads.{request, Brings}
use Rattle.changed.specs.Changes.{removed}
use Rattle.changed.proofs.Laying.{laid_brings}
use Rattle.changed.proofs.changed.ChangedSource.read.Goals as goal

pub returns-in-Some-clause-reads : goal.returns-in-Some-clause-reads
returns-in-Some-clause-reads g c =
    let s = c.args.self.now in
    let file = c.args.file in
    let cs = s.changes.items in
    let n = c.in-Some.brought in
    let mid = c.read-2.new.buffer in
    let below = g.S.Source.files s.below file in
    let stays : removed cs file ≡ false = search rules in
    let asked = request file c.args.place c.args.wanted in
    let brings : Brings below asked n c.args.buffer.now mid = search rules in
    (search rules, laid_brings cs below asked n c.args.buffer.now mid _ stays brings (search rules))
