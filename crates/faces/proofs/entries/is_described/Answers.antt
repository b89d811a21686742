use Rattle.std.proofs.Common.{◌≡◌, rules}
use Rattle.object.specs.Readers.{rest_of}
use Rattle.faces.proofs.Groupings.{described_when}
use Rattle.faces.proofs.entries.is_described.Goals as goal

pub returns : goal.returns
returns c =
    let e : rest_of c.new.result ≡ c.args.value.now = rw (c.new.ensures.bytes, c.new.ensures.position) in
    described_when _ _ c.take.result c.is_some_and.result _ e c.take.ensures c.is_some_and.ensures (λ v h. search rules)
