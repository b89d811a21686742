use Rattle.std.proofs.Common.{◌≡◌, ◌∙◌, sym, rules}
use Rattle.std.proofs.lemmas.Bool.{false≢true}
use Rattle.object.specs.Readers.{rest_of}
use Rattle.faces.proofs.Groupings.{no_header, entry_when}
use Rattle.faces.proofs.entries.is_entry.Goals as goal

pub returns-then-is_some : goal.returns-then-is_some
returns-then-is_some c =
    let e : rest_of c.new-reader.result ≡ c.args.value.now = rw (c.new-reader.ensures.bytes, c.new-reader.ensures.position) in
    entry_when _ _ e c.take.result c.take.ensures (sym c.if-is_some.ensures) c.is_some_and.result _ (λ v p. search rules)
    c.only.result c.only.ensures c.is_some_and.ensures

pub returns-else-is_some : goal.returns-else-is_some
returns-else-is_some c =
    let e : rest_of c.new-reader.result ≡ c.args.value.now = rw (c.new-reader.ensures.bytes, c.new-reader.ensures.position) in
    (λ y. absurd (false≢true (sym c.if-is_some.false ∙ y)), λ h. absurd (no_header _ _ e c.take.result c.take.ensures (sym c.if-is_some.ensures) h))
