use Rattle.std.proofs.Common.{rules}
use Rattle.text.proofs.names.is_name.Goals as goal

pub returns-then-is_plain : goal.returns-then-is_plain
returns-then-is_plain c =
    let alone = c.has_one_pair.ensures in (
      λ r. record { plain = c.is_plain.ensures.0 c.if-is_plain.true; first = search rules; alone = alone.0 r },
      λ name. alone.1 name.alone,
    )
