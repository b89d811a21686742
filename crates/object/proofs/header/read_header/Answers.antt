use Rattle.std.proofs.Common.{◌∙◌}
use Rattle.object.proofs.Laws.{nests_first}
use Rattle.object.proofs.header.read_header.Goals as goal

pub returns-clause-nesting : goal.returns-clause-nesting
returns-clause-nesting c = c.is_nested.ensures ∙ nests_first _ _ c.in_ok-tag.ensures.written.1
