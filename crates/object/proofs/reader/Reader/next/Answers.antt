use Rattle.std.proofs.Common.{refl}
use Rattle.object.proofs.Cuts.{cut_from}
use Rattle.object.proofs.reader.Reader.next.Goals as goal

pub returns-then-is_nested : goal.returns-then-is_nested
returns-then-is_nested c =
    let h = c.in_ok-tag.ensures in
    let k = cut_from _ _ _ (record { tag = _; size = _; len = _ }) c.split_at.ensures.back h.written h.within.1 c.if-end-self.false in
    record { begins = k.begins; kinds = rw c.if-is_nested.true at h.nesting; bytes = refl; at = k.at; position = k.pos; within = k.within }

pub returns-else-is_nested : goal.returns-else-is_nested
returns-else-is_nested c =
    let h = c.in_ok-tag.ensures in
    let k = cut_from _ _ _ (record { tag = _; size = _; len = _ }) c.split_at.ensures.back h.written h.within.1 c.if-end-self.false in
    record { begins = k.begins; kinds = rw c.if-is_nested.false at h.nesting; bytes = refl; at = k.at; position = k.pos; within = k.within }
