use Rattle.std.proofs.Common.{◌≡◌, take}
use Rattle.changed.specs.Changes.{with_settings}
use Rattle.changed.proofs.changed.lay_all_on.Given as goal

-- the changes so far are laid on
abbrev pub invariant-loop-change : goal.invariant-loop-change
invariant-loop-change l = l.part ≡ with_settings (take l.change-index l.changes) l.file l.from l.initial.part
