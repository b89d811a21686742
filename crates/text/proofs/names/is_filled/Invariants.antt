use Rattle.std.proofs.Common.{◌≡◌, ℕ, ◌<◌, ◌↔◌, IsTrue, slice_index}
use Rattle.text.specs.Characters.{filler}
use Rattle.text.proofs.names.is_filled.Given as goal

abbrev pub invariant-loop-character : goal.invariant-loop-character
invariant-loop-character l = IsTrue l.filled ↔ ((k : ℕ) → k < l.character-index → slice_index l.field k ≡ filler)
