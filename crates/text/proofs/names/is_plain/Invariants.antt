use Rattle.std.proofs.Common.{ℕ, ◌<◌, ◌↔◌, IsTrue, slice_index}
use Rattle.text.specs.Characters.{PlainCharacter}
use Rattle.text.proofs.names.is_plain.Given as goal

abbrev pub invariant-loop-character : goal.invariant-loop-character
invariant-loop-character l = IsTrue l.plain ↔ ((k : ℕ) → k < l.character-index → PlainCharacter (slice_index l.field k))
