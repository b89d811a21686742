use Rattle.std.proofs.Common.{ℕ, ◌<◌, ◌↔◌, IsTrue, slice_index}
use Rattle.text.specs.Characters.{ZoneCharacter}
use Rattle.zone.proofs.fields.is_clean.Given as goal

abbrev pub invariant-loop-character : goal.invariant-loop-character
invariant-loop-character l = IsTrue l.clean ↔ ((k : ℕ) → k < l.character-index → ZoneCharacter (slice_index l.zone k))
