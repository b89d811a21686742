-- A file that was read whole: what stands in the buffer, and what is judged.
use Rattle.std.proofs.Common.{◌≡◌, ℕ, List, length, take, drop, Some, None, Option, sym, refl, ap, ◌∙◌}
use Rattle.std.proofs.lemmas.List.{take_at}
use Rattle.std.specs.Option.{option_map}
use Rattle.card.specs.Cards.{content}
use Rattle.source.specs.Reads.{laid}
use Rattle.source.specs.Whole.{BufferHolds}

pub read_whole : (bytes : Option (List ℕ)) (before after : List ℕ) (count : Option ℕ) → BufferHolds bytes count before after
    → (after ≡ laid (content bytes) before) × (option_map (λ n. take n after) count ≡ bytes)
read_whole None before after None h = (h, refl)
read_whole None before after (Some count) h = absurd h
read_whole (Some bytes) before after None h = absurd h
read_whole (Some bytes) before after (Some count) h =
    (h.1, ap Some (ap (take count) h.1 ∙ take_at bytes (drop (length bytes) before) count (sym h.0)))
