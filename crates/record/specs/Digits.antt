-- A digit of DG1 put for another.
use Rattle.std.specs.Prelude.{◌≡◌, ℕ, ◌+◌, List, [], slice_set}
use Rattle.card.specs.Cards.{template_tag_of}
use Rattle.card.specs.declared.profile.Kind.{Kind}
use Rattle.object.specs.Objects.{Begins, header_size}
use Rattle.zone.specs.Changes.{OtherDigit}
use Rattle.zone.specs.Layouts.{places_of}

-- The file is one template 61 with one object 5F1F, a zone, and nothing more. The changed file has another digit at one
-- of the checked places, which is counted from 0 in the zone, and all other bytes are as they were.
pub record DigitChanged (kind : Kind) (bytes changed : List ℕ) : Type 0 where
  pub value : List ℕ
  pub zone : List ℕ
  pub template : Begins bytes (template_tag_of 1) value []
  pub inside : Begins value 0x5F1F zone []
  pub place : ℕ
  pub digit : ℕ
  pub other : OtherDigit (places_of kind) zone place digit
  pub put :
      let zone_at = header_size (template_tag_of 1) value + header_size 0x5F1F zone in
      changed ≡ slice_set bytes (zone_at + place) digit
