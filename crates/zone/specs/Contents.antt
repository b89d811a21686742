-- The zone in DG1's template, and its place.
use Rattle.std.specs.Prelude.{◌≡◌, ℕ, ◌+◌, List, [], length}
use Rattle.object.specs.Objects.{Begins, header_size}
use Rattle.object.specs.declared.reader.Value.{Value}

-- the template's value is an object 5F1F of so many bytes, and no more
pub record HoldsZone (len : ℕ) (template : List ℕ) : Type 0 where
  pub zone : List ℕ
  pub has_zone : Begins template 0x5F1F zone []
  pub long : length zone ≡ len

-- the first byte of the zone, where the template's value stands at this place
abbrev pub zone_place : ℕ → {len : ℕ} {template : List ℕ} → HoldsZone len template → ℕ
zone_place place h = place + header_size 0x5F1F h.zone

-- what was read is the zone that the template holds, with its place
pub record FoundZone (place len : ℕ) (template : List ℕ) (zone : Value) : Type 0 where
  pub holds : HoldsZone len template
  pub characters : zone.bytes.now ≡ holds.zone
  pub at : zone.place ≡ zone_place place holds
