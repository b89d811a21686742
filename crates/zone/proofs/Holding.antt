-- The zone that was read is the one that the template holds.
use Rattle.std.proofs.Common.{◌≡◌, ℕ, length, refl}
use Rattle.object.specs.Readers.{IsOnly, rest_of}
use Rattle.object.specs.declared.reader.Reader.{Reader}
use Rattle.object.specs.declared.reader.Value.{Value}
use Rattle.zone.specs.Contents.{FoundZone}

pub found_zone : {a : Reader} {zone : Value} {len : ℕ} → IsOnly a 0x5F1F zone → length zone.bytes.now ≡ len → FoundZone a.position len (rest_of a) zone
found_zone {zone} x l = record { holds = record { zone = zone.bytes.now; has_zone = x.begins; long = l }; characters = refl; at = x.at }
