-- The laws of a card, from those of its files.
use Rattle.record.specs.CardLaws.{CardLaws}
use Rattle.record.proofs.Cards.{card_laws}
use Rattle.record.proofs.Commons.{common_laws}
use Rattle.record.proofs.Faces.{face_laws}
use Rattle.record.proofs.Structures.{structure_laws}
use Rattle.record.proofs.Zones.{zone_laws}

pub laws : CardLaws
laws = card_laws structure_laws common_laws zone_laws face_laws
