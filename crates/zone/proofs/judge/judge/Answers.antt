use Rattle.std.proofs.Common.{subst}
use Rattle.object.specs.Readers.{rest_of}
use Rattle.zone.specs.Layouts.{LawfulPlaces}
use Rattle.zone.specs.Lines.{AreLayoutLines}
use Rattle.zone.proofs.Saying.{found}
use Rattle.zone.proofs.Changing.{shows}
use Rattle.zone.proofs.judge.judge.Goals as goal

pub returns-in-Some : goal.returns-in-Some
returns-in-Some g c =
    let t = rest_of c.args.reader in
    let same = c.spans-places.ensures.same in
    let lines = subst (λ p. AreLayoutLines p c.args.reader.position t c.judge_characters.result) same
    (found _ _ t _ _ c.in-Some.ensures c.judge_characters.ensures.zone c.judge_characters.ensures.lines) in
    record { lines = lines; changes = shows _ _ t _ (subst LawfulPlaces same c.spans-places.ensures.lawful) lines }
