use Rattle.std.proofs.Common.{refl}
use Rattle.text.proofs.Pairs.{none, some}
use Rattle.text.proofs.names.has_one_pair.Goals as goal

pub returns-in-Some-first_pair : goal.returns-in-Some-first_pair
returns-in-Some-first_pair c =
    some c.args.field.now c.in-Some.first c.in-Some.ensures c.in-Some-first_pair.second _ c.in-Some-first_pair.ensures c.is_filled.ensures c.requires.plain

pub returns-in-None : goal.returns-in-None
returns-in-None c = (λ _. none c.args.field.now c.in-Some.first c.in-Some.ensures c.in-None.ensures, λ _. refl)
