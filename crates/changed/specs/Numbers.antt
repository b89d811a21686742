-- The refusals of this crate, each by its number and the values that come with it.
use Rattle.card.specs.Refusals.{Refusal, bare}
use Rattle.changed.specs.declared.change.ChangeRefusal.{ChangeRefusal}
use Rattle.changed.specs.declared.change.ChangeRefusal.TheVariants.{NoFile, NoPlace, Full}

abbrev pub of_change : ChangeRefusal → Refusal
of_change (NoFile file) = bare 2
of_change (NoPlace place) = bare 10
of_change Full = bare 9
