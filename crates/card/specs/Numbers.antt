-- The refusals of this crate, each by its number and the values that come with it.
use Rattle.card.specs.Refusals.{Refusal, bare}
use Rattle.card.specs.declared.refusal.ProfileRefusal.{ProfileRefusal}
use Rattle.card.specs.declared.refusal.ProfileRefusal.TheVariants.{Unlawful}

abbrev pub of_profile : ProfileRefusal → Refusal
of_profile (Unlawful kind declared) = bare 1
