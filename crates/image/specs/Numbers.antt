-- The refusals of this crate, each by its number and the values that come with it.
use Rattle.card.specs.Refusals.{Refusal, valued}
use Rattle.image.specs.declared.image.ImageRefusal.{ImageRefusal}
use Rattle.image.specs.declared.image.ImageRefusal.TheVariants.{Malformed}

-- 8 comes with the place where the first broken field starts
abbrev pub of_image : ImageRefusal → Refusal
of_image (Malformed position) = valued 8 position
