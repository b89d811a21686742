-- The refusals of this crate, each by its number and the values that come with it.
use Rattle.card.specs.Refusals.{Refusal, bare, valued}
use Rattle.source.specs.declared.read.Fault.{Fault}
use Rattle.source.specs.declared.read.Fault.TheVariants.{Lost, Malformed}
use Rattle.source.specs.declared.whole.WholeRefusal.{WholeRefusal}
use Rattle.source.specs.declared.whole.WholeRefusal.TheVariants.{NoFile, ShortBuffer, Lost as CutOff}

-- a read
abbrev pub of_fault : Fault → Refusal
of_fault (Lost loss) = bare 6
of_fault Malformed = bare 7

-- a whole file; 6 comes with the number of bytes received
abbrev pub of_whole : WholeRefusal → Refusal
of_whole (NoFile file) = bare 2
of_whole (ShortBuffer size) = bare 3
of_whole (CutOff received loss) = valued 6 received
