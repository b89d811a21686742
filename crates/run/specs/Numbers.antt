-- The refusals of this crate, each by its number and the values that come with it.
use Rattle.card.specs.Refusals.{Refusal, bare, valued}
use Rattle.source.specs.Numbers.{of_whole}
use Rattle.run.specs.declared.refusal.JudgeRefusal.{JudgeRefusal}
use Rattle.run.specs.declared.refusal.JudgeRefusal.TheVariants.{Closed, Unread}
use Rattle.run.specs.declared.refusal.AskRefusal.{AskRefusal}
use Rattle.run.specs.declared.refusal.AskRefusal.TheVariants.{NoLine}
use Rattle.run.specs.declared.refusal.CloseRefusal.{CloseRefusal}
use Rattle.run.specs.declared.refusal.CloseRefusal.TheVariants.{Closed as Shut, Unjudged}

-- a judge; 6 comes with the number of bytes received
abbrev pub of_judge : JudgeRefusal → Refusal
of_judge Closed = bare 5
of_judge (Unread refusal) = of_whole refusal

-- an ask
abbrev pub of_ask : AskRefusal → Refusal
of_ask (NoLine case file) = bare 2

-- a close; 4 comes with the lowest file that was not judged
abbrev pub of_close : CloseRefusal → Refusal
of_close Shut = bare 5
of_close (Unjudged file) = valued 4 file
