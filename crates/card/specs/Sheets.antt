-- The lines of a card, and how many of them are of a kind.
use Rattle.std.specs.Prelude.{ℕ, sum_by}
use Rattle.card.specs.Cases.{all_lines}
use Rattle.card.specs.declared.line.Line.{Line}
use Rattle.card.specs.declared.line.Line.TheVariants.{Open, Pass, Fail, NotApplicable, Blocked}

-- the lines of a card, by case and file
abbrev pub CardLines : Type 0
CardLines = ℕ → ℕ → Line

-- how many of its lines are of a kind; `one` is 1 at a line of this kind, and 0 at any other
abbrev pub count : (Line → ℕ) → CardLines → ℕ
count one lines = sum_by (λ at. one (lines at.0 at.1)) all_lines

abbrev pub passing : Line → ℕ
passing Open = 0
passing Pass = 1
passing (Fail place) = 0
passing NotApplicable = 0
passing Blocked = 0

abbrev pub failing : Line → ℕ
failing Open = 0
failing Pass = 0
failing (Fail place) = 1
failing NotApplicable = 0
failing Blocked = 0

abbrev pub unapplied : Line → ℕ
unapplied Open = 0
unapplied Pass = 0
unapplied (Fail place) = 0
unapplied NotApplicable = 1
unapplied Blocked = 0

abbrev pub blocked : Line → ℕ
blocked Open = 0
blocked Pass = 0
blocked (Fail place) = 0
blocked NotApplicable = 0
blocked Blocked = 1
