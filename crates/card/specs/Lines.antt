-- What a line says of its case, and how a failed case blocks later ones.
use Rattle.std.specs.Prelude.{ℕ, Bool, if◌then◌else◌}
use Rattle.card.specs.declared.line.Line.{Line}
use Rattle.card.specs.declared.line.Line.TheVariants.{Open, Pass, Fail, NotApplicable, Blocked}

-- the line of a case that is judged: it passes, or fails at this place
abbrev pub line_of : Bool → ℕ → Line
line_of passes place = if passes then Pass else Fail place

-- A line that is judged passes exactly if P holds. Where P does not hold it fails, at a place of which At holds.
abbrev pub Says : Line → Type 0 → (ℕ → Type 0) → Type 0
Says Open P At = ⊥
Says Pass P At = P
Says (Fail place) P At = (P → ⊥) × At place
Says NotApplicable P At = ⊥
Says Blocked P At = ⊥

-- The same of a case that later ones wait for. Where it passes, they are as `later` says, which may use what the case
-- found; where it fails, they are as `blocked` says.
abbrev pub Gates : Line → (P : Type 0) → (ℕ → Type 0) → (P → Type 0) → Type 0 → Type 0
Gates Open P At later blocked = ⊥
Gates Pass P At later blocked = (h : P) × later h
Gates (Fail place) P At later blocked = (P → ⊥) × At place × blocked
Gates NotApplicable P At later blocked = ⊥
Gates Blocked P At later blocked = ⊥
