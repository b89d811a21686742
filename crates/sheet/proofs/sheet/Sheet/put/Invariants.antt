use Rattle.std.proofs.Common.{◌≡◌, ℕ, ◌+◌, ◌<◌, ◌≤◌, get_or}
use Rattle.card.specs.declared.line.Line.TheVariants.{Open}
use Rattle.sheet.proofs.sheet.Sheet.put.Given as goal

-- the lines so far are in their places
abbrev pub invariant-loop-i : goal.invariant-loop-i
invariant-loop-i l =
    record {
      there : (k : ℕ) → k < l.i → get_or l.self.lines (l.at + k) Open ≡ get_or l.lines k Open;
      elsewhere : (j : ℕ) → (l.at ≤ j → j < l.at + l.i → ⊥) → get_or l.self.lines j Open ≡ get_or l.initial.self.lines j Open;
      judged : l.self.judged ≡ l.initial.self.judged;
    }
