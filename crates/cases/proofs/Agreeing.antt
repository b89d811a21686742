-- Lines in a row, by the numbers of their cases.
use Rattle.std.proofs.Common.{◌≡◌, ℕ, zero, suc, ◌+◌, ◌<◌, ◌≤◌, List, [], ◌∷◌, sym, ap, ◌∙◌, inl, inr, arith}
use Rattle.std.proofs.lemmas.Bool.{cases_eq}
use Rattle.card.specs.declared.line.Line.{Line}
use Rattle.cases.specs.Verdicts.{Lines}

-- so many lines, from the case of this number on
abbrev pub row : ℕ → ℕ → Lines → List Line
row zero from lines = []
row (suc count) from lines = lines from ∷ row count (suc from) lines

-- so many lines from this number on are the same
abbrev pub Agree : ℕ → ℕ → Lines → Lines → Type 0
Agree count from lines others = row count from lines ≡ row count from others

pub agree_at : (count from : ℕ) (lines others : Lines) → Agree count from lines others → (case : ℕ) → from ≤ case → case < from + count
    → lines case ≡ others case
agree_at zero from lines others e case l k = absurd (omega arith)
agree_at (suc count) from lines others e case l k =
    elim (cases_eq case from) [
      | inl i ↦ let h : lines from ≡ others from = cc in ap lines i ∙ h ∙ sym (ap others i)
      | inr n ↦
          let t : Agree count (suc from) lines others = cc in
          agree_at count (suc from) lines others t case (omega arith) (omega arith)
    ]
