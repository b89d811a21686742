-- A property of so many numbers from one on.
use Rattle.std.proofs.Common.{◌≡◌, ℕ, zero, suc, ◌+◌, ◌<◌, ◌≤◌, sym, subst, ⊎_elim, arith}
use Rattle.std.proofs.lemmas.Bool.{cases_eq}

abbrev pub Row : (ℕ → Type 0) → ℕ → ℕ → Type 0
Row P zero from = Unit {0}
Row P (suc count) from = P from × Row P count (suc from)

pub row_at : (P : ℕ → Type 0) (count from : ℕ) → Row P count from → (n : ℕ) → from ≤ n → n < from + count → P n
row_at P zero from r n l h = absurd (omega arith)
row_at P (suc count) from r n l h = ⊎_elim
    (λ (e : n ≡ from). subst P (sym e) r.0)
    (λ (d : n ≡ from → ⊥). row_at P count (suc from) r.1 n (omega arith) (omega arith))
    (cases_eq n from)
