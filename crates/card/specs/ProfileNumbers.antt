-- Which two numbers make a profile.
use Rattle.std.specs.Prelude.{◌≡◌, ℕ, ◌≤◌, true}
use Rattle.card.specs.Sets.{has}

-- the kind is that of TD1 (1), TD2 (2) or TD3 (3), and the set has its two lowest bits, DG1 and DG2
abbrev pub LawfulProfile : ℕ → ℕ → Type 0
LawfulProfile kind declared =
    (1 ≤ kind) × (kind ≤ 3) × (has declared 0 ≡ true) × (has declared 1 ≡ true)
