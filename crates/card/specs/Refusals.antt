-- Numbered refusals, and the order in which a call tries them.
use Rattle.std.specs.Prelude.{ℕ, List, [], ◌∷◌, MatchBool, ◌==◌, slice_index}

-- what is seen of a refusal: its number, and the values that come with it
pub record Refusal : Type 0 where
  pub number : ℕ
  pub values : List ℕ

-- a refusal with no value, and one with a value
abbrev pub bare : ℕ → Refusal
bare n = record { number = n; values = [] }

abbrev pub valued : ℕ → ℕ → Refusal
valued n v = record { number = n; values = v ∷ [] }

-- the value that comes with a refusal, 0 where none does
abbrev pub value : Refusal → ℕ
value r = slice_index r.values 0

-- What a call asks for, in the order in which it looks: it is refused with this number unless P holds, so the refusal has
-- this number only if P does not hold, and a later number only if it does.
abbrev pub Unless : ℕ → Type 0 → (Refusal → Type 0) → Refusal → Type 0
Unless n P later r = MatchBool (n == r.number) (P → ⊥) (P × later r)

-- the refusal has this number only under this condition on its value
abbrev pub Under : ℕ → (ℕ → Type 0) → (Refusal → Type 0) → Refusal → Type 0
Under n P later r = MatchBool (n == r.number) (P (value r)) (later r)

-- the call gives no number but those before
abbrev pub no_other : Refusal → Type 0
no_other r = ⊥
