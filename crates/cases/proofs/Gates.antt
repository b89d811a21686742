-- A case that is judged twice gives one line.
use Rattle.std.proofs.Common.{◌≡◌, ℕ, ◌⊎◌, sym, refl, ap, ◌∙◌, inl, inr}
use Rattle.card.specs.declared.line.Line.{Line}
use Rattle.card.specs.declared.line.Line.TheVariants.{Open, Pass, Fail, NotApplicable, Blocked}
use Rattle.card.specs.Lines.{Says, Gates}

-- it holds of one place only
abbrev pub OnePlace : (ℕ → Type 0) → Type 0
OnePlace At = (place other : ℕ) → At place → At other → place ≡ other

-- as being a given place does
pub place_is : (place : ℕ) → OnePlace (λ at. at ≡ place)
place_is place a b e f = e ∙ sym f

-- a case that later ones wait for passes and they are judged, or fails and they are blocked
outcome : (line : Line) (P : Type 0) (At : ℕ → Type 0) (later : P → Type 0) (blocked : Type 0) → Gates line P At later blocked
    → ((line ≡ Pass) × ((h : P) × later h)) ⊎ ((place : ℕ) × (line ≡ Fail place) × (P → ⊥) × At place × blocked)
outcome Open P At later blocked g = absurd g
outcome Pass P At later blocked g = inl (refl, g)
outcome (Fail place) P At later blocked g = inr (place, refl, g.0, g.1, g.2)
outcome NotApplicable P At later blocked g = absurd g
outcome Blocked P At later blocked g = absurd g

-- Two lines of a case that fails at one place only are one line. What is the same of the later lines where the case passes,
-- whatever each found, and where it fails, is the same.
pub gates_once : (line other : Line) (P : Type 0) (At : ℕ → Type 0) (later also : P → Type 0) (blocked barred Same : Type 0)
    → OnePlace At → ((h k : P) → later h → also k → Same) → (blocked → barred → Same)
    → Gates line P At later blocked → Gates other P At also barred → (line ≡ other) × Same
gates_once line other P At later also blocked barred Same once on stop g k =
    go (outcome line P At later blocked g) (outcome other P At also barred k)
  where
    go : ((line ≡ Pass) × ((h : P) × later h)) ⊎ ((place : ℕ) × (line ≡ Fail place) × (P → ⊥) × At place × blocked)
        → ((other ≡ Pass) × ((h : P) × also h)) ⊎ ((place : ℕ) × (other ≡ Fail place) × (P → ⊥) × At place × barred) → (line ≡ other) × Same
    go (inl a) (inl b) = (a.0 ∙ sym b.0, on a.1.0 b.1.0 a.1.1 b.1.1)
    go (inl a) (inr b) = absurd (b.2 a.1.0)
    go (inr a) (inl b) = absurd (a.2 b.1.0)
    go (inr a) (inr b) = (a.1 ∙ ap Fail (once a.0 b.0 a.3 b.3) ∙ sym b.1, stop a.4 b.4)

-- a case that no other waits for: where it passes or fails, nothing more is asked
alone : (line : Line) (P : Type 0) (At : ℕ → Type 0) → Says line P At → Gates line P At (λ _. Unit {0}) (Unit {0})
alone Open P At s = absurd s
alone Pass P At s = (s, tt)
alone (Fail place) P At s = (s.0, s.1, tt)
alone NotApplicable P At s = absurd s
alone Blocked P At s = absurd s

-- two lines of such a case that fails at one place only are one line
pub says_once : (line other : Line) (P : Type 0) (At : ℕ → Type 0) → OnePlace At → Says line P At → Says other P At → line ≡ other
says_once line other P At once s t =
    (gates_once line other P At _ _ _ _ (Unit {0}) once (λ _ _ _ _. tt) (λ _ _. tt) (alone line P At s) (alone other P At t)).0

-- the same where the place is known
pub says_at : (line other : Line) (P : Type 0) (place : ℕ) → Says line P (λ at. at ≡ place) → Says other P (λ at. at ≡ place) → line ≡ other
says_at line other P place s t = says_once line other P (λ at. at ≡ place) (place_is place) s t
