-- A line that does not fail, and a case that passes.
use Rattle.std.proofs.Common.{◌≡◌, ℕ, sym, subst}
use Rattle.card.specs.declared.line.Line.{Line}
use Rattle.card.specs.declared.line.Line.TheVariants.{Open, Pass, Fail, NotApplicable, Blocked}
use Rattle.card.specs.Lines.{Says, Gates}
use Rattle.record.specs.Clean.{Clean}

-- a judged line that does not fail: its case holds
pub passes : (line : Line) (P : Type 0) (At : ℕ → Type 0) → Says line P At → Clean line → P
passes Open P At s c = absurd s
passes Pass P At s c = s
passes (Fail q) P At s c = absurd c
passes NotApplicable P At s c = absurd s
passes Blocked P At s c = absurd s

-- a judged line whose case holds: it does not fail
pub clean : (line : Line) (P : Type 0) (At : ℕ → Type 0) → Says line P At → P → Clean line
clean Open P At s p = absurd s
clean Pass P At s p = tt
clean (Fail q) P At s p = absurd (s.0 p)
clean NotApplicable P At s p = absurd s
clean Blocked P At s p = absurd s

-- the same two for a case that later ones wait for
pub opens : (line : Line) (P : Type 0) (At : ℕ → Type 0) (later : P → Type 0) (blocked : Type 0) → Gates line P At later blocked → Clean line → (h : P) × later h
opens Open P At later blocked g c = absurd g
opens Pass P At later blocked g c = g
opens (Fail q) P At later blocked g c = absurd c
opens NotApplicable P At later blocked g c = absurd g
opens Blocked P At later blocked g c = absurd g

pub opened : (line : Line) (P : Type 0) (At : ℕ → Type 0) (later : P → Type 0) (blocked : Type 0) → Gates line P At later blocked → P → Clean line × ((h : P) × later h)
opened Open P At later blocked g p = absurd g
opened Pass P At later blocked g p = (tt, g)
opened (Fail q) P At later blocked g p = absurd (g.0 p)
opened NotApplicable P At later blocked g p = absurd g
opened Blocked P At later blocked g p = absurd g

-- a line that is known
pub failed : {line : Line} {place : ℕ} → line ≡ Fail place → Clean line → ⊥
failed e c = subst Clean e c

pub passed : {line : Line} → line ≡ Pass → Clean line
passed e = subst Clean (sym e) tt

pub unused : {line : Line} → line ≡ NotApplicable → Clean line
unused e = subst Clean (sym e) tt
