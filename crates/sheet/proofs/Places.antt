-- The place of a line in the table tells its case and its file.
use Rattle.std.proofs.Common.{◌≡◌, ℕ, ◌+◌, ◌-◌, ◌*◌, ◌<◌, ◌≤◌, cond, leb, true, false, List, [], ◌∷◌, ap, sym, ◌∙◌, inl, inr, arith, rules}
use Rattle.card.specs.Cases.{own_rows, InRow, InRows, SharedCase, HasLine}
use Rattle.card.specs.declared.cases.CaseRow.{CaseRow}
use Rattle.sheet.specs.Tables.{lines_in, line_count, place_in, place}
use Rattle.sheet.proofs.CaseRows.{rows_rise, low, place_here, place_later, later, within_rows, same_in_rows}

-- the cases that one file alone has come behind 3
pub own_case : (c f : ℕ) → InRows own_rows c f → 4 ≤ c
own_case c f h = low 4 own_rows rows_rise c f h

pub shared_place : (c f : ℕ) → c ≤ 3 → place c f ≡ 3 * f + (c - 1)
shared_place c f l = let t : leb c 3 ≡ true = search rules in ap (λ b. cond b (3 * f + (c - 1)) (place_in 54 own_rows c f)) t

pub own_place : (c f : ℕ) → 4 ≤ c → place c f ≡ place_in 54 own_rows c f
own_place c f l = let t : leb c 3 ≡ false = search rules in ap (λ b. cond b (3 * f + (c - 1)) (place_in 54 own_rows c f)) t

-- the own lines stand behind the others
pub behind : (c f : ℕ) → InRows own_rows c f → (54 ≤ place c f) × (place c f < line_count)
behind c f h =
    let e = own_place c f (own_case c f h) in
    let w = within_rows 54 own_rows c f h in
    let a = w.0 in
    let b = w.1 in
    (omega arith, omega arith)

pub before_own : (c f : ℕ) → SharedCase c f → place c f < 54
before_own c f h =
    let e = shared_place c f h.1 in
    let a = h.0 in
    let b = h.1 in
    let d = h.2 in
    omega arith

pub within : (case file : ℕ) → HasLine case file → place case file < line_count
within c f (inl h) = let b = before_own c f h in omega arith
within c f (inr h) = (behind c f h).1

-- no two lines have one place
pub same_place : (c f d g : ℕ) → HasLine c f → HasLine d g → place c f ≡ place d g → (c ≡ d) × (f ≡ g)
same_place c f d g (inl h) (inl k) e =
    let p = shared_place c f h.1 in
    let q = shared_place d g k.1 in
    let a = h.0 in
    let b = h.1 in
    let u = k.0 in
    let v = k.1 in
    (omega arith, omega arith)
same_place c f d g (inl h) (inr k) e = let a = before_own c f h in let b = (behind d g k).0 in absurd (omega arith)
same_place c f d g (inr h) (inl k) e = let a = before_own d g k in let b = (behind c f h).0 in absurd (omega arith)
same_place c f d g (inr h) (inr k) e =
    same_in_rows 54 own_rows c f d g h k (sym (own_place c f (own_case c f h)) ∙ e ∙ own_place d g (own_case d g k))

-- none of the rows before these has the case of the file; the lines of these stand from a place on
pub record Seeking (c f : ℕ) (left : List CaseRow) (at : ℕ) : Type 0 where
  pub room : at + lines_in left ≡ line_count
  pub down : InRows own_rows c f → InRows left c f
  pub up : InRows left c f → InRows own_rows c f
  pub places : place_in 54 own_rows c f ≡ place_in at left c f

pub next_row : (c f : ℕ) (row : CaseRow) (more : List CaseRow) (at : ℕ) → Seeking c f (row ∷ more) at → (InRow row c f → ⊥) → Seeking c f more (at + row.count)
next_row c f row more at s n = record {
  room = omega (arith, s.room);
  down = λ h. later row more c f (s.down h) n;
  up = λ h. s.up (inr h);
  places = s.places ∙ place_later at row more c f n;
}

-- it is found in the first of them, or in none
pub found_row : (c f : ℕ) (row : CaseRow) (more : List CaseRow) (at : ℕ) → Seeking c f (row ∷ more) at → InRow row c f → HasLine c f × (at + (c - row.first) ≡ place c f)
found_row c f row more at s i =
    let own = s.up (inl i) in
    (inr own, sym (own_place c f (own_case c f own) ∙ s.places ∙ place_here at row more c f i))

pub no_row : (c f at : ℕ) → 4 ≤ c → Seeking c f [] at → HasLine c f → ⊥
no_row c f at l s (inl h) = omega (arith, h.1)
no_row c f at l s (inr h) = s.down h
