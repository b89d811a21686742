-- The rows of cases that one file alone has: they rise, so that no case stands in two, and where their lines stand.
use Rattle.std.proofs.Common.{◌≡◌, ℕ, ◌+◌, ◌-◌, ◌<◌, ◌≤◌, cond, leb, Bool, true, false, ◌&&◌, ◌⊎◌, List, [], ◌∷◌, sym, refl, ap, ◌∙◌, inl, inr, ⊎_elim, arith, rules}
use Rattle.std.proofs.lemmas.Bool.{and_parts, cases_lt, cases_eq}
use Rattle.std.proofs.lemmas.Bool.Decides.{nat_tests}
use Rattle.card.specs.Cases.{own_rows, InRow, InRows, HasLine}
use Rattle.card.specs.declared.cases.CaseRow.{CaseRow}
use Rattle.sheet.specs.Tables.{lines_in, is_in_row, place_in}

-- each row's cases lie behind those of the rows before it
abbrev pub Rises : ℕ → List CaseRow → Type 0
Rises from [] = Unit {0}
Rises from (row ∷ rows) = (from ≤ row.first) × Rises (row.first + row.count) rows

-- the same as a test, which the table itself decides
abbrev rise : ℕ → List CaseRow → Bool
rise from [] = true
rise from (row ∷ rows) = leb from row.first && rise (row.first + row.count) rows

risen : (from : ℕ) (rows : List CaseRow) → rise from rows ≡ true → Rises from rows
risen from [] t = tt
risen from (row ∷ rows) t =
    let b = and_parts (leb from row.first) (rise (row.first + row.count) rows) t in
    (let l = b.0 in search rules, risen (row.first + row.count) rows b.1)

pub rows_rise : Rises 4 own_rows
rows_rise = risen 4 own_rows refl

pub low : (from : ℕ) (rows : List CaseRow) → Rises from rows → (c f : ℕ) → InRows rows c f → from ≤ c
low from [] r c f h = absurd h
low from (row ∷ rows) r c f (inl h) = omega (arith, r.0, h.0)
low from (row ∷ rows) r c f (inr h) = omega (arith, r.0, low (row.first + row.count) rows r.1 c f h)

-- the test of a row, and what it says
pub in_row : (row : CaseRow) (c f : ℕ) → InRow row c f → is_in_row row c f ≡ true
in_row row c f h =
    let a = h.0 in
    let b = h.1 in
    let e = h.2 in
    grind (arith, nat_tests)

pub not_in_row : (row : CaseRow) (c f : ℕ) → (InRow row c f → ⊥) → is_in_row row c f ≡ false
not_in_row row c f n = grind (arith, nat_tests, n)

pub whether_in_row : (row : CaseRow) (c f : ℕ) → InRow row c f ⊎ (InRow row c f → ⊥)
whether_in_row row c f = ⊎_elim
    (λ (a : c < row.first). inr (λ h. omega (arith, h.0)))
    (λ (a : row.first ≤ c). ⊎_elim
    (λ (b : c < row.first + row.count). ⊎_elim
    (λ (e : f ≡ row.file). inl (a, b, e))
    (λ (n : f ≡ row.file → ⊥). inr (λ h. n h.2))
    (cases_eq f row.file))
    (λ (b : row.first + row.count ≤ c). inr (λ h. omega (arith, h.1)))
    (cases_lt c (row.first + row.count)))
    (cases_lt c row.first)

-- where the lines of the first row stand, and those of the others
pub place_here : (from : ℕ) (row : CaseRow) (rows : List CaseRow) (c f : ℕ) → InRow row c f → place_in from (row ∷ rows) c f ≡ from + (c - row.first)
place_here from row rows c f h = ap (λ b. cond b (from + (c - row.first)) (place_in (from + row.count) rows c f)) (in_row row c f h)

pub place_later : (from : ℕ) (row : CaseRow) (rows : List CaseRow) (c f : ℕ) → (InRow row c f → ⊥) → place_in from (row ∷ rows) c f ≡ place_in (from + row.count) rows c f
place_later from row rows c f n = ap (λ b. cond b (from + (c - row.first)) (place_in (from + row.count) rows c f)) (not_in_row row c f n)

-- a line of the rows that is none of the first
pub later : (row : CaseRow) (rows : List CaseRow) (c f : ℕ) → InRows (row ∷ rows) c f → (InRow row c f → ⊥) → InRows rows c f
later row rows c f (inl i) n = absurd (n i)
later row rows c f (inr k) n = k

pub whether_in_rows : (rows : List CaseRow) (c f : ℕ) → InRows rows c f ⊎ (InRows rows c f → ⊥)
whether_in_rows [] c f = inr (λ h. h)
whether_in_rows (row ∷ rows) c f = ⊎_elim
    (λ (i : InRow row c f). inl (inl i))
    (λ (n : InRow row c f → ⊥). ⊎_elim (λ (k : InRows rows c f). inl (inr k)) (λ (m : InRows rows c f → ⊥). inr (λ h. m (later row rows c f h n))) (whether_in_rows rows c f))
    (whether_in_row row c f)

-- they stand from the place on, as many as there are
pub within_rows : (from : ℕ) (rows : List CaseRow) (c f : ℕ) → InRows rows c f → (from ≤ place_in from rows c f) × (place_in from rows c f < from + lines_in rows)
within_rows from [] c f h = absurd h
within_rows from (row ∷ rows) c f h = ⊎_elim
    (λ (i : InRow row c f).
    let e = place_here from row rows c f i in
    let a = i.0 in
    let b = i.1 in
    (omega (arith, e), omega (arith, e)))
    (λ (n : InRow row c f → ⊥).
    let e = place_later from row rows c f n in
    let k = within_rows (from + row.count) rows c f (later row rows c f h n) in
    let a = k.0 in
    let b = k.1 in
    (omega (arith, e), omega (arith, e)))
    (whether_in_row row c f)

-- no two of them stand at one place
pub same_in_rows : (from : ℕ) (rows : List CaseRow) (c f d g : ℕ) → InRows rows c f → InRows rows d g → place_in from rows c f ≡ place_in from rows d g → (c ≡ d) × (f ≡ g)
same_in_rows from [] c f d g h k e = absurd h
same_in_rows from (row ∷ rows) c f d g h k e = ⊎_elim
    (λ (i : InRow row c f).
    let p = place_here from row rows c f i in
    let a = i.0 in
    let b = i.1 in
    ⊎_elim
    (λ (j : InRow row d g). let q = place_here from row rows d g j in let u = j.0 in (omega arith, i.2 ∙ sym j.2))
    (λ (n : InRow row d g → ⊥).
    let q = place_later from row rows d g n in
    let w = (within_rows (from + row.count) rows d g (later row rows d g k n)).0 in
    absurd (omega arith))
    (whether_in_row row d g))
    (λ (m : InRow row c f → ⊥).
    let p = place_later from row rows c f m in
    ⊎_elim
    (λ (j : InRow row d g).
    let q = place_here from row rows d g j in
    let u = j.0 in
    let v = j.1 in
    let w = (within_rows (from + row.count) rows c f (later row rows c f h m)).0 in
    absurd (omega arith))
    (λ (n : InRow row d g → ⊥).
    let q = place_later from row rows d g n in
    same_in_rows (from + row.count) rows c f d g (later row rows c f h m) (later row rows d g k n) (sym p ∙ e ∙ q))
    (whether_in_row row d g))
    (whether_in_row row c f)

-- each row is of a file of the card
abbrev OnCard : List CaseRow → Type 0
OnCard [] = Unit {0}
OnCard (row ∷ rows) = (row.file ≤ 17) × OnCard rows

abbrev all_on_card : List CaseRow → Bool
all_on_card [] = true
all_on_card (row ∷ rows) = leb row.file 17 && all_on_card rows

are_on_card : (rows : List CaseRow) → all_on_card rows ≡ true → OnCard rows
are_on_card [] t = tt
are_on_card (row ∷ rows) t =
    let b = and_parts (leb row.file 17) (all_on_card rows) t in
    (let l = b.0 in search rules, are_on_card rows b.1)

rows_on_card : OnCard own_rows
rows_on_card = are_on_card own_rows refl

on_card : (rows : List CaseRow) → OnCard rows → (c f : ℕ) → InRows rows c f → f ≤ 17
on_card [] o c f h = absurd h
on_card (row ∷ rows) o c f (inl h) = omega (arith, o.0, h.2)
on_card (row ∷ rows) o c f (inr h) = on_card rows o.1 c f h

-- a line is that of a file of the card
pub on_a_card : (case file : ℕ) → HasLine case file → file ≤ 17
on_a_card c f (inl h) = h.2
on_a_card c f (inr h) = on_card own_rows rows_on_card c f h
