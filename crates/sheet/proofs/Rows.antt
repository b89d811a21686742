-- The list of all lines has every line, and no others.
use Rattle.std.proofs.Common.{◌≡◌, ℕ, zero, suc, ◌+◌, ◌<◌, ◌≤◌, Bool, true, false, ◌&&◌, ◌||◌, eqb, leb, ◌⊎◌, List, [], ◌∷◌, length, get_or, map, sum_by, Some, sym, refl, ap, ◌∙◌, subst, inl, inr, ⊎_elim, arith, rules}
use Rattle.std.specs.List.{slice_get}
use Rattle.std.proofs.lemmas.List.Sums.{sum_by-cons, get_or-le-sum_by}
use Rattle.std.proofs.lemmas.Bool.Decides.{nat_tests}
use Rattle.card.specs.Cases.{own_rows, InRow, InRows, HasLine, all_lines}
use Rattle.card.specs.Sheets.{CardLines, count}
use Rattle.card.specs.declared.cases.CaseRow.{CaseRow}
use Rattle.card.specs.declared.line.Line.{Line}
use Rattle.sheet.specs.Tables.{is_in_row, place}
use Rattle.sheet.proofs.Places.{within, same_place}
use Rattle.sheet.proofs.Counting.{in_order, both}

-- whether there is such a line
abbrev is_in_rows : List CaseRow → ℕ → ℕ → Bool
is_in_rows [] c f = false
is_in_rows (row ∷ rows) c f = is_in_row row c f || is_in_rows rows c f

abbrev pub has_line : ℕ → ℕ → Bool
has_line c f = (leb 1 c && leb c 3 && leb f 17) || is_in_rows own_rows c f

pub either : (a b : Bool) → (a || b) ≡ true → (a ≡ true) ⊎ (b ≡ true)
either true b e = inl refl
either false b e = inr e

row_there : (row : CaseRow) (c f : ℕ) → is_in_row row c f ≡ true → InRow row c f
row_there row c f t = (grind (arith, nat_tests), grind (arith, nat_tests), grind (arith, nat_tests))

rows_there : (rows : List CaseRow) (c f : ℕ) → is_in_rows rows c f ≡ true → InRows rows c f
rows_there [] c f t = let z : ◌≡◌ {A = ℕ} 0 1 = cc in absurd (omega arith)
rows_there (row ∷ rows) c f t = ⊎_elim (λ a. inl (row_there row c f a)) (λ b. inr (rows_there rows c f b)) (either (is_in_row row c f) (is_in_rows rows c f) t)

there : (c f : ℕ) → has_line c f ≡ true → HasLine c f
there c f t = ⊎_elim
    (λ (a : (leb 1 c && leb c 3 && leb f 17) ≡ true). inl (grind (arith, nat_tests), grind (arith, nat_tests), grind (arith, nat_tests)))
    (λ b. inr (rows_there own_rows c f b))
    (either (leb 1 c && leb c 3 && leb f 17) (is_in_rows own_rows c f) t)

abbrev pub all_have : List (ℕ × ℕ) → Bool
all_have [] = true
all_have (at ∷ rest) = has_line at.0 at.1 && all_have rest

-- what the two tests say at each place of a list
pub at_place : (k : ℕ) (lines : List (ℕ × ℕ)) → in_order k lines ≡ true → all_have lines ≡ true → (i : ℕ) → i < length lines
    → (place (get_or lines i (0, 0)).0 (get_or lines i (0, 0)).1 ≡ k + i) × HasLine (get_or lines i (0, 0)).0 (get_or lines i (0, 0)).1
at_place k [] t u i h = absurd (omega arith)
at_place k (at ∷ rest) t u zero h =
    let b = both (eqb (place at.0 at.1) k) (in_order (k + 1) rest) t in
    let w = both (has_line at.0 at.1) (all_have rest) u in
    let e : place at.0 at.1 ≡ k = let h = b.0 in search rules in
    (omega (arith, e), there at.0 at.1 w.0)
at_place k (at ∷ rest) t u (suc i) h =
    let b = both (eqb (place at.0 at.1) k) (in_order (k + 1) rest) t in
    let w = both (has_line at.0 at.1) (all_have rest) u in
    let r = at_place (k + 1) rest b.1 w.1 i (omega arith) in
    (omega (arith, r.0), r.1)

below_none : {a b total : ℕ} → a ≤ total → total ≡ 0 → a ≡ b → b ≡ 0
below_none l z e = omega arith

-- a count of 0, and any one line
pub counted : (one : Line → ℕ) (lines : CardLines) → count one lines ≡ 0 → (c f : ℕ) → HasLine c f → one (lines c f) ≡ 0
counted one lines z c f h =
    let i = place c f in
    let p = at_place 0 all_lines refl refl i (within c f h) in
    let s = same_place (get_or all_lines i (0, 0)).0 (get_or all_lines i (0, 0)).1 c f p.1 h (omega (arith, p.0)) in
    let l = get_or-le-sum_by (λ at. one (lines at.0 at.1)) all_lines i (0, 0) (within c f h) in
    let e : one (lines (get_or all_lines i (0, 0)).0 (get_or all_lines i (0, 0)).1) ≡ one (lines c f) = ap (λ k. one (lines k (get_or all_lines i (0, 0)).1)) s.0 ∙ ap (λ k. one (lines c k)) s.1 in
    below_none l z e

sum_same : (g h : ℕ × ℕ → ℕ) (lines : List (ℕ × ℕ)) → all_have lines ≡ true → ((c f : ℕ) → HasLine c f → g (c, f) ≡ h (c, f)) → sum_by g lines ≡ sum_by h lines
sum_same g h [] t e = refl
sum_same g h (at ∷ rest) t e =
    let w = both (has_line at.0 at.1) (all_have rest) t in
    sum_by-cons g at rest ∙ ap (λ n. n + sum_by g rest) (e at.0 at.1 (there at.0 at.1 w.0))
    ∙ ap (λ n. h at + n) (sum_same g h rest w.1 e) ∙ sym (sum_by-cons h at rest)

-- what is made of each line is the same where it is the same of each line that there is
map_same : {X : Type 0} → (g h : ℕ × ℕ → X) (lines : List (ℕ × ℕ)) → all_have lines ≡ true → ((c f : ℕ) → HasLine c f → g (c, f) ≡ h (c, f)) → map g lines ≡ map h lines
map_same g h [] t e = refl
map_same g h (at ∷ rest) t e =
    let w = both (has_line at.0 at.1) (all_have rest) t in
    ap (λ x. x ∷ map g rest) (e at.0 at.1 (there at.0 at.1 w.0)) ∙ ap (λ xs. h at ∷ xs) (map_same g h rest w.1 e)

pub of_all : {X : Type 0} → (g h : ℕ × ℕ → X) → ((c f : ℕ) → HasLine c f → g (c, f) ≡ h (c, f)) → map g all_lines ≡ map h all_lines
of_all g h e = map_same g h all_lines refl e

-- lines that are the same are counted alike
pub count_same : (one : Line → ℕ) (lines others : CardLines) → ((c f : ℕ) → HasLine c f → lines c f ≡ others c f) → count one lines ≡ count one others
count_same one lines others e = sum_same (λ at. one (lines at.0 at.1)) (λ at. one (others at.0 at.1)) all_lines refl (λ c f h. ap one (e c f h))

pub count_none : (one : Line → ℕ) (lines : CardLines) → ((c f : ℕ) → HasLine c f → one (lines c f) ≡ 0) → count one lines ≡ 0
count_none one lines e = sum_same (λ at. one (lines at.0 at.1)) (λ _. 0) all_lines refl e

-- each line of a list that passes the test is there
pub there_at : (lines : List (ℕ × ℕ)) → all_have lines ≡ true → (i : ℕ) (at : ℕ × ℕ) → slice_get lines i ≡ Some at → HasLine at.0 at.1
there_at [] u i at e = cc
there_at (x ∷ rest) u zero at e =
    let w = both (has_line x.0 x.1) (all_have rest) u in
    let p : x ≡ at = cc in
    subst (λ z. HasLine z.0 z.1) p (there x.0 x.1 w.0)
there_at (x ∷ rest) u (suc i) at e = there_at rest (both (has_line x.0 x.1) (all_have rest) u).1 i at e
