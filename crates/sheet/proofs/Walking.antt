-- The lines of a sheet in a row: which one stands at an index.
use Rattle.std.proofs.Common.{◌≡◌, ℕ, zero, suc, ◌+◌, ◌-◌, ◌<◌, ◌≤◌, Bool, true, ◌&&◌, eqb, List, [], ◌∷◌, ◌++◌, length, map, drop, Some, None, Option, sym, refl, ap, ◌∙◌, subst, arith, rules}
use Rattle.std.specs.List.{slice_get, range_with_len, flat_map}
use Rattle.std.proofs.lemmas.List.{drop_all}
use Rattle.card.specs.Cases.{lines_of_row, lines_by_case, HasLine}
use Rattle.card.specs.declared.cases.CaseRow.{CaseRow}
use Rattle.std.specs.Iterator.{YieldsFirst}
use Rattle.card.specs.declared.line.Line.{Line}
use Rattle.sheet.specs.Sheets.{line_on}
use Rattle.sheet.specs.Walks.{sheet_line, still_to_give}
use Rattle.sheet.specs.declared.walk.SheetLine.{SheetLine}
use Rattle.sheet.specs.declared.walk.Walk.{Walk}
use Rattle.sheet.proofs.Counting.{both}
use Rattle.sheet.proofs.Rows.{there_at}

-- an element of the first of two lists, and of the second
pub get_left : {X : Type 0} → (xs ys : List X) (i : ℕ) → i < length xs → slice_get (xs ++ ys) i ≡ slice_get xs i
get_left [] ys i h = absurd (omega arith)
get_left (x ∷ xs) ys zero h = refl
get_left (x ∷ xs) ys (suc i) h = get_left xs ys i (omega arith)

pub get_right : {X : Type 0} → (xs ys : List X) (i : ℕ) → length xs ≤ i → slice_get (xs ++ ys) i ≡ slice_get ys (i - length xs)
get_right [] ys i h = ap (slice_get ys) (let z : i ≡ i - 0 = omega arith in z)
get_right (x ∷ xs) ys zero h = absurd (omega arith)
get_right (x ∷ xs) ys (suc i) h = get_right xs ys i (omega arith) ∙ ap (slice_get ys) (let z : i - length xs ≡ suc i - suc (length xs) = omega arith in z)

-- the lines of a row
row_long : (f : ℕ → ℕ × ℕ) (a n : ℕ) → length (map f (range_with_len a n)) ≡ n
row_long f a zero = refl
row_long f a (suc n) = ap suc (row_long f (a + 1) n)

row_line : (f : ℕ → ℕ × ℕ) (a n i : ℕ) → i < n → slice_get (map f (range_with_len a n)) i ≡ Some (f (a + i))
row_line f a zero i h = absurd (omega arith)
row_line f a (suc n) zero h = ap (λ k. Some (f k)) (let z : a ≡ a + 0 = omega arith in z)
row_line f a (suc n) (suc i) h = row_line f (a + 1) n i (omega arith) ∙ ap (λ k. Some (f k)) (let z : a + 1 + i ≡ a + suc i = omega arith in z)

pub first_row : (row : CaseRow) (rows : List CaseRow) (i : ℕ) → i < row.count → slice_get (flat_map lines_of_row (row ∷ rows)) i ≡ Some (row.first + i, row.file)
first_row row rows i h =
    let f : ℕ → ℕ × ℕ = λ case. (case, row.file) in
    get_left (lines_of_row row) (flat_map lines_of_row rows) i (omega (arith, row_long f row.first row.count)) ∙ row_line f row.first row.count i h

pub later_rows : (row : CaseRow) (rows : List CaseRow) (i : ℕ) → row.count ≤ i → slice_get (flat_map lines_of_row (row ∷ rows)) i ≡ slice_get (flat_map lines_of_row rows) (i - row.count)
later_rows row rows i h =
    let f : ℕ → ℕ × ℕ = λ case. (case, row.file) in
    let l = row_long f row.first row.count in
    get_right (lines_of_row row) (flat_map lines_of_row rows) i (omega (arith, l)) ∙ ap (λ n. slice_get (flat_map lines_of_row rows) (i - n)) l

-- whether a list is what a function gives from a number on
abbrev pub agrees : (ℕ → ℕ × ℕ) → ℕ → List (ℕ × ℕ) → Bool
agrees f k [] = true
agrees f k (at ∷ rest) = eqb at.0 (f k).0 && (eqb at.1 (f k).1 && agrees f (k + 1) rest)

pub given_by : (f : ℕ → ℕ × ℕ) (k : ℕ) (xs : List (ℕ × ℕ)) → agrees f k xs ≡ true → (i : ℕ) → i < length xs → slice_get xs i ≡ Some (f (k + i))
given_by f k [] t i h = absurd (omega arith)
given_by f k (at ∷ rest) t zero h =
    let a = both (eqb at.0 (f k).0) (eqb at.1 (f k).1 && agrees f (k + 1) rest) t in
    let b = both (eqb at.1 (f k).1) (agrees f (k + 1) rest) a.1 in
    let p : at.0 ≡ (f k).0 = let h = a.0 in search rules in
    let q : at.1 ≡ (f k).1 = let h = b.0 in search rules in
    ap (λ z. Some (z, at.1)) p ∙ ap (λ z. Some ((f k).0, z)) q ∙ ap (λ n. Some (f n)) (let z : k ≡ k + 0 = omega arith in z)
given_by f k (at ∷ rest) t (suc i) h =
    let a = both (eqb at.0 (f k).0) (eqb at.1 (f k).1 && agrees f (k + 1) rest) t in
    let b = both (eqb at.1 (f k).1) (agrees f (k + 1) rest) a.1 in
    given_by f (k + 1) rest b.1 i (omega arith) ∙ ap (λ n. Some (f n)) (let z : k + 1 + i ≡ k + suc i = omega arith in z)

-- what is left of a list, with and without an element at its start
pub more_left : {X : Type 0} → (xs : List X) (i : ℕ) (x : X) → slice_get xs i ≡ Some x → drop i xs ≡ x ∷ drop (i + 1) xs
more_left [] i x e = cc
more_left (y ∷ xs) zero x e = let p : y ≡ x = cc in ap (λ z. z ∷ xs) p
more_left (y ∷ xs) (suc i) x e = more_left xs i x e ∙ ap (λ n. x ∷ drop n (y ∷ xs)) (let z : suc (i + 1) ≡ suc i + 1 = omega arith in z)

pub none_left : {X : Type 0} → (xs : List X) (i : ℕ) → slice_get xs i ≡ None → drop i xs ≡ []
none_left [] i e = drop_all i [] (omega arith)
none_left (y ∷ xs) zero e = cc
none_left (y ∷ xs) (suc i) e = none_left xs i e

-- the walk goes through lines that there are
pub walked_line : (i : ℕ) (at : ℕ × ℕ) → slice_get lines_by_case i ≡ Some at → HasLine at.0 at.1
walked_line i at e = there_at lines_by_case refl i at e

module _ (w : Walk) where
  -- a walk at its end
  pub ended : (r : Option SheetLine) → r ≡ None → slice_get lines_by_case w.passed ≡ None → YieldsFirst still_to_give w r w
  unfolding still_to_give
  ended r e n =
      let none : map (sheet_line w.sheet.now) (drop w.passed lines_by_case) ≡ [] = ap (map (sheet_line w.sheet.now)) (none_left lines_by_case w.passed n) in
      subst (λ z. YieldsFirst still_to_give w z w) (sym e) (none, none)

  -- a walk that gives a line
  pub gives : (at : ℕ × ℕ) (line : Line) → slice_get lines_by_case w.passed ≡ Some at → line ≡ line_on w.sheet.now at.0 at.1
      → still_to_give w ≡ record { case = at.0; file = at.1; line = line } ∷ still_to_give (record { sheet = w.sheet; passed = w.passed + 1 })
  unfolding still_to_give
  gives at line e l =
      ap (map (sheet_line w.sheet.now)) (more_left lines_by_case w.passed at e)
      ∙ ap (λ z. record { case = at.0; file = at.1; line = z } ∷ map (sheet_line w.sheet.now) (drop (w.passed + 1) lines_by_case)) (sym l)
