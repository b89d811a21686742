-- Putting the lines of a file into the table: those of the cases that every file has, and row by row those of its own.
use Rattle.std.proofs.Common.{◌≡◌, ◌≢◌, ℕ, ◌+◌, ◌-◌, ◌*◌, ◌<◌, ◌≤◌, min, true, false, cond, eqb, leb, List, [], ◌∷◌, length, take, drop, get_or, refl, ap, ◌∙◌, sym, subst, inl, inr, ⊎_elim, arith, eq-eqb, ne_eqb, rules, length-take}
use Rattle.std.proofs.lemmas.Bool.{cases_eq, cases_lt}
use Rattle.std.proofs.lemmas.List.{get_or-take, get_or_default, get_or_past, get_or-drop}
use Rattle.card.specs.Cases.{own_rows, InRow, InRows, HasLine}
use Rattle.card.specs.declared.cases.CaseRow.{CaseRow}
use Rattle.card.specs.declared.line.Line.{Line}
use Rattle.card.specs.declared.line.Line.TheVariants.{Open}
use Rattle.sheet.specs.Tables.{lines_in, line_count, place_in, place, line_in, Put, own_index, lines_of, PutOwn}
use Rattle.sheet.proofs.CaseRows.{Rises, rows_rise, low, in_row, not_in_row, whether_in_row, whether_in_rows, place_here, place_later, later, within_rows}
use Rattle.sheet.proofs.Places.{own_case, shared_place, own_place, behind, before_own}

-- which line of the given ones a case has
index_here : (row : CaseRow) (rows : List CaseRow) (c f : ℕ) → InRow row c f → own_index (row ∷ rows) c f ≡ c - row.first
index_here row rows c f h = ap (λ b. cond b (c - row.first) (cond (eqb f row.file) row.count 0 + own_index rows c f)) (in_row row c f h)

index_later : (row : CaseRow) (rows : List CaseRow) (c f : ℕ) → (InRow row c f → ⊥) → own_index (row ∷ rows) c f ≡ cond (eqb f row.file) row.count 0 + own_index rows c f
index_later row rows c f n = ap (λ b. cond b (c - row.first) (cond (eqb f row.file) row.count 0 + own_index rows c f)) (not_in_row row c f n)

-- The rows before these have been gone through: their lines of this file are those given, as far as they reach, and all else
-- in the table is as it was before. The rows left stand from a place on, and so many lines are left for them.
pub record SoFar (file : ℕ) (given before : List Line) (left : List CaseRow) (at : ℕ) (rest table : List Line) : Type 0 where
  pub room : at + lines_in left ≡ line_count
  pub lowest : ℕ
  pub from_four : 4 ≤ lowest
  pub rises : Rises lowest left
  pub places : (c f : ℕ) → InRows left c f → place c f ≡ place_in at left c f
  pub passed : (c f : ℕ) → HasLine c f → (InRows left c f → ⊥) → place c f < at
  pub lines_left : (c : ℕ) → InRows left c file → (d : Line) → get_or given (own_index own_rows c file) d ≡ get_or rest (own_index left c file) d
  pub own : (c : ℕ) → InRows own_rows c file → (InRows left c file → ⊥) → line_in table c file ≡ get_or given (own_index own_rows c file) (line_in before c file)
  pub own_left : (c : ℕ) → InRows left c file → line_in table c file ≡ line_in before c file
  pub others : (c f : ℕ) → HasLine c f → (InRows own_rows c f → f ≢ file) → line_in table c f ≡ line_in before c f

pub nothing_yet : (file : ℕ) (given before : List Line) → SoFar file given before own_rows 54 given before
nothing_yet file given before = record {
  room = refl;
  lowest = 4;
  from_four = omega arith;
  rises = rows_rise;
  places = λ c f h. own_place c f (own_case c f h);
  passed = passed;
  lines_left = λ c h d. refl;
  own = λ c h n. absurd (n h);
  own_left = λ c h. refl;
  others = λ c f h n. refl;
}
  where
    passed : (c f : ℕ) → HasLine c f → (InRows own_rows c f → ⊥) → place c f < 54
    passed c f (inl h) n = before_own c f h
    passed c f (inr h) n = absurd (n h)

-- one row more
module _ (file : ℕ) (given before : List Line) (row : CaseRow) (more : List CaseRow) (at : ℕ) (rest table : List Line) (s : SoFar file given before (row ∷ more) at rest table) where
  apart : (c f : ℕ) → InRows more c f → InRow row c f → ⊥
  apart c f h i = let b = i.1 in omega (arith, low (row.first + row.count) more s.rises.1 c f h)

  places : (c f : ℕ) → InRows more c f → place c f ≡ place_in (at + row.count) more c f
  places c f h = s.places c f (inr h) ∙ place_later at row more c f (apart c f h)

  in_this : (c f : ℕ) → InRow row c f → place c f ≡ at + (c - row.first)
  in_this c f i = s.places c f (inl i) ∙ place_here at row more c f i

  passed : (c f : ℕ) → HasLine c f → (InRows more c f → ⊥) → place c f < at + row.count
  passed c f h n = ⊎_elim
      (λ (i : InRow row c f). let a = i.0 in let b = i.1 in omega (arith, in_this c f i))
      (λ (m : InRow row c f → ⊥). omega (arith, s.passed c f h (λ k. n (later row more c f k m))))
      (whether_in_row row c f)

  room : at + row.count + lines_in more ≡ line_count
  room = omega (arith, s.room)

  four : 4 ≤ row.first + row.count
  four = omega (arith, s.from_four, s.rises.0)

  -- a row of another file
  pub row_of_another : (row.file ≡ file → ⊥) → SoFar file given before more (at + row.count) rest table
  row_of_another n = record {
    room = room;
    lowest = row.first + row.count;
    from_four = four;
    rises = s.rises.1;
    places = places;
    passed = passed;
    lines_left = λ c h d. s.lines_left c (inr h) d ∙ ap (λ i. get_or rest i d) (index_later row more c file (apart c file h) ∙ ap (λ b. cond b row.count 0 + own_index more c file) (ne_eqb file row.file (λ e. n (sym e))) ∙ (let z : 0 + own_index more c file ≡ own_index more c file = omega arith in z));
    own = λ c h m. s.own c h (λ k. m (later row more c file k (λ i. n (sym i.2))));
    own_left = λ c h. s.own_left c (inr h);
    others = s.others;
  }

  -- a row of this file, of which as many lines are put as there are
  module _ (is : row.file ≡ file) (n : ℕ) (many : n ≡ min row.count (length rest)) (table' : List Line) (put : Put at (take n rest) table table') where
    long : length (take n rest) ≡ n
    long = length-take n rest ∙ (let e : min n (length rest) ≡ n = omega arith in e)

    left : (c f : ℕ) → (at ≤ place c f → place c f < at + n → ⊥) → line_in table' c f ≡ line_in table c f
    left c f m = put.elsewhere (place c f) (λ l k. m l (omega (arith, long)))

    behind_it : (c f : ℕ) → InRows more c f → at + n ≤ place c f
    behind_it c f h = omega (arith, places c f h, (within_rows (at + row.count) more c f h).0)

    rest_index : (c : ℕ) → InRows more c file → own_index (row ∷ more) c file ≡ row.count + own_index more c file
    rest_index c h = index_later row more c file (apart c file h) ∙ ap (λ b. cond b row.count 0 + own_index more c file) (eq-eqb file row.file (sym is))

    rest_line : (i : ℕ) (d : Line) → get_or rest (row.count + i) d ≡ get_or (drop n rest) i d
    rest_line i d = ⊎_elim
        (λ (l : length rest < row.count). get_or_past rest (row.count + i) d (omega arith) ∙ sym (get_or-drop n rest i d ∙ get_or_past rest (n + i) d (omega arith)))
        (λ (l : row.count ≤ length rest). ap (λ k. get_or rest (k + i) d) (let e : row.count ≡ n = omega arith in e) ∙ sym (get_or-drop n rest i d))
        (cases_lt (length rest) row.count)

    put_here : (c : ℕ) → InRow row c file → line_in table' c file ≡ get_or rest (c - row.first) (line_in before c file)
    put_here c i = ⊎_elim
        (λ (l : c - row.first < n).
        ap (λ k. get_or table' k Open) (in_this c file i) ∙ put.there (c - row.first) (omega (arith, long)) ∙ get_or-take n rest (c - row.first) Open l
        ∙ get_or_default rest (c - row.first) Open (line_in before c file) (omega arith))
        (λ (l : n ≤ c - row.first).
        let a = i.0 in
        let b = i.1 in
        left c file (λ _ k. omega (arith, in_this c file i)) ∙ s.own_left c (inl i) ∙ sym (get_or_past rest (c - row.first) (line_in before c file) (omega arith)))
        (cases_lt (c - row.first) n)

    own : (c : ℕ) → InRows own_rows c file → (InRows more c file → ⊥) → line_in table' c file ≡ get_or given (own_index own_rows c file) (line_in before c file)
    own c h m = ⊎_elim
        (λ (i : InRow row c file).
        let d = line_in before c file in
        put_here c i ∙ sym (s.lines_left c (inl i) d ∙ ap (λ k. get_or rest k d) (index_here row more c file i)))
        (λ (o : InRow row c file → ⊥).
        let k : InRows (row ∷ more) c file → ⊥ = λ k. m (later row more c file k o) in
        left c file (λ l _. omega (arith, s.passed c file (inr h) k)) ∙ s.own c h k)
        (whether_in_row row c file)

    untouched : (c f : ℕ) → HasLine c f → (InRows own_rows c f → f ≢ file) → at ≤ place c f → place c f < at + n → ⊥
    untouched c f (inl h) m l k =
        let none : InRows (row ∷ more) c f → ⊥ = λ r. omega (arith, low s.lowest (row ∷ more) s.rises c f r, s.from_four, h.1) in
        omega (arith, s.passed c f (inl h) none)
    untouched c f (inr h) m l k = ⊎_elim
        (λ (i : InRow row c f). m h (i.2 ∙ is))
        (λ (o : InRow row c f → ⊥). ⊎_elim
        (λ (r : InRows more c f). omega (arith, behind_it c f r))
        (λ (q : InRows more c f → ⊥). omega (arith, s.passed c f (inr h) (λ r. q (later row more c f r o))))
        (whether_in_rows more c f))
        (whether_in_row row c f)

    pub row_of_this : SoFar file given before more (at + row.count) (drop n rest) table'
    row_of_this = record {
      room = room;
      lowest = row.first + row.count;
      from_four = four;
      rises = s.rises.1;
      places = places;
      passed = passed;
      lines_left = λ c h d. s.lines_left c (inr h) d ∙ ap (λ i. get_or rest i d) (rest_index c h) ∙ rest_line (own_index more c file) d;
      own = own;
      own_left = λ c h. left c file (λ _ k. omega (arith, behind_it c file h)) ∙ s.own_left c (inr h);
      others = λ c f h m. left c f (untouched c f h m) ∙ s.others c f h m;
    }

-- all rows
pub all_put : (file at : ℕ) (given before rest table : List Line) → SoFar file given before [] at rest table → PutOwn file given before table
all_put file at given before rest table s = record { own = λ c h. s.own c h (λ k. k); others = s.others }

-- The lines of cases 1 to 3, and then those of the file's own cases.
module _ (file : ℕ) (card : file ≤ 17) (shared own before between table : List Line) (three : length shared ≡ 3) (put : Put (3 * file) shared before between) (put_own : PutOwn file own between table) where
  abbrev lines : ℕ → Line
  lines = lines_of file shared own (λ c. line_in before c file)

  three_put : (c : ℕ) → 1 ≤ c → c ≤ 3 → line_in between c file ≡ get_or shared (c - 1) Open
  three_put c l h = ap (λ i. get_or between i Open) (shared_place c file h) ∙ put.there (c - 1) (omega (arith, three))

  -- no other line is touched by them
  others_left : (c f : ℕ) → HasLine c f → (c ≤ 3 → f ≡ file → ⊥) → line_in between c f ≡ line_in before c f
  others_left c f (inl h) n =
      let a = h.0 in
      let b = h.1 in
      put.elsewhere (place c f) (λ l k. n b (omega (arith, shared_place c f b, three)))
  others_left c f (inr h) n = put.elsewhere (place c f) (λ l k. omega (arith, (behind c f h).0, three))

  here : (c : ℕ) → HasLine c file → line_in table c file ≡ lines c
  here c (inl h) =
      let a = h.0 in
      let b = h.1 in
      let t : leb c 3 ≡ true = search rules in
      let none : InRows own_rows c file → file ≢ file = λ k _. omega (arith, own_case c file k) in
      put_own.others c file (inl h) none ∙ three_put c a b ∙ sym (ap (λ z. cond z (get_or shared (c - 1) Open) (get_or own (own_index own_rows c file) (line_in before c file))) t)
  here c (inr h) =
      let l = own_case c file h in
      let t : leb c 3 ≡ false = search rules in
      put_own.own c h ∙ ap (get_or own (own_index own_rows c file)) (others_left c file (inr h) (λ k _. omega arith))
      ∙ sym (ap (λ z. cond z (get_or shared (c - 1) Open) (get_or own (own_index own_rows c file) (line_in before c file))) t)

  pub all_lines_set : (c f : ℕ) → HasLine c f → line_in table c f ≡ cond (eqb f file) (lines c) (line_in before c f)
  all_lines_set c f h = ⊎_elim
      (λ (e : f ≡ file). ap (line_in table c) e ∙ here c (subst (HasLine c) e h) ∙ sym (ap (λ z. cond z (lines c) (line_in before c f)) (eq-eqb f file e)))
      (λ (n : f ≡ file → ⊥).
      put_own.others c f h (λ _. n) ∙ others_left c f h (λ _. n) ∙ sym (ap (λ z. cond z (lines c) (line_in before c f)) (ne_eqb f file n)))
      (cases_eq f file)
