-- The two lists of lines have every line of a card and no others, and one of them goes by case and then by file.
use Rattle.std.proofs.Common.{◌≡◌, ℕ, zero, suc, Bool, true, false, ◌&&◌, ◌||◌, eqb, ltb, List, [], ◌∷◌, get_or, Some, refl, ap, sym, ◌∙◌, inl, inr, ⊎_elim, arith, rules}
use Rattle.std.specs.List.{slice_get}
use Rattle.std.proofs.lemmas.Option.{slice_get-get_or}
use Rattle.std.proofs.lemmas.Bool.Decides.{nat_tests}
use Rattle.card.specs.Cases.{HasLine, all_lines, lines_by_case}
use Rattle.sheet.specs.Tables.{place}
use Rattle.sheet.specs.Walks.{ListsCard, Before, Ascends}
use Rattle.sheet.proofs.Counting.{both}
use Rattle.sheet.proofs.Places.{within, same_place}
use Rattle.sheet.proofs.Rows.{at_place, either, there_at}

-- where a line stands in the list of all lines
pub line_of_place : (c f : ℕ) → HasLine c f → slice_get all_lines (place c f) ≡ Some (c, f)
line_of_place c f h =
    let i = place c f in
    let p = at_place 0 all_lines refl refl i (within c f h) in
    let s = same_place (get_or all_lines i (0, 0)).0 (get_or all_lines i (0, 0)).1 c f p.1 h (omega (arith, p.0)) in
    slice_get-get_or all_lines i (0, 0) (within c f h) ∙ ap (λ k. Some (k, (get_or all_lines i (0, 0)).1)) s.0 ∙ ap (λ k. Some (c, k)) s.1

pub all_listed : ListsCard all_lines
all_listed = record { every = λ c f h. (place c f, line_of_place c f h); others = λ i at e. there_at all_lines refl i at e }

-- whether a line is in a list, and where
is_among : ℕ → ℕ → List (ℕ × ℕ) → Bool
is_among c f [] = false
is_among c f (at ∷ rest) = (eqb at.0 c && eqb at.1 f) || is_among c f rest

where_among : (c f : ℕ) (list : List (ℕ × ℕ)) → is_among c f list ≡ true → (i : ℕ) × (slice_get list i ≡ Some (c, f))
unfolding is_among
where_among c f [] t = let z : ◌≡◌ {A = ℕ} 0 1 = cc in absurd (omega arith)
where_among c f (at ∷ rest) t = ⊎_elim
    (λ (a : (eqb at.0 c && eqb at.1 f) ≡ true).
    let b = both (eqb at.0 c) (eqb at.1 f) a in
    let p : at.0 ≡ c = let h = b.0 in search rules in
    let q : at.1 ≡ f = let h = b.1 in search rules in
    (0, ap (λ k. Some (k, at.1)) p ∙ ap (λ k. Some (c, k)) q))
    (λ (o : is_among c f rest ≡ true). let w = where_among c f rest o in (suc w.0, w.1))
    (either (eqb at.0 c && eqb at.1 f) (is_among c f rest) t)

all_among : List (ℕ × ℕ) → List (ℕ × ℕ) → Bool
all_among [] list = true
all_among (at ∷ rest) list = is_among at.0 at.1 list && all_among rest list

each_among : (some list : List (ℕ × ℕ)) → all_among some list ≡ true → (i c f : ℕ) → slice_get some i ≡ Some (c, f) → is_among c f list ≡ true
unfolding all_among
each_among [] list t i c f e = cc
each_among (at ∷ rest) list t zero c f e =
    let w = both (is_among at.0 at.1 list) (all_among rest list) t in
    let p : at ≡ (c, f) = cc in
    sym (ap (λ z. is_among z.0 z.1 list) p) ∙ w.0
each_among (at ∷ rest) list t (suc i) c f e = each_among rest list (both (is_among at.0 at.1 list) (all_among rest list) t).1 i c f e

all_walked : all_among all_lines lines_by_case ≡ true
unfolding is_among all_among
all_walked = refl

pub walk_listed : ListsCard lines_by_case
walk_listed = record {
  every = λ c f h. where_among c f lines_by_case (each_among all_lines lines_by_case all_walked (place c f) c f (line_of_place c f h));
  others = λ i at e. there_at lines_by_case refl i at e;
}

-- whether each line of a list stands before the next
is_before : ℕ × ℕ → ℕ × ℕ → Bool
is_before at next = ltb at.0 next.0 || (eqb at.0 next.0 && ltb at.1 next.1)

ascends : List (ℕ × ℕ) → Bool
ascends [] = true
ascends (at ∷ []) = true
ascends (at ∷ (next ∷ rest)) = is_before at next && ascends (next ∷ rest)

before : (at next : ℕ × ℕ) → is_before at next ≡ true → Before at next
unfolding is_before
before at next t = ⊎_elim
    (λ (a : ltb at.0 next.0 ≡ true). inl (grind (arith, nat_tests)))
    (λ (b : (eqb at.0 next.0 && ltb at.1 next.1) ≡ true). let w = both (eqb at.0 next.0) (ltb at.1 next.1) b in
    let p : at.0 ≡ next.0 = let h = w.0 in search rules in
    inr (p, grind (arith, nat_tests)))
    (either (ltb at.0 next.0) (eqb at.0 next.0 && ltb at.1 next.1) t)

all_before : (list : List (ℕ × ℕ)) → ascends list ≡ true → Ascends list
unfolding ascends
all_before [] t = tt
all_before (at ∷ []) t = tt
all_before (at ∷ (next ∷ rest)) t =
    let w = both (is_before at next) (ascends (next ∷ rest)) t in
    (before at next w.0, all_before (next ∷ rest) w.1)

pub walk_ascends : Ascends lines_by_case
unfolding is_before ascends
walk_ascends = all_before lines_by_case refl
