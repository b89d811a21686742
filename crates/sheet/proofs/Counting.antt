-- Counting over the table is counting over all lines.
use Rattle.std.proofs.Common.{◌≡◌, ℕ, ◌+◌, Bool, true, false, ◌&&◌, eqb, List, [], ◌∷◌, length, get_or, drop, map, sum_by, sym, refl, ap, ◌∙◌, add-one, arith, drop-cons, rules}
use Rattle.std.proofs.lemmas.List.{drop_all}
use Rattle.std.proofs.lemmas.List.Sums.{sum_by-cons}
use Rattle.card.specs.Cases.{all_lines}
use Rattle.card.specs.Sheets.{count}
use Rattle.card.specs.declared.line.Line.{Line}
use Rattle.card.specs.declared.line.Line.TheVariants.{Open}
use Rattle.sheet.specs.Tables.{line_count, place, line_in}

-- the lines stand in the table from k on, in this order
abbrev pub in_order : ℕ → List (ℕ × ℕ) → Bool
in_order k [] = true
in_order k (at ∷ rest) = eqb (place at.0 at.1) k && in_order (k + 1) rest

pub both : (a b : Bool) → (a && b) ≡ true → (a ≡ true) × (b ≡ true)
both true b e = (refl, e)
both false b e = let z : ◌≡◌ {A = ℕ} 0 1 = cc in absurd (omega arith)

table_from : (table : List Line) (k : ℕ) (lines : List (ℕ × ℕ)) → in_order k lines ≡ true → length table ≡ k + length lines
    → drop k table ≡ map (λ at. line_in table at.0 at.1) lines
table_from table k [] t l = drop_all k table (omega arith)
table_from table k (at ∷ rest) t l =
    let b = both (eqb (place at.0 at.1) k) (in_order (k + 1) rest) t in
    let e : place at.0 at.1 ≡ k = let h = b.0 in search rules in
    let ih = table_from table (k + 1) rest b.1 (omega arith) in
    let d : drop k table ≡ get_or table k Open ∷ drop (k + 1) table = drop-cons table k Open (omega arith) ∙ ap (λ n. get_or table k Open ∷ drop n table) (sym (add-one k)) in
    d ∙ ap (λ n. get_or table n Open ∷ drop (k + 1) table) (sym e) ∙ ap (λ z. line_in table at.0 at.1 ∷ z) ih

-- the table has each line at its place
pub whole_table : (table : List Line) → length table ≡ line_count → table ≡ map (λ at. line_in table at.0 at.1) all_lines
whole_table table l = table_from table 0 all_lines refl l

sum_map : {X : Type 0} → (one : Line → ℕ) (f : X → Line) (xs : List X) → sum_by one (map f xs) ≡ sum_by (λ x. one (f x)) xs
sum_map one f [] = refl
sum_map one f (x ∷ xs) = sum_by-cons one (f x) (map f xs) ∙ ap (λ n. one (f x) + n) (sum_map one f xs) ∙ sym (sum_by-cons (λ z. one (f z)) x xs)

pub sum_table : (one : Line → ℕ) (table : List Line) → length table ≡ line_count → sum_by one table ≡ count one (line_in table)
sum_table one table l = ap (sum_by one) (whole_table table l) ∙ sum_map one (λ at. line_in table at.0 at.1) all_lines
