-- Filling an array with the numbers of lines, one after the other.
use Rattle.std.proofs.Common.{◌≡◌, ℕ, ◌<◌, ◌≤◌, List, [], ◌∷◌, refl, length, get_or, map, ap, ◌∙◌, sym, arith}
use Rattle.std.proofs.lemmas.List.{get_or-map, length-map}
use Rattle.std.proofs.lemmas.Grind.{same_number_lists}
use Rattle.card.specs.Cases.{HasLine, all_lines}
use Rattle.card.specs.Sheets.{CardLines}
use Rattle.card.specs.declared.line.Line.{Line}
use Rattle.card.specs.declared.line.Line.TheVariants.{Open}
use Rattle.sheet.specs.Sheets.{line_on, table_of}
use Rattle.sheet.specs.Tables.{line_count}
use Rattle.sheet.specs.declared.sheet.Sheet.{Sheet}
use Rattle.sheet.proofs.Rows.{of_all}
use Rattle.c_api.specs.Exports.{NumbersLines}

-- the first so many lines have their numbers
pub record FilledTo (number : Line → ℕ) (table : List Line) (many : ℕ) (array : List ℕ) : Type 0 where
  pub long : length array ≡ line_count
  pub each : (k : ℕ) → k < many → get_or array k 0 ≡ number (get_or table k Open)

-- all have theirs
pub filled : (number : Line → ℕ) (table : List Line) (many : ℕ) (array : List ℕ) → length table ≡ line_count → length table ≤ many
    → FilledTo number table many array → array ≡ map number table
filled number table many array l m f = same_number_lists array (map number table) (f.long ∙ sym (length-map table number ∙ l))
    (λ k h. let a = f.long in f.each k (omega arith) ∙ sym (get_or-map number table k Open 0 (omega arith)))

map_twice : {X : Type 0} → (number : Line → ℕ) (f : X → Line) (xs : List X) → map number (map f xs) ≡ map (λ x. number (f x)) xs
map_twice number f [] = refl
map_twice number f (x ∷ xs) = ap (λ ns. number (f x) ∷ ns) (map_twice number f xs)

-- by case and file
pub by_place : (number : Line → ℕ) (sheet : Sheet) (table : List Line) (lines : CardLines) (array : List ℕ) → table ≡ table_of sheet
    → ((case file : ℕ) → HasLine case file → line_on sheet case file ≡ lines case file) → array ≡ map number table → NumbersLines number lines array
by_place number sheet table lines array t same e =
    e ∙ ap (map number) t ∙ map_twice number (λ at. line_on sheet at.0 at.1) all_lines
    ∙ of_all (λ at. number (line_on sheet at.0 at.1)) (λ at. number (lines at.0 at.1)) (λ c f h. ap number (same c f h))
