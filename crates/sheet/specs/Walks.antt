-- Walking through the lines of a sheet, by case and then by file.
use Rattle.std.specs.Prelude.{◌≡◌, ℕ, ◌<◌, ◌⊎◌, List, [], ◌∷◌, drop, map, Some, slice_get}
use Rattle.card.specs.Cases.{HasLine, lines_by_case}
use Rattle.sheet.specs.Sheets.{line_on}
use Rattle.sheet.specs.declared.sheet.Sheet.{Sheet}
use Rattle.sheet.specs.declared.walk.SheetLine.{SheetLine}
use Rattle.sheet.specs.declared.walk.Walk.{Walk}

-- a list of lines, each by its case and its file, has every line of a card and no others
pub record ListsCard (list : List (ℕ × ℕ)) : Type 0 where
  pub every : (case file : ℕ) → HasLine case file
      → (i : ℕ) × (slice_get list i ≡ Some (case, file))
  pub others : (i : ℕ) (at : ℕ × ℕ) → slice_get list i ≡ Some at → HasLine at.0 at.1

-- one line stands before another by case and then by file
abbrev pub Before : ℕ × ℕ → ℕ × ℕ → Type 0
Before at next = (at.0 < next.0) ⊎ ((at.0 ≡ next.0) × (at.1 < next.1))

-- each line of a list stands before the next
abbrev pub Ascends : List (ℕ × ℕ) → Type 0
Ascends [] = Unit {0}
Ascends (at ∷ []) = Unit {0}
Ascends (at ∷ (next ∷ rest)) = Before at next × Ascends (next ∷ rest)

-- a line of the sheet with its case and its file
abbrev pub sheet_line : Sheet → ℕ × ℕ → SheetLine
sheet_line sheet at = record { case = at.0; file = at.1; line = line_on sheet at.0 at.1 }

-- all lines of a sheet, in the order in which a walk gives them
unfoldable pub walked : Sheet → List SheetLine
walked sheet = map (sheet_line sheet) lines_by_case

-- the lines that a walk has still to give
unfoldable pub still_to_give : Walk → List SheetLine
still_to_give walk = map (sheet_line walk.sheet.now) (drop walk.passed lines_by_case)
