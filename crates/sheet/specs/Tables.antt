-- The table of a sheet's lines: three for each file, then row by row those of the cases that one file alone has.
use Rattle.std.specs.Prelude.{◌≡◌, ℕ, ◌+◌, ◌-◌, ◌*◌, ◌<◌, ◌≤◌, Bool, ◌&&◌, List, [], ◌∷◌, length, ◌==◌, ◌≢◌, nat_le, nat_lt, slice_index_or, if◌then◌else◌}
use Rattle.card.specs.Cases.{own_rows, InRows, HasLine}
use Rattle.card.specs.declared.cases.CaseRow.{CaseRow}
use Rattle.card.specs.declared.line.Line.{Line}
use Rattle.card.specs.declared.line.Line.TheVariants.{Open}

-- how many lines some rows have
abbrev pub lines_in : List CaseRow → ℕ
lines_in [] = 0
lines_in (row ∷ rows) = row.count + lines_in rows

-- how many lines there are
abbrev pub line_count : ℕ
line_count = 54 + lines_in own_rows

-- whether the case is one of a row, and the file the row's
abbrev pub is_in_row : CaseRow → ℕ → ℕ → Bool
is_in_row row case file =
    nat_le row.first case && (nat_lt case (row.first + row.count) && file == row.file)

-- where a line of some rows stands, if they stand one behind the other from a place on
abbrev pub place_in : ℕ → List CaseRow → ℕ → ℕ → ℕ
place_in from [] case file = from
place_in from (row ∷ rows) case file =
    if is_in_row row case file then from + (case - row.first)
    else place_in (from + row.count) rows case file

-- where the line of a case and a file stands
abbrev pub place : ℕ → ℕ → ℕ
place case file = if nat_le case 3 then 3 * file + (case - 1) else place_in 54 own_rows case file

-- the line of a case and a file
abbrev pub line_in : List Line → ℕ → ℕ → Line
line_in table case file = slice_index_or table (place case file) Open

-- lines are put into a table from a place on, and all others are as they were
pub record Put (at : ℕ) (lines before after : List Line) : Type 0 where
  pub there : (k : ℕ) → k < length lines
      → slice_index_or after (at + k) Open ≡ slice_index_or lines k Open
  pub elsewhere : (i : ℕ) → (at ≤ i → i < at + length lines → ⊥)
      → slice_index_or after i Open ≡ slice_index_or before i Open

-- how many cases a file has in some rows before this one
abbrev pub own_index : List CaseRow → ℕ → ℕ → ℕ
own_index [] case file = 0
own_index (row ∷ rows) case file =
    if is_in_row row case file then case - row.first
    else (if file == row.file then row.count else 0) + own_index rows case file

-- the lines of a file by case: those of the cases that every file has, and those of its own; where none is given, as before
abbrev pub lines_of : (file : ℕ) (shared own : List Line) (before : ℕ → Line) → ℕ → Line
lines_of file shared own before case =
    if nat_le case 3 then slice_index_or shared (case - 1) Open
    else slice_index_or own (own_index own_rows case file) (before case)

-- The lines of a file's own cases are put where they belong. Where none is given, and all else, is as it was.
pub record PutOwn (file : ℕ) (given before after : List Line) : Type 0 where
  pub own : (case : ℕ) → InRows own_rows case file
      → line_in after case file
      ≡ slice_index_or given (own_index own_rows case file) (line_in before case file)
  pub others : (case other : ℕ) → HasLine case other → (InRows own_rows case other → other ≢ file)
      → line_in after case other ≡ line_in before case other
