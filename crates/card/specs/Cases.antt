-- Which cases a file has: 1 to 3 as every file, and those of its own, in rows. Whatever lists the lines of a card is computed
-- from these rows. A file may have several rows, and they need not be neighbours in number.
use Rattle.std.specs.Prelude.{◌≡◌, ℕ, ◌+◌, ◌<◌, ◌≤◌, ◌⊎◌, List, [], ◌∷◌, ◌++◌, map}
use Rattle.std.specs.List.{range_with_len, flat_map}
use Rattle.card.specs.declared.cases.CaseRow.{CaseRow}

-- the cases that one file alone has, row by row, in the order of their numbers
abbrev pub own_rows : List CaseRow
own_rows =
    record { file = 0; first = 4; count = 5 }
    ∷ record { file = 1; first = 9; count = 12 }
    ∷ record { file = 2; first = 21; count = 3 }
    ∷ record { file = 17; first = 24; count = 1 }
    ∷ []

-- the case is one of a row, and the file is the row's
abbrev pub InRow : CaseRow → ℕ → ℕ → Type 0
InRow row case file = (row.first ≤ case) × (case < row.first + row.count) × (file ≡ row.file)

-- the case of the file is in one of some rows
abbrev pub InRows : List CaseRow → ℕ → ℕ → Type 0
InRows [] case file = ⊥
InRows (row ∷ rows) case file = InRow row case file ⊎ InRows rows case file

-- every file of a card has the cases 1 to 3
abbrev pub SharedCase : ℕ → ℕ → Type 0
SharedCase case file = (1 ≤ case) × (case ≤ 3) × (file ≤ 17)

-- there is a line of this case for this file
abbrev pub HasLine : ℕ → ℕ → Type 0
HasLine case file = SharedCase case file ⊎ InRows own_rows case file

-- the lines of a row, each by its case and its file
abbrev pub lines_of_row : CaseRow → List (ℕ × ℕ)
lines_of_row row = map (λ case. (case, row.file)) (range_with_len row.first row.count)

-- all lines, file by file: cases 1 to 3 of every file, then the rows
abbrev pub all_lines : List (ℕ × ℕ)
all_lines =
    flat_map (λ file. lines_of_row (record { file = file; first = 1; count = 3 }))
    (range_with_len 0 18)
    ++ flat_map lines_of_row own_rows

-- all lines, case by case: each of the cases 1 to 3 for every file, then the rows
abbrev pub lines_by_case : List (ℕ × ℕ)
lines_by_case =
    flat_map (λ case. map (λ file. (case, file)) (range_with_len 0 18)) (range_with_len 1 3)
    ++ flat_map lines_of_row own_rows
