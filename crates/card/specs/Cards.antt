-- A card: its files by number, EF.COM first (0), then the sixteen data groups, EF.SOD last (17); any may be missing.
use Rattle.std.specs.Prelude.{ℕ, ◌≤◌, List, [], ◌∷◌, length, Some, None, Option, slice_index, slice_index_or}
use Rattle.std.specs.Borrow.{Bor}
use Rattle.std.specs.Option.{option_map}

-- the files of a card: which bytes a file has, if it is there
abbrev pub Files : Type 0
Files = ℕ → Option (List ℕ)

-- a file that is there is no longer than 32,767 bytes
abbrev pub Short : Option (List ℕ) → Type 0
Short None = Unit {0}
Short (Some bs) = length bs ≤ 32767

-- the bytes of a file, none where it is absent
abbrev pub content : Option (List ℕ) → List ℕ
content None = []
content (Some bs) = bs

-- the files in a table, by their numbers
abbrev pub files_at : List (Option (Bor (List ℕ))) → Files
files_at table number = option_map (λ x. x.now) (slice_index_or table number None)

-- the template tags of the files 0 to 17
abbrev pub template_tags : List ℕ
template_tags =
    0x60 ∷ 0x61 ∷ 0x75 ∷ 0x63 ∷ 0x76 ∷ 0x65 ∷ 0x66 ∷ 0x67 ∷ 0x68
    ∷ 0x69 ∷ 0x6a ∷ 0x6b ∷ 0x6c ∷ 0x6d ∷ 0x6e ∷ 0x6f ∷ 0x70 ∷ 0x77 ∷ []

-- the template tag of a file
abbrev pub template_tag_of : ℕ → ℕ
template_tag_of file = slice_index template_tags file
