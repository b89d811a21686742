-- How many bytes an image and a chip answer, and when a chip's link is lost. A source may choose both; these do not.
use Rattle.std.specs.Prelude.{◌≡◌, ℕ, ◌-◌, min, max, Bool, true, false, List, length, Ok, Err, Option, ◌==◌}
use Rattle.std.specs.Option.{option_map}
use Rattle.card.specs.Cards.{Files, Short}
use Rattle.source.specs.Numbers.{of_fault}
use Rattle.source.specs.Reads.{Request, Answer}
use Rattle.image.specs.Checks.{image_files, image_short}
use Rattle.image.specs.declared.image.Image.{Image}
use Rattle.image.specs.declared.chip.Chip.{Chip}

-- as many bytes as a limit and the file allow
abbrev pub full_count : List ℕ → ℕ → ℕ → ℕ
full_count bs place most = min most (length bs - place)

-- the answer to a read that is not refused
abbrev pub answer_of : Option (List ℕ) → ℕ → ℕ → Option ℕ
answer_of file place most = option_map (λ bs. full_count bs place most) file

-- A well-formed read leaves nothing open: it is refused, with 6, exactly if the link is lost, and otherwise answers as
-- many bytes as a limit and the file allow.
abbrev pub Tells : Option (List ℕ) → ℕ → ℕ → Bool → Answer → Type 0
Tells file place most true (Ok answer) = ⊥
Tells file place most false (Ok answer) = answer ≡ answer_of file place most
Tells file place most true (Err fault) = (of_fault fault).number ≡ 6
Tells file place most false (Err fault) = ⊥

-- A read leaves an image as it is. The link is never lost, and the limit is what the read wants.
abbrev pub ImageReads : Image → Request → Answer → Image → Type 0
ImageReads s asked answer t =
    (t ≡ s) × Tells (image_files s asked.file) asked.place asked.wanted false answer

-- the files that a chip has, none of which is too long
abbrev pub chip_files : Chip → Files
chip_files chip = image_files chip.image

pub chip_short : (chip : Chip) (number : ℕ) → Short (chip_files chip number)
chip_short chip number = image_short chip.image number

-- how many bytes it gives at most, where 0 counts as 1; how many commands are left, and whether none is
abbrev pub span_of : Chip → ℕ
span_of chip = chip.span

abbrev pub commands_of : Chip → ℕ
commands_of chip = chip.commands

abbrev pub is_spent : Chip → Bool
is_spent chip = commands_of chip == 0

-- a read leaves a chip its image and its span, and takes one of its commands where it has any left
abbrev pub UsesCommand : Chip → Chip → Type 0
UsesCommand s t =
    (t.image ≡ s.image) × (span_of t ≡ span_of s) × (commands_of t ≡ commands_of s - 1)

-- A read takes a command where there is one, and is refused where there is none. The limit is the smaller of the span,
-- 0 taken as 1, and what the read wants.
abbrev pub ChipReads : Chip → Request → Answer → Chip → Type 0
ChipReads s asked answer t =
    let most = min (max (span_of s) 1) asked.wanted in
    UsesCommand s t × Tells (chip_files s asked.file) asked.place most (is_spent s) answer
