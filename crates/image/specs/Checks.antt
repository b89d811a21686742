-- What checking bytes promises: which files they have as an image, or where they break.
use Rattle.std.specs.Prelude.{◌≡◌, ℕ, ◌≤◌, ◌⊎◌, List, length, Some, None, Ok, Err, Option, Result, ◌≢◌}
use Rattle.card.specs.Cards.{Files, Short}
use Rattle.card.specs.Refusals.{Under, no_other}
use Rattle.image.specs.Images.{ImageField, field, files_in, files_short, file_of, IsImage, Breaks}
use Rattle.image.specs.Numbers.{of_image}
use Rattle.image.specs.declared.image.StoredField.{StoredField}
use Rattle.image.specs.declared.image.Image.{Image}
use Rattle.image.specs.declared.image.ImageRefusal.{ImageRefusal}

-- the files that an image has
abbrev pub image_files : Image → Files
image_files image = files_in image.row.now

-- none of them is too long
pub image_short : (image : Image) (number : ℕ) → Short (image_files image number)
image_short image number = files_short image.row.now number

-- The bytes are an image with these files. They are written by these fields and by no others, and no other bytes are an
-- image with the same files.
pub record ImageOf (bytes : List ℕ) (files : Files) : Type 0 where
  pub fields : List ImageField
  pub is_image : IsImage bytes fields
  pub no_others : (gs : List ImageField) → IsImage bytes gs → gs ≡ fields
  pub has_files : (number : ℕ) → files number ≡ file_of fields number
  pub same_bytes : (other : List ℕ) (gs : List ImageField) → IsImage other gs
      → ((number : ℕ) → file_of gs number ≡ files number) → other ≡ bytes

-- the bytes are no image, and its first broken field starts here and nowhere else
pub record BrokenAt (bytes : List ℕ) (place : ℕ) : Type 0 where
  pub breaks : Breaks 0 0 bytes place
  pub nowhere_else : (other : ℕ) → Breaks 0 0 bytes other → other ≡ place
  pub no_image : (fs : List ImageField) → IsImage bytes fs → ⊥

-- bytes that break are refused with 8 and the place
abbrev pub Refuses : List ℕ → ImageRefusal → Type 0
Refuses bytes refusal = Under 8 (BrokenAt bytes) no_other (of_image refusal)

abbrev pub Checks : List ℕ → Result Image ImageRefusal → Type 0
Checks bytes (Ok image) = ImageOf bytes (image_files image)
Checks bytes (Err refusal) = Refuses bytes refusal

-- bytes that break somewhere stand for a card without files
pub record WithoutFiles (bytes : List ℕ) (files : Files) : Type 0 where
  pub place : ℕ
  pub broken : BrokenAt bytes place
  pub none : (number : ℕ) → files number ≡ None

-- the files of any bytes
abbrev pub StandsFor : List ℕ → Files → Type 0
StandsFor bytes files = ImageOf bytes files ⊎ WithoutFiles bytes files

-- the field at the start of a row, whatever its number, and the row behind it
abbrev pub Starts : List ℕ → Option StoredField → List ℕ → Type 0
Starts row None rest =
    ((number : ℕ) → files_in row number ≡ None)
    × ((number : ℕ) (content rest : List ℕ)
    → length content ≤ 32767 → field number content rest ≢ row)
Starts row (Some f) rest =
    (length f.content.now ≤ 32767) × (field f.number f.content.now rest ≡ row)
