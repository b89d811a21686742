-- What an image means: fields in a row, each of three bytes, which are a file's number and its length (the high byte
-- before the low), and of the file. It is said by writing. The one reading, `fields_after`, is tied to the writing by
-- what checking an image promises.
use Rattle.std.specs.Prelude.{◌≡◌, ℕ, zero, suc, ◌+◌, ◌*◌, ◌/◌, ◌%◌, ◌<◌, ◌≤◌, Bool, true, false, ◌&&◌, if◌then◌else◌, List, [], ◌∷◌, ◌++◌, length, take, Some, None, Option, ◌==◌, ◌≢◌, nat_le, refl}
use Rattle.std.proofs.Common.{length-take, leb-true, sym, subst}
use Rattle.std.proofs.Math.Nat.{le_trans, min-le_left}
use Rattle.card.specs.Cards.{Files, Short}

-- a field: a file's number and its bytes
pub record ImageField : Type 0 where
  pub number : ℕ
  pub content : List ℕ

-- a field as it is written, and what follows it
abbrev pub field : ℕ → List ℕ → List ℕ → List ℕ
field number content rest =
    number ∷ (length content / 256 ∷ (length content % 256 ∷ (content ++ rest)))

-- the row that fields make
abbrev pub row_of : List ImageField → List ℕ
row_of [] = []
row_of (f ∷ fs) = field f.number f.content (row_of fs)

-- a field that may stand where the lower numbers are taken
pub record LawfulField (lowest number : ℕ) (content : List ℕ) : Type 0 where
  pub rises : lowest ≤ number
  pub card : number ≤ 17
  pub short : length content ≤ 32767

-- each field is lawful, and the numbers rise strictly
abbrev pub RisingFields : ℕ → List ImageField → Type 0
RisingFields lowest [] = Unit {0}
RisingFields lowest (f ∷ fs) =
    LawfulField lowest f.number f.content × RisingFields (f.number + 1) fs

-- the bytes are an image of these fields, and of nothing more
pub record IsImage (bytes : List ℕ) (fs : List ImageField) : Type 0 where
  pub lawful : RisingFields 0 fs
  pub writes : row_of fs ≡ bytes

-- no lawful field begins the bytes
abbrev pub NoField : ℕ → List ℕ → Type 0
NoField lowest bytes =
    (number : ℕ) (content rest : List ℕ) → LawfulField lowest number content
    → field number content rest ≢ bytes

-- Lawful fields follow each other from a place on, and the first that breaks starts at another: there are bytes there,
-- and no lawful field begins them.
pub data Breaks : ℕ → ℕ → List ℕ → ℕ → Type 0 where
  here : {lowest place : ℕ} {bytes : List ℕ} → 0 < length bytes → NoField lowest bytes
      → Breaks lowest place bytes place
  later : {lowest place broken : ℕ} {bytes : List ℕ} (number : ℕ) (content rest : List ℕ)
      → LawfulField lowest number content → field number content rest ≡ bytes
      → Breaks (number + 1) (place + 3 + length content) rest broken
      → Breaks lowest place bytes broken

-- the file of a number among fields
abbrev pub file_of : List ImageField → Files
file_of [] number = None
file_of (f ∷ fs) number = if f.number == number then Some f.content else file_of fs number

-- the fields that stand in a row after so many bytes, up to the first that is cut off or too long
unfoldable pub fields_after : ℕ → List ℕ → List ImageField
fields_after n [] = []
fields_after (suc n) (x ∷ xs) = fields_after n xs
fields_after zero (k ∷ []) = []
fields_after zero (k ∷ (h ∷ [])) = []
fields_after zero (k ∷ (h ∷ (l ∷ xs))) =
    let size = h * 256 + l in
    if nat_le size 32767 && nat_le size (length xs)
    then (record { number = k; content = take size xs } ∷ fields_after size xs)
    else []

-- the files of a row
unfoldable pub files_in : List ℕ → Files
files_in row = file_of (fields_after 0 row)

-- none of them is too long
short_if : (b : Bool) (bs : List ℕ) (f : Option (List ℕ)) → length bs ≤ 32767 → Short f
    → Short (if b then Some bs else f)
short_if true bs f h k = h
short_if false bs f h k = k

short_where : (b c : Bool) (f : ImageField) (fs : List ImageField) (j : ℕ)
    → (b ≡ true → length f.content ≤ 32767) → Short (file_of fs j)
    → Short (file_of (if b && c then f ∷ fs else []) j)
short_where true true f fs j h r = short_if (f.number == j) f.content (file_of fs j) (h refl) r
short_where true false f fs j h r = tt
short_where false c f fs j h r = tt

taken : (n : ℕ) (xs : List ℕ) → length (take n xs) ≤ n
taken n xs = subst (λ k. k ≤ n) (sym (length-take n xs)) (min-le_left n (length xs))

short_after : (n : ℕ) (xs : List ℕ) (j : ℕ) → Short (file_of (fields_after n xs) j)
unfolding fields_after
short_after n [] j = tt
short_after (suc n) (x ∷ xs) j = short_after n xs j
short_after zero (k ∷ []) j = tt
short_after zero (k ∷ (h ∷ [])) j = tt
short_after zero (k ∷ (h ∷ (l ∷ xs))) j =
    let size = h * 256 + l in
    let f : ImageField = record { number = k; content = take size xs } in
    short_where (nat_le size 32767) (nat_le size (length xs)) f (fields_after size xs) j
    (λ e. le_trans (taken size xs) (leb-true _ _ e)) (short_after size xs j)

pub files_short : (row : List ℕ) (number : ℕ) → Short (files_in row number)
unfolding files_in
files_short row number = short_after 0 row number
