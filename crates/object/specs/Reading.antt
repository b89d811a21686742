-- Reading a tag and a length at the start of the bytes.
use Rattle.std.specs.Prelude.{ℕ, ◌+◌, ◌*◌, ◌%◌, if◌then◌else◌, List, [], ◌∷◌, drop, Some, None, Option, ◌==◌, nat_le, nat_lt}

-- a number that was read, and how many bytes it takes
abbrev pub NumberRead : Type 0
NumberRead = Option (ℕ × ℕ)

abbrev pub length_of : List ℕ → NumberRead
length_of [] = None
length_of (a ∷ xs) =
    if nat_lt a 0x80 then Some (a, 1)
    else (if a == 0x81 then one xs else (if a == 0x82 then two xs else None))
  where
    one : List ℕ → NumberRead
    one [] = None
    one (b ∷ xs) = if nat_le 0x80 b then Some (b, 2) else None

    last : ℕ → List ℕ → NumberRead
    last b [] = None
    last b (c ∷ xs) = if nat_le 1 b then Some (b * 256 + c, 3) else None

    two : List ℕ → NumberRead
    two [] = None
    two (b ∷ xs) = last b xs

abbrev pub tag_of : List ℕ → NumberRead
tag_of [] = None
tag_of (a ∷ xs) = if a == 0 then None else (if a % 32 == 31 then second a xs else Some (a, 1))
  where
    second : ℕ → List ℕ → NumberRead
    second a [] = None
    second a (b ∷ xs) = if nat_lt b 0x80 then Some (a * 256 + b, 2) else None

-- what a header says, and its own size
pub record Head : Type 0 where
  pub tag : ℕ
  pub size : ℕ
  pub len : ℕ

abbrev pub sized : ℕ × ℕ → NumberRead → Option Head
sized t None = None
sized t (Some n) = Some (record { tag = t.0; size = t.1 + n.1; len = n.0 })

abbrev pub tagged : List ℕ → NumberRead → Option Head
tagged xs None = None
tagged xs (Some t) = sized t (length_of (drop t.1 xs))

abbrev pub header_of : List ℕ → Option Head
header_of xs = tagged xs (tag_of xs)
