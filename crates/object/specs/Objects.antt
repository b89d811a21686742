-- How an object is written: its tag, its length in as few bytes as can be, and its value.
use Rattle.std.specs.Prelude.{◌≡◌, ℕ, ◌+◌, ◌/◌, ◌%◌, ◌<◌, Bool, if◌then◌else◌, ◌⊎◌, List, [], ◌∷◌, ◌++◌, length, ◌==◌, nat_lt}

-- a tag of one byte: neither 00 nor one that ends in 11111 (binary)
pub record ShortTag (tag : ℕ) : Type 0 where
  pub positive : 0 < tag
  pub small : tag < 256
  pub low : tag % 32 ≡ 31 → ⊥

-- a tag of two bytes: the first ends in 11111 (binary), and the second is below 80 (hexadecimal)
pub record LongTag (tag : ℕ) : Type 0 where
  pub small : tag < 65536
  pub low : tag / 256 % 32 ≡ 31
  pub second : tag % 256 < 0x80

abbrev pub LawfulTag : ℕ → Type 0
LawfulTag tag = ShortTag tag ⊎ LongTag tag

-- the bytes of a tag
abbrev pub tag_bytes : ℕ → List ℕ
tag_bytes tag = if nat_lt tag 256 then tag ∷ [] else tag / 256 ∷ tag % 256 ∷ []

-- the bytes of a length, as few as can be: below 80 (hexadecimal) one, below 100 the byte 81 and one, else 82 and two
abbrev pub length_bytes : ℕ → List ℕ
length_bytes n =
    if nat_lt n 0x80 then n ∷ []
    else (if nat_lt n 256 then 0x81 ∷ n ∷ [] else 0x82 ∷ n / 256 ∷ n % 256 ∷ [])

-- whether an object is nested or plain is told by the bit 20 (hexadecimal) of the first byte of its tag
unfoldable pub nests : ℕ → Bool
nests tag = (if nat_lt tag 256 then tag else tag / 256) / 32 % 2 == 1

-- the bytes begin with an object of this tag and value, and go on with the rest
pub record Begins (bytes : List ℕ) (tag : ℕ) (value rest : List ℕ) : Type 0 where
  pub lawful : LawfulTag tag
  pub small : length value < 65536
  pub written : bytes ≡ tag_bytes tag ++ (length_bytes (length value) ++ (value ++ rest))

-- how many bytes stand before an object's value
unfoldable pub header_size : ℕ → List ℕ → ℕ
header_size tag value = length (tag_bytes tag) + length (length_bytes (length value))

-- the bytes begin with no object: its header cannot be read, or it passes their end
abbrev pub Unread : List ℕ → Type 0
Unread bytes = (tag : ℕ) (value rest : List ℕ) → Begins bytes tag value rest → ⊥

-- the bytes begin with no object of this tag
abbrev pub Lacks : List ℕ → ℕ → Type 0
Lacks bytes tag = (value rest : List ℕ) → Begins bytes tag value rest → ⊥

-- the bytes are not exactly one object of this tag
abbrev pub IsNotOnly : List ℕ → ℕ → Type 0
IsNotOnly bytes tag = (value : List ℕ) → Begins bytes tag value [] → ⊥
