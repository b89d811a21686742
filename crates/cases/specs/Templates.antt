-- Case 2: the file is its template.
use Rattle.std.specs.Prelude.{◌≡◌, ℕ, ◌+◌, ◌<◌, min, List, [], ◌∷◌, ◌++◌, length, drop, ◌≢◌}
use Rattle.object.specs.Objects.{Begins, length_bytes, header_size}
use Rattle.object.specs.declared.reader.Reader.{Reader}

-- the bytes are one object of this tag, and nothing more
abbrev pub One : ℕ → List ℕ → Type 0
One tag bytes = (value : List ℕ) × Begins bytes tag value []

-- where case 2 fails: another tag, a length that cannot be read, or an end that is not the file's
pub data Off (tag : ℕ) (bytes : List ℕ) : ℕ → Type 0 where
  other_tag : ((rest : List ℕ) → bytes ≢ tag ∷ rest) → Off tag bytes 0
  no_length : (rest : List ℕ) → bytes ≡ tag ∷ rest
      → ((n : ℕ) (more : List ℕ) → n < 65536 → rest ≢ length_bytes n ++ more) → Off tag bytes 1
  other_end : (n : ℕ) (rest : List ℕ) → n < 65536 → bytes ≡ tag ∷ (length_bytes n ++ rest)
      → (length rest ≢ n)
      → Off tag bytes (min (1 + length (length_bytes n) + n) (length bytes))

-- the bytes are no object of this tag alone, and case 2 fails there
abbrev pub FailsAt : ℕ → List ℕ → ℕ → Type 0
FailsAt tag bytes place = (One tag bytes → ⊥) × Off tag bytes place

-- the bytes are one object of this tag, whose value starts at this place
pub record Opens (tag : ℕ) (bytes : List ℕ) (start : ℕ) : Type 0 where
  pub begins : Begins bytes tag (drop start bytes) []
  pub at : start ≡ header_size tag (drop start bytes)

-- they are, and the reader has the value before it
abbrev pub OpensAt : ℕ → List ℕ → Reader → Type 0
OpensAt tag bytes reader = (reader.bytes.now ≡ bytes) × Opens tag bytes reader.position
