-- Names: letters and fillers.
use Rattle.std.specs.Prelude.{◌≡◌, ℕ, ◌+◌, ◌<◌, ◌≤◌, List, length, slice_index}
use Rattle.text.specs.Characters.{Letter, filler, PlainCharacter}

-- each character is a letter or the filler
abbrev pub AllPlain : List ℕ → Type 0
AllPlain text = (k : ℕ) → k < length text → PlainCharacter (slice_index text k)

-- two fillers stand together, at k and after it, both before n
abbrev pub Pair : List ℕ → ℕ → ℕ → Type 0
Pair text n k = (k + 1 < n) × (slice_index text k ≡ filler) × (slice_index text (k + 1) ≡ filler)

-- they do so nowhere, and the first place where they do so
abbrev pub NoPair : List ℕ → Type 0
NoPair text = (k : ℕ) → Pair text (length text) k → ⊥

abbrev pub FirstPair : List ℕ → ℕ → Type 0
FirstPair text k = Pair text (length text) k × ((j : ℕ) → Pair text (length text) j → k ≤ j)

-- a letter stands at k
abbrev pub LetterAt : List ℕ → ℕ → Type 0
LetterAt text k = (k < length text) × Letter (slice_index text k)

-- Of the places where two fillers stand together before some letter there is at most one.
abbrev pub Alone : List ℕ → Type 0
Alone text = (j k l m : ℕ) → Pair text l j → LetterAt text l
    → Pair text m k → LetterAt text m → j ≡ k

-- each character is the filler
abbrev pub AllFillers : List ℕ → Type 0
AllFillers text = (k : ℕ) → k < length text → slice_index text k ≡ filler

-- A name is made of letters and fillers and begins with a letter. Up to its last letter two fillers stand together at
-- one place at most.
pub record Name (field : List ℕ) : Type 0 where
  pub plain : AllPlain field
  pub first : LetterAt field 0
  pub alone : Alone field
