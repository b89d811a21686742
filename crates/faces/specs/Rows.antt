-- Objects of one tag, one after the other.
use Rattle.std.specs.Prelude.{◌≡◌, ℕ, zero, suc, ◌+◌, Bool, true, false, List, [], length}
use Rattle.object.specs.Objects.{Begins, header_size}
use Rattle.faces.specs.declared.entries.FailingEntry.{FailingEntry}

-- the bytes are exactly so many objects of this tag
abbrev pub Row : ℕ → ℕ → List ℕ → Type 0
Row tag zero bytes = bytes ≡ []
Row tag (suc count) bytes =
    (value : List ℕ) × (rest : List ℕ) × Begins bytes tag value rest × Row tag count rest

-- the bytes are objects of this tag, and P holds of the value of each
pub data Each (tag : ℕ) (P : List ℕ → Type 0) : List ℕ → Type 0 where
  done : Each tag P []
  next : {bytes : List ℕ} (value rest : List ℕ) → Begins bytes tag value rest
      → P value → Each tag P rest → Each tag P bytes

-- the bytes are objects of this tag
abbrev pub AllTagged : ℕ → List ℕ → Type 0
AllTagged tag = Each tag (λ _. Unit {0})

-- what a test answers that tells whether P holds of a value
abbrev pub IsAnswer : (List ℕ → Type 0) → List ℕ → Bool → Type 0
IsAnswer P value true = P value
IsAnswer P value false = P value → ⊥

-- The bytes, objects of this tag, stand at the first place, and a test looks at their values; `Gives` says what it answers.
-- It answers yes at those before this entry, and no at the entry.
pub data FirstFailing (tag : ℕ) (Gives : List ℕ → Bool → Type 0)
    : ℕ → List ℕ → FailingEntry → Type 0 where
  failed : {at : ℕ} {bytes : List ℕ} (value rest : List ℕ) → Begins bytes tag value rest
      → Gives value false
      → FirstFailing tag Gives at bytes (record { start = at; value = at + header_size tag value })
  passed : {at : ℕ} {bytes : List ℕ} {entry : FailingEntry} (value rest : List ℕ)
      → Begins bytes tag value rest → Gives value true
      → FirstFailing tag Gives (at + header_size tag value + length value) rest entry
      → FirstFailing tag Gives at bytes entry
