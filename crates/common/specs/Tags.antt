-- The list of tags in EF.COM: which bytes break it, and which set of data groups it names.
use Rattle.std.specs.Prelude.{◌≡◌, ℕ, ◌+◌, ◌<◌, true, ◌⊎◌, List, length, slice_index}
use Rattle.card.specs.Cards.{template_tag_of}
use Rattle.card.specs.Sets.{has}

-- the tag of a data group, counted as in a set: 0 is DG1, which is file 1
abbrev pub group_tag : ℕ → ℕ
group_tag group = template_tag_of (group + 1)

-- the byte is the tag of one of the sixteen data groups
abbrev pub GroupTag : ℕ → Type 0
GroupTag byte = (group : ℕ) × (group < 16) × (group_tag group ≡ byte)

-- the byte is among the first so many of the list
abbrev pub Among : List ℕ → ℕ → ℕ → Type 0
Among tags count byte = (i : ℕ) × (i < count) × (slice_index tags i ≡ byte)

-- the byte at i is no data group tag, or stands before i too
abbrev pub BreaksTags : List ℕ → ℕ → Type 0
BreaksTags tags i = (GroupTag (slice_index tags i) → ⊥) ⊎ Among tags i (slice_index tags i)

-- none of the first so many bytes breaks the list
abbrev pub SoundTags : List ℕ → ℕ → Type 0
SoundTags tags count = (i : ℕ) → i < count → BreaksTags tags i → ⊥

-- the byte at i breaks the list, and none before it does
pub record FirstBreak (tags : List ℕ) (i : ℕ) : Type 0 where
  pub within : i < length tags
  pub breaks : BreaksTags tags i
  pub before : SoundTags tags i

-- the list stands at the first place, and the byte at the other is the first that breaks it
abbrev pub FirstBreakAt : ℕ → List ℕ → ℕ → Type 0
FirstBreakAt place tags at = (i : ℕ) × FirstBreak tags i × (at ≡ place + i)

-- a set has a data group exactly if the group's tag is among the first so many bytes
abbrev pub SetOf : List ℕ → ℕ → ℕ → Type 0
SetOf tags count set = (group : ℕ) → group < 16 →
    (Among tags count (group_tag group) → has set group ≡ true)
    × (has set group ≡ true → Among tags count (group_tag group))

-- none of the first so many bytes breaks the list, and they name this set
abbrev pub Names : List ℕ → ℕ → ℕ → Type 0
Names tags count set = SoundTags tags count × SetOf tags count set
