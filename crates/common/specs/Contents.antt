-- The three objects of EF.COM's template, and the places of their values.
use Rattle.std.specs.Prelude.{◌≡◌, ℕ, ◌+◌, List, [], length}
use Rattle.object.specs.Objects.{Begins, header_size}
use Rattle.common.specs.declared.contents.Contents.{Contents}

-- the template's value is an object 5F01, then 5F36, then 5C, and no more
pub record HoldsCommon (template : List ℕ) : Type 0 where
  pub version : List ℕ
  pub unicode : List ℕ
  pub tags : List ℕ
  pub after_version : List ℕ
  pub after_unicode : List ℕ
  pub has_version : Begins template 0x5F01 version after_version
  pub has_unicode : Begins after_version 0x5F36 unicode after_unicode
  pub has_tags : Begins after_unicode 0x5C tags []

-- the first byte of each value, where the template's value stands at this place: each object follows the one before
abbrev pub place_of_version : ℕ → {template : List ℕ} → HoldsCommon template → ℕ
place_of_version place h = place + header_size 0x5F01 h.version

abbrev pub place_of_unicode : ℕ → {template : List ℕ} → HoldsCommon template → ℕ
place_of_unicode place h =
    place_of_version place h + length h.version + header_size 0x5F36 h.unicode

abbrev pub place_of_tags : ℕ → {template : List ℕ} → HoldsCommon template → ℕ
place_of_tags place h = place_of_unicode place h + length h.unicode + header_size 0x5C h.tags

-- what was read is what the template holds, each value at its place
pub record FoundCommon (place : ℕ) (template : List ℕ) (contents : Contents) : Type 0 where
  pub holds : HoldsCommon template
  pub version : contents.version.bytes.now ≡ holds.version
  pub unicode : contents.unicode.bytes.now ≡ holds.unicode
  pub tags : contents.tags.bytes.now ≡ holds.tags
  pub version_at : contents.version.place ≡ place_of_version place holds
  pub unicode_at : contents.unicode.place ≡ place_of_unicode place holds
  pub tags_at : contents.tags.place ≡ place_of_tags place holds
