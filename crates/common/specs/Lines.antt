-- What the lines of cases 4 to 8 of EF.COM say.
use Rattle.std.specs.Prelude.{◌≡◌, ℕ, List, length, codes}
use Rattle.card.specs.Lines.{Says, Gates}
use Rattle.card.specs.declared.line.Line.{Line}
use Rattle.card.specs.declared.line.Line.TheVariants.{Blocked}
use Rattle.card.specs.Profiles.{declared_set}
use Rattle.card.specs.declared.profile.Profile.{Profile}
use Rattle.common.specs.Contents.{HoldsCommon, place_of_version, place_of_unicode, place_of_tags}
use Rattle.common.specs.Tags.{SoundTags, SetOf, FirstBreakAt}
use Rattle.common.specs.declared.lines.CommonLines.{CommonLines}

-- the text that the value of 5F01 must be, and that of 5F36
abbrev pub version_text : List ℕ
version_text = codes "0107"

abbrev pub unicode_text : List ℕ
unicode_text = codes "040000"

-- the lines where the own cases are not judged: each is this one
abbrev pub common_unjudged : Line → CommonLines
common_unjudged line =
    record { contents = line; version = line; unicode = line; tags = line; declared = line }

-- Cases 7 and 8 over a list of tags that stands at this place. Case 7 fails at the first byte that breaks the list, and
-- blocks case 8; this fails at the first byte of the list.
abbrev pub AreTagLines : Profile → ℕ → List ℕ → Line → Line → Type 0
AreTagLines profile place tags sound declared =
    Gates sound (SoundTags tags (length tags)) (FirstBreakAt place tags)
    (λ _. Says declared (SetOf tags (length tags) (declared_set profile)) (λ at. at ≡ place))
    (declared ≡ Blocked)

-- Cases 4 to 8 over the template's value, which stands at this place. Case 4 fails there, and blocks the others; cases 5
-- and 6 fail at the first byte of the value that they look at.
abbrev pub AreCommonLines : Profile → ℕ → List ℕ → CommonLines → Type 0
AreCommonLines profile place template lines =
    Gates lines.contents (HoldsCommon template) (λ at. at ≡ place)
    (λ h. Says lines.version (h.version ≡ version_text) (λ at. at ≡ place_of_version place h)
    × Says lines.unicode (h.unicode ≡ unicode_text) (λ at. at ≡ place_of_unicode place h)
    × AreTagLines profile (place_of_tags place h) h.tags lines.tags lines.declared)
    ((lines.version ≡ Blocked) × (lines.unicode ≡ Blocked)
    × (lines.tags ≡ Blocked) × (lines.declared ≡ Blocked))
