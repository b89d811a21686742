-- Cases 4 to 8 of EF.COM: each has one line only.
use Rattle.std.proofs.Common.{◌≡◌, ℕ, List, [], ◌∷◌, length, Option, sym, ap, ◌∙◌}
use Rattle.card.specs.Cards.{template_tag_of}
use Rattle.card.specs.Profiles.{required}
use Rattle.card.specs.declared.line.Line.{Line}
use Rattle.card.specs.declared.profile.Profile.{Profile}
use Rattle.object.proofs.Laws.{same}
use Rattle.common.specs.Contents.{HoldsCommon}
use Rattle.common.specs.Lines.{AreTagLines, AreCommonLines}
use Rattle.common.specs.Tags.{SoundTags}
use Rattle.common.specs.declared.lines.CommonLines.{CommonLines}
use Rattle.cases.specs.Files.{CommonFile, common_cases}
use Rattle.cases.specs.Verdicts.{Lines, structure_of, common_of}
use Rattle.cases.proofs.Gates.{gates_once, says_at, place_is}
use Rattle.cases.proofs.FailingPlaces.{first_break_once}
use Rattle.cases.proofs.Agreeing.{Agree}
use Rattle.cases.proofs.OnceStructured.{structured_once}

-- the lines of cases 4 to 8, in their order
abbrev row_of_common : CommonLines → List Line
row_of_common lines = lines.contents ∷ lines.version ∷ lines.unicode ∷ lines.tags ∷ lines.declared ∷ []

-- the template holds three values only
holds_once : {value : List ℕ} (h k : HoldsCommon value) → (h.version ≡ k.version) × (h.unicode ≡ k.unicode) × (h.tags ≡ k.tags)
holds_once h k =
    let x = same h.has_version k.has_version in
    let y = same (rw x.2 at h.has_unicode) k.has_unicode in
    let z = same (rw y.2 at h.has_tags) k.has_tags in
    (x.1, y.1, z.1)

-- cases 7 and 8
tags_once : (profile : Profile) (place : ℕ) (tags : List ℕ) (seven eight other-seven other-eight : Line) → AreTagLines profile place tags seven eight
    → AreTagLines profile place tags other-seven other-eight → (seven ≡ other-seven) × (eight ≡ other-eight)
tags_once profile place tags seven eight other-seven other-eight g k =
    gates_once seven other-seven (SoundTags tags (length tags)) _ _ _ _ _ (eight ≡ other-eight) (first_break_once place tags)
    (λ _ _ a b. says_at eight other-eight _ place a b) (λ a b. a ∙ sym b) g k

-- cases 4 to 8 over the template's value
own_once : (profile : Profile) (place : ℕ) (value : List ℕ) (common other : CommonLines) → AreCommonLines profile place value common → AreCommonLines profile place value other
    → row_of_common common ≡ row_of_common other
own_once profile place value common other g k =
    let lines = gates_once common.contents other.contents (HoldsCommon value) _ _ _ _ _
    ((common.version ≡ other.version) × (common.unicode ≡ other.unicode) × (common.tags ≡ other.tags) × (common.declared ≡ other.declared))
    (place_is place)
    (λ h i a b.
    let e = holds_once i h in
    let c = rw (e.0, e.1, e.2) at b in
    let t = tags_once profile _ h.tags common.tags common.declared other.tags other.declared a.2 c.2 in
    (says_at common.version other.version _ _ a.0 c.0, says_at common.unicode other.unicode _ _ a.1 c.1, t.0, t.1))
    (λ a b. (a.0 ∙ sym b.0, a.1 ∙ sym b.1, a.2 ∙ sym b.2, a.3 ∙ sym b.3))
    g k in
    cc (lines.0, lines.1.0, lines.1.1, lines.1.2, lines.1.3)

-- EF.COM
pub common_once : (profile : Profile) (content : Option (List ℕ)) (lines others : Lines) → CommonFile profile content (structure_of lines) (common_of lines)
    → CommonFile profile content (structure_of others) (common_of others) → Agree 3 1 lines others × Agree 5 4 lines others
common_once profile content lines others =
    structured_once (template_tag_of 0) (structure_of lines) (structure_of others) (common_cases profile (common_of lines)) (common_cases profile (common_of others)) (Agree 5 4 lines others)
    (λ place value a b. own_once profile place value (common_of lines) (common_of others) a b) (λ _ a b. ap row_of_common (a ∙ sym b)) (required profile 0) content
