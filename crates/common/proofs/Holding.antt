-- The objects that were read are those that the template holds.
use Rattle.std.proofs.Common.{◌≡◌, ℕ, Bool, true, false, List, [], Decides, refl, arith}
use Rattle.std.proofs.lemmas.Bool.{false≢true}
use Rattle.card.specs.Lines.{line_of, Says}
use Rattle.card.specs.declared.line.Line.{Line}
use Rattle.card.specs.declared.line.Line.TheVariants.{Pass}
use Rattle.object.specs.Objects.{Begins, Lacks, IsNotOnly}
use Rattle.object.specs.Readers.{Took, IsOnly, rest_of}
use Rattle.object.specs.declared.reader.Reader.{Reader}
use Rattle.object.specs.declared.reader.Value.{Value}
use Rattle.object.proofs.Laws.{same}
use Rattle.card.specs.declared.profile.Profile.{Profile}
use Rattle.common.specs.declared.contents.Contents.{Contents}
use Rattle.common.specs.declared.lines.CommonLines.{CommonLines}
use Rattle.common.specs.Contents.{HoldsCommon, FoundCommon}
use Rattle.common.specs.Lines.{version_text, unicode_text, AreTagLines, AreCommonLines}

-- what the template holds after an object that was read, and after two
second : {t a r : List ℕ} → Begins t 0x5F01 a r → (h : HoldsCommon t) → Begins r 0x5F36 h.unicode h.after_unicode
second x h = rw (same h.has_version x).2 at h.has_unicode

third : {t a b r s : List ℕ} → Begins t 0x5F01 a r → Begins r 0x5F36 b s → (h : HoldsCommon t) → Begins s 0x5C h.tags []
third x y h = rw (same (second x h) y).2 at h.has_tags

-- where an object is lacking, or is not the last, the template does not hold the three
pub no_unicode : {t a r : List ℕ} → Begins t 0x5F01 a r → Lacks r 0x5F36 → HoldsCommon t → ⊥
no_unicode x n h = n _ _ (second x h)

pub no_tags : {t a b r s : List ℕ} → Begins t 0x5F01 a r → Begins r 0x5F36 b s → IsNotOnly s 0x5C → HoldsCommon t → ⊥
no_tags x y n h = n _ (third x y h)

-- three objects that were taken one after the other, the third with nothing behind it
pub found : {a b c : Reader} {version unicode tags : Value} → Took a b 0x5F01 version → Took b c 0x5F36 unicode → IsOnly c 0x5C tags
    → FoundCommon a.position (rest_of a) (record { version = version; unicode = unicode; tags = tags })
found x y z = record {
  holds = record { version = _; unicode = _; tags = _; after_version = _; after_unicode = _; has_version = x.begins; has_unicode = y.begins; has_tags = z.begins };
  version = refl;
  unicode = refl;
  tags = refl;
  version_at = x.at;
  unicode_at = omega (arith, x.at, x.position, y.at);
  tags_at = omega (arith, x.at, x.position, y.at, y.position, z.at);
}

-- the line of a text, which passes exactly if it is the wanted one
pub text_line : {P : Type 0} (place : ℕ) (holds : Bool) (line : Line) → line ≡ line_of holds place → Decides holds P → Says line P (λ at. at ≡ place)
text_line place true line e d = rw e (d.0 refl)
text_line place false line e d = rw e ((λ p. absurd (false≢true (d.1 p))), refl)

-- cases 5 to 8 at the places that were found
pub with_contents : (profile : Profile) (p : ℕ) (t : List ℕ) (k : Contents) (lines : CommonLines) → FoundCommon p t k → lines.contents ≡ Pass
    → Says lines.version (k.version.bytes.now ≡ version_text) (λ at. at ≡ k.version.place) → Says lines.unicode (k.unicode.bytes.now ≡ unicode_text) (λ at. at ≡ k.unicode.place)
    → AreTagLines profile k.tags.place k.tags.bytes.now lines.tags lines.declared → AreCommonLines profile p t lines
with_contents profile p t k lines c e a b d =
    rw e (c.holds, (rw (c.version, c.version_at) at a, rw (c.unicode, c.unicode_at) at b, rw (c.tags, c.tags_at) at d))
