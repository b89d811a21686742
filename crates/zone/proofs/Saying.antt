-- From what the tests found to what the lines say.
use Rattle.std.proofs.Common.{◌≡◌, ℕ, Bool, true, false, List, Decides, sym, refl, ap, subst, arith}
use Rattle.std.proofs.lemmas.Bool.Decides.{not_from_Decides}
use Rattle.card.specs.Lines.{line_of, Says, Gates}
use Rattle.card.specs.declared.line.Line.{Line}
use Rattle.card.specs.declared.line.Line.TheVariants.{Open, Pass, Fail, NotApplicable, Blocked}
use Rattle.card.specs.Profiles.{kind_of}
use Rattle.card.specs.declared.profile.Kind.{Kind}
use Rattle.card.specs.declared.profile.Profile.{Profile}
use Rattle.object.proofs.Laws.{same}
use Rattle.object.specs.declared.reader.Value.{Value}
use Rattle.std.specs.Fn.{FnReturnsAt}
use denote.Param.Members.{Shared}
use denote.Ref.{Bor}
use Rattle.zone.specs.declared.fields.DigitField.{DigitField}
use Rattle.zone.specs.declared.layout.Span.{Span}
use Rattle.zone.specs.declared.layout.Places.{Places}
use Rattle.zone.specs.declared.lines.ZoneLines.{ZoneLines}
use Rattle.zone.specs.Layouts.{places_of}
use Rattle.zone.specs.Contents.{HoldsZone, FoundZone}
use Rattle.zone.specs.Fields.{Composite}
use Rattle.zone.specs.Lines.{AreCharacterLines, AreLayoutLines, AreZoneLines}

-- a test that decides P gives the line of P
pub says : {P : Type 0} (passes : Bool) (place : ℕ) (l : Line) → l ≡ line_of passes place → Decides passes P → Says l P (λ at. at ≡ place)
says {P} true place l e d = subst (λ m. Says m P (λ at. at ≡ place)) (sym e) (d.0 refl)
says {P} false place l e d = subst (λ m. Says m P (λ at. at ≡ place)) (sym e) (not_from_Decides false d refl, refl)

-- the same of a test that was called with a part of a zone
pub says_part : {F : Type 0} {g : Shared F (Bor (List ℕ) × Unit {0}) Bool} {f : F} {xs : List ℕ} {place : ℕ} {l : Line} (P : List ℕ → Type 0)
    → (holds : Bool) × FnReturnsAt g f xs holds × (l ≡ line_of holds place)
    → ((x : Bor (List ℕ)) (holds : Bool) → g.post f (x, tt) holds → Decides holds (P x.now)) → Says l (P xs) (λ at. at ≡ place)
says_part {place} {l} P c decides =
    subst (λ ys. Says l (P ys) (λ at. at ≡ place)) c.1.shows (says c.0 place l c.2 (decides c.1.shown c.0 c.1.says.met))

-- and with a field
pub says_field : {zone : List ℕ} {s : Span} {place : ℕ} {l : Line} (P : List ℕ → Span → Type 0)
    → (x : DigitField) × (holds : Bool) × (x.zone.now ≡ zone) × (x.span ≡ s) × (DigitField × Decides holds (P x.zone.now x.span)) × (l ≡ line_of holds place)
    → Says l (P zone s) (λ at. at ≡ place)
says_field {place} {l} P c =
    subst (λ ys. Says l (P ys _) (λ at. at ≡ place)) c.2 (subst (λ r. Says l (P c.0.zone.now r) (λ at. at ≡ place)) c.3 (says c.1 place l c.5 c.4.1))

-- a line that passes says that its case holds
says_pass : (P : Type 0) (At : ℕ → Type 0) (l : Line) → l ≡ Pass → Says l P At → P
says_pass P At l e s = subst (λ m. Says m P At) e s

-- a case that later ones wait for, where it passes
passing : (l : Line) (P : Type 0) (At : ℕ → Type 0) (later : P → Type 0) (blocked : Type 0) → l ≡ Pass → (h : P) → later h → Gates l P At later blocked
passing l P At later blocked e h s = subst (λ m. Gates m P At later blocked) (sym e) (h, s)

-- the lines of a zone that was found
pub found : (p : Places) (place : ℕ) (t : List ℕ) (z : Value) (lines : ZoneLines) → FoundZone place p.len t z → lines.zone ≡ Pass
    → AreCharacterLines p z.place z.bytes.now lines → AreLayoutLines p place t lines
found p place t z lines c e s =
    passing lines.zone _ _ _ _ e c.holds
    (subst (λ q. AreCharacterLines p q c.holds.zone lines) c.at (subst (λ xs. AreCharacterLines p z.place xs lines) c.characters s))

-- it passes, or it fails and blocks them
gated : {X : Type 0} (l : Line) (P : Type 0) (At : ℕ → Type 0) (later : P → Type 0) (blocked : Type 0) → Gates l P At later blocked
    → (blocked → X) → ((h : P) → later h → X) → X
gated Open P At later blocked s f g = absurd s
gated Pass P At later blocked s f g = g s.0 s.1
gated (Fail place) P At later blocked s f g = f s.2
gated NotApplicable P At later blocked s f g = absurd s
gated Blocked P At later blocked s f g = absurd s

not_both : (l : Line) → l ≡ Blocked → l ≡ Pass → ⊥
not_both l b e = let z : ◌≡◌ {A = ℕ} 0 1 = cc in omega arith

-- where case 20 passes, the composite of the zone is right
pub composite_of : (p : Places) (place : ℕ) (t : List ℕ) (lines : ZoneLines) → AreLayoutLines p place t lines → lines.composite ≡ Pass
    → (h : HoldsZone p.len t) → Composite h.zone p.cover p.composite
composite_of p place t lines s e h =
    gated lines.zone _ _ _ _ s (λ b. absurd (not_both _ b.1.composite e))
    (λ k more. gated lines.characters _ _ _ _ more (λ b. absurd (not_both _ b.composite e))
    (λ _ fields. subst (λ z. Composite z p.cover p.composite) (same k.has_zone h.has_zone).1 (says_pass _ _ lines.composite e fields.composite)))

-- the lines under the layout of a profile's kind
pub under_kind : (profile : Profile) (k : Kind) (place : ℕ) (t : List ℕ) (lines : ZoneLines) → k ≡ kind_of profile → AreLayoutLines (places_of k) place t lines → AreZoneLines profile place t lines
under_kind profile k place t lines e s = subst (λ p. AreLayoutLines p place t lines) (ap places_of e) s
