-- One character of a zone put for another: what it does to the covered characters, and that it shows in the composite.
use Rattle.std.proofs.Common.{◌≡◌, ℕ, ◌+◌, ◌-◌, ◌<◌, ◌≤◌, List, ◌++◌, length, get_or, take, drop, set, sym, refl, ap, ◌∙◌, subst, ⊎_elim, arith, length-append, get_or-set_same}
use lib.Seq.{take-set-lt}
use Rattle.std.proofs.lemmas.List.{get_or_append_left, get_or-append-add, get_or-take, get_or-drop, set-append_left, set-append_right, take-set-le, drop-set-lt, drop-set-add, length-take-le, length-drop, get_or-set_other}
use Rattle.text.specs.Characters.{Digit}
use Rattle.text.specs.Digits.{check_digit_of}
use Rattle.text.proofs.Weights.{changed}
use Rattle.zone.specs.Layouts.{part, covered, Within, LawfulPlaces}
use Rattle.zone.specs.Fields.{Composite}
use Rattle.zone.specs.Lines.{AreLayoutLines}
use Rattle.zone.specs.Changes.{In, Covers, OtherDigit, DigitChangesShow}
use Rattle.zone.specs.declared.layout.Span.{Span}
use Rattle.zone.specs.declared.layout.Places.{Places}
use Rattle.zone.specs.declared.lines.ZoneLines.{ZoneLines}
use Rattle.zone.proofs.Saying.{composite_of}

-- ys is xs with d put at a place where old stood
abbrev Hit : List ℕ → List ℕ → ℕ → ℕ → Type 0
Hit xs ys old d = (j : ℕ) × (j < length xs) × (get_or xs j 0 ≡ old) × (ys ≡ set xs j d)

hit_at : (xs ys zs : List ℕ) (o d : ℕ) → Hit xs ys o d → zs ≡ ys → Hit xs zs o d
hit_at xs ys zs o d h e = (h.0, h.1, h.2, e ∙ h.3)

hit_left : (a b c : List ℕ) (o d : ℕ) → Hit a b o d → Hit (a ++ c) (b ++ c) o d
hit_left a b c o d h = (
  h.0,
  omega (arith, length-append a c, h.1),
  get_or_append_left a c 0 h.0 h.1 ∙ h.2,
  ap (λ x. x ++ c) h.3 ∙ sym (set-append_left a c h.0 d h.1),
)

hit_right : (a b c : List ℕ) (o d : ℕ) → Hit b c o d → Hit (a ++ b) (a ++ c) o d
hit_right a b c o d h =
    let e : length a + h.0 - length a ≡ h.0 = omega arith in (
      length a + h.0,
      omega (arith, length-append a b, h.1),
      get_or-append-add a b h.0 0 ∙ h.2,
      ap (λ x. a ++ x) (h.3 ∙ ap (λ j. set b j d) (sym e)) ∙ sym (set-append_right a b (length a) (length a + h.0) d refl (omega arith)),
    )

module _ (zone : List ℕ) (i d : ℕ) (s : Span) (within : Within (length zone) s) where
  part_hit : In s i → Hit (part zone s) (part (set zone i d) s) (get_or zone i 0) d
  part_hit h =
      let n = s.end - s.start in
      let j = i - s.start in
      let e : s.start + j ≡ i = omega arith in
      let l : length (take n (drop s.start zone)) ≡ n = length-take-le n (drop s.start zone) (omega (arith, length-drop s.start zone)) in
      let st : drop s.start (set zone i d) ≡ set (drop s.start zone) j d = ap (λ k. drop s.start (set zone k d)) (sym e) ∙ drop-set-add s.start zone j d in (
        j,
        omega arith,
        get_or-take n (drop s.start zone) j 0 (omega arith) ∙ get_or-drop s.start zone j 0 ∙ ap (λ k. get_or zone k 0) e,
        ap (take n) st ∙ take-set-lt n (drop s.start zone) j d (omega arith),
      )

  -- a part before or behind the place stays as it was
  pub part_before : i < s.start → part (set zone i d) s ≡ part zone s
  part_before h = ap (take (s.end - s.start)) (drop-set-lt s.start zone i d h)

  pub part_after : s.end ≤ i → part (set zone i d) s ≡ part zone s
  part_after h =
      let n = s.end - s.start in
      let j = i - s.start in
      let e : s.start + j ≡ i = omega arith in
      ap (λ k. take n (drop s.start (set zone k d))) (sym e) ∙ ap (take n) (drop-set-add s.start zone j d) ∙ take-set-le n (drop s.start zone) j d (omega arith)

module _ (p : Places) (law : LawfulPlaces p) (zone : List ℕ) (i d : ℕ) (len : length zone ≡ p.len) where
  within : (s : Span) → Within p.len s → Within (length zone) s
  within s w = (w.0, omega arith)

  -- at a covered place, one covered character is put for another
  cover_hit : Covers p.cover i → Hit (covered zone p.cover) (covered (set zone i d) p.cover) (get_or zone i 0) d
  cover_hit c =
      let s1 = p.cover.first in
      let s2 = p.cover.second in
      let s3 = p.cover.third in
      let w1 = within s1 law.first in
      let w2 = within s2 law.second in
      let w3 = within s3 law.third in
      let r = law.rising in
      let a = part zone s1 in
      let b = part zone s2 in
      let c3 = part zone s3 in
      let o = get_or zone i 0 in
      ⊎_elim
      (λ h. let e2 = part_before zone i d s2 w2 (omega arith) in
      let e3 = part_before zone i d s3 w3 (omega arith) in
      hit_at _ _ _ o d (hit_left _ _ (b ++ c3) o d (part_hit zone i d s1 w1 h)) (cc))
      (⊎_elim
      (λ h. let e1 = part_after zone i d s1 w1 (omega arith) in
      let e3 = part_before zone i d s3 w3 (omega arith) in
      hit_at _ _ _ o d (hit_right a _ _ o d (hit_left _ _ c3 o d (part_hit zone i d s2 w2 h))) (cc))
      (λ h. let e1 = part_after zone i d s1 w1 (omega arith) in
      let e2 = part_after zone i d s2 w2 (omega arith) in
      hit_at _ _ _ o d (hit_right a _ _ o d (hit_right b _ _ o d (part_hit zone i d s3 w3 h))) (cc)))
      c

  -- at the composite's own place, the covered characters stay
  cover_stays : i ≡ p.composite → covered (set zone i d) p.cover ≡ covered zone p.cover
  cover_stays e =
      let r = law.rising in
      let w1 = within p.cover.first law.first in
      let w2 = within p.cover.second law.second in
      let w3 = within p.cover.third law.third in
      let e1 = part_after zone i d p.cover.first w1 (omega arith) in
      let e2 = part_after zone i d p.cover.second w2 (omega arith) in
      let e3 = part_after zone i d p.cover.third w3 (omega arith) in
      cc

  covered_shows : OtherDigit p zone i d → Covers p.cover i → Composite zone p.cover p.composite → Composite (set zone i d) p.cover p.composite → ⊥
  covered_shows o c before after =
      let h = cover_hit c in
      let xs = covered zone p.cover in
      let r = law.rising in
      let w2 = law.second in
      let w3 = law.third in
      let other : p.composite ≡ i → ⊥ = λ e. ⊎_elim (λ k. omega (arith, k.1)) (⊎_elim (λ k. omega (arith, k.1)) (λ k. omega (arith, k.1))) c in
      let same = get_or-set_other zone i p.composite d 0 other in
      let eq : check_digit_of (covered (set zone i d) p.cover) ≡ check_digit_of xs = omega arith in
      changed xs h.0 d h.1 (subst Digit (sym h.2) o.digit) o.new (λ e. o.other (e ∙ h.2)) (ap check_digit_of (sym h.3) ∙ eq)

  composite_shows : OtherDigit p zone i d → i ≡ p.composite → Composite zone p.cover p.composite → Composite (set zone i d) p.cover p.composite → ⊥
  composite_shows o e before after =
      let l : i < length zone = omega (arith, law.composite) in
      let put : get_or (set zone i d) p.composite 0 ≡ d = ap (λ k. get_or (set zone i d) k 0) (sym e) ∙ get_or-set_same zone i d 0 l in
      let old : get_or zone p.composite 0 ≡ get_or zone i 0 = ap (λ k. get_or zone k 0) (sym e) in
      o.other (sym put ∙ after ∙ ap (λ xs. check_digit_of xs + 48) (cover_stays e) ∙ sym before ∙ old)

  -- the composite is not right both before and after
  pub change_shows : OtherDigit p zone i d → Composite zone p.cover p.composite → Composite (set zone i d) p.cover p.composite → ⊥
  change_shows o before after = ⊎_elim (λ c. covered_shows o c before after) (λ e. composite_shows o e before after) o.place

pub shows : (p : Places) (place : ℕ) (t : List ℕ) (lines : ZoneLines) → LawfulPlaces p → AreLayoutLines p place t lines → DigitChangesShow p t lines
shows p place t lines law s e h i d o after = change_shows p law h.zone i d h.long o (composite_of p place t lines s e h) after
