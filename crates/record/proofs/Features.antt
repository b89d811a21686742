-- The features of a header, as an entry has them and as case 23 has them.
use Rattle.std.proofs.Common.{◌≡◌, ℕ, ◌<◌, ◌≤◌, Bool, true, false, cond, not, ◌&&◌, eqb, ltb, ◌⊎◌, List, [], ◌∷◌, ◌++◌, length, Some, None, Option, sym, refl, ap, ◌∙◌, subst, inl, inr, ⊎_elim, arith, ltb-true, eq-eqb, ne_eqb}
use borrow.Author.Tests.{not-true}
use Rattle.std.proofs.lemmas.Bool.{cases_eq, and_parts}
use Rattle.object.specs.Objects.{Begins, LawfulTag, nests}
use Rattle.object.specs.Trees.{Tiled, none}
use Rattle.object.proofs.Laws.{same, begins_long}
use Rattle.object.proofs.Trees.{tiled_plain}
use Rattle.faces.specs.declared.features.Feature.{Feature}
use Rattle.faces.specs.Rising.{feature_list, Listed, RisingFeatures, stop, more, Has, here, later}
use Rattle.record.specs.Faces.{Sized, feature}
use Rattle.record.proofs.Tags.{is_lawful, lawful_tag}
use Rattle.record.proofs.Wholes.{begins_object, begins_is}

-- for each feature of the list its value, if it is there
abbrev pub Values : List Feature → Type 0
Values [] = Unit {0}
Values (f ∷ list) = Option (List ℕ) × Values list

-- each has a length that its feature allows
abbrev pub AllSized : (list : List Feature) → Values list → Type 0
AllSized [] vs = Unit {0}
AllSized (f ∷ list) vs = Sized f.least f.most vs.0 × AllSized list vs.1

-- what they write
abbrev pub written : (list : List Feature) → Values list → List ℕ
written [] vs = []
written (f ∷ list) vs = feature f.tag vs.0 ++ written list vs.1

-- the value of a tag
abbrev pub value_of : (list : List Feature) → Values list → ℕ → Option (List ℕ)
value_of [] vs tag = None
value_of (f ∷ list) vs tag = cond (eqb f.tag tag) vs.0 (value_of list vs.1 tag)

-- what the proofs use of a list: lawful plain tags that rise from `last` on, and values that an object holds
abbrev pub Ascends : ℕ → List Feature → Type 0
Ascends last [] = Unit {0}
Ascends last (f ∷ list) = (last < f.tag) × LawfulTag f.tag × (nests f.tag ≡ false) × (f.most < 65536) × Ascends f.tag list

-- the same as a test, which computes at the list
abbrev is_ascending : ℕ → List Feature → Bool
is_ascending last [] = true
is_ascending last (f ∷ list) =
    ltb last f.tag && (is_lawful f.tag && (not (nests f.tag) && (ltb f.most 65536 && is_ascending f.tag list)))

ascending : (last : ℕ) (list : List Feature) → is_ascending last list ≡ true → Ascends last list
ascending last [] e = tt
ascending last (f ∷ list) e =
    let a = and_parts (ltb last f.tag) _ e in
    let b = and_parts (is_lawful f.tag) _ a.1 in
    let c = and_parts (not (nests f.tag)) _ b.1 in
    let d = and_parts (ltb f.most 65536) _ c.1 in (
      ltb-true last f.tag a.0,
      lawful_tag f.tag b.0,
      not-true (nests f.tag) c.0,
      ltb-true f.most 65536 d.0,
      ascending f.tag list d.1,
    )

pub ascends : Ascends 0 feature_list
unfolding nests
ascends = ascending 0 feature_list refl

-- a listed tag is greater than `last`
above : (list : List Feature) (last tag size : ℕ) → Ascends last list → Listed list tag size → last < tag
above [] last tag size h a = absurd a
above (f ∷ list) last tag size h (inl a) = omega (arith, a.0)
above (f ∷ list) last tag size h (inr a) = omega (arith, above list f.tag tag size h.4 a)

-- past its tag the first feature of the list is not used
narrow : (f : Feature) (list : List Feature) {last : ℕ} {bytes : List ℕ} → RisingFeatures (f ∷ list) last bytes → f.tag ≤ last → RisingFeatures list last bytes
narrow f list stop l = stop
narrow f list (more t v r b m (inl a) s) l = absurd (omega (arith, a.0))
narrow f list (more t v r b m (inr a) s) l = more t v r b m a (narrow f list s (omega arith))

widen : (f : Feature) (list : List Feature) (least : ℕ) {last : ℕ} {bytes : List ℕ} → RisingFeatures list last bytes → least ≤ last → RisingFeatures (f ∷ list) least bytes
widen f list least stop l = stop
widen f list least (more t v r b m a s) l = more t v r b (omega arith) (inr a) (widen f list t s (omega arith))

-- objects in rising order are what some values write
pub rising_values : (list : List Feature) (last : ℕ) {bytes : List ℕ} → Ascends last list → RisingFeatures list last bytes
    → (vs : Values list) × AllSized list vs × (written list vs ≡ bytes)
rising_values [] last h stop = (tt, tt, refl)
rising_values [] last h (more t v r b m a s) = absurd a
rising_values (f ∷ list) last h stop = let w = rising_values list f.tag h.4 stop in ((None, w.0), (tt, w.1), w.2)
rising_values (f ∷ list) last {bytes} h (more t v r b m (inl a) s) =
    let c = subst (λ n. Begins bytes n v r) (sym a.0) b in
    let w = rising_values list f.tag h.4 (subst (λ n. RisingFeatures list n r) (sym a.0) (narrow f list s (omega (arith, a.0)))) in
    ((Some v, w.0), ((a.1, a.2), w.1), ap (λ z. feature f.tag (Some v) ++ z) w.2 ∙ begins_is c)
rising_values (f ∷ list) last h (more t v r b m (inr a) s) =
    let k = above list f.tag t (length v) h.4 a in
    let w = rising_values list f.tag h.4 (more t v r b k a (narrow f list s (omega arith))) in
    ((None, w.0), (tt, w.1), w.2)

-- a value that is there, before the others
first : (f : Feature) (list : List Feature) (last : ℕ) (v : List ℕ) (vs : Values list) → Ascends last (f ∷ list) → AllSized (f ∷ list) (Some v, vs)
    → Begins (written (f ∷ list) (Some v, vs)) f.tag v (written list vs)
first f list last v vs h s = begins_object f.tag v (written list vs) h.1 (omega (arith, h.3, s.0.1))

-- values are written as objects in rising order
pub values_rising : (list : List Feature) (last : ℕ) (vs : Values list) → Ascends last list → AllSized list vs → RisingFeatures list last (written list vs)
values_rising [] last vs h s = stop
values_rising (f ∷ list) last (None, vs) h s = widen f list last (values_rising list f.tag vs h.4 s.1) (omega arith)
values_rising (f ∷ list) last (Some v, vs) h s =
    more f.tag v (written list vs) (first f list last v vs h s) h.0 (inl (refl, s.0.0, s.0.1))
    (widen f list f.tag (values_rising list f.tag vs h.4 s.1) (omega arith))

pub values_tiled : (levels : ℕ) → 0 < levels → (list : List Feature) (last : ℕ) (vs : Values list) → Ascends last list → AllSized list vs
    → Tiled levels (written list vs)
values_tiled levels l [] last vs h s = (none, tt, refl)
values_tiled levels l (f ∷ list) last (None, vs) h s = values_tiled levels l list f.tag vs h.4 s.1
values_tiled levels l (f ∷ list) last (Some v, vs) h s =
    tiled_plain levels (first f list last v vs h s) h.2 l (values_tiled levels l list f.tag vs h.4 s.1)

-- what stands among objects is the first, or among the others
split : {bytes : List ℕ} {t tag : ℕ} {v r value : List ℕ} → Begins bytes t v r → Has bytes tag value → ((t ≡ tag) × (v ≡ value)) ⊎ Has r tag value
split b (here s c) = let e = same b c in inl (e.0, e.1)
split {tag = tag} {value = value} b (later u w s c h) = inr (subst (λ z. Has z tag value) (same c b).2 h)

nothing : {tag : ℕ} {value : List ℕ} → Has [] tag value → ⊥
nothing (here s c) = omega (arith, begins_long c)
nothing (later u w s c h) = omega (arith, begins_long c)

-- an object that stands in what values write is the value of its tag
pub has_value : (list : List Feature) (last : ℕ) (vs : Values list) → Ascends last list → AllSized list vs → {tag : ℕ} {value : List ℕ}
    → Has (written list vs) tag value → (last < tag) × (value_of list vs tag ≡ Some value)
has_value [] last vs h s k = absurd (nothing k)
has_value (f ∷ list) last (None, vs) h s {tag} k =
    let w = has_value list f.tag vs h.4 s.1 k in
    (omega (arith, w.0), rw (ne_eqb f.tag tag (omega (arith, w.0))) w.1)
has_value (f ∷ list) last (Some v, vs) h s {tag} {value} k = ⊎_elim
    (λ e. (omega (arith, e.0), rw (eq-eqb f.tag tag e.0) (ap (λ z. Some z) e.1)))
    (λ j. let w = has_value list f.tag vs h.4 s.1 j in (omega (arith, w.0), rw (ne_eqb f.tag tag (omega (arith, w.0))) w.1))
    (split (first f list last v vs h s) k)

-- and the value of a tag stands there
pub value_has : (list : List Feature) (last : ℕ) (vs : Values list) → Ascends last list → AllSized list vs → {tag : ℕ} {value : List ℕ}
    → value_of list vs tag ≡ Some value → Has (written list vs) tag value
value_has [] last vs h s e = let z : ◌≡◌ {A = ℕ} 0 1 = cc in absurd (omega arith)
value_has (f ∷ list) last (None, vs) h s {tag} {value} e = ⊎_elim
    (λ q. let n : None ≡ Some value = rw (eq-eqb f.tag tag q) at e in let z : ◌≡◌ {A = ℕ} 0 1 = cc in absurd (omega arith))
    (λ q. value_has list f.tag vs h.4 s.1 (rw (ne_eqb f.tag tag q) at e))
    (cases_eq f.tag tag)
value_has (f ∷ list) last (Some v, vs) h s {tag} {value} e =
    let b = first f list last v vs h s in ⊎_elim
    (λ q. let n : Some v ≡ Some value = rw (eq-eqb f.tag tag q) at e in
    let m : v ≡ value = cc in
    here (written list vs) (subst (λ t. Begins (written (f ∷ list) (Some v, vs)) t value (written list vs)) q
    (subst (λ u. Begins (written (f ∷ list) (Some v, vs)) f.tag u (written list vs)) m b)))
    (λ q. later f.tag v (written list vs) b (value_has list f.tag vs h.4 s.1 (rw (ne_eqb f.tag tag q) at e)))
    (cases_eq f.tag tag)

-- two that are some value alike are the same
alike : (a b : Option (List ℕ)) → ((v : List ℕ) → a ≡ Some v → b ≡ Some v) → ((v : List ℕ) → b ≡ Some v → a ≡ Some v) → a ≡ b
alike None None p q = refl
alike None (Some v) p q = q v refl
alike (Some v) b p q = sym (p v refl)

-- values that are written alike are the same at each tag
pub same_value : (list : List Feature) (last : ℕ) (vs us : Values list) → Ascends last list → AllSized list vs → AllSized list us
    → written list vs ≡ written list us → (tag : ℕ) → value_of list vs tag ≡ value_of list us tag
same_value list last vs us h s t e tag = alike (value_of list vs tag) (value_of list us tag)
    (λ v q. (has_value list last us h t (subst (λ z. Has z tag v) e (value_has list last vs h s q))).1)
    (λ v q. (has_value list last vs h s (subst (λ z. Has z tag v) (sym e) (value_has list last us h t q))).1)
