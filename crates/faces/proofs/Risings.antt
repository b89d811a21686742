-- Features in rising order, and what stands among them: one object read, and the end.
use Rattle.std.proofs.Common.{◌≡◌, ℕ, ◌<◌, ◌↔◌, IsTrue, Bool, true, false, List, [], ◌∷◌, length, MatchBool, refl, sym, ◌∙◌, subst, inl, inr, zero, suc, arith}
use Rattle.std.specs.List.{AllWithin, HoldsAt}
use Rattle.std.proofs.lemmas.Bool.{false≢true}
use Rattle.object.specs.Objects.{Begins, Unread}
use Rattle.object.proofs.Laws.{same, begins_long}
use Rattle.faces.specs.declared.features.Feature.{Feature}
use Rattle.faces.specs.Rising.{Allows, Listed, RisingFeatures, stop, more, Has, here, later}

-- the first object of rising ones, and the others
pub rising_first : {list : List Feature} {last t : ℕ} {xs v r : List ℕ} → Begins xs t v r → RisingFeatures list last xs → (last < t) × Listed list t (length v) × RisingFeatures list t r
rising_first b stop = absurd (omega (arith, begins_long b))
rising_first {list} {last} {t} {v = v} {r = r} b (more u w s c l a h) =
    let e = same c b in (
      subst (λ n. last < n) e.0 l,
      subst (λ n. Listed list n (length v)) e.0 (subst (λ z. Listed list u (length z)) e.1 a),
      subst (λ n. RisingFeatures list n r) e.0 (subst (λ z. RisingFeatures list u z) e.2 h),
    )

pub rising_on : {list : List Feature} {last t : ℕ} {xs v r : List ℕ} {P : Type 0} → Begins xs t v r → last < t → Listed list t (length v) →
    (RisingFeatures list last xs ↔ P) → (RisingFeatures list t r ↔ P)
rising_on {t = t} {v = v} {r = r} b l a h = (λ k. h.0 (more t v r b l a k), λ p. (rising_first b (h.1 p)).2)

rising_end : {list : List Feature} {last : ℕ} {xs : List ℕ} → Unread xs → 0 < length xs → RisingFeatures list last xs → ⊥
rising_end n l stop = omega arith
rising_end n l (more t v r b m a s) = n t v r b

-- at the end the rest rises exactly if there is none
pub rising_when : {list : List Feature} {last : ℕ} {xs ys : List ℕ} (P : Type 0) (b : Bool) → Unread xs → ys ≡ xs → MatchBool b (ys ≡ []) (0 < length ys) →
    (RisingFeatures list last xs ↔ P) → (IsTrue b ↔ P)
rising_when {list} {last} P true n e d h = (λ _. h.0 (subst (λ z. RisingFeatures list last z) (sym d ∙ e) stop), λ _. refl)
rising_when P false n e d h = (λ w. absurd (false≢true w), λ p. absurd (rising_end n (subst (λ z. 0 < length z) e d) (h.1 p)))

-- where the first object is not the one, the rest has it
past : {tag t : ℕ} {value xs v r : List ℕ} → Begins xs t v r → (t ≡ tag → v ≡ value → ⊥) → Has xs tag value → Has r tag value
past b other (here s c) = let e = same b c in absurd (other e.0 e.1)
past {tag} {value = value} b other (later u w s c h) = subst (λ z. Has z tag value) (same c b).2 h

pub has_on : {tag t : ℕ} {value xs v r : List ℕ} {P : Type 0} → Begins xs t v r → (t ≡ tag → v ≡ value → ⊥) → (Has xs tag value ↔ P) → (Has r tag value ↔ P)
has_on {t = t} {v = v} {r = r} b other h = (λ k. h.0 (later t v r b k), λ p. past b other (h.1 p))

pub has_here : {tag t : ℕ} {value xs v r : List ℕ} → Begins xs t v r → t ≡ tag → v ≡ value → Has xs tag value
has_here {t = t} {value} {xs} {r = r} b e f = here r (subst (λ n. Begins xs n value r) e (subst (λ z. Begins xs t z r) f b))

-- a feature of the list allows it, or none does
found : (list : List Feature) (t n k : ℕ) → k < length list → HoldsAt (λ f. Allows f t n) list k → Listed list t n
found [] t n k l h = absurd (omega arith)
found (f ∷ list) t n zero l h = inl (h f)
found (f ∷ list) t n (suc k) l h = inr (found list t n k (omega arith) h)

none : (list : List Feature) (t n : ℕ) → AllWithin (λ f. Allows f t n → ⊥) list 0 (length list) → Listed list t n → ⊥
none [] t n h a = a
none (f ∷ list) t n h (inl a) = h 0 f (omega arith) (omega arith) a
none (f ∷ list) t n h (inr a) = none list t n (λ k d l m. h (suc k) d (omega arith) (omega arith)) a

pub listed_when : (list : List Feature) (t n : ℕ) (b : Bool) → MatchBool b ((k : ℕ) × (k < length list) × HoldsAt (λ f. Allows f t n) list k) (AllWithin (λ f. Allows f t n → ⊥) list 0 (length list))
    → IsTrue b ↔ Listed list t n
listed_when list t n true h = (λ _. found list t n h.0 h.1 h.2, λ _. refl)
listed_when list t n false h = (λ w. absurd (false≢true w), λ a. absurd (none list t n h a))
