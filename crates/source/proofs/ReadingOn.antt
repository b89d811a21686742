-- Reading a file on, one read after another: what was received so far, and what one more read adds to it.
use Rattle.std.proofs.Common.{◌≡◌, ℕ, ◌+◌, ◌-◌, ◌<◌, ◌≤◌, min, Bool, true, false, List, [], ◌++◌, length, take, drop, Some, None, Ok, Option, sym, refl, ap, ◌∙◌, subst, append_assoc, append-nil, arith, length-drop, length-take, drop-drop, take-add}
use borrow.Rule.Slice.PartMut.{put_mid}
use Rattle.std.proofs.lemmas.List.{take_at, drop_at, drop_all, take_rest}
use Rattle.card.specs.Cards.{content}
use Rattle.source.specs.Reads.{Request, request, Answer, Reads, ChosenLoss}
use Rattle.source.specs.Outcomes.{next_read}

-- so many bytes of the file stand at the buffer's start, which is otherwise as it was
pub record SoFar (f : Option (List ℕ)) (lost₀ lost : Bool) (have : ℕ) (before after : List ℕ) : Type 0 where
  pub few : have ≤ 32767
  pub within : have ≤ length (content f)
  pub lasts : lost₀ ≡ true → lost ≡ true
  pub bytes : after ≡ take have (content f) ++ drop have before
  pub some : 0 < have → (lost₀ ≡ false) × (f ≡ Some (content f))

-- the read that was made is the one that comes next, and this is what it answered
pub tells : {S : Type 0} (outcomes : S → Request → Answer → S → Type 0) {s t : S} {file have wanted : ℕ} {given answer : Answer}
    → wanted ≡ min (32767 - have) 255 → outcomes s (request file have wanted) given t → given ≡ answer → outcomes s (next_read file have) answer t
tells outcomes {s = s} {t = t} {file = file} {have = have} {given = given} e h d =
    subst (λ r. outcomes s (next_read file have) r t) d (subst (λ w. outcomes s (request file have w) given t) e h)

-- the part of a buffer from a place on, and the buffer with another in its stead
abbrev pub part : List ℕ → ℕ → List ℕ
part xs a = take (length xs - a) (drop a xs)

abbrev pub put : List ℕ → ℕ → List ℕ → List ℕ
put xs a ys = put_mid a (length xs - a) xs ys

-- n bytes more after the first a
grown : (a n : ℕ) (bs xs ys before : List ℕ) → a ≤ length bs → a ≤ length before → xs ≡ take a bs ++ drop a before
    → ys ≡ take n (drop a bs) ++ drop n (part xs a) → put xs a ys ≡ take (a + n) bs ++ drop (a + n) before
grown a n bs xs ys before within room is e =
    let l : length (take a bs) ≡ a = simp length-take (omega arith) in
    let front : take a xs ≡ take a bs = rw is (take_at (take a bs) (drop a before) a l) in
    let back : drop a xs ≡ drop a before = rw is (drop_at (take a bs) (drop a before) a l) in
    let none : drop (length xs - a) (drop a xs) ≡ [] = drop_all (length xs - a) (drop a xs) (simp length-drop (omega arith)) in
    let new : ys ≡ take n (drop a bs) ++ drop (a + n) before = e ∙ ap (λ z. take n (drop a bs) ++ drop n z) (take_rest xs a ∙ back) ∙ ap (λ z. take n (drop a bs) ++ z) (drop-drop n a before) in
    ap (λ z. take a xs ++ (ys ++ z)) none ∙ ap (λ z. take a xs ++ z) (append-nil ys) ∙ ap (λ z. z ++ ys) front ∙ ap (λ z. take a bs ++ z) new
    ∙ sym (append_assoc (take a bs) (take n (drop a bs)) (drop (a + n) before)) ∙ ap (λ z. z ++ drop (a + n) before) (sym (take-add a n bs))

not_lost : (lost₀ lost : Bool) → (lost₀ ≡ true → lost ≡ true) → lost ≡ false → lost₀ ≡ false
not_lost true lost h e = sym (h refl) ∙ e
not_lost false lost h e = refl

-- one more read, over what was received before it
module _ {lost₀ lost lost' : Bool} {have from : ℕ} {before xs : List ℕ} (file wanted n : ℕ) (ys : List ℕ) where
  pub more : {f f₁ : Option (List ℕ)} → f₁ ≡ f → SoFar f lost₀ lost have before xs → have ≤ length before → from ≡ have → (lost ≡ true → lost' ≡ true) → wanted ≤ 32767 - have
      → Reads f₁ (request file have wanted) (Ok (Some n)) (part xs from) ys → ChosenLoss lost lost' (Ok (Some n)) → SoFar f lost₀ lost' (have + n) before (put xs from ys)
  more {f = f} {f₁ = None} same so_far room at lasts most r unlost = absurd r.1
  more {f = f} {f₁ = Some bs} same so_far room at lasts most r unlost =
      let few = so_far.few in
      let chosen = r.1.0 in
      let is : content f ≡ bs = ap content (sym same) in
      let within : have ≤ length bs = subst (λ z. have ≤ length z) is so_far.within in
      record {
        few = omega arith;
        within = omega (arith, ap length is);
        lasts = λ h. lasts (so_far.lasts h);
        bytes = rw (at, is) (grown have n bs xs ys before within room (rw is at so_far.bytes) (rw at at r.1.1));
        some = λ _. (not_lost lost₀ lost so_far.lasts unlost, sym same ∙ ap Some (sym is));
      }
