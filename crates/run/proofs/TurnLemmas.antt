-- One more call at the end of a history.
use Rattle.std.proofs.Common.{◌≡◌, ℕ, ◌+◌, ◌<◌, List, [], ◌∷◌, ◌++◌, length, get_or, take, drop, set, sym, refl, ap, ◌∙◌, subst, arith, length-take, get_or-drop, drop-drop, drop-set-lt}
use Rattle.std.proofs.lemmas.List.{take_more, take_more_set}
use Rattle.run.specs.Histories.{Event, Leads, Basis, Scene, Turns, Runs}
use Rattle.run.specs.Steps.{event, history, SameCall, SameCalls}
use Rattle.run.specs.declared.promise.Step.{Step}

module _ {S : Type 0} (b : Basis S) where
  runs_more : (from through to : Scene S) (events : List Event) (e : Event) → Runs b from events through → Turns b through e to → Runs b from (events ++ e ∷ []) to
  runs_more from through to [] e r t = (to, (subst (λ z. Turns b z e to) r t, refl))
  runs_more from through to (x ∷ events) e r t = (r.0, (r.1.0, runs_more r.0 through to events e r.1.1 t))

  -- what is told of the link alone
  pub runs_lead : (from to : Scene S) (events : List Event) → Runs b from events to → Leads b.files b.profile from.moment events to.moment
  runs_lead from to [] r = ap (λ z. z.moment) r
  runs_lead from to (x ∷ events) r = (r.0.moment, (r.1.0.moves, runs_lead r.0 to events r.1.1))

history_more : (xs ys : List Step) (a b : Step) → length xs ≡ length ys → history (xs ++ a ∷ []) (ys ++ b ∷ []) ≡ history xs ys ++ event a b ∷ []
history_more [] [] a b e = refl
history_more [] (y ∷ ys) a b e = absurd (omega arith)
history_more (x ∷ xs) [] a b e = absurd (omega arith)
history_more (x ∷ xs) (y ∷ ys) a b e = ap (λ h. event x y ∷ h) (history_more xs ys a b (omega arith))

same_more : (xs ys : List Step) (a b : Step) → SameCalls xs ys → SameCall a b → SameCalls (xs ++ a ∷ []) (ys ++ b ∷ [])
same_more [] [] a b s t = (t, tt)
same_more [] (y ∷ ys) a b s t = absurd s
same_more (x ∷ xs) [] a b s t = absurd s
same_more (x ∷ xs) (y ∷ ys) a b s t = (s.0, same_more xs ys a b s.1 t)

-- a turn of the loop: of the steps xs those below i have become ys, and x, at i, becomes y
module _ (xs ys : List Step) (i : ℕ) (x y : Step) (h : i < length xs) (len : length ys ≡ length xs) (rest : drop i ys ≡ drop i xs) (read : x ≡ get_or ys i x) where
  pub rest_more : drop (i + 1) (set ys i y) ≡ drop (i + 1) xs
  rest_more = drop-set-lt (i + 1) ys i y (omega arith) ∙ sym (drop-drop 1 i ys) ∙ ap (drop 1) rest ∙ drop-drop 1 i xs

  here : x ≡ get_or xs i x
  here =
      let p : get_or (drop i ys) 0 x ≡ get_or ys i x = get_or-drop i ys 0 x ∙ ap (λ k. get_or ys k x) (omega arith) in
      let q : get_or (drop i xs) 0 x ≡ get_or xs i x = get_or-drop i xs 0 x ∙ ap (λ k. get_or xs k x) (omega arith) in
      read ∙ sym p ∙ ap (λ l. get_or l 0 x) rest ∙ q

  before : take (i + 1) xs ≡ take i xs ++ x ∷ []
  before = take_more xs i x h ∙ ap (λ z. take i xs ++ z ∷ []) (sym here)

  after : take (i + 1) (set ys i y) ≡ take i ys ++ y ∷ []
  after = take_more_set ys i y (omega arith)

  level : length (take i xs) ≡ length (take i ys)
  level = simp length-take (omega arith)

  pub same_turn : SameCalls (take i xs) (take i ys) → SameCall x y → SameCalls (take (i + 1) xs) (take (i + 1) (set ys i y))
  same_turn s t = subst (λ z. SameCalls z (take (i + 1) (set ys i y))) (sym before) (subst (λ z. SameCalls (take i xs ++ x ∷ []) z) (sym after) (same_more (take i xs) (take i ys) x y s t))

  history_turn : history (take (i + 1) xs) (take (i + 1) (set ys i y)) ≡ history (take i xs) (take i ys) ++ event x y ∷ []
  history_turn = ap (λ z. history z (take (i + 1) (set ys i y))) before ∙ ap (λ z. history (take i xs ++ x ∷ []) z) after ∙ history_more (take i xs) (take i ys) x y level

  pub runs_turn : {S : Type 0} (b : Basis S) (from through to : Scene S) → Runs b from (history (take i xs) (take i ys)) through → Turns b through (event x y) to
      → Runs b from (history (take (i + 1) xs) (take (i + 1) (set ys i y))) to
  runs_turn b from through to r t = subst (λ z. Runs b from z to) (sym history_turn) (runs_more b from through to (history (take i xs) (take i ys)) (event x y) r t)
