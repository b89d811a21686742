-- Pairs of fillers: those before a letter, where the first of all stands at p, and the next one behind it.
use Rattle.std.proofs.Common.{◌≡◌, ℕ, ◌+◌, ◌-◌, ◌<◌, ◌≤◌, Bool, List, length, Decides, get_or, take, drop, sym, ap, ◌∙◌, ⊎_elim, arith, length-drop}
use Rattle.std.proofs.lemmas.List.{get_or-drop, take_all}
use Rattle.std.proofs.lemmas.Bool.{cases_eq}
use Rattle.std.proofs.lemmas.Bool.Decides.{Decides-like}
use Rattle.text.specs.Characters.{PlainCharacter}
use Rattle.text.specs.Names.{Pair, FirstPair, LetterAt, Alone, AllFillers}

-- what is left of a text after n characters, as a slice is cut
abbrev pub after : ℕ → List ℕ → List ℕ
after n xs = take (length xs - n) (drop n xs)

after_is : (n : ℕ) (xs : List ℕ) → after n xs ≡ drop n xs
after_is n xs = grind (arith, take_all, length-drop)

-- a pair from the n-th character on is one of what is left there
left : (xs : List ℕ) (n k : ℕ) → n ≤ k → Pair xs (length xs) k → Pair (drop n xs) (length (drop n xs)) (k - n)
left xs n k h t =
    let e : n + (k - n) ≡ k = omega arith in
    let f : n + (k - n + 1) ≡ k + 1 = omega arith in (
      omega (arith, length-drop n xs),
      get_or-drop n xs (k - n) 0 ∙ ap (λ m. get_or xs m 0) e ∙ t.1,
      get_or-drop n xs (k - n + 1) 0 ∙ ap (λ m. get_or xs m 0) f ∙ t.2,
    )

module _ (xs : List ℕ) (p : ℕ) (first : FirstPair xs p) where
  -- a pair before a letter is the first one, or is in what is left behind its first filler
  where_pair : (j l : ℕ) → Pair xs l j → LetterAt xs l → (p < j → Pair (drop (p + 1) xs) (length (drop (p + 1) xs)) (j - (p + 1)) → j ≡ p) → j ≡ p
  where_pair j l t h second =
      let long : Pair xs (length xs) j = (omega (arith, t.0, h.0), t.1, t.2) in
      let after = first.1 j long in
      ⊎_elim (λ e. e) (λ n. second (omega arith) (left xs (p + 1) j (omega arith) long)) (cases_eq j p)

  all_first : ((j l : ℕ) → Pair xs l j → LetterAt xs l → j ≡ p) → Alone xs
  all_first is j k l m t h u g = is j l t h ∙ sym (is k m u g)

  -- with no second pair, the first is alone
  pub none : ((k : ℕ) → Pair (after (p + 1) xs) (length (after (p + 1) xs)) k → ⊥) → Alone xs
  none n =
      let m = rw (after_is (p + 1) xs) at n in
      all_first (λ j l t h. where_pair j l t h (λ _ s. absurd (m (j - (p + 1)) s)))

  module _ (q : ℕ) (second : FirstPair (drop (p + 1) xs) q) where
    behind : (k : ℕ) → get_or (drop q (drop (p + 1) xs)) k 0 ≡ get_or xs (p + 1 + (q + k)) 0
    behind k = get_or-drop q (drop (p + 1) xs) k 0 ∙ get_or-drop (p + 1) xs (q + k) 0

    if_filled : AllFillers (drop q (drop (p + 1) xs)) → Alone xs
    if_filled filled = all_first (λ j l t h. where_pair j l t h (λ b s.
        let far = second.1 (j - (p + 1)) s in
        let k = l - (p + 1 + q) in
        let e : p + 1 + (q + k) ≡ l = omega (arith, t.0) in
        let in_rest : k < length (drop q (drop (p + 1) xs)) = omega (arith, length-drop q (drop (p + 1) xs), length-drop (p + 1) xs, t.0, h.0) in
        let f : get_or xs l 0 ≡ 60 = ap (λ m. get_or xs m 0) (sym e) ∙ sym (behind k) ∙ filled k in_rest in
        absurd (omega (arith, h.1))))

    module _ (plain : (k : ℕ) → k < length xs → PlainCharacter (get_or xs k 0)) where
      letter_behind : (k : ℕ) → LetterAt xs (p + 1 + (q + k)) → Alone xs → ⊥
      letter_behind k h one =
          let s0 : get_or xs (p + 1 + q) 0 ≡ 60 = sym (get_or-drop (p + 1) xs q 0) ∙ second.0.1 in
          let s1 : get_or xs (p + 1 + (q + 1)) 0 ≡ 60 = sym (get_or-drop (p + 1) xs (q + 1) 0) ∙ second.0.2 in
          let s2 : get_or xs (p + 1 + q + 1) 0 ≡ 60 = ap (λ m. get_or xs m 0) (omega arith) ∙ s1 in
          let not_at : (m : ℕ) → get_or xs m 0 ≡ 60 → m ≡ p + 1 + (q + k) → ⊥ = λ m f e. let g : get_or xs m 0 ≡ get_or xs (p + 1 + (q + k)) 0 = ap (λ n. get_or xs n 0) e in omega (arith, h.1) in
          let n0 : k ≡ 0 → ⊥ = λ z. not_at (p + 1 + q) s0 (omega arith) in
          let n1 : k ≡ 1 → ⊥ = λ z. not_at (p + 1 + q + 1) s2 (omega arith) in
          let far : 1 < k = omega arith in
          let same = one p (p + 1 + q) _ _ (omega arith, first.0.1, first.0.2) h (omega arith, s0, s2) h in
          omega arith

      if_alone : Alone xs → AllFillers (drop q (drop (p + 1) xs))
      if_alone one k h =
          let in_xs : p + 1 + (q + k) < length xs = omega (arith, length-drop q (drop (p + 1) xs), length-drop (p + 1) xs) in
          behind k ∙ ⊎_elim (λ l. absurd (letter_behind k (in_xs, l) one)) (λ f. f) (plain (p + 1 + (q + k)) in_xs)

      decided : (r : Bool) → Decides r (AllFillers (drop q (drop (p + 1) xs))) → Decides r (Alone xs)
      decided r d = Decides-like r if_filled if_alone d

  -- and behind a second pair there is to be nothing but fillers
  pub some : (q : ℕ) (r : Bool) → FirstPair (after (p + 1) xs) q → Decides r (AllFillers (after q (after (p + 1) xs)))
      → ((k : ℕ) → k < length xs → PlainCharacter (get_or xs k 0)) → Decides r (Alone xs)
  some q r second d plain =
      let e = after_is (p + 1) xs in
      decided q (rw e at second) plain r (rw (after_is q (after (p + 1) xs) ∙ ap (drop q) e) at d)
