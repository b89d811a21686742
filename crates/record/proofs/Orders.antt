-- An order of the declared tags, as a record has it and as the cases have it.
use Rattle.std.proofs.Common.{◌≡◌, ℕ, zero, suc, ◌<◌, true, ◌⊎◌, List, length, get_or, sym, ap, ◌∙◌, subst, inl, inr, ⊎_elim, arith}
use Rattle.std.proofs.lemmas.Bool.{cases_lt, cases_eq}
use Rattle.card.specs.Sets.{has}
use Rattle.common.specs.Tags.{group_tag, SoundTags, SetOf}
use Rattle.common.proofs.Members.{tag_apart, one_set}
use Rattle.record.specs.Parts.{Order}

-- which of the first k groups has this tag, if one has
find : (k byte : ℕ) → ((group : ℕ) × (group < k) × (group_tag group ≡ byte)) ⊎ ((group : ℕ) → group < k → group_tag group ≡ byte → ⊥)
find zero byte = inr (λ f l e. omega arith)
find (suc k) byte = ⊎_elim
    (λ w. inl (w.0, omega (arith, w.1), w.2))
    (λ none. ⊎_elim
    (λ e. inl (k, omega arith, e))
    (λ n. inr (λ f l e. ⊎_elim (λ lt. none f lt e) (λ ge. let s : f ≡ k = omega arith in n (ap group_tag (sym s) ∙ e)) (cases_lt f k)))
    (cases_eq (group_tag k) byte))
    (find k byte)

pub order_from : (declared : ℕ) (tags : List ℕ) → SoundTags tags (length tags) → SetOf tags (length tags) declared → Order declared tags
order_from declared tags k s = record {
  only = λ i l. ⊎_elim
      (λ w. (w.0, w.1, (s w.0 w.1).0 (i, l, sym w.2), w.2))
      (λ none. absurd (k i l (inl (λ g. none g.0 g.1 g.2))))
      (find 16 (get_or tags i 0));
  every = λ f l e. (s f l).1 e;
  once = λ i j l m e. k j m (inr (i, l, e));
}

module _ (declared : ℕ) (tags : List ℕ) (o : Order declared tags) where
  pub order_sound : SoundTags tags (length tags)
  order_sound i l b = ⊎_elim
      (λ none. let w = o.only i l in none (w.0, w.1, w.3))
      (λ q. o.once q.0 i q.1 l q.2) b

  pub order_set : SetOf tags (length tags) declared
  order_set f l = (
    λ a. let w = o.only a.0 a.1 in
        let s : w.0 ≡ f = tag_apart w.0 f w.1 l (w.3 ∙ a.2) in
        subst (λ g. has declared g ≡ true) s w.2,
    λ e. o.every f l e,
  )

pub one_declared : (declared other : ℕ) (tags : List ℕ) → declared < 65536 → other < 65536 → Order declared tags → Order other tags → declared ≡ other
one_declared declared other tags a b o u = one_set tags (length tags) declared other a b (order_set declared tags o) (order_set other tags u)
