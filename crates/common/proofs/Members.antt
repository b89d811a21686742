-- The list of tags, read byte by byte into a set.
use Rattle.std.proofs.Common.{◌≡◌, ℕ, zero, suc, ◌+◌, ◌<◌, Bool, true, not, ◌&&◌, eqb, List, length, get_or, take, drop, ◌≢◌, Some, None, Option, MatchOption, eq-eqb, ne_eqb, sym, refl, ap, ◌∙◌, subst, inr, ⊎_elim, arith, below_more}
use lib.Bits.{bit_and, bit_or}
use Rattle.std.specs.List.{prefix_len, AllWithin, HoldsAt}
use Rattle.std.proofs.lemmas.List.{get_or-take}
use Rattle.std.proofs.lemmas.Grind.{get_or_after_one}
use Rattle.std.proofs.lemmas.Bool.{cases_lt, cases_eq}
use Rattle.std.proofs.lemmas.Bool.Decides.{Decides-below_and, Decides-eqb}
use Rattle.card.specs.Cards.{template_tags}
use Rattle.card.specs.Sets.{has}
use Rattle.card.specs.Lines.{line_of, Says}
use Rattle.common.specs.Tags.{group_tag, GroupTag, BreaksTags, SoundTags, SetOf, FirstBreak, Names}
use Rattle.common.proofs.Sets.{only, absent, present, stays, added, either, same_members}

-- no two data groups have one tag: the table read backward
back : ℕ → ℕ
back tag = prefix_len (λ t. not (eqb t tag)) template_tags

abbrev all : ℕ → Bool
all zero = true
all (suc n) = eqb (back (group_tag n)) (n + 1) && all n

back_tag : (f : ℕ) → f < 16 → back (group_tag f) ≡ f + 1
unfolding back
back_tag = (Decides-below_and (λ f. eqb (back (group_tag f)) (f + 1)) (λ f. back (group_tag f) ≡ f + 1) all (λ f. Decides-eqb (back (group_tag f)) (f + 1)) refl (λ _. refl) 16).0 refl

pub tag_apart : (f g : ℕ) → f < 16 → g < 16 → group_tag f ≡ group_tag g → f ≡ g
tag_apart f g p q e = omega (arith, back_tag f p, back_tag g q, ap back e)

-- the data groups' tags are those in the table behind the first
abbrev pub groups : List ℕ
groups = take 16 (drop 1 template_tags)

tag_at : (tags : List ℕ) (n i : ℕ) → i < n → get_or (take n (drop 1 tags)) i 0 ≡ get_or tags (i + 1) 0
tag_at tags n i l = grind (arith, get_or-take, get_or_after_one)

pub group_at : (tag : ℕ) (r : Option ℕ) → MatchOption r (AllWithin (λ t. t ≢ tag) groups 0 16) (λ i. (i < 16) × HoldsAt (λ t. t ≡ tag) groups i × AllWithin (λ t. t ≢ tag) groups 0 i)
    → MatchOption r (GroupTag tag → ⊥) (λ group. (group < 16) × (group_tag group ≡ tag))
group_at tag None h = λ w. h w.0 0 (omega arith) w.1 (tag_at template_tags 16 w.0 w.1 ∙ w.2)
group_at tag (Some i) h = (h.0, sym (tag_at template_tags 16 i h.0) ∙ h.1 0)

-- one byte more, which is the tag of a data group
module _ (tags : List ℕ) (i set group : ℕ) (low : group < 16) (here : group_tag group ≡ get_or tags i 0) (known : Names tags i set) where
  pub twice : i < length tags → (bit_and set (only group) ≡ 0 → ⊥) → FirstBreak tags i
  twice l n =
      let w = (known.1 group low).1 (present set group low n) in
      record { within = l; breaks = inr (w.0, w.1, w.2 ∙ here); before = known.0 }

  sound_more : bit_and set (only group) ≡ 0 → SoundTags tags (i + 1)
  sound_more e =
      below_more (λ j. BreaksTags tags j → ⊥) i known.0
      (⊎_elim (λ none. none (group, low, here))
      (λ w. absent set group low e ((known.1 group low).0 (w.0, w.1, w.2 ∙ sym here))))

  set_more : SetOf tags (i + 1) (bit_or set (only group))
  set_more k below = (
    λ w. ⊎_elim
        (λ lt. stays set group low k ((known.1 k below).0 (w.0, lt, w.2)))
        (λ ge. let e : w.0 ≡ i = omega (arith, w.1) in
        let same : group ≡ k = tag_apart group k low below (here ∙ ap (λ m. get_or tags m 0) (sym e) ∙ w.2) in
        subst (λ m. has (bit_or set (only group)) m ≡ true) same (added set group low))
        (cases_lt w.0 i),
    λ h. ⊎_elim
        (λ same. (i, omega arith, sym here ∙ ap group_tag (sym same)))
        (λ was. let w = (known.1 k below).1 was in (w.0, omega (arith, w.1), w.2))
        (either set group low k h),
  )

  pub one_more : bit_and set (only group) ≡ 0 → Names tags (i + 1) (bit_or set (only group))
  one_more e = (sound_more e, set_more)

-- a list names one set
pub one_set : (tags : List ℕ) (n d e : ℕ) → d < 65536 → e < 65536 → SetOf tags n d → SetOf tags n e → d ≡ e
one_set tags n d e a b s t = same_members d e a b (λ f l. (λ h. (t f l).0 ((s f l).1 h), λ h. (s f l).0 ((t f l).1 h)))

-- the line of case 8, where a list names a set
pub tag_lines_when : (tags : List ℕ) (set declared place : ℕ) → Names tags (length tags) set → set < 65536 → declared < 65536
    → SoundTags tags (length tags) × Says (line_of (eqb set declared) place) (SetOf tags (length tags) declared) (λ at. at ≡ place)
tag_lines_when tags set declared place n l m = ⊎_elim
    (λ e. rw (eq-eqb set declared e) (n.0, subst (SetOf tags (length tags)) e n.1))
    (λ d. rw (ne_eqb set declared d) (n.0, (λ s. d (one_set tags (length tags) set declared l m n.1 s), refl)))
    (cases_eq set declared)
