-- The optional field's own digit, and the field that is all fillers.
use Rattle.std.proofs.Common.{◌≡◌, ℕ, zero, suc, ◌+◌, ◌-◌, ◌*◌, ◌%◌, ◌≤◌, ◌⊎◌, List, [], ◌∷◌, length, get_or, take, drop, IfSome, Some, None, Option, sym, refl, ap, ◌∙◌, subst, inl, inr, ⊎_elim, arith}
use Rattle.std.proofs.lemmas.Bool.{cases_eq}
use Rattle.text.specs.Characters.{filler, Digit}
use Rattle.text.specs.Digits.{value_of, weight_at, weighted, check_digit_of}
use Rattle.text.specs.Names.{AllFillers}
use Rattle.zone.specs.Fields.{ZoneCharacters, Optional}
use Rattle.zone.specs.Layouts.{span, part}
use Rattle.zone.specs.declared.layout.Span.{Span}
use Rattle.record.specs.Zones.{UnusedDigit, untold, a_filler, a_zero, RightlyTold}
use Rattle.record.specs.ZoneWriting.{check_character, write_optional_digit}
use Rattle.record.proofs.Slots.{one, one_is}

-- how many digits of its own the optional field has, and where so many digits of a field stand
abbrev pub digits : Option Span → ℕ
digits None = 0
digits (Some s) = 1

abbrev pub behind : Span → ℕ → Span
behind s n = span s.end (s.end + n)

-- fillers have the check digit 0
fillers_weigh : (xs : List ℕ) (k : ℕ) → AllFillers xs → weighted k xs ≡ 0
fillers_weigh [] k h = refl
fillers_weigh (x ∷ xs) k h =
    let v : value_of x ≡ 0 = ap value_of (h 0 (omega arith)) in
    let ih = fillers_weigh xs (suc k) (λ j l. h (suc j) (omega arith)) in
    let m : weight_at k * value_of x ≡ weight_at k * 0 = ap (λ n. weight_at k * n) v in
    omega arith

fillers_digit : (xs : List ℕ) → AllFillers xs → check_digit_of xs ≡ 0
fillers_digit xs h = ap (λ n. n % 10) (fillers_weigh xs 0 h)

fillers_or_not : (xs : List ℕ) → AllFillers xs ⊎ (AllFillers xs → ⊥)
fillers_or_not [] = inl (λ k h. absurd (omega arith))
fillers_or_not (x ∷ xs) =
    ⊎_elim
    (λ e. ⊎_elim (λ f. inl (fillers_more e f)) (λ n. inr (λ f. n (λ j l. f (suc j) (omega arith)))) (fillers_or_not xs))
    (λ n. inr (λ f. n (f 0 (omega arith))))
    (cases_eq x filler)
  where
    fillers_more : x ≡ filler → AllFillers xs → AllFillers (x ∷ xs)
    fillers_more e f zero h = e
    fillers_more e f (suc k) h = f k (omega arith)

-- `s` is the optional field, where it has a digit of its own
abbrev pub IsOptional : Option Span → Span → Type 0
IsOptional optional s = IfSome optional (λ t. t ≡ s)

-- a zone that meets the rule of case 19 shows what a record says of the digit
pub told : (optional : Option Span) (zone : List ℕ) (s : Span) → IsOptional optional s → IfSome optional (Optional zone)
    → s.end + digits optional ≤ length zone
    → (said : UnusedDigit) × RightlyTold optional said (part zone s)
    × (part zone (behind s (digits optional)) ≡ write_optional_digit optional said (part zone s))
told None zone s e rule w = (untold, refl, let z : s.end + 0 - s.end ≡ 0 = omega arith in ap (λ n. take n (drop s.end zone)) z)
told (Some t) zone s e rule w =
    let d = one zone s.end (omega arith) in
    let xs = part zone s in
    ⊎_elim
    (λ f. ⊎_elim
    (λ right. let z = fillers_digit xs f in let k : get_or zone s.end 0 ≡ 48 = omega arith in (a_zero, f, d ∙ ap (λ x. x ∷ []) k))
    (λ p. (a_filler, f, d ∙ ap (λ x. x ∷ []) p.0))
    (subst (Optional zone) e rule))
    (λ n. ⊎_elim (λ right. (untold, n, d ∙ ap (λ x. x ∷ []) right)) (λ p. absurd (n p.1)) (subst (Optional zone) e rule))
    (fillers_or_not xs)

-- and what is said of it meets the rule
pub meets : (optional : Option Span) (said : UnusedDigit) (zone xs : List ℕ) (s : Span) → IsOptional optional s → part zone s ≡ xs
    → part zone (behind s (digits optional)) ≡ write_optional_digit optional said xs → RightlyTold optional said xs
    → IfSome optional (Optional zone)
meets None said zone xs s e p q h = tt
meets (Some t) untold zone xs s e p q h =
    subst (Optional zone) (sym e) (inl (one_is zone s.end (check_character xs) q ∙ ap check_character (sym p)))
meets (Some t) a_filler zone xs s e p q h = subst (Optional zone) (sym e) (inr (one_is zone s.end filler q, subst AllFillers (sym p) h))
meets (Some t) a_zero zone xs s e p q h =
    let k = one_is zone s.end 48 q in
    let z = fillers_digit xs h in
    let m : get_or zone s.end 0 ≡ check_character xs = omega arith in
    subst (Optional zone) (sym e) (inl (m ∙ ap check_character (sym p)))

-- one thing only can be said of a digit that is written
pub told_once : (optional : Option Span) (said other : UnusedDigit) (xs : List ℕ) → RightlyTold optional said xs → RightlyTold optional other xs
    → write_optional_digit optional said xs ≡ write_optional_digit optional other xs → said ≡ other
told_once None said other xs p q e = p ∙ sym q
told_once (Some s) untold untold xs p q e = refl
told_once (Some s) untold a_filler xs p q e = absurd (p q)
told_once (Some s) untold a_zero xs p q e = absurd (p q)
told_once (Some s) a_filler untold xs p q e = absurd (q p)
told_once (Some s) a_filler a_filler xs p q e = refl
told_once (Some s) a_filler a_zero xs p q e = let z : ◌≡◌ {A = ℕ} 60 48 = cc in absurd (omega arith)
told_once (Some s) a_zero untold xs p q e = absurd (q p)
told_once (Some s) a_zero a_filler xs p q e = let z : ◌≡◌ {A = ℕ} 48 60 = cc in absurd (omega arith)
told_once (Some s) a_zero a_zero xs p q e = refl

pub told_length : (optional : Option Span) (said : UnusedDigit) (xs : List ℕ) → length (write_optional_digit optional said xs) ≡ digits optional
told_length None said xs = refl
told_length (Some s) untold xs = refl
told_length (Some s) a_filler xs = refl
told_length (Some s) a_zero xs = refl

-- digits and fillers are characters of a zone
digit_is_character : (c : ℕ) → Digit c → ZoneCharacters (c ∷ [])
digit_is_character c h zero l = inr h
digit_is_character c h (suc k) l = absurd (omega arith)

pub check_is_character : (xs : List ℕ) → ZoneCharacters (check_character xs ∷ [])
check_is_character xs = digit_is_character (check_character xs) (omega arith, omega arith)

filler_is_character : ZoneCharacters (filler ∷ [])
filler_is_character zero l = inl (inr refl)
filler_is_character (suc k) l = absurd (omega arith)

pub told_characters : (optional : Option Span) (said : UnusedDigit) (xs : List ℕ) → ZoneCharacters (write_optional_digit optional said xs)
told_characters None said xs = λ k l. absurd (omega arith)
told_characters (Some s) untold xs = check_is_character xs
told_characters (Some s) a_filler xs = filler_is_character
told_characters (Some s) a_zero xs = digit_is_character 48 (omega arith, omega arith)
