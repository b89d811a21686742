-- A case fails at one place only: each relation that says where holds of one number.
use Rattle.std.proofs.Common.{◌≡◌, ℕ, ◌+◌, ◌<◌, ◌≤◌, min, ◌⊎◌, List, ◌++◌, length, get_or, sym, ap, ◌∙◌, subst, inl, inr, arith}
use Rattle.std.proofs.lemmas.Bool.{cases_lt}
use Rattle.object.specs.Objects.{length_bytes, header_size}
use Rattle.object.specs.Reading.{length_of}
use Rattle.object.specs.Trees.{First}
use Rattle.object.proofs.Laws.{len_law, same}
use Rattle.common.specs.Tags.{BreaksTags, FirstBreakAt}
use Rattle.faces.specs.Rows.{IsAnswer, FirstFailing, failed, passed}
use Rattle.faces.specs.declared.entries.FailingEntry.{FailingEntry}
use Rattle.text.specs.Characters.{ZoneCharacter}
use Rattle.zone.specs.Fields.{FirstOther}
use Rattle.cases.specs.Templates.{Off, other_tag, no_length, other_end}
use Rattle.cases.proofs.Gates.{OnePlace}

-- a length is read from its bytes in one way
length_once : (n m : ℕ) (rest more : List ℕ) → n < 65536 → m < 65536 → length_bytes n ++ rest ≡ length_bytes m ++ more → n ≡ m
length_once n m rest more l k e =
    let a = len_law n l rest in
    let b = len_law m k more in
    let c = ap length_of e in
    let d : (n, length (length_bytes n)) ≡ (m, length (length_bytes m)) = cc in
    ap (λ (read : ℕ × ℕ). read.0) d

-- case 2
pub off_once : (tag : ℕ) (bytes : List ℕ) → OnePlace (Off tag bytes)
off_once tag bytes place other a b = go a b
  where
    go : {p q : ℕ} → Off tag bytes p → Off tag bytes q → p ≡ q
    go (other_tag n) (other_tag m) = cc
    go (other_tag n) (no_length rest e m) = absurd (n rest e)
    go (other_tag n) (other_end k rest l e d) = absurd (n _ e)
    go (no_length rest e n) (other_tag m) = absurd (m rest e)
    go (no_length rest e n) (no_length more f m) = cc
    go (no_length rest e n) (other_end k more l f d) = absurd (n k more l (cc))
    go (other_end k rest l e d) (other_tag n) = absurd (n _ e)
    go (other_end k more l f d) (no_length rest e n) = absurd (n k more l (cc))
    go (other_end n rest l e c) (other_end m more k f d) =
        let i : n ≡ m = length_once n m rest more l k (cc) in
        ap (λ k. min (1 + length (length_bytes k) + k) (length bytes)) i

-- case 3
pub first_once : (levels place : ℕ) (bytes : List ℕ) → OnePlace (First levels place bytes)
first_once levels place bytes p q a b = omega (arith, a.least q b.is_broken, b.least p a.is_broken)

-- the first place at which something holds
least_once : (P : ℕ → Type 0) (i j : ℕ) → P i → P j → ((k : ℕ) → k < i → P k → ⊥) → ((k : ℕ) → k < j → P k → ⊥) → i ≡ j
least_once P i j a b before until = go (cases_lt i j) (cases_lt j i)
  where
    go : (i < j) ⊎ (j ≤ i) → (j < i) ⊎ (i ≤ j) → i ≡ j
    go (inl l) k = absurd (until i l a)
    go (inr l) (inl k) = absurd (before j k b)
    go (inr l) (inr k) = omega arith

-- case 7
pub first_break_once : (place : ℕ) (tags : List ℕ) → OnePlace (FirstBreakAt place tags)
first_break_once place tags p q a b =
    let e = least_once (BreaksTags tags) a.0 b.0 a.1.breaks b.1.breaks a.1.before b.1.before in
    a.2 ∙ ap (λ i. place + i) e ∙ sym b.2

-- case 10
pub first_other_once : (zone : List ℕ) (place : ℕ) → OnePlace (λ at. (k : ℕ) × FirstOther zone k × (at ≡ place + k))
first_other_once zone place p q a b =
    let e = least_once (λ k. ZoneCharacter (get_or zone k 0) → ⊥) a.0 b.0 a.1.other b.1.other
    (λ k l n. n (a.1.before k l)) (λ k l n. n (b.1.before k l)) in
    a.2 ∙ ap (λ k. place + k) e ∙ sym b.2

-- cases 22 and 23: one entry is the first of whose value P does not hold
failing_once : (tag : ℕ) (P : List ℕ → Type 0) {at : ℕ} {bytes : List ℕ} {entry other : FailingEntry} → FirstFailing tag (IsAnswer P) at bytes entry → FirstFailing tag (IsAnswer P) at bytes other
    → entry ≡ other
failing_once tag P {at} (failed v r b n) (failed w s c m) = ap (λ (z : List ℕ). record { start = at; value = at + header_size tag z }) (same b c).1
failing_once tag P (failed v r b n) (passed w s c h k) = absurd (n (subst P (same c b).1 h))
failing_once tag P (passed v r b h k) (failed w s c n) = absurd (n (subst P (same b c).1 h))
failing_once tag P {at} {other = other} (passed v r b h k) (passed w s c i l) =
    let e = same c b in
    let m = subst (λ z. FirstFailing tag (IsAnswer P) (at + header_size tag z + length z) s other) e.1 l in
    failing_once tag P k (subst (λ z. FirstFailing tag (IsAnswer P) (at + header_size tag v + length v) z other) e.2 m)

pub entry_once : (tag : ℕ) (P : List ℕ → Type 0) (place : FailingEntry → ℕ) (at : ℕ) (bytes : List ℕ)
    → OnePlace (λ p. (entry : FailingEntry) × FirstFailing tag (IsAnswer P) at bytes entry × (p ≡ place entry))
entry_once tag P place at bytes p q a b = a.2 ∙ ap place (failing_once tag P a.1 b.1) ∙ sym b.2
