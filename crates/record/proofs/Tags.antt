-- Tags given by their numbers.
use Rattle.std.proofs.Common.{◌≡◌, ℕ, ◌/◌, ◌%◌, Bool, true, cond, not, ◌&&◌, eqb, ltb, inl, inr, ⊎_elim, ltb-true, le-ltb, lt-ltb, eqb-true}
use borrow.Author.Tests.{eqb-false, not-true}
use Rattle.std.proofs.lemmas.Bool.{cases_lt, and_parts}
use Rattle.object.specs.Objects.{LawfulTag}

-- whether a number is a lawful tag; at a numeral this computes
abbrev pub is_lawful : ℕ → Bool
is_lawful tag = cond (ltb tag 256) (ltb 0 tag && not (eqb (tag % 32) 31)) (ltb tag 65536 && (eqb (tag / 256 % 32) 31 && ltb (tag % 256) 0x80))

pub lawful_tag : (tag : ℕ) → is_lawful tag ≡ true → LawfulTag tag
lawful_tag tag e = ⊎_elim
    (λ l. let f : (ltb 0 tag && not (eqb (tag % 32) 31)) ≡ true = rw (lt-ltb tag 256 l) at e in
    let p = and_parts (ltb 0 tag) _ f in
    inl record { positive = ltb-true 0 tag p.0; small = l; low = eqb-false (tag % 32) 31 (not-true _ p.1) })
    (λ g. let f : (ltb tag 65536 && (eqb (tag / 256 % 32) 31 && ltb (tag % 256) 0x80)) ≡ true = rw (le-ltb tag 256 g) at e in
    let p = and_parts (ltb tag 65536) _ f in
    let q = and_parts (eqb (tag / 256 % 32) 31) _ p.1 in
    inr record { small = ltb-true tag 65536 p.0; low = eqb-true (tag / 256 % 32) 31 q.0; second = ltb-true (tag % 256) 0x80 q.1 })
    (cases_lt tag 256)
