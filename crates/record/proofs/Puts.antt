-- A byte of an object's value put for another: the object stays one of the same tag.
use Rattle.std.proofs.Common.{◌≡◌, ℕ, ◌+◌, ◌-◌, ◌<◌, List, [], ◌++◌, length, set, sym, refl, ap, ◌∙◌, arith, length-set}
use Rattle.std.proofs.lemmas.List.{set-append_left, set-append_right}
use Rattle.object.specs.Objects.{Begins, header_size, tag_bytes, length_bytes}

set_past : (front rest : List ℕ) (i c : ℕ) → set (front ++ rest) (length front + i) c ≡ front ++ set rest i c
set_past front rest i c =
    let e : length front + i - length front ≡ i = omega arith in
    set-append_right front rest (length front) (length front + i) c refl (omega arith) ∙ ap (λ j. front ++ set rest j c) e

pub put_inside : {bytes : List ℕ} {tag : ℕ} {value : List ℕ} (i c : ℕ) → Begins bytes tag value [] → i < length value
    → Begins (set bytes (header_size tag value + i) c) tag (set value i c) []
unfolding header_size
put_inside {bytes} {tag} {value} i c b l =
    let a = tag_bytes tag in
    let n = length_bytes (length value) in
    let e : length a + length n + i ≡ length a + (length n + i) = omega arith in
    let s : set bytes (length a + length n + i) c ≡ a ++ (n ++ (set value i c ++ [])) =
    ap (λ xs. set xs (length a + length n + i) c) b.written ∙ ap (λ j. set (a ++ (n ++ (value ++ []))) j c) e
    ∙ set_past a (n ++ (value ++ [])) (length n + i) c ∙ ap (λ r. a ++ r) (set_past n (value ++ []) i c)
    ∙ ap (λ r. a ++ (n ++ r)) (set-append_left value [] i c l) in
    record {
      lawful = b.lawful;
      small = rw length-set b.small;
      written = s ∙ ap (λ m. a ++ (length_bytes m ++ (set value i c ++ []))) (sym (length-set value i c));
    }
