-- One object read, over the readers before and after it.
use Rattle.std.proofs.Common.{◌≡◌, ℕ, ◌+◌, ◌-◌, ◌<◌, ◌≤◌, true, false, List, [], length, take, drop, Ok, Err, Result, MatchResult, sym, ap, ◌∙◌, arith, length-drop}
use borrow.Author.Tests.{both_ways}
use Rattle.card.specs.declared.line.Failure.{Failure}
use Rattle.object.specs.declared.object.Object.{Object}
use Rattle.object.specs.declared.reader.Reader.{Reader}
use Rattle.object.specs.Objects.{nests}
use Rattle.object.specs.Trees.{Tiled, First}
use Rattle.object.specs.Readers.{Taken, Step, rest_of, is_nested_object, value, place, tag}
use Rattle.object.proofs.Laws.{begins_long}
use Rattle.object.proofs.Trees.{first_inside, tiled_plain, tiled_nested, down, up, empty}

pub taken_shorter : {a b : Reader} {o : Object} → Taken a b o → length (value o) + length (rest_of b) < length (rest_of a)
taken_shorter t = omega (arith, begins_long t.begins)

step : (n : ℕ) {a b : Reader} {o : Object} → Taken a b o → 0 < n → (nests (tag o) ≡ true → Tiled (n - 1) (value o)) → (Tiled n (rest_of b) → Tiled n (rest_of a)) → Step n a b
step n {a = a} {o = o} t l h u =
    let e = t.position ∙ ap (λ k. k + length (value o)) t.at in
    record {
      shorter = omega (arith, taken_shorter t);
      goes = record
          { tiled = u; down = down n a.position t.begins e l h; up = up n a.position t.begins e; shorter = omega (arith, taken_shorter t) };
    }

pub step_plain : (n : ℕ) {a b : Reader} {o : Object} → Taken a b o → is_nested_object o ≡ false → 0 < n → Step n a b
step_plain n t k l = let s = sym t.kinds ∙ k in step n t l (λ q. elim (both_ways _ s q) [ ]) (tiled_plain n t.begins s l)

step_nested : (n : ℕ) {a b : Reader} {o : Object} → Taken a b o → is_nested_object o ≡ true → 0 < n → Tiled (n - 1) (value o) → Step n a b
step_nested n t k l h = let s = sym t.kinds ∙ k in step n t l (λ q. h) (tiled_nested n t.begins s l h)

stops_nested : (n : ℕ) {a b : Reader} {o : Object} → Taken a b o → is_nested_object o ≡ true → 0 < n → (q : ℕ) → First (n - 1) (place o) (value o) q →
    First n a.position (rest_of a) q
stops_nested n {a = a} t k l q f = first_inside n a.position q t.begins l (sym t.kinds ∙ k) (rw t.at at f)

-- a nested object, by how the objects in its value were read
pub nested : (n : ℕ) {a b : Reader} {o : Object} (inside : Result (Unit {0}) Failure) → Taken a b o → is_nested_object o ≡ true → 0 < n
    → MatchResult inside (λ _. Tiled (n - 1) (value o)) (λ failure. First (n - 1) (place o) (value o) failure.place)
    → MatchResult inside (λ _. Step n a b) (λ failure. First n a.position (rest_of a) failure.place)
nested n (Ok x) t k l h = step_nested n t k l h
nested n (Err failure) t k l f = stops_nested n t k l failure.place f

-- the range of a nested object's value, cut out of the bytes
pub inner : {a b : Reader} {o : Object} (range : List ℕ) → Taken a b o → range ≡ take (place o + length (value o)) b.bytes.now → drop (place o) range ≡ value o
inner range t e = rw (e, ← t.position, t.bytes) (sym t.within)

pub to_read : (a : Reader) → a.position < length a.bytes.now → 0 < length (rest_of a)
to_read a l = omega (arith, length-drop a.position a.bytes.now)

pub all_read : (a : Reader) → length a.bytes.now ≤ a.position → [] ≡ rest_of a
all_read a l = empty (rest_of a) (omega (arith, length-drop a.position a.bytes.now))
