-- Trees that tile a range, and places at which an object is broken.
use Rattle.std.proofs.Common.{◌≡◌, ℕ, ◌+◌, ◌-◌, ◌<◌, ◌≤◌, true, false, ◌⊎◌, List, [], ◌∷◌, ◌++◌, length, sym, refl, ap, inl, inr, append_assoc, arith}
use borrow.Author.Tests.{both_ways}
use Rattle.object.specs.Objects.{Begins, Unread, header_size, nests}
use Rattle.object.specs.Trees.{Tree, Trees, plain, nested, none, more, write, writes, LawfulTree, LawfulTrees, Tiled, Broken, here, inside, later, First, NowhereTiled}
use Rattle.object.proofs.Laws.{begins_long, same}

pub empty : (xs : List ℕ) → length xs ≡ 0 → [] ≡ xs
empty [] e = refl
empty (x ∷ xs) e = let z : ⊥ = omega arith in elim z [ ]

-- a tree's tag and the bytes of its value
abbrev pub tag : Tree → ℕ
tag (plain t v) = t
tag (nested t ts) = t

abbrev pub value : Tree → List ℕ
value (plain t v) = v
value (nested t ts) = writes ts

pub begins : (n : ℕ) (t : Tree) (r : List ℕ) → LawfulTree t n → Begins (write t ++ r) (tag t) (value t) r
begins n (plain t v) r w = record { lawful = w.1; small = w.3; written = simp append_assoc }
begins n (nested t ts) r w = record { lawful = w.1; small = w.3; written = simp append_assoc }

deep : (n : ℕ) (t : Tree) → LawfulTree t n → 0 < n
deep n (plain t v) w = w.0
deep n (nested t ts) w = w.0

within : (n : ℕ) (t : Tree) → LawfulTree t n → nests (tag t) ≡ true → Tiled (n - 1) (value t)
within n (plain t v) w q = elim (both_ways (nests t) w.2 q) [ ]
within n (nested t ts) w q = (ts, w.4, refl)

-- the trees of a range that begins with an object are that object's and the rest's
pub apart : (n : ℕ) (ts : Trees) {xs : List ℕ} {t : ℕ} {v r : List ℕ} → LawfulTrees ts n → writes ts ≡ xs → Begins xs t v r →
    Tiled n r × (nests t ≡ true → Tiled (n - 1) v)
apart n none w e b = let z : ⊥ = omega (arith, begins_long b, ap length e) in elim z [ ]
apart n (more u us) w e b =
    let s = same (begins n u (writes us) w.0) (rw (← e) at b) in
    ((us, w.1, s.2), λ q. rw (← s.1) (within n u w.0 (rw s.0 q)))

-- in a range that trees tile nothing is broken
pub sound : {n p q : ℕ} {xs : List ℕ} → Broken n p xs q → Tiled n xs → ⊥
sound (here {levels = n} {bytes = xs} l z) t = go t.0 t.1 t.2 z
  where
    go : (ts : Trees) → LawfulTrees ts n → writes ts ≡ xs → (n ≡ 0) ⊎ Unread xs → ⊥
    go none w e z = omega (arith, ap length e)
    go (more u us) w e (inl z) = omega (arith, deep n u w.0)
    go (more u us) w e (inr z) = z _ _ _ (rw e at (begins n u (writes us) w.0))
sound (inside {levels = n} _ _ _ b s k) t = sound k ((apart n t.0 t.1 t.2 b).1 s)
sound (later {levels = n} _ _ _ b k) t = sound k (apart n t.0 t.1 t.2 b).0

pub refuted : {n p q : ℕ} {xs : List ℕ} → First n p xs q → NowhereTiled n p xs q
refuted f = record { first = f; not_tiled = λ t. sound f.is_broken t }

-- a broken object starts in the range
pub low : {n p q : ℕ} {xs : List ℕ} → Broken n p xs q → p ≤ q
low (here l w) = omega arith
low (inside t v r b s k) = omega (arith, low k)
low (later t v r b k) = omega (arith, low k)

high : {n p q : ℕ} {xs : List ℕ} → Broken n p xs q → q < p + length xs
high (here l w) = omega arith
high (inside t v r b s k) = omega (arith, high k, (begins_long b).1)
high (later t v r b k) = omega (arith, high k, (begins_long b).1)

-- one more object before a range that is tiled
pub tiled_plain : (n : ℕ) {xs : List ℕ} {t : ℕ} {v r : List ℕ} → Begins xs t v r → nests t ≡ false → 0 < n → Tiled n r → Tiled n xs
tiled_plain n {t = t} {v = v} b s l u =
    (more (plain t v) u.0, ((l, b.lawful, s, b.small), u.1), simp append_assoc (rw u.2 (sym b.written)))

pub tiled_nested : (n : ℕ) {xs : List ℕ} {t : ℕ} {v r : List ℕ} → Begins xs t v r → nests t ≡ true → 0 < n → Tiled (n - 1) v → Tiled n r → Tiled n xs
tiled_nested n {t = t} b s l h u =
    (more (nested t h.0) u.0, ((l, b.lawful, s, rw h.2 b.small, h.1), u.1), simp append_assoc (rw (h.2, u.2) (sym b.written)))

-- past a sound object what is broken is broken in the rest
pub down : (n p : ℕ) {at : ℕ} {xs : List ℕ} {t : ℕ} {v r : List ℕ} → Begins xs t v r → at ≡ p + header_size t v + length v → 0 < n →
    (nests t ≡ true → Tiled (n - 1) v) → (q : ℕ) → Broken n p xs q → Broken n at r q
down n p b d l h q (here a (inl z)) = let z : ⊥ = omega arith in elim z [ ]
down n p b d l h q (here a (inr z)) = elim (z _ _ _ b) [ ]
down n p b d l h q (inside u w s c g k) = let e = same c b in elim (sound k (rw e.1 (h (rw (← e.0) g)))) [ ]
down n p b d l h q (later u w s c k) = let e = same c b in rw d (rw (e.0, e.1, e.2) at k)

pub up : (n p : ℕ) {at : ℕ} {xs : List ℕ} {t : ℕ} {v r : List ℕ} → Begins xs t v r → at ≡ p + header_size t v + length v → (q : ℕ) → Broken n at r q → Broken n p xs q
up n p b d q k = later _ _ _ b (rw d at k)

pub first_here : (n p : ℕ) (xs : List ℕ) → 0 < length xs → (n ≡ 0) ⊎ Unread xs → First n p xs p
first_here n p xs l w = record { is_broken = here l w; least = λ k b. low b }

pub first_inside : (n p q : ℕ) {xs : List ℕ} {t : ℕ} {v r : List ℕ} → Begins xs t v r → 0 < n → nests t ≡ true → First (n - 1) (p + header_size t v) v q → First n p xs q
first_inside n p q {xs = xs} {t = t} {v = v} {r = r} b l g f = record { is_broken = inside t v r b g f.is_broken; least = go }
  where
    go : (k : ℕ) → Broken n p xs k → q ≤ k
    go k (here a (inl z)) = omega arith
    go k (here a (inr z)) = elim (z _ _ _ b) [ ]
    go k (inside u w s c d m) = let e = same c b in f.least k (rw (e.0, e.1) at m)
    go k (later u w s c m) = let e = same c b in let i : p + header_size t v + length v ≤ k = rw (e.0, e.1) at (low m) in omega (arith, i, high f.is_broken)
