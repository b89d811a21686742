-- Objects of one tag in a row, and the walk over them.
use Rattle.std.proofs.Common.{◌≡◌, ℕ, zero, suc, ◌+◌, ◌-◌, ◌<◌, ◌↔◌, Bool, true, false, List, [], length, sym, refl, subst, arith}
use Rattle.object.specs.Objects.{Begins, Lacks, header_size}
use Rattle.object.specs.Readers.{Took, rest_of}
use Rattle.object.specs.declared.reader.Reader.{Reader}
use Rattle.object.specs.declared.reader.Value.{Value}
use Rattle.object.proofs.Laws.{same, begins_long}
use Rattle.faces.specs.Rows.{Row, AllTagged, Each, done, next, IsAnswer, FirstFailing, failed, passed}
use Rattle.faces.specs.declared.entries.FailingEntry.{FailingEntry}

-- one more object of a row of n, of which i were read
left : (n i : ℕ) → i < n → n - i ≡ suc (n - (i + 1))
left n i l = omega arith

pub row_on : (t n i : ℕ) {xs v r : List ℕ} {P : Type 0} → i < n → Begins xs t v r → (Row t (n - i) xs ↔ P) → (Row t (n - (i + 1)) r ↔ P)
row_on t n i {xs} {v} {r} l b h = (
  λ w. h.0 (subst (λ k. Row t k xs) (sym (left n i l)) (v, r, b, w)),
  λ p. let u = subst (λ k. Row t k xs) (left n i l) (h.1 p) in subst (λ z. Row t (n - (i + 1)) z) (same u.2 b).2 u.3,
)

pub row_not : (t n i : ℕ) {xs : List ℕ} → i < n → Lacks xs t → Row t (n - i) xs → ⊥
row_not t n i {xs} l b w = let u = subst (λ k. Row t k xs) (left n i l) w in b u.0 u.1 u.2

-- a row is objects of its tag
pub row_all : (t k : ℕ) (xs : List ℕ) → Row t k xs → AllTagged t xs
row_all t zero xs e = subst (AllTagged t) (sym e) done
row_all t (suc k) xs w = next w.0 w.1 w.2 tt (row_all t k w.1 w.3)

all_next : {t : ℕ} {xs v r : List ℕ} → AllTagged t xs → Begins xs t v r → AllTagged t r
all_next done b = absurd (omega (arith, begins_long b))
all_next {t = t} (next v r c p s) b = subst (AllTagged t) (same c b).2 s

all_end : {t : ℕ} {xs : List ℕ} → AllTagged t xs → Lacks xs t → [] ≡ xs
all_end done n = refl
all_end (next v r c p s) n = absurd (n v r c)

-- where one object breaks P, P does not hold of each
fails_not : {t : ℕ} {P : List ℕ → Type 0} {p : ℕ} {xs : List ℕ} {entry : FailingEntry} → FirstFailing t (IsAnswer P) p xs entry → Each t P xs → ⊥
fails_not (failed v r b n) done = omega (arith, begins_long b)
fails_not {P = P} (failed v r b n) (next w s c p e) = n (subst P (same c b).1 p)
fails_not (passed v r b p s) done = omega (arith, begins_long b)
fails_not {t = t} {P = P} (passed v r b p s) (next w u c q e) = fails_not s (subst (λ z. Each t P z) (same c b).2 e)

-- a walk from a over the objects that has come to b: where all of the rest pass the test, or one fails it, it is so in the whole
pub record Walk (t : ℕ) (Gives : List ℕ → Bool → Type 0) (a b : Reader) : Type 0 where
  pub others : AllTagged t (rest_of b)
  pub all : Each t (λ v. Gives v true) (rest_of b) → Each t (λ v. Gives v true) (rest_of a)
  pub fails : (entry : FailingEntry) → FirstFailing t Gives b.position (rest_of b) entry → FirstFailing t Gives a.position (rest_of a) entry

module _ {t : ℕ} {Gives : List ℕ → Bool → Type 0} {a b : Reader} (w : Walk t Gives a b) where
  pub walk_step : {c : Reader} {v : Value} → Took b c t v → Gives v.bytes.now true → Walk t Gives a c
  walk_step {c} {v} k p = record {
    others = all_next w.others k.begins;
    all = λ e. w.all (next v.bytes.now (rest_of c) k.begins p e);
    fails = λ entry s.
        let at : c.position ≡ b.position + header_size t v.bytes.now + length v.bytes.now = omega (arith, k.at, k.position) in
        w.fails entry (passed v.bytes.now (rest_of c) k.begins p (subst (λ n. FirstFailing t Gives n (rest_of c) entry) at s));
  }

  pub walk_stop : {c : Reader} {v : Value} → Took b c t v → Gives v.bytes.now false → FirstFailing t Gives a.position (rest_of a) (record { start = b.position; value = v.place })
  walk_stop {c} {v} k n = rw k.at (w.fails _ (failed v.bytes.now (rest_of c) k.begins n))

  pub walk_done : Lacks (rest_of b) t → Each t (λ v. Gives v true) (rest_of a)
  walk_done n = w.all (subst (λ z. Each t (λ v. Gives v true) z) (all_end w.others n) done)

-- what a test that decides P says of P
pub each_of : {t : ℕ} {P Q : List ℕ → Type 0} {xs : List ℕ} → ((v : List ℕ) → P v → Q v) → Each t P xs → Each t Q xs
each_of f done = done
each_of f (next v r b p e) = next v r b (f v p) (each_of f e)

-- and of the first entry that it fails
module _ {t : ℕ} {Gives : List ℕ → Bool → Type 0} (P : List ℕ → Type 0)
    (yes : (v : List ℕ) → Gives v true → P v) (no : (v : List ℕ) → Gives v false → P v → ⊥) where
  told : {p : ℕ} {xs : List ℕ} {entry : FailingEntry} → FirstFailing t Gives p xs entry → FirstFailing t (IsAnswer P) p xs entry
  told (failed v r b n) = failed v r b (no v n)
  told (passed v r b y s) = passed v r b (yes v y) (told s)

  pub fails_at : {p q : ℕ} {xs : List ℕ} {entry : FailingEntry} → p ≡ q → FirstFailing t Gives p xs entry → (Each t P xs → ⊥) × FirstFailing t (IsAnswer P) q xs entry
  fails_at {xs = xs} {entry = entry} e s = let k = told s in (fails_not k, subst (λ p. FirstFailing t (IsAnswer P) p xs entry) e k)
