-- Reading what was written gives it back.
use Rattle.std.proofs.Common.{◌≡◌, ℕ, ◌+◌, ◌*◌, ◌/◌, ◌%◌, ◌<◌, ◌≤◌, true, false, cond, ltb, List, [], ◌∷◌, ◌++◌, length, get_or, drop, ◌==◌, Some, Option, sym, refl, ap, ◌∙◌, inl, inr, arith, length-append, le-ltb, lt-ltb, eq-eqb, ne_eqb, le-leb}
use lib.Seq.{drop-append_seam, take-append_seam, drop-append-add}
use native.Mathlib.Decide.{dec_lt}
use Rattle.object.specs.Reading.{Head, header_of, tag_of, length_of, tagged, sized}
use Rattle.object.specs.Objects.{Begins, header_size, nests, LawfulTag, tag_bytes, length_bytes}

pub tag_law : (t : ℕ) → LawfulTag t → (r : List ℕ) → tag_of (tag_bytes t ++ r) ≡ Some (t, length (tag_bytes t))
tag_law t (inl h) r =
    rw (lt-ltb t 256 h.small) (rw (ne_eqb t 0 (omega arith)) (rw (ne_eqb (t % 32) 31 h.low) refl))
tag_law t (inr h) r =
    let big : 256 ≤ t = omega (arith, h.low) in
    let e : t / 256 * 256 + t % 256 ≡ t = omega arith in
    rw (le-ltb t 256 big) (rw (ne_eqb (t / 256) 0 (omega arith)) (rw (eq-eqb (t / 256 % 32) 31 h.low) (rw (lt-ltb (t % 256) 128 h.second) (rw e refl))))

pub len_law : (n : ℕ) → n < 65536 → (r : List ℕ) → length_of (length_bytes n ++ r) ≡ Some (n, length (length_bytes n))
len_law n l r = go (dec_lt n 128) (dec_lt n 256)
  where
    go : Dec (n < 128) → Dec (n < 256) → length_of (length_bytes n ++ r) ≡ Some (n, length (length_bytes n))
    go (yes a) b = rw (lt-ltb n 128 a) (rw (lt-ltb n 128 a) refl)
    go (no a) (yes b) = rw (le-ltb n 128 (omega arith)) (rw (lt-ltb n 256 b) (rw (le-leb 128 n (omega arith)) refl))
    go (no a) (no b) =
        let e : n / 256 * 256 + n % 256 ≡ n = omega arith in
        rw (le-ltb n 128 (omega arith)) (rw (le-ltb n 256 (omega arith)) (rw (le-leb 1 (n / 256) (omega arith)) (rw e refl)))

pub head_law : (t n : ℕ) → LawfulTag t → n < 65536 → (r : List ℕ) →
    header_of (tag_bytes t ++ (length_bytes n ++ r)) ≡ Some (record { tag = t; size = length (tag_bytes t) + length (length_bytes n); len = n })
head_law t n lt ln r =
    ap (tagged (tag_bytes t ++ (length_bytes n ++ r))) (tag_law t lt (length_bytes n ++ r)) ∙
    ap (λ ys. sized (t, length (tag_bytes t)) (length_of ys)) (drop-append_seam (tag_bytes t) (length_bytes n ++ r)) ∙
    ap (sized (t, length (tag_bytes t))) (len_law n ln r)

-- the first byte of what begins with a tag says whether the tag is a nested object's
pub nests_first : (t : ℕ) {xs : List ℕ} (r : List ℕ) → xs ≡ tag_bytes t ++ r → (get_or xs 0 0 / 32 % 2 == 1) ≡ nests t
unfolding nests
nests_first t r e =
    rw e (elim (ltb t 256) as (λ b. (get_or (cond {A = List ℕ} b (t ∷ []) (t / 256 ∷ t % 256 ∷ []) ++ r) 0 0 / 32 % 2 == 1) ≡ (cond b t (t / 256) / 32 % 2 == 1)) [ true ↦ refl | false ↦ refl ])

past_two : (a b c : List ℕ) → drop (length a + length b) (a ++ (b ++ c)) ≡ c
past_two a b c = drop-append-add a (b ++ c) (length b) ∙ drop-append_seam b c

length_four : (a b c d : List ℕ) → length (a ++ (b ++ (c ++ d))) ≡ length a + (length b + (length c + length d))
length_four a b c d = simp length-append

-- what bytes that begin with an object say
pub begins_head : {xs : List ℕ} {t : ℕ} {v r : List ℕ} → Begins xs t v r → header_of xs ≡ Some (record { tag = t; size = header_size t v; len = length v })
unfolding header_size
begins_head {t = t} {v = v} {r = r} b = ap header_of b.written ∙ head_law t (length v) b.lawful b.small (v ++ r)

pub begins_past : {xs : List ℕ} {t : ℕ} {v r : List ℕ} → Begins xs t v r → drop (header_size t v) xs ≡ v ++ r
unfolding header_size
begins_past {t = t} {v = v} {r = r} b = ap (drop (header_size t v)) b.written ∙ past_two (tag_bytes t) (length_bytes (length v)) (v ++ r)

tag_long : (t : ℕ) → 0 < length (tag_bytes t)
tag_long t = elim (ltb t 256) as (λ b. 0 < length (cond {A = List ℕ} b (t ∷ []) (t / 256 ∷ t % 256 ∷ []))) [ true ↦ omega arith | false ↦ omega arith ]

pub begins_long : {xs : List ℕ} {t : ℕ} {v r : List ℕ} → Begins xs t v r → (0 < header_size t v) × (header_size t v + length v + length r ≡ length xs)
unfolding header_size
begins_long {t = t} {v = v} {r = r} b =
    let e = ap length b.written ∙ length_four (tag_bytes t) (length_bytes (length v)) v r in
    (omega (arith, tag_long t), omega (arith, e))

only : {X : Type 0} {x y : X} {o : Option X} → o ≡ Some x → o ≡ Some y → y ≡ x
only e f = cc

-- bytes begin with one object at most
pub same : {xs : List ℕ} {t u : ℕ} {v w r s : List ℕ} → Begins xs t v r → Begins xs u w s → (t ≡ u) × (v ≡ w) × (r ≡ s)
same {xs = xs} {t = t} {u = u} {v = v} {w = w} {r = r} {s = s} b c =
    let h = only (begins_head c) (begins_head b) in
    let n : length v ≡ length w = ap (λ (x : Head). x.len) h in
    let p : v ++ r ≡ w ++ s = sym (begins_past b) ∙ ap (λ (x : Head). drop x.size xs) h ∙ begins_past c in
    (ap (λ (x : Head). x.tag) h, sym (take-append_seam v r) ∙ rw (n, p) (take-append_seam w s), sym (drop-append_seam v r) ∙ rw (n, p) (drop-append_seam w s))
