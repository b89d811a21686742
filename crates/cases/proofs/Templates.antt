-- Case 2: the template's tag, its length and its end.
use Rattle.std.proofs.Common.{◌≡◌, ℕ, ◌+◌, ◌<◌, min, List, [], ◌∷◌, ◌++◌, length, true, false, eqb, take, drop, Some, None, Option, sym, refl, ap, ◌∙◌, subst, inl, append-nil, arith, length-append, drop-drop, lt-ltb, take-append-drop}
use lib.Pointwise.{pointwise}
use lib.Seq.{drop-append_seam}
use Rattle.std.specs.Cmp.Lexicographic.{same_text, other_text}
use Rattle.object.specs.Objects.{Begins, ShortTag, tag_bytes, length_bytes, header_size}
use Rattle.object.specs.Reading.{length_of}
use Rattle.object.proofs.Laws.{len_law}
use Rattle.cases.specs.Templates.{One, Off, other_tag, no_length, other_end, Opens}

short_bytes : {t : ℕ} → ShortTag t → tag_bytes t ≡ t ∷ []
short_bytes {t} s = rw (lt-ltb t 256 s.small) refl

begins_short : {xs : List ℕ} {t : ℕ} {v r : List ℕ} → ShortTag t → Begins xs t v r → xs ≡ t ∷ (length_bytes (length v) ++ (v ++ r))
begins_short {v = v} {r = r} s b = b.written ∙ ap (λ z. z ++ (length_bytes (length v) ++ (v ++ r))) (short_bytes s)

only : {X : Type 0} {x y : X} {o : Option X} → o ≡ Some x → o ≡ Some y → x ≡ y
only e f = cc

-- a length that was read: what it is, and how many bytes it takes
read_size : (ys r : List ℕ) (n k : ℕ) → n < 65536 → ys ≡ length_bytes n ++ r → Some (n, k) ≡ length_of ys → k ≡ length (length_bytes n)
read_size ys r n k l e f = ap (λ (p : ℕ × ℕ). p.1) (only (sym f) (ap length_of e ∙ len_law n l r))

-- a file for which case 2 fails is not the template alone
off_one : {t : ℕ} {xs : List ℕ} {q : ℕ} → ShortTag t → Off t xs q → One t xs → ⊥
off_one s (other_tag n) w = n _ (begins_short s w.1)
off_one s (no_length ys e n) w = let f = sym e ∙ begins_short s w.1 in n (length w.0) (w.0 ++ []) w.1.small (cc)
off_one {t = t} s (other_end n r l e d) w =
    let v = w.0 in
    let f = sym e ∙ begins_short s w.1 in
    let g : length_bytes n ++ r ≡ length_bytes (length v) ++ (v ++ []) = cc in
    let i = only (sym (sym (len_law n l r))) (ap length_of g ∙ len_law (length v) w.1.small (v ++ [])) in
    let m : n ≡ length v = ap (λ (p : ℕ × ℕ). p.0) i in
    let h : r ≡ v ++ [] = sym (drop-append_seam (length_bytes n) r) ∙ ap (drop (length (length_bytes n))) g ∙ rw m (drop-append_seam (length_bytes (length v)) (v ++ [])) in
    d (ap length (h ∙ append-nil v) ∙ sym m)

pub fails : {t : ℕ} {xs : List ℕ} {q : ℕ} → ShortTag t → Off t xs q → (One t xs → ⊥) × Off t xs q
fails s o = (off_one s o, o)

-- the tag stands at the start, or it does not
pub off_tag : (t : ℕ) (xs : List ℕ) → pointwise eqb (take 1 xs) (t ∷ []) ≡ false → Off t xs 0
off_tag t xs n = other_tag (λ rest f. other_text (take 1 xs) (t ∷ []) (sym n) (ap (take 1) f))

pub first_is : (t : ℕ) (xs rest : List ℕ) → pointwise eqb (take 1 xs) (t ∷ []) ≡ true → rest ≡ drop 1 xs → xs ≡ t ∷ rest
first_is t xs rest e d =
    sym (take-append-drop 1 xs) ∙ ap (λ z. z ++ drop 1 xs) (same_text (take 1 xs) (t ∷ []) (sym e)) ∙ ap (λ z. t ∷ z) (sym d)

pub off_length : (t : ℕ) (xs rest : List ℕ) → xs ≡ t ∷ rest → None ≡ length_of rest → Off t xs 1
off_length t xs rest e n = no_length rest e (λ k r l f. let g = len_law k l r in let h = ap length_of f in let z : ◌≡◌ {A = ℕ} 0 1 = cc in omega arith)

module _ (t : ℕ) (xs rest : List ℕ) (n k : ℕ) (is : xs ≡ t ∷ rest) (small : n < 65536) (written : rest ≡ length_bytes n ++ drop k rest) (read : Some (n, k) ≡ length_of rest) where
  size : k ≡ length (length_bytes n)
  size = read_size rest (drop k rest) n k small written read

  long : length xs ≡ 1 + k + length (drop k rest)
  long = omega (arith, ap length is, ap length written ∙ length-append (length_bytes n) (drop k rest), size)

  pub off_end : (1 + k + n ≡ length xs → ⊥) → Off t xs (min (1 + k + n) (length xs))
  off_end d =
      rw size
      (other_end n (drop k rest) small (is ∙ ap (λ z. t ∷ z) written) (λ e. d (omega (arith, long))))

  body : drop (1 + k) xs ≡ drop k rest
  body = ap (drop (1 + k)) is ∙ sym (drop-drop k 1 (t ∷ rest))

  pub opens_at : ShortTag t → 1 + k + n ≡ length xs → Opens t xs (1 + k)
  unfolding header_size
  opens_at s e =
      let m : n ≡ length (drop k rest) = omega (arith, long) in
      let ys = drop k rest in
      let b : Begins xs t ys [] = record {
        lawful = inl s;
        small = omega arith;
        written =
            is ∙ ap (λ z. t ∷ z) (written ∙ ap (λ z. length_bytes z ++ ys) m ∙ ap (λ z. length_bytes (length ys) ++ z) (sym (append-nil ys)))
            ∙ ap (λ z. z ++ (length_bytes (length ys) ++ (ys ++ []))) (sym (short_bytes s));
      } in
      let a : 1 + k ≡ header_size t ys = rw (short_bytes s) (omega (arith, size, ap (λ z. length (length_bytes z)) m)) in
      record { begins = subst (λ z. Begins xs t z []) (sym body) b; at = subst (λ z. 1 + k ≡ header_size t z) (sym body) a }
