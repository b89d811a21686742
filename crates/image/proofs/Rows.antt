-- Rows of fields: what stands at the start of one, what that says of its files, and that one row only writes given bytes.
use Rattle.std.proofs.Common.{◌≡◌, ℕ, zero, suc, ◌+◌, ◌*◌, ◌/◌, ◌%◌, ◌<◌, ◌≤◌, true, false, ◌&&◌, cond, eqb, leb, List, [], ◌∷◌, ◌++◌, length, get_or, take, drop, Some, None, Option, sym, refl, ap, ◌∙◌, subst, ⊎_elim, arith, length-append, rules}
use Rattle.std.proofs.lemmas.Nat.{div-add-mod'}
use Rattle.std.proofs.lemmas.List.{take_at, drop_at}
use Rattle.std.proofs.lemmas.Bool.{cases_lt}
use Rattle.image.specs.Images.{ImageField, field, row_of, RisingFields, Breaks, here, later, file_of, fields_after, files_in}
use Rattle.image.specs.Checks.{Starts}

-- the parts of a field that stands at the start of bytes
parts : (k a h l : ℕ) (bs rest ys : List ℕ) → field k bs rest ≡ a ∷ (h ∷ (l ∷ ys)) → (k ≡ a) × (h * 256 + l ≡ length bs) × (bs ++ rest ≡ ys)
parts k a h l bs rest ys e =
    let p : length bs / 256 ≡ h = cc in
    let q : length bs % 256 ≡ l = cc in
    let r : bs ++ rest ≡ ys = cc in
    let s : k ≡ a = cc in
    (s, omega (arith, div-add-mod' (length bs) 256), r)

pub same_field : (k j : ℕ) (bs cs rest more : List ℕ) → field k bs rest ≡ field j cs more → (k ≡ j) × (bs ≡ cs) × (rest ≡ more)
same_field k j bs cs rest more e =
    let p = parts k j (length cs / 256) (length cs % 256) bs rest (cs ++ more) e in
    let n : length cs ≡ length bs = omega (arith, div-add-mod' (length cs) 256, p.1) in (
      p.0,
      sym (take_at bs rest (length bs) refl) ∙ ap (take (length bs)) p.2 ∙ take_at cs more (length bs) n,
      sym (drop_at bs rest (length bs) refl) ∙ ap (drop (length bs)) p.2 ∙ drop_at cs more (length bs) n,
    )

after : (n : ℕ) (xs : List ℕ) → fields_after n xs ≡ fields_after 0 (drop n xs)
unfolding fields_after
after zero xs = refl
after (suc n) [] = refl
after (suc n) (x ∷ xs) = after n xs

-- one field more
one_more : (m k : ℕ) (bs rest : List ℕ) → m ≡ length bs → length bs ≤ 32767
    → cond (leb m 32767 && leb m (length (bs ++ rest))) (record { number = k; content = take m (bs ++ rest) } ∷ fields_after m (bs ++ rest)) [] ≡ record { number = k; content = bs } ∷ fields_after 0 rest
one_more m k bs rest e h =
    let s : leb m 32767 ≡ true = search rules in
    let g : m ≤ length (bs ++ rest) = simp length-append (omega arith) in
    let t : leb m (length (bs ++ rest)) ≡ true = search rules in
    let u : take m (bs ++ rest) ≡ bs = take_at bs rest m (sym e) in
    let v : fields_after m (bs ++ rest) ≡ fields_after 0 rest = after m (bs ++ rest) ∙ ap (fields_after 0) (drop_at bs rest m (sym e)) in
    rw s (rw t (rw u (rw v refl)))

fields_next : (k : ℕ) (bs rest : List ℕ) → length bs ≤ 32767 → fields_after 0 (field k bs rest) ≡ record { number = k; content = bs } ∷ fields_after 0 rest
unfolding fields_after
fields_next k bs rest h = one_more (length bs / 256 * 256 + length bs % 256) k bs rest (div-add-mod' (length bs) 256) h

pub files_next : (k j : ℕ) (bs rest : List ℕ) → length bs ≤ 32767 → files_in (field k bs rest) j ≡ cond (eqb k j) (Some bs) (files_in rest j)
unfolding files_in
files_next k j bs rest h = ap (λ fs. file_of fs j) (fields_next k bs rest h)

-- the files of an image are those of its fields
pub files_of_row : (lowest : ℕ) (fs : List ImageField) → RisingFields lowest fs → (j : ℕ) → files_in (row_of fs) j ≡ file_of fs j
unfolding files_in fields_after
files_of_row lowest [] r j = refl
files_of_row lowest (f ∷ fs) r j =
    files_next f.number j f.content (row_of fs) r.0.short ∙ ap (λ o. cond (eqb f.number j) (Some f.content) o) (files_of_row (f.number + 1) fs r.1 j)

joined : (f g : ImageField) (fs gs : List ImageField) → f.number ≡ g.number → f.content ≡ g.content → fs ≡ gs → f ∷ fs ≡ g ∷ gs
joined f g fs gs p q r =
    ap (λ k. record { number = k; content = f.content } ∷ fs) p ∙ ap (λ bs. record { number = g.number; content = bs } ∷ fs) q ∙ ap (λ hs. g ∷ hs) r

-- at most one row of fields writes given bytes
pub one_row : (fs gs : List ImageField) → row_of fs ≡ row_of gs → fs ≡ gs
one_row [] [] e = refl
one_row [] (g ∷ gs) e = let z : ◌≡◌ {A = ℕ} 0 1 = cc in absurd (omega arith)
one_row (f ∷ fs) [] e = let z : ◌≡◌ {A = ℕ} 0 1 = cc in absurd (omega arith)
one_row (f ∷ fs) (g ∷ gs) e =
    let s = same_field f.number g.number f.content g.content (row_of fs) (row_of gs) e in
    joined f g fs gs s.0 s.1 (one_row fs gs s.2)

-- nothing stands at the start of bytes that are too few, claim too much or are cut off
no_file : (a h l : ℕ) (ys : List ℕ) → (h * 256 + l ≤ 32767 → length ys < h * 256 + l) → fields_after 0 (a ∷ (h ∷ (l ∷ ys))) ≡ []
unfolding fields_after
no_file a h l ys n = ⊎_elim
    (λ (d : 32767 < h * 256 + l). let s : leb (h * 256 + l) 32767 ≡ false = search rules in rw s)
    (λ (d : h * 256 + l ≤ 32767).
    let s : leb (h * 256 + l) 32767 ≡ true = search rules in
    let m : length ys < h * 256 + l = n d in
    let t : leb (h * 256 + l) (length ys) ≡ false = search rules in
    rw s (rw t))
    (cases_lt 32767 (h * 256 + l))

pub too_few : (xs next : List ℕ) → length xs < 3 → Starts xs None next
unfolding files_in fields_after
too_few [] next h = (λ k. refl, λ k bs rest s e. let z : ◌≡◌ {A = ℕ} 0 1 = cc in absurd (omega arith))
too_few (a ∷ []) next h = (λ k. refl, λ k bs rest s e. let z : ◌≡◌ {A = ℕ} 0 1 = cc in absurd (omega arith))
too_few (a ∷ (b ∷ [])) next h = (λ k. refl, λ k bs rest s e. let z : ◌≡◌ {A = ℕ} 0 1 = cc in absurd (omega arith))
too_few (a ∷ (b ∷ (c ∷ ys))) next h = absurd (omega arith)

pub no_room : (xs next : List ℕ) → 3 ≤ length xs → (get_or xs 1 0 * 256 + get_or xs 2 0 ≤ 32767 → length (drop 3 xs) < get_or xs 1 0 * 256 + get_or xs 2 0) → Starts xs None next
unfolding files_in
no_room [] next h n = absurd (omega arith)
no_room (a ∷ []) next h n = absurd (omega arith)
no_room (a ∷ (b ∷ [])) next h n = absurd (omega arith)
no_room (a ∷ (b ∷ (c ∷ ys))) next h n = (
  λ k. ap (λ fs. file_of fs k) (no_file a b c ys n),
  λ k bs rest s e. let p = parts k a b c bs rest ys e in let q : length (bs ++ rest) ≡ length ys = ap length p.2 in let m = n (omega arith) in omega (arith, length-append bs rest),
)

-- a lawful row breaks nowhere
pub no_break : (lowest p q : ℕ) (xs : List ℕ) (fs : List ImageField) → RisingFields lowest fs → row_of fs ≡ xs → Breaks lowest p xs q → ⊥
no_break lowest p q xs [] r e (here h n) = omega (arith, ap length e)
no_break lowest p q xs [] r e (later k bs rest w d b) = omega (arith, ap length e, ap length d)
no_break lowest p q xs (f ∷ fs) r e (here h n) = n f.number f.content (row_of fs) r.0 e
no_break lowest p q xs (f ∷ fs) r e (later k bs rest w d b) =
    let s = same_field f.number k f.content bs (row_of fs) rest (e ∙ sym d) in
    no_break (k + 1) (p + 3 + length bs) q rest fs (subst (λ j. RisingFields (j + 1) fs) s.0 r.1) s.2 b

-- there is at most one first broken field
pub one_break : (lowest p q q' : ℕ) (xs : List ℕ) → Breaks lowest p xs q → Breaks lowest p xs q' → q ≡ q'
one_break lowest p q q' xs (here h n) (here h' n') = refl
one_break lowest p q q' xs (here h n) (later k bs rest w d b) = absurd (n k bs rest w d)
one_break lowest p q q' xs (later k bs rest w d b) (here h n) = absurd (n k bs rest w d)
one_break lowest p q q' xs (later k bs rest w d b) (later k' bs' rest' w' d' b') =
    let s = same_field k' k bs' bs rest' rest (d' ∙ sym d) in
    one_break (k + 1) (p + 3 + length bs) q q' rest b
    (subst (λ j. Breaks (j + 1) (p + 3 + length bs) rest q') s.0 (subst (λ cs. Breaks (k' + 1) (p + 3 + length cs) rest q') s.1 (subst (λ ys. Breaks (k' + 1) (p + 3 + length bs') ys q') s.2 b')))

-- no number below the lowest has a file
below : (lowest : ℕ) (fs : List ImageField) (j : ℕ) → RisingFields lowest fs → j < lowest → file_of fs j ≡ None
below lowest [] j r h = refl
below lowest (f ∷ fs) j r h =
    let w = r.0.rises in
    let d : eqb f.number j ≡ false = search rules in
    ap (λ b. cond b (Some f.content) (file_of fs j)) d ∙ below (f.number + 1) fs j r.1 (omega arith)

at_head : (f : ImageField) (fs : List ImageField) → file_of (f ∷ fs) f.number ≡ Some f.content
at_head f fs = let d : eqb f.number f.number ≡ true = search rules in ap (λ b. cond b (Some f.content) (file_of fs f.number)) d

past_head : (f : ImageField) (fs : List ImageField) (j : ℕ) → (f.number ≡ j → ⊥) → file_of (f ∷ fs) j ≡ file_of fs j
past_head f fs j n = let d : eqb f.number j ≡ false = search rules in ap (λ b. cond b (Some f.content) (file_of fs j)) d

-- a number that one row has first and the other row has passed
not_first : (f g : ImageField) (fs gs : List ImageField) → f.number < g.number → RisingFields (g.number + 1) gs → file_of (f ∷ fs) f.number ≡ file_of (g ∷ gs) f.number → ⊥
not_first f g fs gs l r e =
    let n : file_of (g ∷ gs) f.number ≡ None = past_head g gs f.number (λ d. omega arith) ∙ below (g.number + 1) gs f.number r (omega arith) in
    let z : ◌≡◌ {A = Option (List ℕ)} (Some f.content) None = sym (at_head f fs) ∙ e ∙ n in
    let o : ◌≡◌ {A = ℕ} 0 1 = cc in omega arith

same_rest : (f g : ImageField) (fs gs : List ImageField) → RisingFields (f.number + 1) fs → RisingFields (g.number + 1) gs → f.number ≡ g.number
    → ((j : ℕ) → file_of (f ∷ fs) j ≡ file_of (g ∷ gs) j) → (j : ℕ) → file_of fs j ≡ file_of gs j
same_rest f g fs gs r s k same j = ⊎_elim
    (λ (l : f.number < j). sym (past_head f fs j (λ d. omega arith)) ∙ same j ∙ past_head g gs j (λ d. omega arith))
    (λ (l : j ≤ f.number). below (f.number + 1) fs j r (omega arith) ∙ sym (below (g.number + 1) gs j s (omega arith)))
    (cases_lt f.number j)

-- rows with the same files are the same
pub one_row_of_files : (lowest : ℕ) (fs gs : List ImageField) → RisingFields lowest fs → RisingFields lowest gs → ((j : ℕ) → file_of fs j ≡ file_of gs j) → fs ≡ gs
one_row_of_files lowest [] [] r s same = refl
one_row_of_files lowest [] (g ∷ gs) r s same = let z : ◌≡◌ {A = Option (List ℕ)} None (Some g.content) = same g.number ∙ at_head g gs in let o : ◌≡◌ {A = ℕ} 0 1 = cc in absurd (omega arith)
one_row_of_files lowest (f ∷ fs) [] r s same = let z : ◌≡◌ {A = Option (List ℕ)} (Some f.content) None = sym (at_head f fs) ∙ same f.number in let o : ◌≡◌ {A = ℕ} 0 1 = cc in absurd (omega arith)
one_row_of_files lowest (f ∷ fs) (g ∷ gs) r s same = ⊎_elim
    (λ (l : f.number < g.number). absurd (not_first f g fs gs l s.1 (same f.number)))
    (λ (m : g.number ≤ f.number). ⊎_elim
    (λ (l : g.number < f.number). absurd (not_first g f gs fs l r.1 (sym (same g.number))))
    (λ (n : f.number ≤ g.number).
    let k : f.number ≡ g.number = omega arith in
    let c : f.content ≡ g.content = let z : ◌≡◌ {A = Option (List ℕ)} (Some f.content) (Some g.content) = sym (at_head f fs) ∙ same f.number ∙ ap (file_of (g ∷ gs)) k ∙ at_head g gs in cc in
    let tail : (j : ℕ) → file_of fs j ≡ file_of gs j = same_rest f g fs gs r.1 s.1 k same in
    joined f g fs gs k c (one_row_of_files (f.number + 1) fs gs r.1 (subst (λ z. RisingFields (z + 1) gs) (sym k) s.1) tail))
    (cases_lt g.number f.number))
    (cases_lt f.number g.number)
