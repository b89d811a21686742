-- Changes laid on a part of a file: the same as that part of the file with the changes laid on.
use Rattle.std.proofs.Common.{◌≡◌, ℕ, zero, suc, ◌+◌, ◌-◌, ◌<◌, ◌≤◌, Bool, true, false, ◌&&◌, cond, eqb, leb, List, [], ◌∷◌, ◌++◌, length, take, drop, set, Some, None, Option, sym, refl, ap, ◌∙◌, subst, arith, length-drop, length-take, drop-set-lt, rules, leb-true}
use lib.Seq.{drop-set-add}
use Rattle.std.proofs.lemmas.List.{take_at, drop_at}
use Rattle.std.specs.Option.{option_map}
use Rattle.source.specs.Reads.{Request, Brings}
use Rattle.changed.specs.Changes.{removed, with_setting, with_settings, all_length}
use Rattle.changed.specs.declared.change.Change.{Change}
use Rattle.changed.specs.declared.change.Change.TheVariants.{Remove, Set}

take-set : (n : ℕ) (l : List ℕ) (i a : ℕ) → take n (set l i a) ≡ set (take n l) i a
take-set zero l i a = refl
take-set (suc n) [] i a = refl
take-set (suc n) (x ∷ l) zero a = refl
take-set (suc n) (x ∷ l) (suc i) a = ap (λ z. x ∷ z) (take-set n l i a)

-- a setting of the whole file
whole_set : (b : Bool) (bs : List ℕ) (place byte : ℕ) → cond (b && leb 0 place) (set bs (place - 0) byte) bs ≡ cond b (set bs place byte) bs
whole_set false bs place byte = refl
whole_set true bs place byte =
    let t : leb 0 place ≡ true = search rules in
    let z : place - 0 ≡ place = omega arith in
    ap (λ b. cond b (set bs (place - 0) byte) bs) t ∙ ap (λ p. set bs p byte) z

setting_whole : (other place byte file : ℕ) (bs : List ℕ) → with_setting (Set other place byte) file 0 bs ≡ cond (eqb other file) (set bs place byte) bs
setting_whole other place byte file bs = whole_set (eqb other file) bs place byte

-- a setting of the file, in a part of it
set_in_part : (b : Bool) (from n : ℕ) (bs : List ℕ) (place byte : ℕ) → leb from place ≡ b
    → cond b (set (take n (drop from bs)) (place - from) byte) (take n (drop from bs)) ≡ take n (drop from (set bs place byte))
set_in_part true from n bs place byte e =
    let l : from ≤ place = leb-true from place e in
    let q : from + (place - from) ≡ place = omega arith in
    sym (take-set n (drop from bs) (place - from) byte) ∙ ap (take n) (sym (drop-set-add from bs (place - from) byte)) ∙ ap (λ p. take n (drop from (set bs p byte))) q
set_in_part false from n bs place byte e =
    let l : place < from = search rules in
    ap (take n) (sym (drop-set-lt from bs place byte l))

setting_in_part : (b : Bool) (from n : ℕ) (bs : List ℕ) (place byte : ℕ)
    → cond (b && leb from place) (set (take n (drop from bs)) (place - from) byte) (take n (drop from bs)) ≡ take n (drop from (cond b (set bs place byte) bs))
setting_in_part true from n bs place byte = set_in_part (leb from place) from n bs place byte refl
setting_in_part false from n bs place byte = refl

one_in_part : (c : Change) (file from n : ℕ) (bs : List ℕ) → with_setting c file from (take n (drop from bs)) ≡ take n (drop from (with_setting c file 0 bs))
one_in_part (Remove gone) file from n bs = refl
one_in_part (Set other place byte) file from n bs = setting_in_part (eqb other file) from n bs place byte ∙ ap (λ z. take n (drop from z)) (sym (setting_whole other place byte file bs))

all_in_part : (cs : List Change) (file from n : ℕ) (bs : List ℕ) → with_settings cs file from (take n (drop from bs)) ≡ take n (drop from (with_settings cs file 0 bs))
all_in_part [] file from n bs = refl
all_in_part (c ∷ cs) file from n bs = ap (with_settings cs file from) (one_in_part c file from n bs) ∙ all_in_part cs file from n (with_setting c file 0 bs)

-- what the source below brought, with the changes laid on, is what the changed file brings
laid_bytes : (cs : List Change) (file place n : ℕ) (bs before mid after : List ℕ) → n ≤ length bs - place → mid ≡ take n (drop place bs) ++ drop n before
    → after ≡ with_settings cs file place (take n mid) ++ drop n mid → after ≡ take n (drop place (with_settings cs file 0 bs)) ++ drop n before
laid_bytes cs file place n bs before mid after within m a =
    let l : length (take n (drop place bs)) ≡ n = simp (length-take, length-drop) (omega arith) in
    let front : take n mid ≡ take n (drop place bs) = ap (take n) m ∙ take_at (take n (drop place bs)) (drop n before) n l in
    let back : drop n mid ≡ drop n before = ap (drop n) m ∙ drop_at (take n (drop place bs)) (drop n before) n l in
    a ∙ ap (λ z. with_settings cs file place z ++ drop n mid) front ∙ ap (λ z. z ++ drop n mid) (all_in_part cs file place n bs) ∙ ap (λ z. take n (drop place (with_settings cs file 0 bs)) ++ z) back

pub laid_brings : (cs : List Change) (f : Option (List ℕ)) (asked : Request) (n : ℕ) (before mid after : List ℕ) → removed cs asked.file ≡ false → Brings f asked n before mid
    → after ≡ with_settings cs asked.file asked.place (take n mid) ++ drop n mid → Brings (cond (removed cs asked.file) None (option_map (with_settings cs asked.file 0) f)) asked n before after
laid_brings cs None asked n before mid after stays b a = absurd b
laid_brings cs (Some bs) asked n before mid after stays b a =
    let l = all_length cs asked.file 0 bs in
    let w = b.0.within in
    let some : asked.place < length bs → 0 < n = b.0.some in
    subst (λ d. Brings (cond d None (Some (with_settings cs asked.file 0 bs))) asked n before after) (sym stays)
    (record { most = b.0.most; within = omega arith; some = λ h. some (omega arith) }, laid_bytes cs asked.file asked.place n bs before mid after w b.1 a)
