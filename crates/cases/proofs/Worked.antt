-- The worked rows follow from the definitions.
use Rattle.std.proofs.Common.{◌≡◌, ℕ, ◌+◌, min, cond, eqb, List, [], ◌∷◌, ◌++◌, length, Some, codes, Option, sym, refl, ap, ◌∙◌, subst, inl, inr, arith, rules}
use Rattle.card.specs.Lines.{Says, Gates}
use Rattle.card.specs.declared.line.Line.{Line}
use Rattle.card.specs.declared.line.Line.TheVariants.{Open, Pass, Fail, NotApplicable, Blocked}
use Rattle.object.specs.Objects.{Begins, Unread, header_size, length_bytes, nests}
use Rattle.object.specs.Reading.{Head, length_of, header_of}
use Rattle.object.specs.Trees.{none, more, nested, Tiled, Broken, here, First}
use Rattle.object.proofs.Laws.{len_law, same, begins_head, begins_long}
use Rattle.object.proofs.Trees.{sound, low}
use Rattle.cases.specs.Templates.{One, Off, other_tag, no_length, other_end}
use Rattle.card.specs.declared.profile.Profile.{Profile}
use Rattle.cases.specs.Files.{FreeTemplate, no_cases}
use Rattle.cases.specs.Structures.{Framed, Structured}
use Rattle.cases.specs.Verdicts.{Lines, structure_of}
use Rattle.cases.specs.Rows.{Gives, Six, StructureRows, ZoneRows, Rows}
use Rattle.cases.specs.declared.structure.Structure.{Structure}
use Rattle.cases.proofs.Templates.{fails, off_length}
use Rattle.cases.proofs.Tags.{tag_short}

-- a judged line, where its rule holds and where it does not
says_pass : (l : Line) (P : Type 0) (At : ℕ → Type 0) → Says l P At → P → l ≡ Pass
says_pass Open P At s p = absurd s
says_pass Pass P At s p = refl
says_pass (Fail q) P At s p = absurd (s.0 p)
says_pass NotApplicable P At s p = absurd s
says_pass Blocked P At s p = absurd s

says_fail : (l : Line) (P : Type 0) (At : ℕ → Type 0) (place : ℕ) → Says l P At → (P → ⊥) → ((q : ℕ) → At q → q ≡ place) → l ≡ Fail place
says_fail Open P At place s n u = absurd s
says_fail Pass P At place s n u = absurd (n s)
says_fail (Fail q) P At place s n u = ap Fail (u q s.1)
says_fail NotApplicable P At place s n u = absurd s
says_fail Blocked P At place s n u = absurd s

gates_says : (l : Line) (P : Type 0) (At : ℕ → Type 0) (next : P → Type 0) (blocked : Type 0) → Gates l P At next blocked → Says l P At
gates_says Open P At next blocked g = absurd g
gates_says Pass P At next blocked g = g.0
gates_says (Fail q) P At next blocked g = (g.0, g.1)
gates_says NotApplicable P At next blocked g = absurd g
gates_says Blocked P At next blocked g = absurd g

gates_next : (l : Line) (P : Type 0) (At : ℕ → Type 0) (next : P → Type 0) (blocked : Type 0) → Gates l P At next blocked → P → (h : P) × next h
gates_next Open P At next blocked g p = absurd g
gates_next Pass P At next blocked g p = g
gates_next (Fail q) P At next blocked g p = absurd (g.0 p)
gates_next NotApplicable P At next blocked g p = absurd g
gates_next Blocked P At next blocked g p = absurd g

only : {X : Type 0} {x y : X} {o : Option X} → o ≡ Some x → o ≡ Some y → x ≡ y
only e f = cc

-- case 2 fails at one place only
off_once : (tag : ℕ) (xs : List ℕ) (p q : ℕ) → Off tag xs p → Off tag xs q → p ≡ q
off_once tag xs p q (other_tag n) (other_tag m) = refl
off_once tag xs p q (other_tag n) (no_length ys e m) = absurd (n ys e)
off_once tag xs p q (other_tag n) (other_end k r l e d) = absurd (n _ e)
off_once tag xs p q (no_length ys e m) (other_tag n) = absurd (n ys e)
off_once tag xs p q (no_length ys e m) (no_length zs f n) = refl
off_once tag xs p q (no_length ys e m) (other_end k r l f d) = let g : ys ≡ length_bytes k ++ r = let h = sym e ∙ f in cc in absurd (m k r l g)
off_once tag xs p q (other_end k r l e d) (other_tag n) = absurd (n _ e)
off_once tag xs p q (other_end k r l f d) (no_length ys e m) = let g : ys ≡ length_bytes k ++ r = let h = sym e ∙ f in cc in absurd (m k r l g)
off_once tag xs p q (other_end k r l e d) (other_end j s m f c) =
    let g : length_bytes k ++ r ≡ length_bytes j ++ s = let h = sym e ∙ f in cc in
    let i = only (len_law k l r) (ap length_of g ∙ len_law j m s) in
    let n : k ≡ j = ap (λ (x : ℕ × ℕ). x.0) i in
    ap (λ z. min (1 + length (length_bytes z) + z) (length xs)) n

-- lines of the cases 1 to 3, by their numbers
abbrev three : Line → Line → Line → Lines
three present template tiling case = cond (eqb case 1) present (cond (eqb case 2) template tiling)

-- the template of DG13, by its bytes
begins_13 : Begins (0x6D ∷ 0x00 ∷ []) 0x6D [] []
begins_13 = record { lawful = inl (tag_short 13 (omega arith)); small = omega arith; written = refl }

-- the line of case 2 of DG13 where it is declared
case_2 : (bytes : List ℕ) (line : Line) → Says line (One 0x6D bytes) (Off 0x6D bytes) → ((other : Line) → Says other (One 0x6D bytes) (Off 0x6D bytes) → other ≡ line) → Gives 13 bytes 2 line
case_2 bytes line says only profile declared = record {
  lines = three Pass line NotApplicable;
  given = (refl, subst (λ b. FreeTemplate b (Some bytes) (structure_of (three Pass line NotApplicable))) (sym declared) (refl, says));
  line_is = refl;
  no_other = λ others g. only (others 2) (subst (λ b. FreeTemplate b (Some bytes) (structure_of others)) declared g.1).1;
}

fails_13 : (bytes : List ℕ) (place : ℕ) → Off 0x6D bytes place → Gives 13 bytes 2 (Fail place)
fails_13 bytes place o =
    let none = (fails (tag_short 13 (omega arith)) o).0 in
    case_2 bytes (Fail place) (none, o) (λ line s. says_fail line (One 0x6D bytes) (Off 0x6D bytes) place s none (λ q p. off_once 0x6D bytes q place p o))

-- DG15 with a value of two bytes
one_15 : (a b : ℕ) → Begins (0x6F ∷ 0x02 ∷ a ∷ b ∷ []) 0x6F (a ∷ b ∷ []) []
one_15 a b = record { lawful = inl (tag_short 15 (omega arith)); small = omega arith; written = refl }

-- the value of DG15's template is what it is, and stands at 2
tiling_says : (a b : ℕ) (lines : Structure) → Framed 0x6F (0x6F ∷ 0x02 ∷ a ∷ b ∷ []) lines no_cases → Says lines.tiling (Tiled 15 (a ∷ b ∷ [])) (First 15 2 (a ∷ b ∷ []))
unfolding header_size
tiling_says a b lines f =
    let one : One 0x6F (0x6F ∷ 0x02 ∷ a ∷ b ∷ []) = (a ∷ b ∷ [], one_15 a b) in
    let g = gates_next lines.template _ _ _ _ f one in
    let e : g.0.0 ≡ a ∷ b ∷ [] = (same g.0.1 (one_15 a b)).1 in
    subst (λ v. Says lines.tiling (Tiled 15 v) (First 15 (header_size 0x6F v) v)) e (gates_says lines.tiling _ _ _ _ g.1)

-- the line of case 3 of DG15 where it is declared
case_3 : (a b : ℕ) (line : Line) → Gates line (Tiled 15 (a ∷ b ∷ [])) (First 15 2 (a ∷ b ∷ [])) (λ _. Unit {0}) (Unit {0})
    → ((other : Line) → Says other (Tiled 15 (a ∷ b ∷ [])) (First 15 2 (a ∷ b ∷ [])) → other ≡ line) → Gives 15 (0x6F ∷ 0x02 ∷ a ∷ b ∷ []) 3 line
unfolding header_size
case_3 a b line gates only profile declared =
    let bytes = 0x6F ∷ 0x02 ∷ a ∷ b ∷ [] in
    record {
      lines = three Pass Pass line;
      given = subst (λ r. Structured 0x6F r (Some bytes) (structure_of (three Pass Pass line)) no_cases) (sym declared) (refl, ((a ∷ b ∷ [], one_15 a b), gates));
      line_is = refl;
      no_other = λ others g. only (others 3) (tiling_says a b (structure_of others) (subst (λ r. Structured 0x6F r (Some bytes) (structure_of others) no_cases) declared g).1);
    }

tree_30 : Tiled 15 (0x30 ∷ 0x00 ∷ [])
unfolding nests
tree_30 = (more (nested 0x30 none) none, ((omega arith, inl (record { positive = omega arith; small = omega arith; low = λ e. omega arith }), refl, omega arith, tt), tt), refl)

unread_30 : Unread (0x30 ∷ 0x01 ∷ [])
unread_30 tag value rest b =
    let read : header_of (0x30 ∷ 0x01 ∷ []) ≡ Some (record { tag = 0x30; size = 2; len = 1 }) = refl in
    let h = only read (begins_head b) in
    let size : 2 ≡ header_size tag value = ap (λ (x : Head). x.size) h in
    let len : 1 ≡ length value = ap (λ (x : Head). x.len) h in
    omega (arith, (begins_long b).1)

broken_30 : Broken 15 2 (0x30 ∷ 0x01 ∷ []) 2
broken_30 = here (omega arith) (inr unread_30)

-- a profile that declares DG13 and DG15 beside DG1 and DG2
both_declared : Profile
both_declared = record { kind = 3; declared = 0x5003; lawful = (omega arith, omega arith, refl, refl); sixteen_bits = omega arith }

structure_rows : StructureRows
unfolding both_declared
structure_rows = record {
  profile = both_declared;
  declares_both = (refl, refl);
  empty_template = case_2 (0x6D ∷ 0x00 ∷ []) Pass ([], begins_13) (λ line s. says_pass line (One 0x6D (0x6D ∷ 0x00 ∷ [])) (Off 0x6D (0x6D ∷ 0x00 ∷ [])) s ([], begins_13));
  length_80 = fails_13 (0x6D ∷ 0x80 ∷ []) 1 (off_length 0x6D (0x6D ∷ 0x80 ∷ []) (0x80 ∷ []) refl refl);
  ends_early = fails_13 (0x6D ∷ 0x01 ∷ 0x00 ∷ 0x00 ∷ []) 3 (other_end 1 (0x00 ∷ 0x00 ∷ []) (omega arith) refl (λ e. omega arith));
  ends_late = fails_13 (0x6D ∷ 0x02 ∷ 0x00 ∷ []) 3 (other_end 2 (0x00 ∷ []) (omega arith) refl (λ e. omega arith));
  tiled = case_3 0x30 0x00 Pass (tree_30, tt) (λ line s. says_pass line (Tiled 15 (0x30 ∷ 0x00 ∷ [])) (First 15 2 (0x30 ∷ 0x00 ∷ [])) s tree_30);
  passes_the_end = case_3 0x30 0x01 (Fail 2) (λ t. sound broken_30 t, record { is_broken = broken_30; least = λ other b. low b }, tt)
      (λ line s. says_fail line (Tiled 15 (0x30 ∷ 0x01 ∷ [])) (First 15 2 (0x30 ∷ 0x01 ∷ [])) 2 s (λ t. sound broken_30 t) (λ q f. let a = f.least 2 broken_30 in let b = low f.is_broken in omega arith));
}

day_2 : Six (codes "7408122")
day_2 = search rules

day_9 : Six (codes "0002299")
day_9 = search rules

no_day : (digit : ℕ) → Six (codes "010229" ++ (digit ∷ [])) → ⊥
no_day digit d = let h = d.0.day.1 in omega arith

zone_rows : ZoneRows
zone_rows = record {
  number_with_6 = search rules;
  number_with_7 = search rules;
  number_with_filler = λ n. let h = n.1 in omega arith;
  date_with_2 = day_2;
  leap_day = day_9;
  no_leap_day = no_day;
  composite = refl;
}

pub rows : Rows
rows = record { structure = structure_rows; zone = zone_rows }
