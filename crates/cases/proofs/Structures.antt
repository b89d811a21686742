-- From what was found of a file's structure to what its lines say.
use Rattle.std.proofs.Common.{◌≡◌, ℕ, Bool, true, false, List, drop, Some, None, Option, refl, ◌∙◌, subst, sym}
use Rattle.card.specs.Lines.{Gates}
use Rattle.card.specs.declared.line.Line.{Line}
use Rattle.card.specs.declared.line.Line.TheVariants.{Open, Pass, Fail, NotApplicable, Blocked}
use Rattle.object.specs.Objects.{header_size}
use Rattle.object.specs.Trees.{Tiled, TiledOnce, NowhereTiled, First}
use Rattle.object.specs.Readers.{rest_of}
use Rattle.object.specs.declared.reader.Reader.{Reader}
use Rattle.cases.specs.Templates.{Opens}
use Rattle.cases.specs.Structures.{Later, Framed, Structured, Expected, IsStopped, IsSound}
use Rattle.cases.specs.declared.structure.Structure.{Structure}
use Rattle.cases.specs.declared.structure.Unjudged.{Unjudged}

regate : (l : Line) (P : Type 0) (At : ℕ → Type 0) (later later' : P → Type 0) (blocked blocked' : Type 0)
    → ((h : P) → later h → later' h) → (blocked → blocked') → Gates l P At later blocked → Gates l P At later' blocked'
regate Open P At a b c d f g h = absurd h
regate Pass P At a b c d f g h = (h.0, f h.0 h.1)
regate (Fail q) P At a b c d f g h = (h.0, h.1, g h.2)
regate NotApplicable P At a b c d f g h = absurd h
regate Blocked P At a b c d f g h = absurd h

-- what the later cases say, said in other words
module _ (tag : ℕ) (lines : Structure) (later later' : Later) (on : (place : ℕ) (value : List ℕ) → later.judged place value → later'.judged place value)
    (off : (line : Line) → later.unjudged line → later'.unjudged line) where
  framed : (bytes : List ℕ) → Framed tag bytes lines later → Framed tag bytes lines later'
  framed bytes =
      regate lines.template _ _ _ _ _ _ (λ one. regate lines.tiling _ _ _ _ _ _ (λ _. on (header_size tag one.0) one.0) (off Blocked))
      (λ e. (e.0, off Blocked e.1))

  pub said : (required : Bool) (content : Option (List ℕ)) → Structured tag required content lines later → Structured tag required content lines later'
  said true None s = (s.0, off Blocked s.1)
  said false None s = (s.0, off NotApplicable s.1)
  said true (Some bytes) s = (s.0, framed bytes s.1)
  said false (Some bytes) s = (s.0, off Blocked s.1)

-- one of the cases 1 to 3 does not pass, and the later ones have their line
pub stopped : (tag : ℕ) (required : Bool) (content : Option (List ℕ)) (s : Unjudged) (later : Later) → IsStopped tag required content s → later.unjudged s.later
    → Structured tag required content s.structure later
stopped tag required content s later is l =
    said tag s.structure _ later (λ _ _. absurd) (λ line e. subst later.unjudged (sym e) l) required content is

-- cases 1 to 3 pass, and the later ones are as they say
pub passed : (tag : ℕ) (required : Bool) (content : Option (List ℕ)) (reader : Reader) (later : Later) → IsSound tag required content reader
    → later.judged reader.position (rest_of reader) → Structured tag required content (record { present = Pass; template = Pass; tiling = Pass }) later
passed tag required None reader later s l = absurd s
passed tag false (Some bytes) reader later s l = absurd s
passed tag true (Some bytes) reader later s l = (refl, ((rest_of reader, s.begins), (s.tiled, subst (λ p. later.judged p (rest_of reader)) s.at l)))

-- case 3 fails
abbrev pub untiled_lines : ℕ → Unjudged
untiled_lines place = record { structure = record { present = Pass; template = Pass; tiling = Fail place }; later = Blocked }

not_tiled : (tag start place : ℕ) (bytes : List ℕ) → Opens tag bytes start → NowhereTiled 15 start (drop start bytes) place → IsStopped tag true (Some bytes) (untiled_lines place)
not_tiled tag start place bytes o n = (refl, ((drop start bytes, o.begins), (n.not_tiled, subst (λ p. First 15 p (drop start bytes) place) o.at n.first, refl)))

pub untiled : (tag place : ℕ) (required : Bool) (content : Option (List ℕ)) (bytes : List ℕ) (reader : Reader) → Expected required content bytes → reader.bytes.now ≡ bytes
    → Opens tag bytes reader.position → NowhereTiled 15 reader.position (rest_of reader) place → IsStopped tag required content (untiled_lines place)
untiled tag place required None bytes reader e s o n = absurd e
untiled tag place false (Some is) bytes reader e s o n = absurd e
untiled tag place true (Some is) bytes reader e s o n =
    not_tiled tag reader.position place is (subst (λ z. Opens tag z reader.position) e o) (subst (λ z. NowhereTiled 15 reader.position (drop reader.position z) place) (s ∙ e) n)

pub tiled : {levels : ℕ} {bytes : List ℕ} → TiledOnce levels bytes → Tiled levels bytes
tiled t = (t.trees, t.lawful, t.written)
