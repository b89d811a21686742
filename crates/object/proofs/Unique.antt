-- No two lists of lawful trees are written alike.
use Rattle.std.proofs.Common.{◌≡◌, ℕ, ◌-◌, List, length, sym, refl, ap, ◌∙◌, arith}
use borrow.Author.Tests.{both_ways}
use Rattle.object.specs.Objects.{nests}
use Rattle.object.specs.Trees.{Tree, Trees, plain, nested, none, more, writes, LawfulTree, LawfulTrees, Tiled, TiledOnce}
use Rattle.object.proofs.Laws.{begins_long, same}
use Rattle.object.proofs.Trees.{tag, value, begins}

mutual
  pub unique : (ts us : Trees) (n : ℕ) → LawfulTrees ts n → LawfulTrees us n → writes ts ≡ writes us → ts ≡ us
  unique none none n v w e = refl
  unique none (more u us) n v w e = let z : ⊥ = omega (arith, begins_long (begins n u (writes us) w.0), ap length e) in elim z [ ]
  unique (more t ts) none n v w e = let z : ⊥ = omega (arith, begins_long (begins n t (writes ts) v.0), ap length e) in elim z [ ]
  unique (more t ts) (more u us) n v w e =
      let i = same (rw e at (begins n t (writes ts) v.0)) (begins n u (writes us) w.0) in
      let a : t ≡ u = alike t u n v.0 w.0 i.0 i.1 in
      let b : ts ≡ us = unique ts us n v.1 w.1 i.2 in
      cc

  alike : (t u : Tree) (n : ℕ) → LawfulTree t n → LawfulTree u n → tag t ≡ tag u → value t ≡ value u → t ≡ u
  alike (plain t a) (plain u b) n v w e f = cc
  alike (plain t a) (nested u us) n v w e f = elim (both_ways (nests t) v.2 (ap nests e ∙ w.2)) [ ]
  alike (nested t ts) (plain u b) n v w e f = elim (both_ways (nests u) w.2 (ap nests (sym e) ∙ v.2)) [ ]
  alike (nested t ts) (nested u us) n v w e f = let g : ts ≡ us = unique ts us (n - 1) v.4 w.4 f in cc

pub once : (n : ℕ) (xs : List ℕ) → Tiled n xs → TiledOnce n xs
once n xs t = record { trees = t.0; lawful = t.1; written = t.2; no_others = λ us w e. unique us t.0 n w t.1 (e ∙ sym t.2) }
