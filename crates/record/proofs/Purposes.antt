-- Files by what they are for.
use Rattle.std.proofs.Common.{◌≡◌, ℕ, ◌≤◌, true, false, ◌&&◌, List, eqb, Some, None, Option, sym, refl, ap, subst, arith, ne_eqb}
use Rattle.std.specs.Option.{option_map}
use Rattle.std.proofs.lemmas.Bool.{and_parts}
use Rattle.std.proofs.lemmas.Bool.Decides.{nat_tests}
use Rattle.card.specs.Profiles.{declares, required}
use Rattle.card.specs.Purposes.{purpose_of}
use Rattle.card.specs.declared.files.Purpose.{Purpose}
use Rattle.card.specs.declared.files.Purpose.TheVariants.{Common, Zone, Faces, Trees, Free, Security}
use Rattle.card.specs.declared.profile.Profile.{Profile}
use Rattle.object.specs.Trees.{writes}
use Rattle.cases.specs.Files.{TreeFile}
use Rattle.cases.specs.Verdicts.{Lines, structure_of, AreLinesFor, AreFileLines}
use Rattle.cases.proofs.Purposes.{only_file}
use Rattle.record.specs.Parts.{template}
use Rattle.record.specs.Records.{Record, for_trees, tree_group, value_for, written}

-- what holds of the files that are for something special, and of each of those of trees, holds of every file
pub by_purpose : (P : ℕ → Type 0) → P 0 → P 1 → P 2 → P 13 → P 17 → ((file : ℕ) → file ≤ 17 → tree_group file ≡ true → P file)
    → (file : ℕ) → file ≤ 17 → P file
by_purpose P common zone faces free security trees file l = go (purpose_of file) refl
  where
    go : (purpose : Purpose) → purpose ≡ purpose_of file → P file
    go Common e = subst P (sym (only_file Common 0 refl file l e)) common
    go Zone e = subst P (sym (only_file Zone 1 refl file l e)) zone
    go Faces e = subst P (sym (only_file Faces 2 refl file l e)) faces
    go Trees e = trees file l (sym (ap for_trees e))
    go Free e = subst P (sym (only_file Free 13 refl file l e)) free
    go Security e = subst P (sym (only_file Security 17 refl file l e)) security

-- a group of trees that is declared
pub declared_group : (profile : Profile) (file : ℕ) → (tree_group file && declares profile file) ≡ true
    → (file ≤ 17) × (tree_group file ≡ true) × (declares profile file ≡ true)
declared_group profile file e =
    let p = and_parts (tree_group file) (declares profile file) e in
    let d = p.1 in
    (grind (arith, nat_tests), p.0, p.1)

map_twice : {A B C : Type 0} (f : B → C) (g : A → B) (x : Option A) → option_map f (option_map g x) ≡ option_map (λ a. f (g a)) x
map_twice f g None = refl
map_twice f g (Some a) = refl

module _ (file : ℕ) (group : tree_group file ≡ true) where
  pub tree_lines : (profile : Profile) (content : Option (List ℕ)) (lines : Lines) → AreFileLines profile file content lines
      → TreeFile profile file content (structure_of lines)
  tree_lines profile content lines = go (purpose_of file) group
    where
      go : (purpose : Purpose) → for_trees purpose ≡ true → AreLinesFor purpose profile file content lines → TreeFile profile file content (structure_of lines)
      go Common t g = cc
      go Zone t g = cc
      go Faces t g = cc
      go Trees t g = g
      go Free t g = cc
      go Security t g = cc

  pub tree_written : (r : Record) → written r file ≡ option_map (λ trees. template file (writes trees)) (r.groups file)
  tree_written r = go (purpose_of file) group
    where
      go : (purpose : Purpose) → for_trees purpose ≡ true → option_map (template file) (value_for purpose r file) ≡ option_map (λ trees. template file (writes trees)) (r.groups file)
      go Common t = cc
      go Zone t = cc
      go Faces t = cc
      go Trees t = map_twice (template file) writes (r.groups file)
      go Free t = cc
      go Security t = cc

  pub tree_required : (profile : Profile) → required profile file ≡ declares profile file
  tree_required profile = simp (not_0, not_17)
    where
      not_0 : eqb file 0 ≡ false
      not_0 = ne_eqb file 0 (λ e. let h : false ≡ true = subst (λ n. tree_group n ≡ true) e group in cc)

      not_17 : eqb file 17 ≡ false
      not_17 = ne_eqb file 17 (λ e. let h : false ≡ true = subst (λ n. tree_group n ≡ true) e group in cc)
