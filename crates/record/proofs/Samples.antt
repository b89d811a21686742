-- The sample records are lawful and write their cards.
use Rattle.std.proofs.Common.{◌≡◌, ℕ, ◌<◌, ◌≤◌, Bool, true, false, cond, not, ◌&&◌, ◌||◌, eqb, List, [], ◌∷◌, length, get_or, IfSome, Some, None, Option, sym, refl, ap, subst, ⊎_elim, arith, eq-eqb, ne_eqb}
use Rattle.std.proofs.lemmas.Bool.{cases_lt, and_parts, eqb-true}
use Rattle.std.proofs.lemmas.Bool.Decides.{nat_tests}
use Rattle.card.specs.Cards.{Files, Short}
use Rattle.card.specs.Profiles.{declared_set, kind_of, declares}
use Rattle.card.specs.Sets.{has}
use Rattle.card.specs.declared.profile.Profile.{Profile}
use Rattle.common.specs.Tags.{group_tag}
use Rattle.object.specs.Objects.{nests}
use Rattle.object.specs.Trees.{Trees, plain, none, more, LawfulTrees}
use Rattle.record.specs.Faces.{LawfulFace, LawfulFaces}
use Rattle.record.specs.Parts.{Order}
use Rattle.record.specs.Records.{Record, tree_group, Given, written, WritesCard}
use Rattle.record.specs.Samples.{sample_face, sample, sample_files, td1_file, td2_file, td3_file, td1_zone, td2_zone, td3_zone, filler_zone, zero_zone}
use Rattle.record.specs.Samples.{full_face, full_trees, full_sample, full_files, WritesPlain, SampleRecords}
use Rattle.record.specs.Zones.{Fields, a_filler, a_zero, LawfulFields}
use Rattle.record.specs.ZoneSamples.{td1_fields, td2_fields, td3_fields, unused_fields}
use Rattle.record.proofs.Printed.{td1_lawful, td2_lawful, td3_lawful, filler_lawful, zero_lawful}
use Rattle.record.proofs.Tags.{lawful_tag}
use Rattle.record.proofs.Computed.{below, below_true, some, some_true, same_file, file_same, is_short, short}

-- an order of the tags of a set
abbrev is_tag : ℕ → List ℕ → ℕ → ℕ → Bool
is_tag set tags i group = has set group && eqb (group_tag group) (get_or tags i 0)

abbrev stands_at : List ℕ → ℕ → ℕ → Bool
stands_at tags group i = eqb (get_or tags i 0) (group_tag group)

abbrev differs : List ℕ → ℕ → ℕ → Bool
differs tags j i = not (eqb (get_or tags i 0) (get_or tags j 0))

abbrev only_test : ℕ → List ℕ → ℕ → Bool
only_test set tags i = some 16 (is_tag set tags i)

abbrev every_test : ℕ → List ℕ → ℕ → Bool
every_test set tags group = not (has set group) || some (length tags) (stands_at tags group)

abbrev once_test : List ℕ → ℕ → Bool
once_test tags j = below j (differs tags j)

abbrev order_test : ℕ → List ℕ → Bool
order_test set tags =
    below (length tags) (only_test set tags) && (below 16 (every_test set tags) && below (length tags) (once_test tags))

in_order : (set : ℕ) (tags : List ℕ) → order_test set tags ≡ true → Order set tags
in_order set tags e =
    let a = and_parts (below (length tags) (only_test set tags)) _ e in
    let b = and_parts (below 16 (every_test set tags)) _ a.1 in
    record {
      only = λ i l.
          let w = some_true 16 (is_tag set tags i) (below_true (length tags) (only_test set tags) a.0 i l) in
          let p = and_parts (has set w.0) (eqb (group_tag w.0) (get_or tags i 0)) w.2 in
          (w.0, w.1, p.0, eqb-true (group_tag w.0) (get_or tags i 0) p.1);
      every = λ group l h.
          let t = below_true 16 (every_test set tags) b.0 group l in
          let w = some_true (length tags) (stands_at tags group) (rw h at t) in
          (w.0, w.1, eqb-true (get_or tags w.0 0) (group_tag group) w.2);
      once = λ i j l m same.
          let t = below_true j (differs tags j) (below_true (length tags) (once_test tags) b.1 j m) i l in
          let f : false ≡ true = rw (eq-eqb (get_or tags i 0) (get_or tags j 0) same) at t in
          cc;
    }

-- the groups of trees are those that are wanted
abbrev given_test : Bool → Option Trees → Bool
given_test true None = false
given_test true (Some trees) = true
given_test false None = true
given_test false (Some trees) = false

given_when : (wanted : Bool) (trees : Option Trees) (Lawful : Trees → Type 0) → IfSome trees Lawful → given_test wanted trees ≡ true → Given wanted Lawful trees
given_when true None Lawful l e = cc
given_when true (Some trees) Lawful l e = l
given_when false None Lawful l e = tt
given_when false (Some trees) Lawful l e = cc

module _ (profile : Profile) (groups : ℕ → Option Trees) (lawful : (file : ℕ) → IfSome (groups file) (λ trees. LawfulTrees trees 15))
    (test : below 17 (λ file. given_test (tree_group file && declares profile file) (groups file)) ≡ true)
    (beyond : (file : ℕ) → 17 ≤ file → None ≡ groups file) where
  groups_given : (file : ℕ) → Given (tree_group file && declares profile file) (λ trees. LawfulTrees trees 15) (groups file)
  groups_given file = ⊎_elim
      (λ (l : file < 17). given_when _ (groups file) _ (lawful file) (below_true 17 (λ n. given_test (tree_group n && declares profile n) (groups n)) test file l))
      (λ (g : 17 ≤ file).
      let d : false ≡ (tree_group file && declares profile file) = grind (arith, nat_tests) in
      subst (Given (tree_group file && declares profile file) (λ trees. LawfulTrees trees 15)) (beyond file g)
      (subst (λ b. Given b (λ trees. LawfulTrees trees 15) None) d tt))
      (cases_lt file 17)

-- a record whose parts are lawful and whose files are those of a card
module _ (r : Record) (files : Files) (same : below 18 (λ file. same_file (written r file) (files file)) ≡ true)
    (fits : below 18 (λ file. is_short (files file)) ≡ true) where
  exactly : (file : ℕ) → file ≤ 17 → written r file ≡ files file
  exactly file l = file_same (written r file) (files file) (below_true 18 (λ n. same_file (written r n) (files n)) same file (omega arith))

  no_longer : (file : ℕ) → file ≤ 17 → Short (written r file)
  no_longer file l = subst Short (sym (exactly file l)) (short (files file) (below_true 18 (λ n. is_short (files n)) fits file (omega arith)))

  writes_card : order_test (declared_set r.profile) r.tags ≡ true → LawfulFields (kind_of r.profile) r.zone → LawfulFaces r.faces
      → ((file : ℕ) → Given (tree_group file && declares r.profile file) (λ trees. LawfulTrees trees 15) (r.groups file))
      → Given (declares r.profile 13) (λ _. Unit {0}) r.free → LawfulTrees r.security 14 → WritesCard r files
  writes_card ordered zone faces groups free security = record {
    lawful = record {
      tags = in_order (declared_set r.profile) r.tags ordered;
      zone = zone;
      faces = faces;
      groups = groups;
      free = free;
      security = security;
      short = no_longer;
    };
    exactly = exactly;
  }

plain_face : LawfulFace sample_face
plain_face =
    record { header_version = tt; biometric_type = tt; biometric_subtype = tt; creation_date = tt; validity_period = tt; creator = tt; block = omega arith }

one_face : LawfulFaces (sample_face ∷ [])
one_face = record { some = omega arith; few = omega arith; each = (plain_face, tt) }

two_faces : LawfulFaces (full_face ∷ sample_face ∷ [])
two_faces = record {
  some = omega arith;
  few = omega arith;
  each = (
    record {
      header_version = (omega arith, omega arith);
      biometric_type = (omega arith, omega arith);
      biometric_subtype = tt;
      creation_date = (omega arith, omega arith);
      validity_period = tt;
      creator = (omega arith, omega arith);
      block = omega arith;
    },
    (plain_face, tt),
  );
}

security_lawful : LawfulTrees (more (plain 0x05 []) none) 14
unfolding nests
security_lawful = ((omega arith, lawful_tag 0x05 refl, refl, omega arith), tt)

trees_lawful : LawfulTrees full_trees 15
unfolding nests
trees_lawful = (
  (
    omega arith,
    lawful_tag 0x30 refl,
    refl,
    omega arith,
    (
      (omega arith, lawful_tag 0x30 refl, refl, omega arith, ((omega arith, lawful_tag 0x02 refl, refl, omega arith), tt)),
      ((omega arith, lawful_tag 0x03 refl, refl, omega arith), tt),
    ),
  ),
  tt,
)

no_groups : (profile : Profile) → below 17 (λ file. given_test (tree_group file && declares profile file) None) ≡ true → (file : ℕ)
    → Given (tree_group file && declares profile file) (λ trees. LawfulTrees trees 15) None
no_groups profile e = groups_given profile (λ _. None) (λ file. tt) e (λ file l. refl)

-- the samples with DG1 and DG2 declared
module _ (kind : ℕ) (from : 1 ≤ kind) (to : kind ≤ 3) where
  abbrev plain_profile : Profile
  plain_profile = record { kind = kind; declared = 3; lawful = (from, to, refl, refl); sixteen_bits = omega arith }

  writes_plain : (fields : Fields) (file : List ℕ) → LawfulFields (kind_of plain_profile) fields
      → below 18 (λ n. same_file (written (sample plain_profile fields) n) (sample_files file n)) ≡ true
      → below 18 (λ n. is_short (sample_files file n)) ≡ true → WritesPlain kind fields file
  writes_plain fields file lawful same fits = record {
    profile = plain_profile;
    its_numbers = ((from, to, refl, refl), refl, refl);
    writes = writes_card (sample plain_profile fields) (sample_files file) same fits refl lawful one_face (no_groups plain_profile refl) tt security_lawful;
  }

-- the one with DG13 and DG15 too
abbrev full_profile : Profile
full_profile = record { kind = 3; declared = 0x5003; lawful = (omega arith, omega arith, refl, refl); sixteen_bits = omega arith }

full_groups : (file : ℕ) → Given (tree_group file && declares full_profile file) (λ trees. LawfulTrees trees 15) ((full_sample full_profile).groups file)
full_groups = groups_given full_profile (full_sample full_profile).groups
    (λ file. if_some (eqb file 15))
    refl
    (λ file l. ap (λ b. cond b (Some full_trees) None) (sym (ne_eqb file 15 (λ e. omega arith))))
  where
    if_some : (b : Bool) → IfSome (cond b (Some full_trees) None) (λ trees. LawfulTrees trees 15)
    if_some true = trees_lawful
    if_some false = tt

pub sample_records_hold : SampleRecords
sample_records_hold = record {
  td1 = writes_plain 1 (omega arith) (omega arith) td1_fields (td1_file td1_zone) td1_lawful refl refl;
  td2 = writes_plain 2 (omega arith) (omega arith) td2_fields (td2_file td2_zone) td2_lawful refl refl;
  td3 = writes_plain 3 (omega arith) (omega arith) td3_fields (td3_file td3_zone) td3_lawful refl refl;
  full = record {
    profile = full_profile;
    its_numbers = (full_profile.lawful, refl, refl);
    writes = writes_card (full_sample full_profile) full_files refl refl refl td3_lawful two_faces full_groups tt security_lawful;
  };
  filler_told = writes_plain 3 (omega arith) (omega arith) (unused_fields a_filler) (td3_file filler_zone) filler_lawful refl refl;
  zero_told = writes_plain 3 (omega arith) (omega arith) (unused_fields a_zero) (td3_file zero_zone) zero_lawful refl refl;
}
