-- From the laws of the files to those of a whole card.
use Rattle.std.proofs.Common.{◌≡◌, ℕ, zero, suc, ◌+◌, ◌<◌, ◌≤◌, Bool, true, false, cond, ◌&&◌, eqb, List, length, Some, None, Option, sym, refl, ap, ◌∙◌, subst, inl, inr, ⊎_elim, arith, length-set}
use mathlib.Core.Path.{fun_ext}
use Rattle.std.proofs.lemmas.Bool.{cases_eq}
use Rattle.card.specs.Cards.{Files, Short}
use Rattle.card.specs.Profiles.{kind_number, declared_set, kind_of, declares, required}
use Rattle.card.specs.Sheets.{CardLines}
use Rattle.card.specs.declared.profile.Kind.{Kind}
use Rattle.card.specs.declared.profile.Kind.TheVariants.{Td1, Td2, Td3}
use Rattle.card.specs.declared.profile.Profile.{Profile}
use Rattle.card.proofs.ProfileLemmas.{same_profile}
use Rattle.object.specs.Trees.{Trees, LawfulTrees}
use Rattle.cases.specs.Verdicts.{Lines, structure_of, common_of, zone_of, faces_of, CardGives}
use Rattle.record.specs.Clean.{Clean, CleanStructure, CleanCommon, CleanZone, CleanFaces}
use Rattle.record.specs.Parts.{template, trees_form, WritesTrees, free_form, WritesFree, WritesSecurity, WritesCommon, common_value, security_value}
use Rattle.record.specs.Zones.{Fields}
use Rattle.record.specs.ZoneWriting.{zone_value, WritesZone}
use Rattle.record.specs.Faces.{Face, faces_value, WritesFaces}
use Rattle.record.specs.Laws.{Fits, StructureLaws, CommonLaws}
use Rattle.record.specs.ZoneLaws.{ZoneLaws}
use Rattle.record.specs.FaceLaws.{FaceLaws}
use Rattle.record.specs.Records.{Record, tree_group, Given, written, WritesCard, WrittenUnder}
use Rattle.record.specs.CardLaws.{AllShort, CleanCard, CardChanged, CardLaws}
use Rattle.record.proofs.Givens.{the_part, part_of, write_part, part_given, part_writes, given_fits, given_same}
use Rattle.record.proofs.Purposes.{by_purpose, declared_group, tree_lines, tree_written, tree_required}
use Rattle.record.proofs.Rows.{Row, row_at}

-- a kind has one number
abbrev number_of : Kind → ℕ
number_of Td1 = 1
number_of Td2 = 2
number_of Td3 = 3

numbered : (kind : ℕ) → 1 ≤ kind → kind ≤ 3 → number_of (cond (eqb kind 1) Td1 (cond (eqb kind 2) Td2 Td3)) ≡ kind
numbered zero a b = absurd (omega arith)
numbered (suc zero) a b = refl
numbered (suc (suc zero)) a b = refl
numbered (suc (suc (suc zero))) a b = refl
numbered (suc (suc (suc (suc kind)))) a b = absurd (omega arith)

kind_told : (p : Profile) → number_of (kind_of p) ≡ kind_number p
kind_told p = numbered p.kind p.lawful.0 p.lawful.1

-- a file that is not wanted is not there
unwanted : {Part : Type 0} (Wrote : Part → List ℕ → Type 0) (content : Option (List ℕ)) → Fits Wrote false content → None ≡ content
unwanted Wrote None f = refl
unwanted Wrote (Some bytes) f = absurd f

module _ (s : StructureLaws) (c : CommonLaws) (z : ZoneLaws) (f : FaceLaws) where
  -- a card of which no line fails, and the parts that write its files
  module _ (profile : Profile) (files : Files) (short : AllShort files) (lines : CardLines) (gives : CardGives profile files lines) (clean : CleanCard lines) where
    abbrev of_file : ℕ → Lines
    of_file file case = lines case file

    abbrev wanted : ℕ → Bool
    wanted file = tree_group file && declares profile file

    first_three : (file : ℕ) → file ≤ 17 → CleanStructure (structure_of (of_file file))
    first_three file l = (
      clean 1 file (inl (omega arith, omega arith, l)),
      clean 2 file (inl (omega arith, omega arith, l)),
      clean 3 file (inl (omega arith, omega arith, l)),
    )

    common_fits : Fits (WritesCommon (declared_set profile)) true (files 0)
    common_fits =
        let own : (case : ℕ) → 4 ≤ case → case < 9 → Clean (lines case 0) = λ case a b. clean case 0 (inr (inl (a, b, refl))) in
        (c.common_clean_exactly_when_written profile (files 0) (structure_of (of_file 0)) (common_of (of_file 0)) (short 0 (omega arith)) (gives 0 (omega arith))).0
        (first_three 0 (omega arith), (own 4 (omega arith) (omega arith), own 5 (omega arith) (omega arith), own 6 (omega arith) (omega arith), own 7 (omega arith) (omega arith), own 8 (omega arith) (omega arith)))

    zone_fits : Fits (WritesZone (kind_of profile)) true (files 1)
    zone_fits =
        let own : (case : ℕ) → 9 ≤ case → case < 21 → Clean (lines case 1) = λ case a b. clean case 1 (inr (inr (inl (a, b, refl)))) in
        (z.zone_clean_exactly_when_written profile (files 1) (structure_of (of_file 1)) (zone_of (of_file 1)) (short 1 (omega arith)) (gives 1 (omega arith))).0 (
          first_three 1 (omega arith),
          record {
            zone = own 9 (omega arith) (omega arith);
            characters = own 10 (omega arith) (omega arith);
            code = own 11 (omega arith) (omega arith);
            issuer = own 12 (omega arith) (omega arith);
            name = own 13 (omega arith) (omega arith);
            number = own 14 (omega arith) (omega arith);
            nationality = own 15 (omega arith) (omega arith);
            birth = own 16 (omega arith) (omega arith);
            sex = own 17 (omega arith) (omega arith);
            expiry = own 18 (omega arith) (omega arith);
            optional = own 19 (omega arith) (omega arith);
            composite = own 20 (omega arith) (omega arith);
          },
        )

    faces_fit : Fits WritesFaces true (files 2)
    faces_fit =
        let own : (case : ℕ) → 21 ≤ case → case < 24 → Clean (lines case 2) = λ case a b. clean case 2 (inr (inr (inr (inl (a, b, refl))))) in
        (f.faces_clean_exactly_when_written profile (files 2) (structure_of (of_file 2)) (faces_of (of_file 2)) (short 2 (omega arith)) (gives 2 (omega arith))).0
        (first_three 2 (omega arith), (own 21 (omega arith) (omega arith), own 22 (omega arith) (omega arith), own 23 (omega arith) (omega arith)))

    security_fits : Fits WritesSecurity true (files 17)
    security_fits =
        (s.security_clean_exactly_when_written profile (files 17) (structure_of (of_file 17)) (lines 24 17) (short 17 (omega arith)) (gives 17 (omega arith))).0
        (first_three 17 (omega arith), clean 24 17 (inr (inr (inr (inr (inl (omega arith, omega arith, refl)))))))

    free_fits : Fits WritesFree (declares profile 13) (files 13)
    free_fits = (s.free_clean_exactly_when_written profile (files 13) (structure_of (of_file 13)) (short 13 (omega arith)) (gives 13 (omega arith))).0 (first_three 13 (omega arith))

    trees_fit : (file : ℕ) → file ≤ 17 → tree_group file ≡ true → Fits (WritesTrees file) (declares profile file) (files file)
    trees_fit file l g =
        subst (λ b. Fits (WritesTrees file) b (files file)) (tree_required file g profile)
        ((s.trees_clean_exactly_when_written file l profile (files file) (structure_of (of_file file)) (short file l)
        (tree_lines file g profile (files file) (of_file file) (gives file l))).0 (first_three file l))

    group_fits : (file : ℕ) → wanted file ≡ true → Fits (WritesTrees file) true (files file)
    group_fits file e =
        let g = declared_group profile file e in
        subst (λ b. Fits (WritesTrees file) b (files file)) g.2 (trees_fit file g.0 g.1)

    -- the trees of a file, if it is a declared group of trees
    pick : (file : ℕ) (b : Bool) → wanted file ≡ b → Option Trees
    pick file false e = None
    pick file true e = part_of (trees_form file) true (files file) (group_fits file e)

    pick_given : (file : ℕ) (b : Bool) (e : wanted file ≡ b) → Given b (λ trees. LawfulTrees trees 15) (pick file b e)
    unfolding pick
    pick_given file false e = tt
    pick_given file true e = part_given (trees_form file) true (files file) (group_fits file e)

    pick_writes : (file : ℕ) → file ≤ 17 → tree_group file ≡ true → (b : Bool) (e : wanted file ≡ b) → write_part (trees_form file) (pick file b e) ≡ files file
    unfolding pick
    pick_writes file l g false e =
        let d : declares profile file ≡ false = sym (ap (λ t. t && declares profile file) g) ∙ e in
        unwanted (WritesTrees file) (files file) (subst (λ b. Fits (WritesTrees file) b (files file)) d (trees_fit file l g))
    pick_writes file l g true e = part_writes (trees_form file) true (files file) (group_fits file e)

    abbrev common_part : (tags : List ℕ) × (bytes : List ℕ) × (files 0 ≡ Some bytes) × WritesCommon (declared_set profile) tags bytes
    common_part = the_part (files 0) common_fits

    abbrev zone_part : (fields : Fields) × (bytes : List ℕ) × (files 1 ≡ Some bytes) × WritesZone (kind_of profile) fields bytes
    zone_part = the_part (files 1) zone_fits

    abbrev face_part : (faces : List Face) × (bytes : List ℕ) × (files 2 ≡ Some bytes) × WritesFaces faces bytes
    face_part = the_part (files 2) faces_fit

    abbrev security_part : (trees : Trees) × (bytes : List ℕ) × (files 17 ≡ Some bytes) × WritesSecurity trees bytes
    security_part = the_part (files 17) security_fits

    abbrev built : Record
    built = record {
      profile = profile;
      tags = common_part.0;
      zone = zone_part.0;
      faces = face_part.0;
      groups = λ file. pick file (wanted file) refl;
      free = part_of free_form (declares profile 13) (files 13) free_fits;
      security = security_part.0;
    }

    exactly : (file : ℕ) → file ≤ 17 → written built file ≡ files file
    exactly = by_purpose (λ file. written built file ≡ files file)
        (ap Some common_part.3.written ∙ sym common_part.2)
        (ap Some zone_part.3.written ∙ sym zone_part.2)
        (ap Some face_part.3.written ∙ sym face_part.2)
        (part_writes free_form (declares profile 13) (files 13) free_fits)
        (ap Some security_part.3.written ∙ sym security_part.2)
        (λ file l g. tree_written file g built ∙ pick_writes file l g (wanted file) refl)

    pub clean_written : WrittenUnder profile files
    clean_written = record {
      the_record = built;
      its_profile = refl;
      writes = record {
        lawful = record {
          tags = common_part.3.lawful;
          zone = zone_part.3.lawful;
          faces = face_part.3.lawful;
          groups = λ file. pick_given file (wanted file) refl;
          free = part_given free_form (declares profile 13) (files 13) free_fits;
          security = security_part.3.lawful;
          short = λ file l. subst Short (sym (exactly file l)) (short file l);
        };
        exactly = exactly;
      };
    }

  -- a record that writes a card's files, and the lines of the card
  module _ (r : Record) (files : Files) (w : WritesCard r files) where
    holds_short : (file : ℕ) → file ≤ 17 → Short (files file)
    holds_short file l = subst Short (w.exactly file l) (w.lawful.short file l)

    writes_common : WritesCommon (declared_set r.profile) r.tags (template 0 (common_value r.tags))
    writes_common = record { lawful = w.lawful.tags; fits = w.lawful.short 0 (omega arith); written = refl }

    writes_zone : WritesZone (kind_of r.profile) r.zone (template 1 (zone_value (kind_of r.profile) r.zone))
    writes_zone = record { lawful = w.lawful.zone; fits = w.lawful.short 1 (omega arith); written = refl }

    writes_faces : WritesFaces r.faces (template 2 (faces_value r.faces))
    writes_faces = record { lawful = w.lawful.faces; fits = w.lawful.short 2 (omega arith); written = refl }

    writes_security : WritesSecurity r.security (template 17 (security_value r.security))
    writes_security = record { lawful = w.lawful.security; fits = w.lawful.short 17 (omega arith); written = refl }

    free_short : Short (write_part free_form r.free)
    free_short = w.lawful.short 13 (omega arith)

    -- the groups of trees
    module _ (file : ℕ) (l : file ≤ 17) (g : tree_group file ≡ true) where
      trees_short : Short (write_part (trees_form file) (r.groups file))
      trees_short = subst Short (tree_written file g r) (w.lawful.short file l)

      trees_given : Given (declares r.profile file) (λ trees. LawfulTrees trees 15) (r.groups file)
      trees_given = subst (λ b. Given (b && declares r.profile file) (λ trees. LawfulTrees trees 15) (r.groups file)) g (w.lawful.groups file)

      trees_fit_written : Fits (WritesTrees file) (required r.profile file) (files file)
      trees_fit_written =
          subst (λ b. Fits (WritesTrees file) b (files file)) (sym (tree_required file g r.profile))
          (subst (Fits (WritesTrees file) (declares r.profile file)) (sym (tree_written file g r) ∙ w.exactly file l)
          (given_fits (trees_form file) (declares r.profile file) (r.groups file) trees_given trees_short))

    module _ (lines : CardLines) (gives : CardGives r.profile files lines) where
      abbrev lines_of : ℕ → Lines
      lines_of file case = lines case file

      common_clean : CleanStructure (structure_of (lines_of 0)) × CleanCommon (common_of (lines_of 0))
      common_clean =
          (c.common_clean_exactly_when_written r.profile (files 0) (structure_of (lines_of 0)) (common_of (lines_of 0)) (holds_short 0 (omega arith)) (gives 0 (omega arith))).1
          (subst (Fits (WritesCommon (declared_set r.profile)) true) (w.exactly 0 (omega arith)) (r.tags, writes_common))

      zone_clean : CleanStructure (structure_of (lines_of 1)) × CleanZone (zone_of (lines_of 1))
      zone_clean =
          (z.zone_clean_exactly_when_written r.profile (files 1) (structure_of (lines_of 1)) (zone_of (lines_of 1)) (holds_short 1 (omega arith)) (gives 1 (omega arith))).1
          (subst (Fits (WritesZone (kind_of r.profile)) true) (w.exactly 1 (omega arith)) (r.zone, writes_zone))

      faces_clean : CleanStructure (structure_of (lines_of 2)) × CleanFaces (faces_of (lines_of 2))
      faces_clean =
          (f.faces_clean_exactly_when_written r.profile (files 2) (structure_of (lines_of 2)) (faces_of (lines_of 2)) (holds_short 2 (omega arith)) (gives 2 (omega arith))).1
          (subst (Fits WritesFaces true) (w.exactly 2 (omega arith)) (r.faces, writes_faces))

      security_clean : CleanStructure (structure_of (lines_of 17)) × Clean (lines 24 17)
      security_clean =
          (s.security_clean_exactly_when_written r.profile (files 17) (structure_of (lines_of 17)) (lines 24 17) (holds_short 17 (omega arith)) (gives 17 (omega arith))).1
          (subst (Fits WritesSecurity true) (w.exactly 17 (omega arith)) (r.security, writes_security))

      free_clean : CleanStructure (structure_of (lines_of 13))
      free_clean =
          (s.free_clean_exactly_when_written r.profile (files 13) (structure_of (lines_of 13)) (holds_short 13 (omega arith)) (gives 13 (omega arith))).1
          (subst (Fits WritesFree (declares r.profile 13)) (w.exactly 13 (omega arith)) (given_fits free_form (declares r.profile 13) r.free w.lawful.free free_short))

      trees_clean : (file : ℕ) → file ≤ 17 → tree_group file ≡ true → CleanStructure (structure_of (lines_of file))
      trees_clean file l g =
          (s.trees_clean_exactly_when_written file l r.profile (files file) (structure_of (lines_of file)) (holds_short file l)
          (tree_lines file g r.profile (files file) (lines_of file) (gives file l))).1 (trees_fit_written file l g)

      structure_clean : (file : ℕ) → file ≤ 17 → CleanStructure (structure_of (lines_of file))
      structure_clean = by_purpose (λ file. CleanStructure (structure_of (lines_of file)))
          common_clean.0 zone_clean.0 faces_clean.0 free_clean security_clean.0 trees_clean

      -- a row of lines of one file alone
      own : (count from file number : ℕ) → Row (λ case. Clean (lines case number)) count from → (case : ℕ) → from ≤ case → case < from + count → file ≡ number → Clean (lines case file)
      own count from file number row case l h e = subst (λ n. Clean (lines case n)) (sym e) (row_at (λ k. Clean (lines k number)) count from row case l h)

      pub written_clean : CleanCard lines
      written_clean case file (inl h) =
          let k = structure_clean file h.2 in
          own 3 1 file file (k.0, (k.1, (k.2, tt))) case h.0 (omega (arith, h.1)) refl
      written_clean case file (inr (inl h)) =
          let k = common_clean.1 in
          own 5 4 file 0 (k.0, (k.1, (k.2, (k.3, (k.4, tt))))) case h.0 h.1 h.2
      written_clean case file (inr (inr (inl h))) =
          let k = zone_clean.1 in
          own 12 9 file 1
          (k.zone, (k.characters, (k.code, (k.issuer, (k.name, (k.number, (k.nationality, (k.birth, (k.sex, (k.expiry, (k.optional, (k.composite, tt))))))))))))
          case h.0 h.1 h.2
      written_clean case file (inr (inr (inr (inl h)))) =
          let k = faces_clean.1 in
          own 3 21 file 2 (k.0, (k.1, (k.2, tt))) case h.0 h.1 h.2
      written_clean case file (inr (inr (inr (inr (inl h))))) = own 1 24 file 17 (security_clean.1, tt) case h.0 h.1 h.2
      written_clean case file (inr (inr (inr (inr (inr h))))) = absurd h

  -- two records that write the same files
  module _ (r other : Record) (files : Files) (w : WritesCard r files) (v : WritesCard other files) where
    both_write : (file : ℕ) → file ≤ 17 → written r file ≡ written other file
    both_write file l = w.exactly file l ∙ sym (v.exactly file l)

    same_bytes : {bytes others : List ℕ} → Some bytes ≡ Some others → bytes ≡ others
    same_bytes e = cc

    same_common : (r.tags ≡ other.tags) × (declared_set r.profile ≡ declared_set other.profile)
    same_common =
        c.common_written_by_one_order_of_one_set (declared_set r.profile) (declared_set other.profile) r.tags other.tags _ r.profile.sixteen_bits other.profile.sixteen_bits
        (writes_common r files w) (subst (WritesCommon (declared_set other.profile) other.tags) (sym (same_bytes (both_write 0 (omega arith)))) (writes_common other files v))

    same_zone : (kind_of r.profile ≡ kind_of other.profile) × (r.zone ≡ other.zone)
    same_zone =
        z.zone_written_by_one_kind_and_fields (kind_of r.profile) (kind_of other.profile) r.zone other.zone _
        (writes_zone r files w) (subst (WritesZone (kind_of other.profile) other.zone) (sym (same_bytes (both_write 1 (omega arith)))) (writes_zone other files v))

    same_faces : r.faces ≡ other.faces
    same_faces =
        f.faces_written_by_one_part r.faces other.faces _ (writes_faces r files w)
        (subst (WritesFaces other.faces) (sym (same_bytes (both_write 2 (omega arith)))) (writes_faces other files v))

    same_security : r.security ≡ other.security
    same_security =
        s.security_written_by_one_part r.security other.security _ (writes_security r files w)
        (subst (WritesSecurity other.security) (sym (same_bytes (both_write 17 (omega arith)))) (writes_security other files v))

    profiles : r.profile ≡ other.profile
    profiles =
        same_profile r.profile other.profile (sym (kind_told r.profile) ∙ ap number_of same_zone.0 ∙ kind_told other.profile) same_common.1

    same_free : r.free ≡ other.free
    same_free =
        given_same free_form (declares r.profile 13) r.free other.free w.lawful.free
        (subst (λ p. Given (declares p 13) (λ _. Unit {0}) other.free) (sym profiles) v.lawful.free)
        (λ _. (s.free_written_by_one_part, free_short r files w, both_write 13 (omega arith)))

    same_group : (file : ℕ) → r.groups file ≡ other.groups file
    same_group file =
        given_same (trees_form file) (tree_group file && declares r.profile file) (r.groups file) (other.groups file) (w.lawful.groups file)
        (subst (λ p. Given (tree_group file && declares p file) (λ trees. LawfulTrees trees 15) (other.groups file)) (sym profiles) (v.lawful.groups file))
        (λ e.
        let g = declared_group r.profile file e in (
          s.trees_written_by_one_part file g.0,
          trees_short r files w file g.0 g.1,
          sym (tree_written file g.1 r) ∙ both_write file g.0 ∙ tree_written file g.1 other,
        ))

    pub one_record : r ≡ other
    one_record =
        let tags = same_common.0 in
        let zones = same_zone.1 in
        let groups : r.groups ≡ other.groups = fun_ext same_group in
        λ i. record {
          profile = profiles i;
          tags = tags i;
          zone = zones i;
          faces = same_faces i;
          groups = groups i;
          free = same_free i;
          security = same_security i;
        }

  -- a changed digit
  module _ (r : Record) (files changed : Files) (w : WritesCard r files) (d : CardChanged (kind_of r.profile) files changed) where
    before_written : WritesZone (kind_of r.profile) r.zone d.before
    before_written = subst (WritesZone (kind_of r.profile) r.zone) (let e = w.exactly 1 (omega arith) ∙ d.zone_before in cc) (writes_zone r files w)

    changed_short : AllShort changed
    changed_short file l = ⊎_elim
        (λ (e : file ≡ 1).
        let b : length d.before ≤ 32767 = subst Short d.zone_before (holds_short r files w 1 (omega arith)) in
        let same : length d.after ≡ length d.before = ap length d.digit.put ∙ simp length-set in
        let a : length d.after ≤ 32767 = omega arith in
        subst (λ n. Short (changed n)) (sym e) (subst Short (sym d.zone_after) a))
        (λ (n : file ≡ 1 → ⊥). subst Short (sym (d.others file l n)) (holds_short r files w file l))
        (cases_eq file 1)

    pub never_clean : (profile : Profile) (lines : CardLines) → CardGives profile changed lines → CleanCard lines → ⊥
    never_clean profile lines gives clean =
        let fits : Fits (WritesZone (kind_of profile)) true (Some d.after) =
        subst (Fits (WritesZone (kind_of profile)) true) d.zone_after (zone_fits profile changed changed_short lines gives clean) in
        z.changed_digit_is_not_written (kind_of r.profile) (kind_of profile) r.zone fits.0 d.before d.after before_written d.digit fits.1

  pub card_laws : CardLaws
  card_laws = record {
    clean_exactly_when_written = λ profile files short lines gives. (
      clean_written profile files short lines gives,
      λ u. written_clean u.the_record files u.writes lines (subst (λ p. CardGives p files lines) (sym u.its_profile) gives),
    );
    written_by_one_record_only = one_record;
    changed_digit_is_never_clean = never_clean;
  }
