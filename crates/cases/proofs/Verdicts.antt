-- One line of each case of each file.
use Rattle.std.proofs.Common.{◌≡◌, ℕ, List, [], ◌∷◌, Option, ap, subst, inl, inr, arith}
use Rattle.card.specs.Cases.{HasLine}
use Rattle.card.specs.Purposes.{purpose_of}
use Rattle.card.specs.declared.files.Purpose.{Purpose}
use Rattle.card.specs.declared.files.Purpose.TheVariants.{Common, Zone, Faces, Trees, Free, Security}
use Rattle.card.specs.declared.profile.Profile.{Profile}
use Rattle.cases.specs.Verdicts.{Lines, AreLinesFor, AreFileLines, OneVerdict}
use Rattle.cases.proofs.Agreeing.{Agree, agree_at}
use Rattle.cases.proofs.OnceStructured.{trees_once, free_once, security_once}
use Rattle.cases.proofs.Commons.{common_once}
use Rattle.cases.proofs.Zones.{zone_once}
use Rattle.cases.proofs.Faces.{faces_once}

module _ (profile : Profile) (content : Option (List ℕ)) (lines others : Lines) where
  -- cases 1 to 3, whatever the file is for
  first_three : (purpose : Purpose) (file : ℕ) → AreLinesFor purpose profile file content lines → AreLinesFor purpose profile file content others → Agree 3 1 lines others
  first_three Common file g k = (common_once profile content lines others g k).0
  first_three Zone file g k = (zone_once profile content lines others g k).0
  first_three Faces file g k = (faces_once profile content lines others g k).0
  first_three Trees file g k = trees_once profile file content lines others g k
  first_three Free file g k = free_once profile content lines others g k
  first_three Security file g k = (security_once profile content lines others g k).0

  -- the file's number where a case is of one file alone
  own : {file number : ℕ} → file ≡ number → AreFileLines profile file content lines → AreFileLines profile number content lines
  own e g = subst (λ f. AreFileLines profile f content lines) e g

  other : {file number : ℕ} → file ≡ number → AreFileLines profile file content others → AreFileLines profile number content others
  other e k = subst (λ f. AreFileLines profile f content others) e k

  -- and each line that the file has
  once : (file : ℕ) → AreFileLines profile file content lines → AreFileLines profile file content others → (case : ℕ) → HasLine case file
      → lines case ≡ others case
  once file g k case (inl h) = agree_at 3 1 lines others (first_three (purpose_of file) file g k) case h.0 (omega (arith, h.1))
  once file g k case (inr (inl h)) =
      let a = common_once profile content lines others (own h.2 g) (other h.2 k) in
      agree_at 5 4 lines others a.1 case h.0 (omega (arith, h.1))
  once file g k case (inr (inr (inl h))) =
      let a = zone_once profile content lines others (own h.2 g) (other h.2 k) in
      agree_at 12 9 lines others a.1 case h.0 (omega (arith, h.1))
  once file g k case (inr (inr (inr (inl h)))) =
      let a = faces_once profile content lines others (own h.2 g) (other h.2 k) in
      agree_at 3 21 lines others a.1 case h.0 (omega (arith, h.1))
  once file g k case (inr (inr (inr (inr (inl h))))) =
      let a = security_once profile content lines others (own h.2 g) (other h.2 k) in
      agree_at 1 24 lines others (ap (λ line. line ∷ []) a.1) case h.0 (omega (arith, h.1))
  once file g k case (inr (inr (inr (inr (inr h))))) = absurd h

pub one_verdict : OneVerdict
one_verdict profile file content lines others = once profile content lines others file
