-- A profile is its kind and its declared set, and nothing else.
use Rattle.std.proofs.Common.{◌≡◌, ℕ, ◌<◌, ap, ◌∙◌, subst}
use Rattle.std.specs.Coded.{le_prop}
use Rattle.std.proofs.Props.{props}
use Rattle.card.specs.ProfileNumbers.{LawfulProfile}
use Rattle.card.specs.Profiles.{kind_number, declared_set}
use Rattle.card.specs.declared.profile.Profile.{Profile}

lawful_once : (kind declared : ℕ) → IsProp (LawfulProfile kind declared)
lawful_once kind declared = hlevel props

module _ (p : Profile) where
  of_numbers : (kind declared : ℕ) (lawful : LawfulProfile kind declared) (small : declared < 65536) → p.kind ≡ kind → p.declared ≡ declared
      → ◌≡◌ {A = Profile} p (record { kind = kind; declared = declared; lawful = lawful; sixteen_bits = small })
  of_numbers kind declared lawful small k d =
      subst (λ n. (l : LawfulProfile n declared) → ◌≡◌ {A = Profile} p (record { kind = n; declared = declared; lawful = l; sixteen_bits = small })) k
      (λ l. subst (λ n. (l : LawfulProfile p.kind n) (s : n < 65536) → ◌≡◌ {A = Profile} p (record { kind = p.kind; declared = n; lawful = l; sixteen_bits = s })) d
      (λ l s.
      ap (λ (z : LawfulProfile p.kind p.declared). record { kind = p.kind; declared = p.declared; lawful = z; sixteen_bits = p.sixteen_bits }) (lawful_once p.kind p.declared p.lawful l)
      ∙ ap (λ (z : p.declared < 65536). record { kind = p.kind; declared = p.declared; lawful = l; sixteen_bits = z }) (le_prop p.sixteen_bits s))
      l small)
      lawful

  pub same_profile : (q : Profile) → kind_number p ≡ kind_number q → declared_set p ≡ declared_set q → p ≡ q
  same_profile q k d = of_numbers q.kind q.declared q.lawful q.sixteen_bits k d
