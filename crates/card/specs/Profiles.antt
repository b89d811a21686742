-- Profiles: their kind of zone, and which files one declares and requires. A profile goes whole from place to place; these
-- words are all that is asked of one.
use Rattle.std.specs.Prelude.{◌≡◌, ℕ, ◌-◌, Bool, ◌&&◌, ◌||◌, ◌==◌, nat_le, if◌then◌else◌}
use Rattle.card.specs.Sets.{has}
use Rattle.card.specs.ProfileNumbers.{LawfulProfile}
use Rattle.card.specs.declared.profile.Kind.{Kind}
use Rattle.card.specs.declared.profile.Kind.TheVariants.{Td1, Td2, Td3}
use Rattle.card.specs.declared.profile.Profile.{Profile}

-- the number of its kind of zone, and its declared set, in which DG1 has the lowest bit
abbrev pub kind_number : Profile → ℕ
kind_number profile = profile.kind

abbrev pub declared_set : Profile → ℕ
declared_set profile = profile.declared

-- the profile of a kind and a declared set, which are lawful
abbrev pub IsProfileOf : ℕ → ℕ → Profile → Type 0
IsProfileOf kind declared profile =
    LawfulProfile kind declared × (kind_number profile ≡ kind) × (declared_set profile ≡ declared)

-- the kind of zone by its name: 1 is TD1, 2 is TD2, 3 is TD3
abbrev pub kind_of : Profile → Kind
kind_of profile = if profile.kind == 1 then Td1 else (if profile.kind == 2 then Td2 else Td3)

-- whether it declares the data group of this file number, 1 to 16
abbrev pub declares : Profile → ℕ → Bool
declares profile file = nat_le 1 file && (nat_le file 16 && has profile.declared (file - 1))

-- the files that a card must have: EF.COM, EF.SOD and each declared data group
abbrev pub required : Profile → ℕ → Bool
required profile file = file == 0 || (file == 17 || declares profile file)
