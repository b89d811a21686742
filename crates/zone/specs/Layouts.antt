-- The three layouts of the zone, as data. Characters are counted from 0.
use Rattle.std.specs.Prelude.{ℕ, ◌-◌, ◌<◌, ◌≤◌, true, false, List, ◌++◌, take, drop, IfSome, Some, None}
use Rattle.card.specs.Profiles.{kind_of}
use Rattle.card.specs.declared.profile.Kind.{Kind}
use Rattle.card.specs.declared.profile.Kind.TheVariants.{Td1, Td2, Td3}
use Rattle.card.specs.declared.profile.Profile.{Profile}
use Rattle.zone.specs.declared.layout.Span.{Span}
use Rattle.zone.specs.declared.layout.Cover.{Cover}
use Rattle.zone.specs.declared.layout.Places.{Places}

-- from start on, before end
abbrev pub span : ℕ → ℕ → Span
span start end = record { start = start; end = end }

abbrev pub td1 : Places
td1 = record {
  len = 90;
  passport = false;
  code = span 0 2;
  issuer = span 2 5;
  name = span 60 90;
  number = span 5 14;
  nationality = span 45 48;
  birth = span 30 36;
  sex = 37;
  expiry = span 38 44;
  optional = None;
  cover = record { first = span 5 37; second = span 38 45; third = span 48 59 };
  composite = 59;
}

abbrev pub td2 : Places
td2 = record {
  len = 72;
  passport = false;
  code = span 0 2;
  issuer = span 2 5;
  name = span 5 36;
  number = span 36 45;
  nationality = span 46 49;
  birth = span 49 55;
  sex = 56;
  expiry = span 57 63;
  optional = None;
  cover = record { first = span 36 46; second = span 49 56; third = span 57 71 };
  composite = 71;
}

abbrev pub td3 : Places
td3 = record {
  len = 88;
  passport = true;
  code = span 0 2;
  issuer = span 2 5;
  name = span 5 44;
  number = span 44 53;
  nationality = span 54 57;
  birth = span 57 63;
  sex = 64;
  expiry = span 65 71;
  optional = Some (span 72 86);
  cover = record { first = span 44 54; second = span 57 64; third = span 65 87 };
  composite = 87;
}

-- the layout of a kind of zone, and that of a profile's kind
abbrev pub places_of : Kind → Places
places_of Td1 = td1
places_of Td2 = td2
places_of Td3 = td3

abbrev pub layout_of : Profile → Places
layout_of profile = places_of (kind_of profile)

-- the characters of a span
abbrev pub part : List ℕ → Span → List ℕ
part zone s = take (s.end - s.start) (drop s.start zone)

-- the characters that the composite covers, in rising order
abbrev pub covered : List ℕ → Cover → List ℕ
covered zone cover = part zone cover.first ++ (part zone cover.second ++ part zone cover.third)

-- a span lies in a zone of n characters
abbrev pub Within : ℕ → Span → Type 0
Within n s = (s.start ≤ s.end) × (s.end ≤ n)

-- a span lies in it together with the check digit right behind it
abbrev pub Checked : ℕ → Span → Type 0
Checked n s = (s.start ≤ s.end) × (s.end < n)

-- the covered characters follow one another, each counted once, before the composite, which is not among them
abbrev pub RisingCover : Cover → ℕ → Type 0
RisingCover cover composite =
    (cover.first.end ≤ cover.second.start)
    × (cover.second.end ≤ cover.third.start)
    × (cover.third.end ≤ composite)

-- the fields, their check digits, the covered characters and the composite lie in the zone, and the covered ones rise
pub record LawfulPlaces (p : Places) : Type 0 where
  pub code : Within p.len p.code
  pub issuer : Within p.len p.issuer
  pub name : Within p.len p.name
  pub number : Checked p.len p.number
  pub nationality : Within p.len p.nationality
  pub birth : Checked p.len p.birth
  pub sex : p.sex < p.len
  pub expiry : Checked p.len p.expiry
  pub optional : IfSome p.optional (Checked p.len)
  pub first : Within p.len p.cover.first
  pub second : Within p.len p.cover.second
  pub third : Within p.len p.cover.third
  pub composite : p.composite < p.len
  pub rising : RisingCover p.cover p.composite
