-- The fields of the sample zones are lawful, by computed tests.
use Rattle.std.proofs.Common.{◌≡◌, ℕ, zero, suc, ◌+◌, ◌-◌, ◌<◌, Bool, true, not, ◌&&◌, ◌||◌, eqb, ltb, leb, List, length, get_or, codes, sym, refl, ◌∙◌, arith, rules}
use Rattle.std.proofs.lemmas.Bool.{and_parts, eqb-true}
use Rattle.std.proofs.lemmas.Bool.Decides.{nat_tests}
use Rattle.card.specs.declared.profile.Kind.{Kind}
use Rattle.card.specs.declared.profile.Kind.TheVariants.{Td1, Td2, Td3}
use Rattle.text.specs.Characters.{filler, PlainCharacter, ZoneCharacter}
use Rattle.text.specs.Dates.{Date}
use Rattle.text.specs.Names.{Pair, LetterAt, Name, AllFillers}
use Rattle.zone.specs.Fields.{ZoneCharacters, Code, State}
use Rattle.zone.specs.Layouts.{places_of}
use Rattle.record.specs.Zones.{Field, code, issuer, name, number, nationality, birth, sex, expiry, first_optional, second_optional}
use Rattle.record.specs.Zones.{UnusedDigit, untold, a_filler, a_zero, Fields, characters_of, width, RightlyTold, LawfulFields}
use Rattle.record.specs.ZoneSamples.{eriksson, td1_fields, td2_fields, td3_fields, unused_fields}
use Rattle.record.proofs.Computed.{below, below_true}

-- tests of characters
abbrev is_plain : ℕ → Bool
is_plain c = leb 65 c && leb c 90 || eqb c filler

abbrev is_in_zone : ℕ → Bool
is_in_zone c = is_plain c || leb 48 c && leb c 57

plain : (c : ℕ) → is_plain c ≡ true → PlainCharacter c
plain c h = grind (arith, nat_tests)

in_zone : (c : ℕ) → is_in_zone c ≡ true → ZoneCharacter c
in_zone c h = grind (arith, nat_tests)

abbrev plain_test : List ℕ → Bool
plain_test xs = below (length xs) (λ k. is_plain (get_or xs k 0))

abbrev zone_test : List ℕ → Bool
zone_test xs = below (length xs) (λ k. is_in_zone (get_or xs k 0))

all_plain : (xs : List ℕ) → plain_test xs ≡ true → (k : ℕ) → k < length xs → PlainCharacter (get_or xs k 0)
all_plain xs h k l = plain (get_or xs k 0) (below_true (length xs) (λ j. is_plain (get_or xs j 0)) h k l)

all_in_zone : (xs : List ℕ) → zone_test xs ≡ true → ZoneCharacters xs
all_in_zone xs h k l = in_zone (get_or xs k 0) (below_true (length xs) (λ j. is_in_zone (get_or xs j 0)) h k l)

-- fillers stand from `end` on, and before it two fillers stand together only at `at`
abbrev ends_test : List ℕ → ℕ → ℕ → Bool
ends_test xs end k = ltb k end || eqb (get_or xs k 0) filler

abbrev pair_test : List ℕ → ℕ → ℕ → Bool
pair_test xs at j = not (eqb (get_or xs j 0) filler && eqb (get_or xs (j + 1) 0) filler) || eqb j at

abbrev name_test : List ℕ → ℕ → ℕ → Bool
name_test xs end at = plain_test xs && (below (length xs) (ends_test xs end) && below (end - 1) (pair_test xs at))

is_name : (xs : List ℕ) (end at : ℕ) → LetterAt xs 0 → name_test xs end at ≡ true → Name xs
is_name xs end at l h =
    let p = and_parts (plain_test xs) (below (length xs) (ends_test xs end) && below (end - 1) (pair_test xs at)) h in
    let q = and_parts (below (length xs) (ends_test xs end)) (below (end - 1) (pair_test xs at)) p.1 in
    let one : (j m : ℕ) → Pair xs m j → LetterAt xs m → j ≡ at = λ j m a b.
    let e = below_true (length xs) (ends_test xs end) q.0 m b.0 in
    let before : m < end = grind (arith, nat_tests, b.1) in
    let t = below_true (end - 1) (pair_test xs at) q.1 j (omega (arith, a.0)) in
    grind (arith, nat_tests, a.1, a.2) in
    record {
      plain = all_plain xs p.0;
      first = l;
      alone = λ j k m n a b c d. one j m a b ∙ sym (one k n c d);
    }

utopia : State (codes "UTO")
utopia = record { three = refl; first = search rules; plain = all_plain (codes "UTO") refl; then_fillers = no_filler }
  where
    no_filler : (j k : ℕ) → j < k → k < 3 → get_or (codes "UTO") j 0 ≡ filler → get_or (codes "UTO") k 0 ≡ filler
    no_filler zero k a b e = absurd (omega arith)
    no_filler (suc zero) k a b e = absurd (omega arith)
    no_filler (suc (suc j)) k a b e = absurd (omega arith)

born : Date (codes "740812")
born = search rules

expires : Date (codes "120415")
expires = search rules

unused : AllFillers (codes "<<<<<<<<<<<<<<")
unused k l = eqb-true (get_or (codes "<<<<<<<<<<<<<<") k 0) filler (below_true 14 (λ j. eqb (get_or (codes "<<<<<<<<<<<<<<") j 0) filler) refl k l)

-- a field has its width, and its characters are those of a zone
abbrev field_test : Kind → Fields → Field → Bool
field_test kind fields f = eqb (length (characters_of fields f)) (width kind f) && zone_test (characters_of fields f)

abbrev Tested : Kind → Fields → Field → Type 0
Tested kind fields f = field_test kind fields f ≡ true

each : (P : Field → Type 0) → P code → P issuer → P name → P number → P nationality → P birth → P sex → P expiry → P first_optional → P second_optional
    → (f : Field) → P f
each P a b c d e f g h i j code = a
each P a b c d e f g h i j issuer = b
each P a b c d e f g h i j name = c
each P a b c d e f g h i j number = d
each P a b c d e f g h i j nationality = e
each P a b c d e f g h i j birth = f
each P a b c d e f g h i j sex = g
each P a b c d e f g h i j expiry = h
each P a b c d e f g h i j first_optional = i
each P a b c d e f g h i j second_optional = j

-- the fields of a sample zone
abbrev specimen : List ℕ → List ℕ → List ℕ → List ℕ → List ℕ → UnusedDigit → Fields
specimen c n d first second told = record (eriksson c n d first second) { unused_digit = told }

-- they are lawful where those that differ are
lawful : (kind : Kind) (c n d first second : List ℕ) (said : UnusedDigit) → ((f : Field) → Tested kind (specimen c n d first second said) f)
    → Code (places_of kind).passport c → LetterAt n 0 → name_test n 20 8 ≡ true → (get_or d 0 0 ≡ filler → ⊥)
    → RightlyTold (places_of kind).optional said first → LawfulFields kind (specimen c n d first second said)
lawful kind c n d first second said t coded starts named numbered told =
    let of = characters_of (specimen c n d first second said) in
    let parts : (f : Field) → (eqb (length (of f)) (width kind f) ≡ true) × (zone_test (of f) ≡ true)
    = λ f. and_parts (eqb (length (of f)) (width kind f)) (zone_test (of f)) (t f) in
    record {
      widths = λ f. eqb-true (length (of f)) (width kind f) (parts f).0;
      characters = λ f. all_in_zone (of f) (parts f).1;
      code = coded;
      issuer = utopia;
      name = is_name n 20 8 starts named;
      number = numbered;
      nationality = utopia;
      birth = born;
      sex = search rules;
      expiry = expires;
      unused_digit = told;
    }

pub td1_lawful : LawfulFields Td1 td1_fields
td1_lawful = lawful Td1 _ _ _ _ _ untold (each (Tested Td1 td1_fields) refl refl refl refl refl refl refl refl refl refl)
    (search rules) (search rules) refl (λ e. omega arith) refl

pub td2_lawful : LawfulFields Td2 td2_fields
td2_lawful = lawful Td2 _ _ _ _ _ untold (each (Tested Td2 td2_fields) refl refl refl refl refl refl refl refl refl refl)
    (search rules) (search rules) refl (λ e. omega arith) refl

pub td3_lawful : LawfulFields Td3 td3_fields
td3_lawful = lawful Td3 _ _ _ _ _ untold (each (Tested Td3 td3_fields) refl refl refl refl refl refl refl refl refl refl)
    (search rules) (search rules) refl (λ e. omega arith) (λ h. let z = h 0 (omega arith) in omega arith)

-- the two with an unused optional field
pub filler_lawful : LawfulFields Td3 (unused_fields a_filler)
filler_lawful = lawful Td3 _ _ _ _ _ a_filler (each (Tested Td3 (unused_fields a_filler)) refl refl refl refl refl refl refl refl refl refl)
    (search rules) (search rules) refl (λ e. omega arith) unused

pub zero_lawful : LawfulFields Td3 (unused_fields a_zero)
zero_lawful = lawful Td3 _ _ _ _ _ a_zero (each (Tested Td3 (unused_fields a_zero)) refl refl refl refl refl refl refl refl refl refl)
    (search rules) (search rules) refl (λ e. omega arith) unused
