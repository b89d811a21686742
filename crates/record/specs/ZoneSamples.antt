-- The fields of the zones that ICAO Doc 9303 prints for TD1, TD2 and TD3, and of the last with an unused optional field.
use Rattle.std.specs.Prelude.{ℕ, List, codes}
use Rattle.record.specs.Zones.{UnusedDigit, Fields, untold}

-- the fields of Anna Maria Eriksson of Utopia; the code, the name with its fillers, the number and the optional fields differ
abbrev pub eriksson : List ℕ → List ℕ → List ℕ → List ℕ → List ℕ → Fields
eriksson code name number first_optional second_optional = record {
  code = code;
  issuer = codes "UTO";
  name = name;
  number = number;
  nationality = codes "UTO";
  birth = codes "740812";
  sex = codes "F";
  expiry = codes "120415";
  first_optional = first_optional;
  second_optional = second_optional;
  unused_digit = untold;
}

-- the printed card of three lines
abbrev pub td1_fields : Fields
td1_fields =
    eriksson (codes "I<") (codes "ERIKSSON<<ANNA<MARIA<<<<<<<<<<") (codes "D23145890")
    (codes "<<<<<<<<<<<<<<<") (codes "<<<<<<<<<<<")

-- the printed card of two lines
abbrev pub td2_fields : Fields
td2_fields =
    eriksson (codes "I<") (codes "ERIKSSON<<ANNA<MARIA<<<<<<<<<<<") (codes "D23145890")
    (codes "<<<<<<<") (codes "")

-- the printed passport
abbrev pub td3_fields : Fields
td3_fields =
    eriksson (codes "P<") (codes "ERIKSSON<<ANNA<MARIA<<<<<<<<<<<<<<<<<<<") (codes "L898902C3")
    (codes "ZE184226B<<<<<") (codes "")

-- the printed passport, but for an optional field that is all fillers, and what is said of its digit
abbrev pub unused_fields : UnusedDigit → Fields
unused_fields told =
    record td3_fields { first_optional = codes "<<<<<<<<<<<<<<"; unused_digit = told }
