-- Records, and the cards that they write, byte by byte: one for each layout, one with each sort of part, and two whose
-- optional field is unused.
use Rattle.std.specs.Prelude.{ℕ, if◌then◌else◌, List, [], ◌∷◌, ◌++◌, Some, None, Option, codes, ◌==◌, replicate, slice_index_or}
use Rattle.card.specs.Cards.{Files}
use Rattle.card.specs.Profiles.{IsProfileOf}
use Rattle.card.specs.declared.profile.Profile.{Profile}
use Rattle.object.specs.Trees.{Trees, plain, nested, none, more}
use Rattle.record.specs.Faces.{Face}
use Rattle.record.specs.Records.{Record, WritesCard}
use Rattle.record.specs.Zones.{Fields, a_filler, a_zero}
use Rattle.record.specs.ZoneSamples.{td1_fields, td2_fields, td3_fields, unused_fields}

-- a face entry without optional features, whose block is the byte AA
abbrev pub sample_face : Face
sample_face = record {
  header_version = None;
  biometric_type = None;
  biometric_subtype = None;
  creation_date = None;
  validity_period = None;
  creator = None;
  block = 0xAA ∷ [];
}

-- DG1 and DG2 are declared, in this order; EF.SOD's object 30 holds one empty object 05
abbrev pub sample : Profile → Fields → Record
sample profile fields = record {
  profile = profile;
  tags = 0x61 ∷ 0x75 ∷ [];
  zone = fields;
  faces = sample_face ∷ [];
  groups = λ _. None;
  free = None;
  security = more (plain 0x05 []) none;
}

-- the card whose files are these, from EF.COM on
abbrev pub card_of : List (Option (List ℕ)) → Files
card_of files file = slice_index_or files file None

-- the files of the sample cards, which differ in DG1 alone
abbrev pub sample_files : List ℕ → Files
sample_files zone = card_of (
    Some (0x60 ∷ 0x14 ∷ 0x5F ∷ 0x01 ∷ 0x04 ∷ 0x30 ∷ 0x31 ∷ 0x30 ∷ 0x37
    ∷ 0x5F ∷ 0x36 ∷ 0x06 ∷ 0x30 ∷ 0x34 ∷ 0x30 ∷ 0x30 ∷ 0x30 ∷ 0x30 ∷ 0x5C ∷ 0x02 ∷ 0x61 ∷ 0x75 ∷ [])
    ∷ Some zone
    ∷ Some (0x75 ∷ 0x17 ∷ 0x7F ∷ 0x61 ∷ 0x14 ∷ 0x02 ∷ 0x01 ∷ 0x01 ∷ 0x7F ∷ 0x60 ∷ 0x0E
    ∷ 0xA1 ∷ 0x08 ∷ 0x87 ∷ 0x02 ∷ 0x01 ∷ 0x01 ∷ 0x88 ∷ 0x02 ∷ 0x00 ∷ 0x08
    ∷ 0x5F ∷ 0x2E ∷ 0x01 ∷ 0xAA ∷ [])
    ∷ (replicate 14 None ++ Some (0x77 ∷ 0x04 ∷ 0x30 ∷ 0x02 ∷ 0x05 ∷ 0x00 ∷ []) ∷ []))

-- DG1 of TD1, TD2 and TD3 with a zone
abbrev pub td1_file : List ℕ → List ℕ
td1_file zone = 0x61 ∷ 0x5D ∷ 0x5F ∷ 0x1F ∷ 0x5A ∷ zone

abbrev pub td2_file : List ℕ → List ℕ
td2_file zone = 0x61 ∷ 0x4B ∷ 0x5F ∷ 0x1F ∷ 0x48 ∷ zone

abbrev pub td3_file : List ℕ → List ℕ
td3_file zone = 0x61 ∷ 0x5B ∷ 0x5F ∷ 0x1F ∷ 0x58 ∷ zone

-- the zones that ICAO Doc 9303 prints, line by line
abbrev pub td1_zone : List ℕ
td1_zone =
    codes "I<UTOD231458907<<<<<<<<<<<<<<<" ++ (codes "7408122F1204159UTO<<<<<<<<<<<6"
    ++ codes "ERIKSSON<<ANNA<MARIA<<<<<<<<<<")

abbrev pub td2_zone : List ℕ
td2_zone =
    codes "I<UTOERIKSSON<<ANNA<MARIA<<<<<<<<<<<" ++ codes "D231458907UTO7408122F1204159<<<<<<<6"

abbrev pub first_line : List ℕ
first_line = codes "P<UTOERIKSSON<<ANNA<MARIA<<<<<<<<<<<<<<<<<<<"

abbrev pub td3_zone : List ℕ
td3_zone = first_line ++ codes "L898902C36UTO7408122F1204159ZE184226B<<<<<10"

-- the last with an unused optional field, behind which a filler or 0 stands; the composite is 8 in both
abbrev pub filler_zone : List ℕ
filler_zone = first_line ++ codes "L898902C36UTO7408122F1204159<<<<<<<<<<<<<<<8"

abbrev pub zero_zone : List ℕ
zero_zone = first_line ++ codes "L898902C36UTO7408122F1204159<<<<<<<<<<<<<<08"

-- a face entry with four optional features, whose block has three bytes
abbrev pub full_face : Face
full_face = record {
  header_version = Some (0x01 ∷ 0x00 ∷ []);
  biometric_type = Some (0x02 ∷ []);
  biometric_subtype = None;
  creation_date = Some (0x20 ∷ 0x26 ∷ 0x01 ∷ 0x02 ∷ 0x03 ∷ 0x04 ∷ 0x05 ∷ []);
  validity_period = None;
  creator = Some (0x00 ∷ 0x0A ∷ []);
  block = 0xFF ∷ 0xD8 ∷ 0xFF ∷ [];
}

-- an object 30 that holds an object 30 and an object 03, of which the first holds an object 02
abbrev pub full_trees : Trees
full_trees =
    more (nested 0x30 (more (nested 0x30 (more (plain 0x02 (0x05 ∷ [])) none))
    (more (plain 0x03 (0x00 ∷ [])) none))) none

-- DG1, DG2, DG13 and DG15 are declared, in an order of their own; there are two face entries
abbrev pub full_sample : Profile → Record
full_sample profile = record {
  profile = profile;
  tags = 0x75 ∷ 0x6F ∷ 0x61 ∷ 0x6D ∷ [];
  zone = td3_fields;
  faces = full_face ∷ sample_face ∷ [];
  groups = λ file. if file == 15 then Some full_trees else None;
  free = Some (0x00 ∷ 0xFF ∷ 0x00 ∷ []);
  security = more (plain 0x05 []) none;
}

-- its card
abbrev pub full_files : Files
full_files = card_of (
    Some (0x60 ∷ 0x16 ∷ 0x5F ∷ 0x01 ∷ 0x04 ∷ 0x30 ∷ 0x31 ∷ 0x30 ∷ 0x37
    ∷ 0x5F ∷ 0x36 ∷ 0x06 ∷ 0x30 ∷ 0x34 ∷ 0x30 ∷ 0x30 ∷ 0x30 ∷ 0x30
    ∷ 0x5C ∷ 0x04 ∷ 0x75 ∷ 0x6F ∷ 0x61 ∷ 0x6D ∷ [])
    ∷ Some (td3_file td3_zone)
    ∷ Some (0x75 ∷ 0x3E ∷ 0x7F ∷ 0x61 ∷ 0x3B ∷ 0x02 ∷ 0x01 ∷ 0x02 ∷ 0x7F ∷ 0x60 ∷ 0x24
    ∷ 0xA1 ∷ 0x1C ∷ 0x80 ∷ 0x02 ∷ 0x01 ∷ 0x00 ∷ 0x81 ∷ 0x01 ∷ 0x02
    ∷ 0x83 ∷ 0x07 ∷ 0x20 ∷ 0x26 ∷ 0x01 ∷ 0x02 ∷ 0x03 ∷ 0x04 ∷ 0x05 ∷ 0x86 ∷ 0x02 ∷ 0x00 ∷ 0x0A
    ∷ 0x87 ∷ 0x02 ∷ 0x01 ∷ 0x01 ∷ 0x88 ∷ 0x02 ∷ 0x00 ∷ 0x08
    ∷ 0x5F ∷ 0x2E ∷ 0x03 ∷ 0xFF ∷ 0xD8 ∷ 0xFF
    ∷ 0x7F ∷ 0x60 ∷ 0x0E ∷ 0xA1 ∷ 0x08 ∷ 0x87 ∷ 0x02 ∷ 0x01 ∷ 0x01 ∷ 0x88 ∷ 0x02 ∷ 0x00 ∷ 0x08
    ∷ 0x5F ∷ 0x2E ∷ 0x01 ∷ 0xAA ∷ [])
    ∷ (replicate 10 None
    ++ Some (0x6D ∷ 0x03 ∷ 0x00 ∷ 0xFF ∷ 0x00 ∷ [])
    ∷ None
    ∷ Some (0x6F ∷ 0x0A ∷ 0x30 ∷ 0x08 ∷ 0x30 ∷ 0x03 ∷ 0x02 ∷ 0x01 ∷ 0x05 ∷ 0x03 ∷ 0x01 ∷ 0x00 ∷ [])
    ∷ None
    ∷ Some (0x77 ∷ 0x04 ∷ 0x30 ∷ 0x02 ∷ 0x05 ∷ 0x00 ∷ []) ∷ []))

-- there is a profile of this kind and set, and the record with this profile writes the card
pub record WritesSample (kind set : ℕ) (of : Profile → Record) (files : Files) : Type 0 where
  pub profile : Profile
  pub its_numbers : IsProfileOf kind set profile
  pub writes : WritesCard (of profile) files

-- the sample with these fields, with DG1 and DG2 declared, writes the sample card with this DG1
abbrev pub WritesPlain : ℕ → Fields → List ℕ → Type 0
WritesPlain kind fields file =
    WritesSample kind 0x0003 (λ profile. sample profile fields) (sample_files file)

-- each record writes its card
pub record SampleRecords : Type 0 where
  pub td1 : WritesPlain 1 td1_fields (td1_file td1_zone)
  pub td2 : WritesPlain 2 td2_fields (td2_file td2_zone)
  pub td3 : WritesPlain 3 td3_fields (td3_file td3_zone)
  pub full : WritesSample 3 0x5003 full_sample full_files
  pub filler_told : WritesPlain 3 (unused_fields a_filler) (td3_file filler_zone)
  pub zero_told : WritesPlain 3 (unused_fields a_zero) (td3_file zero_zone)
