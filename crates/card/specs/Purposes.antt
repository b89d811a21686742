-- What each file of a card is for, by its number. This settles how the file is judged, and what a record writes into it.
use Rattle.std.specs.Prelude.{ℕ, List, [], ◌∷◌, slice_index_or}
use Rattle.card.specs.declared.files.Purpose.{Purpose}
use Rattle.card.specs.declared.files.Purpose.TheVariants.{Common, Zone, Faces, Trees, Free, Security}

-- the purposes of the files 0 to 17: EF.COM, DG1 to DG16 and EF.SOD
abbrev pub purposes : List Purpose
purposes =
    Common ∷ Zone ∷ Faces ∷ Trees ∷ Trees ∷ Trees ∷ Trees ∷ Trees ∷ Trees
    ∷ Trees ∷ Trees ∷ Trees ∷ Trees ∷ Free ∷ Trees ∷ Trees ∷ Trees ∷ Security ∷ []

-- the purpose of a file
abbrev pub purpose_of : ℕ → Purpose
purpose_of file = slice_index_or purposes file Trees
