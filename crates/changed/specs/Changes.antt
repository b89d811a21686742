-- A card's files with changes laid on: a file that some change removes is absent, and any other has its settings laid on
-- in turn. What one more change does to the files stands in `Calls`, in the words of the files alone.
use Rattle.std.specs.Prelude.{◌≡◌, ℕ, ◌-◌, ◌<◌, ◌≤◌, Bool, true, false, ◌&&◌, if◌then◌else◌, List, [], ◌∷◌, ◌++◌, length, Some, None, Ok, Err, Option, Result, ◌==◌, nat_le, slice_set, fold}
use Rattle.std.specs.List.{list_any}
use Rattle.std.proofs.Common.{length-set, refl, sym, subst, ◌∙◌}
use Rattle.std.specs.Option.{option_map}
use Rattle.card.specs.Cards.{Files, Short}
use Rattle.card.specs.Refusals.{Unless, no_other}
use Rattle.changed.specs.Numbers.{of_change}
use Rattle.changed.specs.declared.change.Change.{Change}
use Rattle.changed.specs.declared.change.Change.TheVariants.{Remove, Set}
use Rattle.changed.specs.declared.change.ChangeRefusal.{ChangeRefusal}

-- whether a change removes a file, and whether one of several does
abbrev pub removes : Change → ℕ → Bool
removes (Remove gone) file = gone == file
removes (Set other place byte) file = false

abbrev pub removed : List Change → ℕ → Bool
removed cs file = list_any (λ c. removes c file) cs

-- a change laid on bytes of a file that begin at a place: a setting before them, past them or of another file does nothing
abbrev pub with_setting : Change → ℕ → ℕ → List ℕ → List ℕ
with_setting (Remove gone) file from bytes = bytes
with_setting (Set other place byte) file from bytes =
    if other == file && nat_le from place then slice_set bytes (place - from) byte else bytes

abbrev pub with_settings : List Change → ℕ → ℕ → List ℕ → List ℕ
with_settings cs file from bytes = fold (λ part c. with_setting c file from part) bytes cs

-- the files with the changes laid on
abbrev pub laid_on : List Change → Files → Files
laid_on cs files file =
    if removed cs file then None else option_map (with_settings cs file 0) (files file)

-- what a call that adds a change answers
abbrev pub ChangeAnswer : Type 0
ChangeAnswer = Result (Unit {0}) ChangeRefusal

-- the changes before and after one more, of which a source takes sixteen
abbrev pub AddsChange : Change → List Change → List Change → ChangeAnswer → Type 0
AddsChange c cs ds (Ok u) = (length cs < 16) × (ds ≡ cs ++ (c ∷ []))
AddsChange c cs ds (Err e) = Unless 9 (length cs < 16) no_other (of_change e)

-- changes keep a file's length
setting_length : (b d : Bool) (bytes : List ℕ) (at byte : ℕ)
    → length (if b && d then slice_set bytes at byte else bytes) ≡ length bytes
setting_length true true bytes at byte = length-set bytes at byte
setting_length true false bytes at byte = refl
setting_length false d bytes at byte = refl

one_length : (c : Change) (file from : ℕ) (bytes : List ℕ)
    → length (with_setting c file from bytes) ≡ length bytes
one_length (Remove gone) file from bytes = refl
one_length (Set other place byte) file from bytes =
    setting_length (other == file) (nat_le from place) bytes (place - from) byte

pub all_length : (cs : List Change) (file from : ℕ) (bytes : List ℕ)
    → length (with_settings cs file from bytes) ≡ length bytes
all_length [] file from bytes = refl
all_length (c ∷ cs) file from bytes =
    all_length cs file from (with_setting c file from bytes) ∙ one_length c file from bytes

short_unless : (b : Bool) (f : Option (List ℕ)) → Short f → Short (if b then None else f)
short_unless true f h = tt
short_unless false f h = h

mapped_short : (cs : List Change) (file : ℕ) (f : Option (List ℕ)) → Short f
    → Short (option_map (with_settings cs file 0) f)
mapped_short cs file None h = tt
mapped_short cs file (Some bytes) h =
    subst (λ n. n ≤ 32767) (sym (all_length cs file 0 bytes)) h

pub laid_on_short : (cs : List Change) (files : Files) (file : ℕ) → Short (files file)
    → Short (laid_on cs files file)
laid_on_short cs files file h =
    short_unless (removed cs file) _ (mapped_short cs file (files file) h)
