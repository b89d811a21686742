-- The parts of a record that are given as they are wanted, and the files that they write.
use Rattle.std.proofs.Common.{◌≡◌, ℕ, ◌≤◌, Bool, true, false, List, length, Some, None, Option, sym, refl, ap, subst}
use Rattle.std.specs.Option.{option_map}
use Rattle.card.specs.Cards.{Short}
use Rattle.record.specs.Laws.{Fits, OnePart}
use Rattle.record.specs.Parts.{template, Form, Writes}
use Rattle.record.specs.Records.{Given}

-- the part of a file that is always there
pub the_part : {Part : Type 0} {Wrote : Part → List ℕ → Type 0} (content : Option (List ℕ)) → Fits Wrote true content
    → (part : Part) × (bytes : List ℕ) × (content ≡ Some bytes) × Wrote part bytes
the_part None f = absurd f
the_part (Some bytes) f = (f.0, bytes, refl, f.1)

-- the part that writes a file, where there is one
pub part_of : {Part : Type 0} (form : Form Part) (wanted : Bool) (content : Option (List ℕ)) → Fits (Writes form) wanted content → Option Part
part_of form true None f = absurd f
part_of form false None f = None
part_of form true (Some bytes) f = Some f.0
part_of form false (Some bytes) f = absurd f

-- what a part writes, where there is one
abbrev pub write_part : {Part : Type 0} → Form Part → Option Part → Option (List ℕ)
write_part form part = option_map (λ p. template form.file (form.value p)) part

module _ {Part : Type 0} (form : Form Part) where
  -- the part of a file that fits is given as it is wanted, and it writes the file
  pub part_given : (wanted : Bool) (content : Option (List ℕ)) (f : Fits (Writes form) wanted content) → Given wanted form.lawful (part_of form wanted content f)
  unfolding part_of
  part_given true None f = absurd f
  part_given false None f = tt
  part_given true (Some bytes) f = f.1.lawful
  part_given false (Some bytes) f = absurd f

  pub part_writes : (wanted : Bool) (content : Option (List ℕ)) (f : Fits (Writes form) wanted content) → write_part form (part_of form wanted content f) ≡ content
  unfolding part_of
  part_writes true None f = absurd f
  part_writes false None f = refl
  part_writes true (Some bytes) f = ap Some f.1.written
  part_writes false (Some bytes) f = absurd f

  -- and a part that is given as it is wanted writes a file that fits
  pub given_fits : (wanted : Bool) (part : Option Part) → Given wanted form.lawful part → Short (write_part form part)
      → Fits (Writes form) wanted (write_part form part)
  given_fits true None g s = absurd g
  given_fits true (Some part) g s = (part, record { lawful = g; fits = s; written = refl })
  given_fits false None g s = tt
  given_fits false (Some part) g s = absurd g

  -- two that write the same, where they are wanted, are the same
  pub given_same : (wanted : Bool) (part other : Option Part) → Given wanted form.lawful part → Given wanted form.lawful other
      → (wanted ≡ true → OnePart (Writes form) × Short (write_part form part) × (write_part form part ≡ write_part form other)) → part ≡ other
  given_same true None other g k w = absurd g
  given_same true (Some part) None g k w = absurd k
  given_same true (Some part) (Some other) g k w =
      let h = w refl in
      let e = h.2 in
      let d : template form.file (form.value part) ≡ template form.file (form.value other) = cc in
      ap Some (h.0 part other (template form.file (form.value part)) (record { lawful = g; fits = h.1; written = refl })
      (record { lawful = k; fits = subst (λ z. length z ≤ 32767) d h.1; written = sym d }))
  given_same false None None g k w = refl
  given_same false None (Some other) g k w = absurd k
  given_same false (Some part) other g k w = absurd g
