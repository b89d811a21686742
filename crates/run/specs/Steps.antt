-- The history that a list of steps tells, from what they were before and after.
use Rattle.std.specs.Prelude.{◌≡◌, ℕ, List, [], ◌∷◌, vec_items}
use Rattle.run.specs.Histories.{Event, judging, asking, closing}
use Rattle.run.specs.declared.promise.Step.{Step}
use Rattle.run.specs.declared.promise.Step.TheVariants.{Judge, Ask, Close}

-- a judge's buffer; the other calls have none
abbrev pub buffer : Step → List ℕ
buffer (Judge file bytes answer) = vec_items bytes
buffer (Ask case file answer) = []
buffer (Close answer) = []

-- what a step tells, from the step before and after it was made
abbrev pub event : Step → Step → Event
event before (Judge file bytes answer) = judging file (buffer before) (vec_items bytes) answer
event before (Ask case file answer) = asking case file answer
event before (Close answer) = closing answer

abbrev pub history : List Step → List Step → List Event
history [] after = []
history (step ∷ before) [] = []
history (step ∷ before) (step' ∷ after) = event step step' ∷ history before after

-- the same call, whatever its answer and its buffer
abbrev pub SameCall : Step → Step → Type 0
SameCall (Judge file bytes answer) (Judge file' bytes' answer') = file' ≡ file
SameCall (Judge file bytes answer) (Ask case' file' answer') = ⊥
SameCall (Judge file bytes answer) (Close answer') = ⊥
SameCall (Ask case file answer) (Judge file' bytes' answer') = ⊥
SameCall (Ask case file answer) (Ask case' file' answer') = (case' ≡ case) × (file' ≡ file)
SameCall (Ask case file answer) (Close answer') = ⊥
SameCall (Close answer) (Judge file' bytes' answer') = ⊥
SameCall (Close answer) (Ask case' file' answer') = ⊥
SameCall (Close answer) (Close answer') = Unit {0}

-- the same calls in the same order
abbrev pub SameCalls : List Step → List Step → Type 0
SameCalls [] [] = Unit {0}
SameCalls [] (step' ∷ after) = ⊥
SameCalls (step ∷ before) [] = ⊥
SameCalls (step ∷ before) (step' ∷ after) = SameCall step step' × SameCalls before after
