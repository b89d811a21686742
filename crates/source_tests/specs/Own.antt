-- What a source of one's own means: a definition for each of the four ghost members of the trait `Source`.
use Rattle.std.specs.Prelude.{◌≡◌, ℕ, ◌-◌, Bool, true, false, if◌then◌else◌, Some, None, ◌==◌}
use Rattle.card.specs.Cards.{Files, Short}
use Rattle.source.specs.Reads.{Request, Answer}
use Rattle.image.specs.Counts.{Tells}
use Rattle.source_tests.specs.declared.own.OwnCard.{OwnCard}

-- `files`: EF.SOD, and no others
abbrev pub own_files : OwnCard → Files
own_files s file = if file == 17 then Some s.security.now else None

-- `lost`: no read is left
abbrev pub own_lost : OwnCard → Bool
own_lost s = s.reads == 0

-- `bounded`: EF.SOD is not too long by the invariant of the type, and an absent file never is
pub own_short : (s : OwnCard) (file : ℕ) → Short (own_files s file)
own_short s file =
    elim (file == 17) as (λ b. Short (if b then Some s.security.now else None))
    [ true ↦ s.short | false ↦ tt ]

-- `outcomes`: a read takes one of the reads that are left, and changes nothing else. It is refused exactly if none is
-- left, and else brings all that is wanted and there.
abbrev pub OwnReads : OwnCard → Request → Answer → OwnCard → Type 0
OwnReads s asked answer t =
    (t.security ≡ s.security) × (t.reads ≡ s.reads - 1)
    × Tells (own_files s asked.file) asked.place asked.wanted (own_lost s) answer
