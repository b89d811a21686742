-- Sets of small numbers, written as one number: bit f is set exactly if f is a member.
use Rattle.std.specs.Prelude.{ℕ, ◌/◌, ◌%◌, ◌^◌, Bool, ◌==◌}

abbrev pub has : ℕ → ℕ → Bool
has n f = n / 2 ^ f % 2 == 1
