-- Dates: six digits YYMMDD.
use Rattle.std.specs.Prelude.{◌≡◌, ℕ, ◌+◌, ◌-◌, ◌*◌, ◌%◌, ◌<◌, ◌≤◌, ◌||◌, if◌then◌else◌, List, length, ◌==◌, slice_index}
use Rattle.text.specs.Characters.{Digit}

-- two characters are digits, and the number that two digits write
abbrev pub AreDigits : ℕ → ℕ → Type 0
AreDigits tens ones = Digit tens × Digit ones

abbrev pub two_digits : ℕ → ℕ → ℕ
two_digits tens ones = (tens - 48) * 10 + (ones - 48)

-- how many days a month has: February has 29 in the years that 4 divides, 00 included, and otherwise 28
abbrev pub days_in_month : ℕ → ℕ → ℕ
days_in_month year month =
    if month == 2 then (if year % 4 == 0 then 29 else 28)
    else (if month == 4 || month == 6 || month == 9 || month == 11 then 30 else 31)

-- the number that the two characters from k on write
abbrev pub number_at : List ℕ → ℕ → ℕ
number_at field k = two_digits (slice_index field k) (slice_index field (k + 1))

-- the year, the month and the day that a date writes
abbrev pub year_of : List ℕ → ℕ
year_of field = number_at field 0

abbrev pub month_of : List ℕ → ℕ
month_of field = number_at field 2

abbrev pub day_of : List ℕ → ℕ
day_of field = number_at field 4

-- six digits: the month is 01 to 12, the day is 01 to the last day of that month
pub record Date (field : List ℕ) : Type 0 where
  pub six : length field ≡ 6
  pub digits : (k : ℕ) → k < 6 → Digit (slice_index field k)
  pub month : (1 ≤ month_of field) × (month_of field ≤ 12)
  pub day : (1 ≤ day_of field) × (day_of field ≤ days_in_month (year_of field) (month_of field))
