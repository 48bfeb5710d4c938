-- Numbers and moments as the page shows them.
use Rattle.std.specs.Prelude.{ℕ, ◌+◌, ◌*◌, ◌/◌, ◌%◌, ◌==◌, ◌&&◌, min, nat_le, nat_lt, List, [], ◌∷◌, ◌++◌, codes, drop, length, take, Option, None, Some, if◌then◌else◌}
use Rattle.std.specs.Fmt.{decimal}
use Rattle.rld_values.specs.Dates.{http_date, time_of}

-- the share of a part in a whole, in thousandths: at most all, and 0 of nothing
abbrev pub share_of : (part whole : ℕ) → ℕ
share_of part whole = if whole == 0 then 0 else min part whole * 1000 / whole

-- the rate by the second, in tenths, of `a_minute` in a minute
abbrev pub tenths_of : (a_minute : ℕ) → ℕ
tenths_of a_minute = (a_minute * 10 + 30) / 60

-- a comma before `number` digits, if they are whole groups of three
abbrev pub comma_before : (number : ℕ) → List ℕ
comma_before number = if nat_lt 0 number && number % 3 == 0 then codes "," else []

-- digits with a comma before each group of three, from the right
abbrev pub with_commas : (digits : List ℕ) → List ℕ
with_commas [] = []
with_commas (digit ∷ digits) = digit ∷ (comma_before (length digits) ++ with_commas digits)

abbrev pub grouped : (number : ℕ) → List ℕ
grouped number = with_commas (decimal number)

-- a number of tenths, with one decimal
unfoldable pub tenths_text : (tenths : ℕ) → List ℕ
tenths_text tenths = grouped (tenths / 10) ++ (codes "." ++ decimal (tenths % 10))

-- thousandths in per cent
unfoldable pub width_text : (thousandths : ℕ) → List ℕ
width_text thousandths = decimal (thousandths / 10) ++ (codes "." ++ (decimal (thousandths % 10) ++ codes "%"))

-- ---- a second since 1970, by the dates of HTTP; from the year 10000 on as a number

-- `Wed, 26 Nov 2025 13:15:07 GMT`
abbrev pub whole_date : (date : Option (List ℕ)) → (second : ℕ) → List ℕ
whole_date (Some date) second = date
whole_date None second = decimal second

abbrev pub date_text : (dates : ℕ → List ℕ) → (second : ℕ) → List ℕ
date_text dates second = whole_date (http_date dates second) second

-- the day, the month and the time: `26 Nov 13:15:07`
abbrev pub day_and_time : (date : Option (List ℕ)) → (second : ℕ) → List ℕ
day_and_time (Some date) second = take 6 (drop 5 date) ++ (codes " " ++ time_of date)
day_and_time None second = decimal second

abbrev pub moment_text : (dates : ℕ → List ℕ) → (second : ℕ) → List ℕ
moment_text dates second = day_and_time (http_date dates second) second
