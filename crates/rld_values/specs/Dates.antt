-- Seconds as dates and as ages, by the dates of HTTP (RFC 9110 section 5.6.7): `Thu, 26 Nov 2026
-- 18:20:00 GMT`.
use Rattle.std.specs.Prelude.{◌≡◌, ℕ, ◌+◌, ◌/◌, ◌%◌, List, [], ◌∷◌, ◌++◌, bytes_eq, codes, drop, nat_lt, take, Option, Some, None, if◌then◌else◌}
use Rattle.std.specs.Fmt.{decimal}
use Rattle.httpdate.specs.Date.{date_text, unix_secs}
use Rattle.httpdate.specs.declared.date.HttpDate.{HttpDate}

-- the two digits of a month, by its name
abbrev pub month_of : (name : List ℕ) → List ℕ
month_of name =
    if bytes_eq name (codes "Jan") then codes "01"
    else if bytes_eq name (codes "Feb") then codes "02"
    else if bytes_eq name (codes "Mar") then codes "03"
    else if bytes_eq name (codes "Apr") then codes "04"
    else if bytes_eq name (codes "May") then codes "05"
    else if bytes_eq name (codes "Jun") then codes "06"
    else if bytes_eq name (codes "Jul") then codes "07"
    else if bytes_eq name (codes "Aug") then codes "08"
    else if bytes_eq name (codes "Sep") then codes "09"
    else if bytes_eq name (codes "Oct") then codes "10"
    else if bytes_eq name (codes "Nov") then codes "11"
    else codes "12"

-- the hours, minutes and seconds of an HTTP date
abbrev pub time_of : (date : List ℕ) → List ℕ
time_of date = take 8 (drop 17 date)

-- an HTTP date with its year first, and then its month as a number: `2026-11-26 18:20:00`
abbrev pub year_first : (date : List ℕ) → List ℕ
year_first date =
    take 4 (drop 12 date) ++ (45 ∷ (month_of (take 3 (drop 8 date)) ++ (45 ∷ (take 2 (drop 5 date) ++ (32 ∷ time_of date)))))

-- the dates of all seconds since 1970, until the year 10000, as HTTP writes them. No function of
-- the kit gives them, but a second has one date, so there is one such list.
abbrev pub AreDates : (dates : ℕ → List ℕ) → Type 0
AreDates dates = (date : HttpDate) → dates (unix_secs date) ≡ date_text date

-- the date of a second, if it is before the year 10000
abbrev pub http_date : (dates : ℕ → List ℕ) → (second : ℕ) → Option (List ℕ)
http_date dates second = if nat_lt second 253402300800 then Some (dates second) else None

-- a second by its date, or as a number if it has none
abbrev pub date_or_number : (date : Option (List ℕ)) → (second : ℕ) → List ℕ
date_or_number (Some date) second = year_first date
date_or_number None second = decimal second

-- two digits of a number below 100
abbrev pub two_digits : ℕ → List ℕ
two_digits number = (48 + number / 10) ∷ (48 + number % 10) ∷ []

-- the hour and the minute of a second: `18:20`
abbrev pub clock : (second : ℕ) → List ℕ
clock second = two_digits (second / 3600 % 24) ++ (codes ":" ++ two_digits (second / 60 % 60))

-- whole days, if there are any
abbrev pub days_before : (seconds : ℕ) → List ℕ
days_before seconds = if nat_lt seconds 86400 then [] else decimal (seconds / 86400) ++ codes " d "

-- a number of seconds as whole days, hours, minutes and seconds: `3 d 02:11:09`
unfoldable pub age : (seconds : ℕ) → List ℕ
age seconds = days_before seconds ++ (clock seconds ++ (codes ":" ++ two_digits (seconds % 60)))
