-- The times of keys as ISO 8601 says them (this project's own; ISO 8601; Win32, "FILETIME structure"; the places of a fraction are those
-- that jiff prints).
use Rattle.std.specs.Prelude.{ℕ, zero, suc, ◌+◌, ◌-◌, ◌*◌, ◌/◌, ◌%◌, nat_lt, nat_le, if◌then◌else◌, List, [], ◌∷◌, ◌++◌, None, pos}
use Rattle.std.specs.Fmt.{decimal}
use Rattle.jiff_core.specs.Calendar.{days_in_year, days_in_month}
use Rattle.jiff_fmt.specs.Text.{pad2, pad4, fraction_part}
use Rattle.reg_tables.specs.declared.time.TheConstants.{LAST_INSTANT}

-- the year in which a day is, so many days behind the first day of a year, and its place there, counted from 0; within so many years
unfoldable pub year_and_day : ℕ → (year days : ℕ) → ℕ × ℕ
year_and_day zero year days = (year, days)
year_and_day (suc years) year days =
    if nat_lt days (days_in_year (pos year)) then (year, days) else year_and_day years (year + 1) (days - days_in_year (pos year))

-- the month of a year in which a day is, so many days behind the first day of a month, and its place there, counted from 0
unfoldable pub month_and_day : ℕ → (year month days : ℕ) → ℕ × ℕ
month_and_day zero year month days = (month, days)
month_and_day (suc months) year month days =
    if nat_lt days (days_in_month (pos year) month) then (month, days)
    else month_and_day months year (month + 1) (days - days_in_month (pos year) month)

-- a year, and the month and the day in it, both counted from where they are given
abbrev pub day_text : (year : ℕ) → ℕ × ℕ → List ℕ
day_text year day = pad4 year ++ (45 ∷ (pad2 day.0 ++ (45 ∷ pad2 (day.1 + 1))))

-- the day of a year, with its place there counted from 0
abbrev pub year_text : ℕ × ℕ → List ℕ
year_text day = day_text day.0 (month_and_day 11 day.0 1 day.1)

-- the day so many days behind 1 January 1601, up to the year 9999
unfoldable pub date_text : ℕ → List ℕ
date_text days = year_text (year_and_day 8398 1601 days)

-- the time of day so many 100 ns behind midnight
unfoldable pub clock_text : ℕ → List ℕ
clock_text ticks =
    pad2 (ticks / 36_000_000_000) ++ (58 ∷ (pad2 (ticks / 600_000_000 % 60) ++ (58 ∷ (pad2 (ticks / 10_000_000 % 60)
    ++ fraction_part None (ticks % 10_000_000 * 100)))))

-- the instant so many 100 ns behind the start of 1 January 1601 in UTC
unfoldable pub instant_text : ℕ → List ℕ
instant_text ticks = date_text (ticks / 864_000_000_000) ++ (84 ∷ (clock_text (ticks % 864_000_000_000) ++ 90 ∷ []))

-- the time of a key as a text: the instant, or the number of 100 ns where it is behind the last instant that jiff says
unfoldable pub time_text : ℕ → List ℕ
time_text ticks = if nat_le ticks LAST_INSTANT then instant_text ticks else decimal ticks
