-- Moments as they are typed (this project's own): numbers of 100 ns since 1601; else instants of RFC 3339, and dates, as jiff reads them. So a
-- date without hyphens, `20220618`, is a number.
use Rattle.std.specs.Prelude.{ℕ, ◌+◌, ◌*◌, ◌<◌, ◌≡◌, ◌⊎◌, ◌++◌, List, codes, pos, ℤ, ◌+ℤ◌, ◌≤ℤ◌, ◌<ℤ◌, Result, Ok, Err}
use Rattle.std.specs.Str.Parse.{IsNumeral, digits_value, without_leading_plus}
use Rattle.jiff.specs.Words.{parse_timestamp}
use Rattle.jiff_core.specs.declared.error.Error.{Error}

-- a text writes this number of 64 bits in decimal digits
pub record IsMoment (text : List ℕ) (number : ℕ) : Type 0 where
  pub numeral : IsNumeral 10 (without_leading_plus text)
  pub small : digits_value 10 (without_leading_plus text) < 18446744073709551616
  pub value : number ≡ digits_value 10 (without_leading_plus text)

-- the nanoseconds since the start of 1970 of the instant that a text tells; of a date its first in UTC
abbrev pub or_day : List ℕ → Result ℤ Error → Result ℤ Error
or_day text (Ok nanosecond) = Ok nanosecond
or_day text (Err e) = parse_timestamp (text ++ codes "T00:00:00Z")

unfoldable pub instant_in : List ℕ → Result ℤ Error
instant_in text = or_day text (parse_timestamp text)

-- an instant is in this unit of 100 ns since the start of 1601, a number of 64 bits
pub record IsTickOf (nanosecond : ℤ) (ticks : ℕ) : Type 0 where
  pub from : pos (ticks * 100) ≤ℤ (nanosecond +ℤ pos 11_644_473_600_000_000_000)
  pub before : (nanosecond +ℤ pos 11_644_473_600_000_000_000) <ℤ pos (ticks * 100 + 100)
  pub small : ticks < 18446744073709551616

-- a text tells this moment: by its number, or else as an instant or a date
abbrev pub TellsMoment : List ℕ → (moment : ℕ) → Type 0
TellsMoment text moment =
    IsMoment text moment
    ⊎ (((other : ℕ) → IsMoment text other → ⊥) × ((nanosecond : ℤ) × (instant_in text ≡ Ok nanosecond) × IsTickOf nanosecond moment))
