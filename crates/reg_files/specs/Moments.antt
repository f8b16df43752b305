-- Moments of a clock (this project's own).
use Rattle.std.specs.Prelude.{ℕ, ◌+◌, ◌/◌, ◌^◌, ◌-◌, min}

-- a time since 1970 in nanoseconds, as a moment in units of 100 ns since 1601, which stays at the last one. There are 11,644,473,600
-- seconds between
abbrev pub moment_of : ℕ → ℕ
moment_of nanoseconds = min (nanoseconds / 100 + 116444736000000000) (2 ^ 64 - 1)
