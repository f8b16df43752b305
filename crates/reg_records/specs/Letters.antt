-- The two letters at the start of a record.
use Rattle.std.specs.Prelude.{ℕ, ◌==◌, ◌&&◌, Bool, List, slice_index}

-- a record's content begins with these two letters
abbrev pub is_signed : ℕ → ℕ → List ℕ → Bool
is_signed first second content = (slice_index content 0 == first) && (slice_index content 1 == second)
