-- Bins in a row, each apart in memory, and the tables of their pages.
use Rattle.std.specs.Prelude.{ℕ, ◌+◌, ◌≤◌, ◌<◌, nat_lt, if◌then◌else◌, List, [], ◌∷◌}

-- the bytes of bins, one bin behind the other
pub record Row : Type 0 where
  pub items : List ℕ
  -- the sizes of the bins, in order
  pub parts : List ℕ
  -- how many bytes of bins there may be before the vector that leads to them has to grow
  pub room : ℕ

-- numbers in a row, one for each eight bytes of the bins
pub record Table : Type 0 where
  pub items : List ℕ

-- where the bin ends in which the byte at an offset lies, of bins of these sizes from a place on; 0 where it lies in none
abbrev pub end_from : ℕ → List ℕ → ℕ → ℕ
end_from start [] at = 0
end_from start (size ∷ parts) at = if nat_lt at (start + size) then start + size else end_from (start + size) parts at

-- so many bytes from an offset on lie in one bin
abbrev pub IsInPart : List ℕ → ℕ → ℕ → Type 0
IsInPart parts at len = 0 < len → at + len ≤ end_from 0 parts at
