-- What becomes of gathered bytes on their way to a writer (this project's own).
use Rattle.std.specs.Prelude.{◌≡◌, ℕ, ◌+◌, ◌≤◌, ◌⊎◌, min, List, [], length, take, Option}
use Rattle.std.specs.Io.KnownBytes.{Appends}

-- a count of 64 bits, which stays at its end
abbrev pub saturated : ℕ → ℕ
saturated count = min count 18446744073709551615

-- nothing was sent, or all of the bytes, and none is left; the count of what was sent goes along
abbrev pub IsSettled : Option (List ℕ) → Option (List ℕ) → List ℕ → List ℕ → ℕ → ℕ → Type 0
IsSettled old new bytes left before after = ((new ≡ old) × (left ≡ bytes) × (after ≡ before)) ⊎
    (Appends old new bytes × (left ≡ []) × (after ≡ saturated (before + length bytes)))

-- the writer took a front of the bytes and no more, and all that it ever took was written
pub record IsCut (old new : Option (List ℕ)) (bytes : List ℕ) (before written : ℕ) : Type 0 where
  pub count : ℕ
  pub within : count ≤ length bytes
  pub sent : Appends old new (take count bytes)
  pub says : written ≡ saturated (before + count)
