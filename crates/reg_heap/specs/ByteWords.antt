-- Numbers in bytes, and a piece of the bytes written over.
use Rattle.std.specs.Prelude.{◌≡◌, ◌<◌, ◌≤◌, get_or, ℕ, ◌+◌, List, ◌++◌, length, take, drop}
use Rattle.byteorder.specs.Endian.{little_number}

-- the 16-bit number at an offset, the lowest byte first
unfoldable pub half : List ℕ → ℕ → ℕ
half bytes at = little_number 2 (drop at bytes)

-- the 32-bit number at an offset, the lowest byte first
unfoldable pub word : List ℕ → ℕ → ℕ
word bytes at = little_number 4 (drop at bytes)

-- the 64-bit number at an offset, the lowest byte first
unfoldable pub long : List ℕ → ℕ → ℕ
long bytes at = little_number 8 (drop at bytes)

-- the bytes with a piece of them, from an offset on, written over
unfoldable pub splice : ℕ → List ℕ → List ℕ → List ℕ
splice at piece bytes = take at bytes ++ (piece ++ drop (at + length piece) bytes)

-- the bytes from lo to hi may differ, and no others
pub record SameOutside (lo hi : ℕ) (old new : List ℕ) : Type 0 where
  pub long : length new ≡ length old
  pub below : (k : ℕ) → k < lo → get_or new k 0 ≡ get_or old k 0
  pub above : (k : ℕ) → hi ≤ k → get_or new k 0 ≡ get_or old k 0
