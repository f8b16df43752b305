-- The fields of a base block.
use Rattle.std.specs.Prelude.{ℕ, List, ◌∷◌, ◌++◌}
use Rattle.byteorder.specs.Endian.{little_bytes}

-- what is written before the file name, which is left empty
abbrev pub block_fields : ℕ → ℕ → ℕ → ℕ → List ℕ
block_fields size root moment sequence =
    114 ∷ 101 ∷ 103 ∷ 102 ∷ little_bytes 4 sequence
    ++ little_bytes 4 sequence
    ++ little_bytes 8 moment
    ++ little_bytes 4 1
    ++ little_bytes 4 5
    ++ little_bytes 4 0
    ++ little_bytes 4 1
    ++ little_bytes 4 root
    ++ little_bytes 4 size
    ++ little_bytes 4 1
