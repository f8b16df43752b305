-- The base block, the first 4,096 bytes of an image (Suhanov, Windows registry file format specification, "Base block").
use Rattle.std.specs.Prelude.{ℕ, zero, suc, ◌+◌, ◌%◌, ◌==◌, ◌&&◌, nat_le, nat_lt, Bool, List, ◌∷◌, ◌++◌, replicate, bit_xor, if◌then◌else◌}
use Rattle.byteorder.specs.Endian.{little_bytes}
use Rattle.reg_heap.specs.declared.limits.TheConstants.{BINS_LIMIT}
use Rattle.reg_heap.specs.ByteWords.{word}
use Rattle.reg_tree_image.specs.declared.LoadFault.TheVariants.{Signature, Version, Checksum, Dirty, Bins, Limit}
use Rattle.reg_tree_image.specs.declared.block.BaseBlock.{BaseBlock}
use Rattle.reg_tree_image.specs.WalkSteps.{Step, ◌>>◌, give, check}

-- the exclusive or of so many words, from a place on
abbrev pub xor_words : ℕ → ℕ → List ℕ → ℕ
xor_words zero at bytes = 0
xor_words (suc n) at bytes = bit_xor (word bytes at) (xor_words n (at + 4) bytes)

-- a checksum is neither 0 nor 0xFFFFFFFF: 1 and 0xFFFFFFFE stand for these
abbrev pub as_checksum : ℕ → ℕ
as_checksum x = if x == 0 then 1 else if x == 0xFFFFFFFF then 0xFFFFFFFE else x

-- the checksum of a base block: of its first 127 words, which end before the checksum's own place, 508
unfoldable pub checksum_of : List ℕ → ℕ
checksum_of block = as_checksum (xor_words 127 0 block)

-- what is written before the checksum: `regf`, the sequence number twice, the moment, version 1.5, a primary file, loaded directly,
-- the root, the size of the bins, a clustering factor of 1; no file name, and zeros
abbrev pub block_head : ℕ → ℕ → ℕ → ℕ → List ℕ
block_head size root moment sequence =
    114 ∷ 101 ∷ 103 ∷ 102 ∷ little_bytes 4 sequence
    ++ little_bytes 4 sequence
    ++ little_bytes 8 moment
    ++ little_bytes 4 1
    ++ little_bytes 4 5
    ++ little_bytes 4 0
    ++ little_bytes 4 1
    ++ little_bytes 4 root
    ++ little_bytes 4 size
    ++ little_bytes 4 1
    ++ replicate 460 0

-- the base block of an image of bins of a size
unfoldable pub block_of : ℕ → ℕ → ℕ → ℕ → List ℕ
block_of size root moment sequence =
    block_head size root moment sequence ++ little_bytes 4 (checksum_of (block_head size root moment sequence)) ++ replicate 3584 0

-- major version 1, minor version 3, 4 or 5, a primary file, loaded directly
abbrev pub is_version : List ℕ → Bool
is_version bytes = (word bytes 20 == 1) && nat_le 3 (word bytes 24) && nat_le (word bytes 24) 5 && (word bytes 28 == 0) && (word bytes 32 == 1)

-- the tests of a base block, in order, and what the walk needs of it: `regf`, the version, the checksum, two equal sequence numbers,
-- and bins of whole pages, at least one and no more than a hive may have
abbrev pub block_walk : List ℕ → Step BaseBlock
block_walk bytes = do
  check Signature (word bytes 0 == 0x66676572)
  check Version (is_version bytes)
  check Checksum (word bytes 508 == checksum_of bytes)
  check Dirty (word bytes 4 == word bytes 8)
  check Bins (nat_lt 0 (word bytes 40) && (word bytes 40 % 4096 == 0))
  check Limit (nat_le (word bytes 40) BINS_LIMIT)
  give (record { minor = word bytes 24; root = word bytes 36; size = word bytes 40 })
