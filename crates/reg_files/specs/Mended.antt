-- An image that wasn't written to its end, read as one that was (Suhanov, Windows registry file format specification, "Base block").
use Rattle.std.specs.Prelude.{ℕ, ◌==◌, ◌&&◌, not, nat_le, Bool, if◌then◌else◌, List, ◌++◌, length, take, drop}
use Rattle.byteorder.specs.Endian.{little_bytes}
use Rattle.reg_heap.specs.ByteWords.{word, splice}
use Rattle.reg_tree_image.specs.BaseBlock.{checksum_of}

-- a base block, which begins with `regf`, whose two sequence numbers differ
abbrev pub is_torn_block : List ℕ → Bool
is_torn_block block = nat_le 4096 (length block) && (word block 0 == 0x66676572) && not (word block 4 == word block 8)

-- a base block with its first number in the place of the second
abbrev pub evened : List ℕ → List ℕ
evened block = splice 8 (little_bytes 4 (word block 4)) block

-- a base block with its checksum made anew
abbrev pub summed : List ℕ → List ℕ
summed block = splice 508 (little_bytes 4 (checksum_of block)) block

-- a base block as it would be, had its image been written to its end
unfoldable pub mended_block : List ℕ → List ℕ
mended_block block = if is_torn_block block then summed (evened block) else block

-- whether an image wasn't written to its end
abbrev pub is_torn : List ℕ → Bool
is_torn image = is_torn_block (take 4096 image)

-- an image as it would be, had it been: with two equal numbers, and the checksum made anew
abbrev pub mended : List ℕ → List ℕ
mended image = mended_block (take 4096 image) ++ drop 4096 image
