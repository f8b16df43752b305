-- A base block, mended.
use Rattle.std.proofs.Common.{◌≡◌, ℕ, List, true, false, refl}
use Rattle.reg_files.specs.Mended.{evened, summed, is_torn_block, mended_block}

-- one that needn't be
pub stays : (block : List ℕ) → is_torn_block block ≡ false → block ≡ mended_block block
unfolding mended_block
stays block e = rw e refl

-- one that was to be
pub is_mended : (block even new : List ℕ) → is_torn_block block ≡ true → even ≡ evened block → new ≡ summed even → new ≡ mended_block block
unfolding mended_block
is_mended block even new torn made sum = rw (torn, ← made) sum
