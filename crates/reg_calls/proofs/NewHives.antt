-- The bin of a new hive.
use Rattle.std.proofs.Common.{◌≡◌, ℕ, ◌+◌, ◌*◌, ◌/◌, arith}
use Rattle.reg_arena.specs.NewBin.{IsBinSize}

-- the least size of a bin
pub least-is : (size node security : ℕ) → IsBinSize size (node + security) → size ≡ (32 + node + security + 4095) / 4096 * 4096
least-is size node security b =
    let most = b.least ((32 + node + security + 4095) / 4096 * 4096) (omega arith) (omega arith) in
    let holds = b.holds in
    let pages = b.pages in
    omega (arith, most, holds, pages)
