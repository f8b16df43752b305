use Rattle.std.proofs.Common.{arith}
use Rattle.reg_text.proofs.FailureCounts.{stays-then}
use Rattle.reg_tree_image.proofs.Devices.WrittenBins.{header-there, bin-there, bin-some, bin-within, next-boundary, piece-length, piece-appended, whole-appended}
use Rattle.reg_tree_image.proofs.tree_writing.write_bins.Goals as goal

pub bin_size-size-requires : goal.bin_size-size-requires
bin_size-size-requires g c =
    header-there _ _ c.loop-at.invariant.boundary (rw c.bins_size-end.ensures.size at c.loop-at-test.true)

pub bytes-requires : goal.bytes-requires
bytes-requires g c =
    bin-there _ _ c.loop-at.invariant.boundary (rw c.bins_size-end.ensures.size at c.loop-at-test.true) c.bin_size-size.result c.bin_size-size.ensures

pub returns-then-taken-size-clause-bytes : goal.returns-then-taken-size-clause-bytes
returns-then-taken-size-clause-bytes g c =
    let within = bin-within _ _ c.loop-at.invariant.boundary (rw c.bins_size-end.ensures.size at c.loop-at-test.true) c.bin_size-size.result c.bin_size-size.ensures in
    piece-appended c.args.arena.now.bytes _ c.bin_size-size.result _ within c.bytes.result.now c.bytes.ensures _ _ _ c.write_counted-taken.ensures.count
    c.loop-at.invariant.written c.write_counted-taken.ensures.bytes

pub loop-at-smaller : goal.loop-at-smaller
loop-at-smaller g c =
    let inside = rw c.bins_size-end.ensures.size at c.loop-at-test.true in
    let some = bin-some _ _ c.loop-at.invariant.boundary inside c.bin_size-size.result c.bin_size-size.ensures in
    omega (arith, some, inside)

pub loop-at-preserved : goal.loop-at-preserved
loop-at-preserved g c =
    let inside = rw c.bins_size-end.ensures.size at c.loop-at-test.true in
    let within = bin-within _ _ c.loop-at.invariant.boundary inside c.bin_size-size.result c.bin_size-size.ensures in
    let long = piece-length c.args.arena.now.bytes c.loop-at.at c.bin_size-size.result c.write_counted-taken.result within c.bytes.result.now c.bytes.ensures in
    record {
      boundary = next-boundary _ _ c.loop-at.invariant.boundary inside c.bin_size-size.result c.bin_size-size.ensures;
      within = within;
      written = whole-appended c.args.arena.now.bytes _ c.bin_size-size.result _ within c.bytes.result.now c.bytes.ensures _ _ _ c.if-taken-size.false c.write_counted-taken.ensures.count
          c.loop-at.invariant.written c.write_counted-taken.ensures.bytes;
      stays = stays-then _ _ _ c.loop-at.invariant.stays (c.write_counted-taken.ensures.stays (omega (arith, long, c.write_counted-taken.ensures.count, c.if-taken-size.false)));
    }
