use Rattle.std.proofs.Common.{rules}
use Rattle.reg_tree_image.proofs.Devices.InputPieces.{exit-with, cut-behind, part-fits}
use Rattle.reg_tree_image.proofs.Devices.ReadFailures.{exit-either, blamed-then}
use Rattle.reg_tree_image.proofs.input.read_bytes.Goals as goal

pub returns-in_err-fill-clause-err : goal.returns-in_err-fill-clause-err
returns-in_err-fill-clause-err g c =
    let fits = part-fits c.loop-bytes.bytes.items c.deref_mut.result.now c.len-from.result c.min-more.result c.args.size
    (search rules) (search rules) (search rules) in
    exit-with _ c.from_residual.result _ c.from_residual.ensures.1
    (cut-behind _ _ _ c.loop-bytes.bytes.items _ c.args.size _ c.loop-bytes.invariant.read fits c.in_err-fill.ensures.err)

pub returns-in_err-fill-clause-failures : goal.returns-in_err-fill-clause-failures
returns-in_err-fill-clause-failures g c =
    exit-either _ _ c.from_residual.result _ c.from_residual.ensures.1
    (blamed-then _ _ _ _ c.loop-bytes.invariant.stays c.in_err-fill.ensures.failures)
