use Rattle.std.proofs.Common.{rules}
use Rattle.reg_tree_image.proofs.Devices.InputPieces.{told-ok, Consumes-filled}
use Rattle.reg_tree_image.proofs.Devices.ReadFailures.{exit-either, blamed-then, read-blamed}
use Rattle.reg_text.proofs.FailureCounts.{stays-then}
use Rattle.reg_tree_image.proofs.input.fill.Goals as goal

pub loop-filled-preserved : goal.loop-filled-preserved
loop-filled-preserved g c =
    let gave = told-ok c.receive-read.result c.in_ok-filled.field-0 c.in_ok-filled.ensures in
    let fits = rw gave at c.receive-read.ensures.bound in
    let bytes = rw gave at c.receive-read.ensures.bytes in
    let failures = rw gave at c.receive-read.ensures.failures in
    record {
      within = search rules;
      read = Consumes-filled _ _ _ c.loop-filled.filled c.in_ok-filled.field-0 c.loop-filled.buffer c.receive-read.new.buffer c.loop-filled-test.true
          fits.0 (search rules) c.loop-filled.invariant.read bytes.0;
      stays = stays-then _ _ _ c.loop-filled.invariant.stays failures;
    }

pub returns-in_err-filled-clause-failures : goal.returns-in_err-filled-clause-failures
returns-in_err-filled-clause-failures g c =
    exit-either _ _ c.from_residual.result _ c.from_residual.ensures.1
    (blamed-then _ _ _ _ c.loop-filled.invariant.stays
    (read-blamed c.receive-read.result _ _ _ c.in_err-filled.ensures c.receive-read.ensures.failures))
