use Rattle.std.proofs.Common.{ap, arith}
use Rattle.std.proofs.Common.{length}
use Rattle.reg_tree.proofs.Invariant.CellReadings.{some_of}
use Rattle.reg_copy.proofs.copying.set_time.Goals as goal

pub set_security-requires-clause-descriptor : goal.set_security-requires-clause-descriptor
set_security-requires-clause-descriptor c =
    let at = c.requires in
    let r = some_of _ (c.name-name.ensures.key at.0 at.1) in
    let small = c.root-root.ensures.limits.keys at.0 r.0 r.1 in
    let t = ap length (c.descriptor.ensures.told at.0 at.1 r.0 r.1) in
    let a = c.as_slice.ensures.len in
    let b = c.in_ok-descriptor.ensures.len in
    let d = small.described in
    let e = small.descriptor in
    (omega (arith, t, a, b, d), omega (arith, t, a, b, e))
