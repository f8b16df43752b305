use Rattle.std.proofs.Common.{None, refl}
use Rattle.reg_security.proofs.RingCounted.{descriptor-recounted, security-there}
use Rattle.reg_security.proofs.RingTurned.{once}
use Rattle.reg_security.proofs.TableCells.{noted-in, finds-same, finds-removed}
use Rattle.reg_security.proofs.table.SecurityTable.release.Goals as goal

pub read-requires : goal.read-requires
read-requires c = let r = c.requires.ring in security-there _ r.0 r.1 c.args.cell r.2

pub returns-then-read-gt1-clause-fewer : goal.returns-then-read-gt1-clause-fewer
returns-then-read-gt1-clause-fewer c = λ n counts more. (
  c.count_down.ensures.recounts,
  refl,
  λ ring is f. (
    c.count_down.ensures.ring ring is,
    finds-same c.args.self.now _ _ ring f (descriptor-recounted _ _ c.args.cell _ c.count_down.ensures.recounts ring is),
  ),
)

pub returns-clause-last : goal.returns-clause-last
returns-clause-last c = λ counts ring is l f.
    let r = c.take_out.ensures.removed ring is l in (
      r,
      finds-removed c.args.self.now _ _ _ ring c.args.cell c.descriptor.result.now f r (once _ ring is c.args.cell) l c.descriptor.ensures
          (noted-in c.self.inside.cells c.args.self.now _ c.descriptor.result.now None c.self.view_is c.remove.ensures),
    )
