use Rattle.std.proofs.Common.{arith}
use Rattle.reg_calls.proofs.HiveInvariantLemmas.{kept-roomier}
use Rattle.reg_calls.proofs.QuietChanges.{unhit-at}
use Rattle.reg_calls.proofs.hive_core.Core.seat.Goals as goal

pub invariant_of-self : goal.invariant_of-self
invariant_of-self c =
    let base = c.seat.ensures.base in
    let entries = c.seat.ensures.entries in
    let room = c.seat.ensures.room in (
      c.self.invariant.0,
      unhit-at c.self.inside.store c.self.inside.quiet base entries c.self.invariant.1,
      kept-roomier c.self.invariant.2 _ _ c.seat.new.self.room base entries (omega (arith, room)),
    )
