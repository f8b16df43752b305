use Rattle.std.proofs.Common.{List, ℕ, sym, subst}
use Rattle.std.specs.Ordering.{nat_cmp}
use Rattle.std.specs.BTreeMap.{get}
use Rattle.reg_arena.specs.Cells.{cell_at}
use Rattle.reg_written.specs.Internal.MetDescriptors.{is_met}
use Rattle.reg_written.specs.Internal.RingWalks.{IsWay}
use Rattle.reg_written.proofs.RingSteps.{way-start}
use Rattle.reg_written.proofs.SecurityReading.{blink-of}
use Rattle.reg_written.proofs.walk.RingWalk.start.Goals as goal

pub returns-clause-way : goal.returns-clause-way
returns-clause-way c = λ used uses.
    subst (λ (ring : List ℕ). IsWay (cell_at c.args.bins.now) used c.args.first c.read.result.fields.blink
    (record { ring = ring; left = get nat_cmp c.args.uses; met = is_met c.new.result.hashed.keys; before = c.read.result.fields.blink; at = c.args.first }))
    (sym c.new-2.ensures.items)
    (way-start (cell_at c.args.bins.now) used c.args.first c.read.result.fields.blink (get nat_cmp c.args.uses) (is_met c.new.result.hashed.keys)
    (blink-of _ _ _ c.read.ensures) uses c.new.ensures)
