use Rattle.std.proofs.Common.{arith, [], ◌∷◌, set}
use Rattle.reg_bins.specs.Internal.{IsPut}
use Rattle.reg_bins.proofs.Bins.{bin-there}
use Rattle.reg_bins.proofs.row.BinRow.put_byte.Goals.{After-write_bin}
use Rattle.reg_bins.proofs.row.BinRow.put_byte.Goals as goal

made : (c : goal.After-write_bin) → IsPut c.self.inside.pages.items c.args.at (c.args.byte ∷ []) (set c.self.inside.pages.items c.first_page-number.result c.write_bin.new.bin)
made c =
    let b = bin-there c.deref.ensures.value c.first_page-number.ensures.bin c.index_mut.result.now c.index_mut.ensures.value in
    b.put (c.args.byte ∷ []) c.write_bin.new.bin (omega (arith, b.from, b.to)) c.write_bin.ensures.start c.write_bin.ensures.bytes

pub invariant_of-self : goal.invariant_of-self
invariant_of-self c =
    let m = made (goal.at.invariant_of-self c).After-write_bin in
    (m.placed, omega (arith, m.long, c.self.invariant.1), c.self.invariant.2)

pub returns-clause-items : goal.returns-clause-items
returns-clause-items c = rw (← c.self.view_is) (made (goal.at.returns-clause-items c).After-write_bin).bytes

pub returns-clause-long : goal.returns-clause-long
returns-clause-long c = rw (← c.self.view_is) (made (goal.at.returns-clause-long c).After-write_bin).long

pub returns-clause-parts : goal.returns-clause-parts
returns-clause-parts c = rw (← c.self.view_is) (made (goal.at.returns-clause-parts c).After-write_bin).sizes
