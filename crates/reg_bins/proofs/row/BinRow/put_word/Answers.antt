use Rattle.std.proofs.Common.{arith, length, set, ap}
use Rattle.reg_bins.specs.Internal.{bytes_of, IsPut}
use Rattle.reg_bins.proofs.BinBytes.{four-written}
use Rattle.reg_bins.proofs.Bins.{bin-there, set-same}
use Rattle.reg_bins.proofs.row.BinRow.put_word.Goals.{After-write_bin}
use Rattle.reg_bins.proofs.row.BinRow.put_word.Goals as goal

made : (c : goal.After-write_bin) → IsPut c.self.inside.pages.items c.args.at c.to_le_bytes-bytes.result (set c.self.inside.pages.items c.first_page-number.result c.write_bin.new.bin)
made c =
    let b = bin-there c.deref.ensures.value c.first_page-number.ensures.bin c.index_mut-bin.result.now c.index_mut-bin.ensures.value in
    b.put c.to_le_bytes-bytes.result c.write_bin.new.bin (omega (arith, b.from, b.to, ap length c.to_le_bytes-bytes.ensures, c.index_mut-bin.result.now.bytes.ok.0))
    c.write_bin.ensures.start c.write_bin.ensures.bytes

pub invariant_of-self : goal.invariant_of-self
invariant_of-self c =
    let m = made (goal.at.invariant_of-self c).After-write_bin in
    (m.placed, omega (arith, m.long, c.self.invariant.1), c.self.invariant.2)

pub returns-then-len-at-ge4-clause-items : goal.returns-then-len-at-ge4-clause-items
returns-then-len-at-ge4-clause-items c =
    let m = made (goal.at.returns-then-len-at-ge4-clause-items c).After-write_bin in
    rw (← c.self.view_is) (rw c.to_le_bytes-bytes.ensures at m.bytes)

pub returns-then-len-at-ge4-clause-parts : goal.returns-then-len-at-ge4-clause-parts
returns-then-len-at-ge4-clause-parts c = rw (← c.self.view_is) (made (goal.at.returns-then-len-at-ge4-clause-parts c).After-write_bin).sizes

pub returns-clause-items : goal.returns-clause-items
returns-clause-items c =
    let same = set-same c.self.inside.pages.items c.first_page-number.result c.index_mut-bin.result.now c.index_mut-bin.ensures.value in
    rw (← c.self.view_is)
    (four-written c.args.at _ _ _ _ c.to_le_bytes-bytes.result (bytes_of c.self.inside.pages.items) c.put_byte.new.self.items c.put_byte-2.new.self.items c.put_byte-3.new.self.items _
    (rw (← c.self.view_is) at c.requires) c.to_le_bytes-bytes.ensures
    (rw same at c.put_byte.ensures.items) c.put_byte-2.ensures.items c.put_byte-3.ensures.items c.put_byte-4.ensures.items)
