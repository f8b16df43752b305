use Rattle.std.proofs.Common.{arith, ◌∙◌}
use Rattle.reg_bins.specs.Internal.{IsBin}
use Rattle.reg_bins.proofs.BinBytes.{word-of, word-read}
use Rattle.reg_bins.proofs.row.BinRow.word_at.Goals as goal

pub returns-then-len-from-ge4 : goal.returns-then-len-from-ge4
returns-then-len-from-ge4 c =
    let number = c.bin_of-bin.ensures.0 in
    let b : IsBin c.self.inside.pages.items c.args.at number c.bin_of-bin.result.now = rw c.deref.ensures.value at c.bin_of-bin.ensures.1 in
    rw (← c.self.view_is)
    (c.read_u32.ensures
    ∙ word-read c.deref-then-len-from-ge4.result.now _ _ _ c.args.at c.deref-then-len-from-ge4.ensures.value (omega (arith, c.deref-then-len-from-ge4.ensures.len))
    (b.read 4 (omega (arith, b.to, c.bin_of-bin.result.now.bytes.ok.0))))

pub returns : goal.returns
returns c = word-of c.args.self.now.items c.args.at _ _ _ _ _ c.from_le_bytes.ensures c.byte_at.ensures c.byte_at-2.ensures c.byte_at-3.ensures c.byte_at-4.ensures
