use Rattle.std.proofs.Common.{arith, ◌∙◌}
use Rattle.reg_bins.specs.Internal.{IsBin}
use Rattle.reg_bins.proofs.Bins.{is-inside, piece-fits}
use Rattle.reg_bins.proofs.row.BinRow.slice.Goals.{After-bin_of}
use Rattle.reg_bins.proofs.row.BinRow.slice.Goals as goal

pub bin_of-requires-clause-inside : goal.bin_of-requires-clause-inside
bin_of-requires-clause-inside c =
    rw c.deref.ensures.value (is-inside c.self.inside.pages.items c.args.at c.args.len (rw (← c.self.view_is) at c.requires) (omega (arith, c.if-len-eq0.false)))

found : (c : goal.After-bin_of) → IsBin c.self.inside.pages.items c.args.at c.bin_of.ensures.0 c.bin_of.result.now
found c = rw c.deref.ensures.value at c.bin_of.ensures.1

pub bin_slice-requires-clause-from : goal.bin_slice-requires-clause-from
bin_slice-requires-clause-from c = (found c).from

pub bin_slice-requires-clause-to : goal.bin_slice-requires-clause-to
bin_slice-requires-clause-to c = piece-fits c.self.inside.pages.items c.args.at c.args.len _ _ (rw (← c.self.view_is) at c.requires) (omega (arith, c.if-len-eq0.false)) (found c)

pub returns : goal.returns
returns c =
    let b = found (goal.at.returns c).After-bin_of in
    let fits = piece-fits c.self.inside.pages.items c.args.at c.args.len _ _ (rw (← c.self.view_is) at c.requires) (omega (arith, c.if-len-eq0.false)) b in
    rw (← c.self.view_is) (c.bin_slice.ensures ∙ b.read c.args.len fits)
