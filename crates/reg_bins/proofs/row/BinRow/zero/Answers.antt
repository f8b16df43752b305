use Rattle.std.proofs.Common.{◌+◌, ◌-◌, ◌≤◌, arith, length, replicate, set, refl}
use Rattle.std.proofs.lemmas.List.{length-replicate}
use Rattle.reg_bins.specs.Internal.{IsBin, IsPut}
use Rattle.reg_bins.proofs.BinBytes.{splice-none}
use Rattle.reg_bins.proofs.Bins.{bin-there, is-inside, piece-fits}
use Rattle.reg_bins.proofs.row.BinRow.zero.Goals.{After-index_mut, After-zero_bin}
use Rattle.reg_bins.proofs.row.BinRow.zero.Goals as goal

pub returns-then-len-eq0-clause-items : goal.returns-then-len-eq0-clause-items
returns-then-len-eq0-clause-items c = splice-none c.args.at (replicate c.args.len 0) c.args.self.now.items (rw c.if-len-eq0.true refl)

pub first_page-number-requires-clause-inside : goal.first_page-number-requires-clause-inside
first_page-number-requires-clause-inside c =
    rw c.deref.ensures.value (is-inside c.self.inside.pages.items c.args.at c.args.len (rw (← c.self.view_is) at c.requires) (omega (arith, c.if-len-eq0.false)))

found : (c : goal.After-index_mut) → IsBin c.self.inside.pages.items c.args.at c.first_page-number.result c.index_mut.result.now
found c = bin-there c.deref.ensures.value c.first_page-number.ensures.bin c.index_mut.result.now c.index_mut.ensures.value

fits : (c : goal.After-index_mut) → c.args.at - c.index_mut.result.now.start + c.args.len ≤ length c.index_mut.result.now.bytes.items
fits c = piece-fits c.self.inside.pages.items c.args.at c.args.len _ _ (rw (← c.self.view_is) at c.requires) (omega (arith, c.if-len-eq0.false)) (found c)

pub zero_bin-requires-clause-from : goal.zero_bin-requires-clause-from
zero_bin-requires-clause-from c = (found c).from

pub zero_bin-requires-clause-to : goal.zero_bin-requires-clause-to
zero_bin-requires-clause-to c = fits c

made : (c : goal.After-zero_bin) → IsBin c.self.inside.pages.items c.args.at c.first_page-number.result c.index_mut.result.now
    → c.args.at - c.index_mut.result.now.start + c.args.len ≤ length c.index_mut.result.now.bytes.items
    → IsPut c.self.inside.pages.items c.args.at (replicate c.args.len 0) (set c.self.inside.pages.items c.first_page-number.result c.zero_bin.new.bin)
made c b f = b.put (replicate c.args.len 0) c.zero_bin.new.bin (rw length-replicate f) c.zero_bin.ensures.start c.zero_bin.ensures.bytes

pub invariant_of-self : goal.invariant_of-self
invariant_of-self c =
    let i = (goal.at.invariant_of-self c).After-index_mut in
    let m = made (goal.at.invariant_of-self c).After-zero_bin (found i) (fits i) in
    (m.placed, omega (arith, m.long, c.self.invariant.1), c.self.invariant.2)

pub returns-clause-items : goal.returns-clause-items
returns-clause-items c =
    let i = (goal.at.returns-clause-items c).After-index_mut in
    rw (← c.self.view_is) (made (goal.at.returns-clause-items c).After-zero_bin (found i) (fits i)).bytes

pub returns-clause-parts : goal.returns-clause-parts
returns-clause-parts c =
    let i = (goal.at.returns-clause-parts c).After-index_mut in
    rw (← c.self.view_is) (made (goal.at.returns-clause-parts c).After-zero_bin (found i) (fits i)).sizes
