use Rattle.std.proofs.Common.{◌+◌, ◌-◌, ◌≤◌, arith, length, set}
use Rattle.std.proofs.lemmas.Bool.Decides.{nat_tests}
use Rattle.reg_bins.specs.Internal.{IsBin, IsPut}
use Rattle.reg_bins.proofs.BinBytes.{splice-none}
use Rattle.reg_bins.proofs.Bins.{bin-there, is-inside, piece-fits}
use Rattle.reg_bins.proofs.row.BinRow.write.Goals.{After-index_mut, After-write_bin}
use Rattle.reg_bins.proofs.row.BinRow.write.Goals as goal

pub returns-then-is_empty-clause-items : goal.returns-then-is_empty-clause-items
returns-then-is_empty-clause-items c = splice-none c.args.at c.args.bytes.now c.args.self.now.items (grind (arith, nat_tests))

pub first_page-number-requires-clause-inside : goal.first_page-number-requires-clause-inside
first_page-number-requires-clause-inside c =
    rw c.deref.ensures.value
    (is-inside c.self.inside.pages.items c.args.at (length c.args.bytes.now) (rw (← c.self.view_is) at c.requires) (grind (arith, nat_tests)))

found : (c : goal.After-index_mut) → IsBin c.self.inside.pages.items c.args.at c.first_page-number.result c.index_mut.result.now
found c = bin-there c.deref.ensures.value c.first_page-number.ensures.bin c.index_mut.result.now c.index_mut.ensures.value

fits : (c : goal.After-index_mut) → c.args.at - c.index_mut.result.now.start + length c.args.bytes.now ≤ length c.index_mut.result.now.bytes.items
fits c = piece-fits c.self.inside.pages.items c.args.at (length c.args.bytes.now) _ _ (rw (← c.self.view_is) at c.requires) (grind (arith, nat_tests)) (found c)

pub write_bin-requires-clause-from : goal.write_bin-requires-clause-from
write_bin-requires-clause-from c = (found c).from

pub write_bin-requires-clause-to : goal.write_bin-requires-clause-to
write_bin-requires-clause-to c = fits c

made : (c : goal.After-write_bin) → IsBin c.self.inside.pages.items c.args.at c.first_page-number.result c.index_mut.result.now
    → c.args.at - c.index_mut.result.now.start + length c.args.bytes.now ≤ length c.index_mut.result.now.bytes.items
    → IsPut c.self.inside.pages.items c.args.at c.args.bytes.now (set c.self.inside.pages.items c.first_page-number.result c.write_bin.new.bin)
made c b f = b.put c.args.bytes.now c.write_bin.new.bin f c.write_bin.ensures.start c.write_bin.ensures.bytes

pub invariant_of-self : goal.invariant_of-self
invariant_of-self c =
    let i = (goal.at.invariant_of-self c).After-index_mut in
    let m = made (goal.at.invariant_of-self c).After-write_bin (found i) (fits i) in
    (m.placed, omega (arith, m.long, c.self.invariant.1), c.self.invariant.2)

pub returns-clause-items : goal.returns-clause-items
returns-clause-items c =
    let i = (goal.at.returns-clause-items c).After-index_mut in
    rw (← c.self.view_is) (made (goal.at.returns-clause-items c).After-write_bin (found i) (fits i)).bytes

pub returns-clause-parts : goal.returns-clause-parts
returns-clause-parts c =
    let i = (goal.at.returns-clause-parts c).After-index_mut in
    rw (← c.self.view_is) (made (goal.at.returns-clause-parts c).After-write_bin (found i) (fits i)).sizes
