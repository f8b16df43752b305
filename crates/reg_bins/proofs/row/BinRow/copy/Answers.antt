use Rattle.std.proofs.Common.{◌≡◌, ◌+◌, ◌-◌, ◌≤◌, ◌∙◌, arith, length, take, drop, set, refl, sym, ap}
use Rattle.reg_bins.specs.Internal.{bytes_of, IsBin, IsPut}
use Rattle.reg_bins.proofs.BinBytes.{splice-none}
use Rattle.reg_bins.proofs.Bins.{bin-there, is-inside, piece-fits, piece-long, moved, still-there, copied}
use Rattle.reg_bins.proofs.row.BinRow.copy.Goals.{After-index_mut, After-move_in_bin, After-index, After-write_bin}
use Rattle.reg_bins.proofs.row.BinRow.copy.Goals as goal

pub returns-then-len-eq0-clause-items : goal.returns-then-len-eq0-clause-items
returns-then-len-eq0-clause-items c =
    splice-none c.args.to (take c.args.len (drop c.args.from c.args.self.now.items)) c.args.self.now.items (rw c.if-len-eq0.true refl)

pub first_page-source-requires-clause-inside : goal.first_page-source-requires-clause-inside
first_page-source-requires-clause-inside c =
    rw c.deref.ensures.value (is-inside c.self.inside.pages.items c.args.from c.args.len (rw (← c.self.view_is) at c.requires.source) (omega (arith, c.if-len-eq0.false)))

pub first_page-target-requires-clause-inside : goal.first_page-target-requires-clause-inside
first_page-target-requires-clause-inside c =
    rw c.deref-2.ensures.value (is-inside c.self.inside.pages.items c.args.to c.args.len (rw (← c.self.view_is) at c.requires.fits) (omega (arith, c.if-len-eq0.false)))

-- in one bin
from : (c : goal.After-index_mut) → IsBin c.self.inside.pages.items c.args.from c.first_page-source.result c.index_mut.result.now
from c = bin-there c.deref.ensures.value c.first_page-source.ensures.bin c.index_mut.result.now c.index_mut.ensures.value

to : (c : goal.After-index_mut) → IsBin c.self.inside.pages.items c.args.to c.first_page-source.result c.index_mut.result.now
to c =
    let same : c.first_page-target.result ≡ c.first_page-source.result = sym c.if-source-target.true in
    let there = bin-there c.deref-2.ensures.value c.first_page-target.ensures.bin c.index_mut.result.now (rw same c.index_mut.ensures.value) in
    rw same at there

from-fits : (c : goal.After-index_mut) → c.args.from - c.index_mut.result.now.start + c.args.len ≤ length c.index_mut.result.now.bytes.items
from-fits c = piece-fits c.self.inside.pages.items c.args.from c.args.len _ _ (rw (← c.self.view_is) at c.requires.source) (omega (arith, c.if-len-eq0.false)) (from c)

to-fits : (c : goal.After-index_mut) → c.args.to - c.index_mut.result.now.start + c.args.len ≤ length c.index_mut.result.now.bytes.items
to-fits c = piece-fits c.self.inside.pages.items c.args.to c.args.len _ _ (rw (← c.self.view_is) at c.requires.fits) (omega (arith, c.if-len-eq0.false)) (to c)

pub move_in_bin-requires-clause-from : goal.move_in_bin-requires-clause-from
move_in_bin-requires-clause-from c = (from c).from

pub move_in_bin-requires-clause-source : goal.move_in_bin-requires-clause-source
move_in_bin-requires-clause-source c = from-fits c

pub move_in_bin-requires-clause-to : goal.move_in_bin-requires-clause-to
move_in_bin-requires-clause-to c = (to c).from

pub move_in_bin-requires-clause-fits : goal.move_in_bin-requires-clause-fits
move_in_bin-requires-clause-fits c = to-fits c

within : (c : goal.After-move_in_bin) → (f : IsBin c.self.inside.pages.items c.args.from c.first_page-source.result c.index_mut.result.now)
    → c.args.from - c.index_mut.result.now.start + c.args.len ≤ length c.index_mut.result.now.bytes.items
    → (t : IsBin c.self.inside.pages.items c.args.to c.first_page-source.result c.index_mut.result.now)
    → c.args.to - c.index_mut.result.now.start + c.args.len ≤ length c.index_mut.result.now.bytes.items
    → IsPut c.self.inside.pages.items c.args.to (take c.args.len (drop c.args.from (bytes_of c.self.inside.pages.items)))
    (set c.self.inside.pages.items c.first_page-source.result c.move_in_bin.new.bin)
within c f fits t room = moved c.self.inside.pages.items _ _ _ _ _ c.move_in_bin.new.bin f fits t room c.move_in_bin.ensures.start c.move_in_bin.ensures.bytes

pub invariant_of-self : goal.invariant_of-self
invariant_of-self c =
    let i = (goal.at.invariant_of-self c).After-index_mut in
    let m = within (goal.at.invariant_of-self c).After-move_in_bin (from i) (from-fits i) (to i) (to-fits i) in
    (m.placed, omega (arith, m.long, c.self.invariant.1), c.self.invariant.2)

pub returns-then-source-target-clause-items : goal.returns-then-source-target-clause-items
returns-then-source-target-clause-items c =
    let i = (goal.at.returns-then-source-target-clause-items c).After-index_mut in
    rw (← c.self.view_is) (within (goal.at.returns-then-source-target-clause-items c).After-move_in_bin (from i) (from-fits i) (to i) (to-fits i)).bytes

pub returns-then-source-target-clause-parts : goal.returns-then-source-target-clause-parts
returns-then-source-target-clause-parts c =
    let i = (goal.at.returns-then-source-target-clause-parts c).After-index_mut in
    rw (← c.self.view_is) (within (goal.at.returns-then-source-target-clause-parts c).After-move_in_bin (from i) (from-fits i) (to i) (to-fits i)).sizes

-- in two bins
source : (c : goal.After-index) → IsBin c.self.inside.pages.items c.args.from c.first_page-source.result c.index.result.now
source c =
    bin-there c.deref.ensures.value c.first_page-source.ensures.bin c.index.result.now
    (still-there _ _ _ c.replace-bin.new.dest _ c.if-source-target.false c.index.ensures)

target : (c : goal.After-index) → IsBin c.self.inside.pages.items c.args.to c.first_page-target.result c.index_mut-2.result.now
target c = bin-there c.deref-2.ensures.value c.first_page-target.ensures.bin c.index_mut-2.result.now c.index_mut-2.ensures.value

source-fits : (c : goal.After-index) → c.args.from - c.index.result.now.start + c.args.len ≤ length c.index.result.now.bytes.items
source-fits c = piece-fits c.self.inside.pages.items c.args.from c.args.len _ _ (rw (← c.self.view_is) at c.requires.source) (omega (arith, c.if-len-eq0.false)) (source c)

target-fits : (c : goal.After-index) → c.args.to - c.index_mut-2.result.now.start + c.args.len ≤ length c.index_mut-2.result.now.bytes.items
target-fits c = piece-fits c.self.inside.pages.items c.args.to c.args.len _ _ (rw (← c.self.view_is) at c.requires.fits) (omega (arith, c.if-len-eq0.false)) (target c)

pub bin_slice-requires-clause-from : goal.bin_slice-requires-clause-from
bin_slice-requires-clause-from c = (source c).from

pub bin_slice-requires-clause-to : goal.bin_slice-requires-clause-to
bin_slice-requires-clause-to c = source-fits c

pub write_bin-requires-clause-from : goal.write_bin-requires-clause-from
write_bin-requires-clause-from c = rw c.replace-bin.ensures.value (target (goal.at.write_bin-requires-clause-from c).After-index).from

pub write_bin-requires-clause-to : goal.write_bin-requires-clause-to
write_bin-requires-clause-to c =
    let i = (goal.at.write_bin-requires-clause-to c).After-index in
    let long = ap length c.bin_slice.ensures ∙ piece-long _ _ _ _ _ (source i) (source-fits i) in
    rw (c.replace-bin.ensures.value, long) (target-fits i)

across : (c : goal.After-write_bin) → (f : IsBin c.self.inside.pages.items c.args.from c.first_page-source.result c.index.result.now)
    → c.args.from - c.index.result.now.start + c.args.len ≤ length c.index.result.now.bytes.items
    → (t : IsBin c.self.inside.pages.items c.args.to c.first_page-target.result c.index_mut-2.result.now)
    → c.args.to - c.index_mut-2.result.now.start + c.args.len ≤ length c.index_mut-2.result.now.bytes.items
    → IsPut c.self.inside.pages.items c.args.to (take c.args.len (drop c.args.from (bytes_of c.self.inside.pages.items)))
    (set (set c.self.inside.pages.items c.first_page-target.result c.replace-bin.new.dest) c.first_page-target.result c.write_bin.new.bin)
across c f fits t room =
    copied c.self.inside.pages.items _ _ _ _ _ _ _ f fits t room c.bin_slice.result.now c.replace-bin.new.dest c.replace-bin.result c.write_bin.new.bin
    c.bin_slice.ensures c.replace-bin.ensures.value c.write_bin.ensures.start c.write_bin.ensures.bytes

pub invariant_of-self-2 : goal.invariant_of-self-2
invariant_of-self-2 c =
    let i = (goal.at.invariant_of-self-2 c).After-index in
    let m = across (goal.at.invariant_of-self-2 c).After-write_bin (source i) (source-fits i) (target i) (target-fits i) in
    (m.placed, omega (arith, m.long, c.self.invariant.1), c.self.invariant.2)

pub returns-clause-items : goal.returns-clause-items
returns-clause-items c =
    let i = (goal.at.returns-clause-items c).After-index in
    rw (← c.self.view_is) (across (goal.at.returns-clause-items c).After-write_bin (source i) (source-fits i) (target i) (target-fits i)).bytes

pub returns-clause-parts : goal.returns-clause-parts
returns-clause-parts c =
    let i = (goal.at.returns-clause-parts c).After-index in
    rw (← c.self.view_is) (across (goal.at.returns-clause-parts c).After-write_bin (source i) (source-fits i) (target i) (target-fits i)).sizes
