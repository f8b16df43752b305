use Rattle.std.proofs.Common.{◌/◌, ◌%◌, length, set, refl, ap, ◌∙◌, arith}
use Rattle.std.proofs.lemmas.List.{length-set}
use Rattle.reg_bins.specs.Internal.{numbers_of}
use Rattle.reg_bins.proofs.TablePages.{page_of, whole-at, number-set}
use Rattle.reg_bins.proofs.tables.PageTables.set.Goals as goal

pub index_mut-requires : goal.index_mut-requires
index_mut-requires c =
    let at = page_of c.self.inside.pages.items c.args.place c.self.invariant (rw (ap (λ t. t.items) c.self.view_is) c.requires) in
    omega (arith, at, c.self.inside.pages.ok.0)

pub index_mut-requires-2 : goal.index_mut-requires-2
index_mut-requires-2 c =
    let at = page_of c.self.inside.pages.items c.args.place c.self.invariant (rw (ap (λ t. t.items) c.self.view_is) c.requires) in
    let long = whole-at c.self.inside.pages.items (c.args.place / 512) c.index_mut.result.now c.self.invariant at c.index_mut.ensures.value in
    omega (arith, long, c.index_mut.result.now.numbers.ok.0)

pub returns-clause-items : goal.returns-clause-items
returns-clause-items c =
    let at = page_of c.self.inside.pages.items c.args.place c.self.invariant (rw (ap (λ t. t.items) c.self.view_is) c.requires) in
    number-set c.self.inside.pages.items c.args.place (c.args.place / 512) (c.args.place % 512) c.args.number c.index_mut.result.now _
    c.self.invariant (omega arith) (omega arith) at c.index_mut.ensures.value refl ∙
    ap (λ t. set t.items c.args.place c.args.number) c.self.view_is

pub returns-clause-long : goal.returns-clause-long
returns-clause-long c =
    let at = page_of c.self.inside.pages.items c.args.place c.self.invariant (rw (ap (λ t. t.items) c.self.view_is) c.requires) in
    ap length
    (number-set c.self.inside.pages.items c.args.place (c.args.place / 512) (c.args.place % 512) c.args.number c.index_mut.result.now _
    c.self.invariant (omega arith) (omega arith) at c.index_mut.ensures.value refl) ∙
    length-set (numbers_of c.self.inside.pages.items) c.args.place c.args.number ∙ ap (λ t. length t.items) c.self.view_is
