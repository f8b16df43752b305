use Rattle.std.proofs.Common.{◌/◌, ◌%◌, get_or, sym, ap, ◌∙◌, arith}
use Rattle.std.proofs.lemmas.Grind.{get_or_default_zero}
use Rattle.reg_bins.proofs.TablePages.{page_of, whole-at, number-at}
use Rattle.reg_bins.proofs.tables.PageTables.get.Goals as goal

pub index-page-requires : goal.index-page-requires
index-page-requires c =
    let at = page_of c.self.inside.pages.items c.args.place c.self.invariant (rw (ap (λ t. t.items) c.self.view_is) c.requires) in
    omega (arith, at, c.self.inside.pages.ok.0)

pub index-requires : goal.index-requires
index-requires c =
    let at = page_of c.self.inside.pages.items c.args.place c.self.invariant (rw (ap (λ t. t.items) c.self.view_is) c.requires) in
    let long = whole-at c.self.inside.pages.items (c.args.place / 512) c.index-page.result.now c.self.invariant at c.index-page.ensures in
    omega (arith, long, c.index-page.result.now.numbers.ok.0)

pub returns : goal.returns
returns c =
    let at = page_of c.self.inside.pages.items c.args.place c.self.invariant (rw (ap (λ t. t.items) c.self.view_is) c.requires) in
    let long = whole-at c.self.inside.pages.items (c.args.place / 512) c.index-page.result.now c.self.invariant at c.index-page.ensures in
    c.index.ensures ∙ get_or_default_zero c.index-page.result.now.numbers.items (c.args.place % 512) _ (omega (arith, long)) ∙
    sym (number-at c.self.inside.pages.items c.args.place (c.args.place / 512) (c.args.place % 512) c.index-page.result.now c.self.invariant (omega arith) (omega arith) at c.index-page.ensures) ∙
    ap (λ t. get_or t.items c.args.place 0) c.self.view_is
