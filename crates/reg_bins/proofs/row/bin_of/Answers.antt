use Rattle.std.proofs.Common.{◌≡◌, ◌/◌, ◌<◌, ◌∙◌, sym, length, arith, false, vec_len}
use Rattle.std.specs.Prelude.{◌==◌}
use Rattle.std.proofs.lemmas.Bool.Decides.{nat_tests}
use Rattle.reg_bins.specs.declared.row.Page.{Page}
use Rattle.reg_bins.proofs.Bins.{in-pages, first-in, first-bin, own-bin}
use Rattle.reg_bins.proofs.row.bin_of.Goals as goal

pub bounds-pages-at : goal.bounds-pages-at
bounds-pages-at c = in-pages c.args.pages.now c.requires.placed c.args.at c.requires.inside

pub bounds-pages-page : goal.bounds-pages-page
bounds-pages-page c = first-in c.args.pages.now c.requires.placed c.args.at c.requires.inside _ c.index-pages-at.is

pub returns-then-is_empty : goal.returns-then-is_empty
returns-then-is_empty c =
    (c.index-pages-at.result.start / 4096, first-bin c.args.pages.now c.requires.placed c.args.at c.requires.inside _ c.index-pages-at.is _ c.index-pages-page.is)

has-some : (page : Page) → false ≡ (vec_len page.bytes == 0) → 0 < length page.bytes.items
has-some page e = grind (arith, nat_tests, e, page.bytes.ok.0)

pub returns : goal.returns
returns c =
    let some : 0 < length c.index-pages-at.result.bytes.items = has-some c.index-pages-at.result (sym c.if-is_empty.false ∙ c.is_empty.ensures) in
    (c.args.at / 4096, own-bin c.args.pages.now c.requires.placed c.args.at c.requires.inside _ c.index-pages-at.is some)
