use Rattle.std.proofs.Common.{◌≡◌, ◌+◌, ◌++◌, ◌∷◌, [], length, length-append, append_assoc, ap, ◌∙◌, refl, arith}
use Rattle.reg_bins.specs.declared.row.Page.{Page}
use Rattle.reg_bins.proofs.Bins.{within-more}
use Rattle.reg_bins.proofs.row.add_pages.Goals as goal

pub add_page-requires : goal.add_page-requires
add_page-requires c = omega (arith, c.loop-page.invariant.long, c.loop-page.invariant.room, c.requires, c.loop-page-test.true)

pub loop-page-preserved : goal.loop-page-preserved
loop-page-preserved c =
    let i = c.loop-page.invariant in
    let page : Page = record { start = c.args.start; bytes = c.new.result } in
    let items = c.add_page.ensures.items in
    let long : length c.add_page.new.pages.items ≡ length c.loop-page.pages.items + 1 = ap length items ∙ length-append c.loop-page.pages.items (page ∷ []) in
    record {
      rest = i.rest ++ page ∷ [];
      items = items ∙ ap (λ pages. pages ++ page ∷ []) i.items ∙ append_assoc c.args.pages.now.items i.rest (page ∷ []);
      within = within-more c.args.start c.loop-page._page i.rest page i.within refl c.new.ensures.items;
      long = omega (arith, long, i.long, c.add_page.new.pages.ok.0, c.loop-page.pages.ok.0);
      room = omega (arith, i.room, c.add_page.ensures.room);
    }
