use Rattle.std.proofs.Common.{◌≡◌, ◌/◌, ◌-◌, ap, ◌∙◌, arith, length, length-append, [], ◌∷◌}
use Rattle.reg_bins.specs.declared.row.Page.{Page}
use Rattle.reg_bins.proofs.Bins.{IsPushed, pages-long, pushed}
use Rattle.reg_bins.proofs.row.BinRow.push.Goals.{After-add_pages}
use Rattle.reg_bins.proofs.row.BinRow.push.Goals as goal

pub add_page-requires : goal.add_page-requires
add_page-requires c =
    let room = rw (← c.self.view_is) at c.requires.room in
    omega (arith, room, pages-long 0 0 0 _ c.self.invariant.0, c.self.inside.pages.ok.0, c.requires.some, c.self.invariant.2)

pub add_pages-requires : goal.add_pages-requires
add_pages-requires c =
    let room = rw (← c.self.view_is) at c.requires.room in
    let page : Page = record { start = c.len-start.result; bytes = c.args.bytes } in
    let long = ap length c.add_page.ensures.items ∙ length-append c.self.inside.pages.items (page ∷ []) in
    omega (
      arith,
      room,
      long,
      pages-long 0 0 0 _ c.self.invariant.0,
      c.self.inside.pages.ok.0,
      c.add_page.new.pages.ok.0,
      c.len.ensures,
      c.args.bytes.ok.0,
      c.requires.some,
      c.self.invariant.2,
      c.add_page.ensures.room,
    )

made : (c : goal.After-add_pages) → IsPushed c.self.inside.pages.items c.args.bytes.items c.add_pages.new.pages.items
made c =
    let page : Page = record { start = c.len-start.result; bytes = c.args.bytes } in
    let rest = c.add_pages.ensures.items in
    let more : c.len.result / 4096 - 1 ≡ length c.args.bytes.items / 4096 - 1 = ap (λ n. n / 4096 - 1) (c.len.ensures ∙ c.args.bytes.ok.0) in
    pushed c.self.inside.pages.items c.self.invariant.0 page _ c.add_page.new.pages.items c.add_pages.new.pages.items rest.0
    (rw (← c.self.view_is) at c.len-start.ensures.long) c.requires.some c.requires.pages more c.add_page.ensures.items rest.1 rest.2

pub invariant_of-self : goal.invariant_of-self
invariant_of-self c =
    let m = made (goal.at.invariant_of-self c).After-add_pages in
    let limit = rw (← c.self.view_is) at c.requires.limit in
    (m.placed, rw (m.items, length-append) limit, omega (arith, c.self.invariant.2, c.add_page.ensures.room, c.add_pages.ensures.room))

pub returns-clause-items : goal.returns-clause-items
returns-clause-items c = rw (← c.self.view_is) (made (goal.at.returns-clause-items c).After-add_pages).items

pub returns-clause-parts : goal.returns-clause-parts
returns-clause-parts c = rw (← c.self.view_is) (made (goal.at.returns-clause-parts c).After-add_pages).sizes
