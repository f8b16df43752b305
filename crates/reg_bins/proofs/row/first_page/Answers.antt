use Rattle.std.proofs.Common.{◌≡◌, ◌/◌, ◌<◌, length, get_or, subst}
use Rattle.reg_bins.specs.declared.row.Page.{Page}
use Rattle.reg_bins.specs.Internal.{IsBin}
use Rattle.reg_bins.proofs.Bins.{in-pages, first-in, first-bin}
use Rattle.reg_bins.proofs.row.first_page.Goals as goal

pub bounds-pages-at : goal.bounds-pages-at
bounds-pages-at c = in-pages c.args.pages.now c.requires.placed c.args.at c.requires.inside

pub bounds-pages-at-2 : goal.bounds-pages-at-2
bounds-pages-at-2 c = in-pages c.args.pages.now c.requires.placed c.args.at c.requires.inside

pub returns-clause-within : goal.returns-clause-within
returns-clause-within c =
    subst (λ (page : Page). page.start / 4096 < length c.args.pages.now) c.index-pages-at.is
    (first-in c.args.pages.now c.requires.placed c.args.at c.requires.inside _ c.index-pages-at.is)

pub returns-clause-bin : goal.returns-clause-bin
returns-clause-bin c =
    subst (λ (page : Page). (bin : Page) → bin ≡ get_or c.args.pages.now (page.start / 4096) bin → IsBin c.args.pages.now c.args.at (page.start / 4096) bin) c.index-pages-at.is
    (first-bin c.args.pages.now c.requires.placed c.args.at c.requires.inside _ c.index-pages-at.is)
