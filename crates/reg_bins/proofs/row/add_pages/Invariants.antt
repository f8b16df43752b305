use Rattle.std.proofs.Common.{◌≡◌, ◌+◌, ◌≤◌, ◌++◌, List, vec_len, vec_capacity}
use Rattle.reg_bins.specs.declared.row.Page.{Page}
use Rattle.reg_bins.specs.Internal.{AreWithin}
use Rattle.reg_bins.proofs.row.add_pages.Given as goal

abbrev pub invariant-loop-page : goal.invariant-loop-page
invariant-loop-page l = record {
  rest : List Page;
  items : l.pages.items ≡ l.fn.pages.items ++ rest;
  within : AreWithin l.start l._page rest;
  long : vec_len l.pages ≡ vec_len l.fn.pages + l._page;
  room : vec_capacity l.fn.pages ≤ vec_capacity l.pages;
}
