use Rattle.std.proofs.Common.{◌≡◌, ℕ, ◌≤◌, length, take, max, get_or, ◌-◌}
use Rattle.reg_bins.specs.Internal.{numbers_of, AreWhole}
use Rattle.reg_bins.proofs.tables.add_tables.Given as goal

abbrev pub invariant-loop-alloc : goal.invariant-loop-alloc
invariant-loop-alloc l = record {
  front : take (length l.fn.pages.items) l.pages.items ≡ l.fn.pages.items;
  whole : AreWhole l.pages.items;
  same : (place : ℕ) → get_or (numbers_of l.pages.items) place 0 ≡ get_or (numbers_of l.fn.pages.items) place 0;
  longer : length l.fn.pages.items ≤ length l.pages.items;
  most : length l.pages.items ≤ max (length l.fn.pages.items) l.long;
}

abbrev pub decreases-loop-alloc : goal.decreases-loop-alloc
decreases-loop-alloc l = l.long - length l.pages.items
