use Rattle.std.proofs.Common.{◌≡◌, ℕ, ◌≤◌, length, max}
use Rattle.reg_workers.specs.Internal.Parts.{part_at}
use Rattle.reg_workers.proofs.part.make_parts.Given as goal

abbrev pub invariant-loop-more : goal.invariant-loop-more
invariant-loop-more l = record {
  long : length l.parts.items ≡ l._more;
  longer : length l.fn.parts.items ≤ l._more;
  few : l._more ≤ max (length l.fn.parts.items) l.count;
  same : (s : ℕ) → part_at s l.parts.items ≡ part_at s l.fn.parts.items;
}
