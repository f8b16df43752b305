-- Entries in the order of their numbers.
use Rattle.std.specs.Prelude.{ℕ, List}
use Rattle.std.specs.Ordering.{nat_cmp}
use Rattle.std.specs.FinMap.{entries, from_entries}

-- the entries in the order of their numbers, the first one at each number
unfoldable pub ordered : {X : Type 0} → List (ℕ × X) → List (ℕ × X)
ordered es = entries (from_entries {R = nat_cmp} es)
