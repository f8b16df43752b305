-- The descriptors of the securities that were met.
use Rattle.std.specs.Prelude.{ℕ, Bool, List, Vec}
use Rattle.std.specs.Hash.FoldHasher.{initial, write, finish}
use Rattle.std.specs.declared.cmp.Ordering.{Ordering}
use Rattle.std.specs.List.{list_any}
use Rattle.std.specs.Ordering.{nat_cmp, ordering_then}
use Rattle.std.specs.Cmp.Lexicographic.{slice_cmp}
use Rattle.std.specs.BTreeMap.{is_at}

-- the hash of a descriptor
abbrev pub descriptor_hash : List ℕ → ℕ
descriptor_hash descriptor = finish (write initial descriptor)

-- the order of descriptors behind their hashes
abbrev pub hashed_cmp : {Y : Type 0} → List ℕ → ℕ × Vec ℕ Y → Ordering
hashed_cmp descriptor k = ordering_then (nat_cmp (descriptor_hash descriptor) k.0) (slice_cmp nat_cmp descriptor k.1.items)

-- among these descriptors, each behind its hash, is that one
abbrev pub is_met : {Y : Type 0} → List (ℕ × Vec ℕ Y) → List ℕ → Bool
is_met met descriptor = list_any (is_at (hashed_cmp descriptor)) met
