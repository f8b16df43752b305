-- The descriptors that stand by their hashes, behind a table of securities.
use Rattle.std.specs.Prelude.{◌≡◌, ◌≢◌, ℕ, List, map, Bool, false, bytes_eq, if◌then◌else◌, Option, Some, None, IsSome}
use Rattle.std.specs.Ordering.{nat_cmp}
use Rattle.std.specs.List.Sorted.{IsStrictlySortedBy}
use Rattle.std.specs.BTreeMap.{is_at}
use Rattle.std.specs.Map.{keys_of, lookup}
use Rattle.std.specs.Hash.FoldHasher.{initial, write, finish}
use Rattle.reg_security.specs.Rings.{DescriptorCells, cell_of}
use Rattle.reg_security.specs.declared.hashed.DescriptorCell.{DescriptorCell}
use Rattle.reg_security.specs.declared.hashed.Standing.{Standing}
use Rattle.reg_security.specs.declared.hashed.Standing.TheVariants.{Nothing, This, Another}

-- the hash of a descriptor
abbrev pub descriptor_hash : List ℕ → ℕ
descriptor_hash descriptor = finish (write initial descriptor)

-- the map's entries, as descriptors with their cells
abbrev pub shown_hashed : List (ℕ × DescriptorCell) → DescriptorCells
shown_hashed firsts = record { entries = map (λ (e : ℕ × DescriptorCell). (e.1.descriptor.items, e.1.cell)) firsts }

-- each descriptor stands by its hash, and one alone by each
pub record AreByHash (firsts : List (ℕ × DescriptorCell)) : Type 0 where
  pub rising : IsStrictlySortedBy nat_cmp (keys_of firsts)
  pub hashed : (hash : ℕ) (first : DescriptorCell) → lookup (is_at (nat_cmp hash)) firsts ≡ Some first → descriptor_hash first.descriptor.items ≡ hash

-- what stands by a hash, if something does, has this descriptor
abbrev pub is_this : List ℕ → Option DescriptorCell → Bool
is_this descriptor None = false
is_this descriptor (Some first) = bytes_eq descriptor first.descriptor.items

-- the cell of what stands by a hash, if it has this descriptor
abbrev pub cell_if : List ℕ → Option DescriptorCell → Option ℕ
cell_if descriptor None = None
cell_if descriptor (Some first) = if bytes_eq descriptor first.descriptor.items then Some first.cell else None

-- what stands by a descriptor's hash
abbrev pub first_for : List (ℕ × DescriptorCell) → List ℕ → Option DescriptorCell
first_for firsts descriptor = lookup (is_at (nat_cmp (descriptor_hash descriptor))) firsts

-- another descriptor is there, and has the hash of this one
abbrev pub IsHashTaken : DescriptorCells → List ℕ → Type 0
IsHashTaken table descriptor =
    (other : List ℕ) × IsSome (cell_of table other) × (descriptor_hash other ≡ descriptor_hash descriptor) × (bytes_eq descriptor other ≡ false)

-- no descriptor that is there has the hash of this one
abbrev pub IsHashFree : DescriptorCells → List ℕ → Type 0
IsHashFree table descriptor = (other : List ℕ) → IsSome (cell_of table other) → descriptor_hash other ≢ descriptor_hash descriptor

-- what stands by the hash of a descriptor: nothing, this one, or another one
abbrev pub IsStanding : DescriptorCells → List ℕ → Standing → Type 0
IsStanding table descriptor Nothing = IsHashFree table descriptor
IsStanding table descriptor This = IsSome (cell_of table descriptor)
IsStanding table descriptor Another = (cell_of table descriptor ≡ None) × IsHashTaken table descriptor
