-- The map from descriptors to cells, behind a table of securities.
use Rattle.std.specs.Prelude.{◌≡◌, ℕ, Bool, true, false, List, ◌++◌, map, Option, Some, None, IsSome, Vec}
use Rattle.std.specs.Ordering.{nat_cmp}
use Rattle.std.specs.Cmp.Lexicographic.{slice_cmp}
use Rattle.std.specs.BTreeMap.{is_at}
use Rattle.std.specs.Map.{lookup}
use Rattle.reg_security.specs.Rings.{DescriptorCells, Notes}

-- the descriptors that stand by their hashes, and then the others, as the table shows them
abbrev pub shown : {Y : Type 0} → DescriptorCells → List (Vec ℕ Y × ℕ) → DescriptorCells
shown {Y} hashed others = record { entries = hashed.entries ++ map (λ (e : Vec ℕ Y × ℕ). (e.0.items, e.1)) others }

-- what the others have for a descriptor
abbrev pub found_for : {Y : Type 0} → List (Vec ℕ Y × ℕ) → List ℕ → Option ℕ
found_for others descriptor = lookup (is_at (λ k. slice_cmp nat_cmp descriptor k.items)) others

-- room was made among the others for a descriptor that had none there, or it has a cell there and nothing changed
abbrev pub MakesRoom : {Y : Type 0} → List (Vec ℕ Y × ℕ) → List ℕ → Bool → List (Vec ℕ Y × ℕ) → Type 0
MakesRoom before descriptor true after = (found_for before descriptor ≡ None) × Notes (found_for before) descriptor (Some 0) (found_for after)
MakesRoom before descriptor false after = (after ≡ before) × IsSome (found_for before descriptor)
