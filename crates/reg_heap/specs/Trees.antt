-- Which maps from paths to keys are trees (Win32 registry reference, "Structure of the Registry", "Registry Element Size Limits").
use Rattle.std.specs.Prelude.{◌≡◌, ◌≢◌, ℕ, ◌<◌, ◌≤◌, bit_and, true, List, [], ◌∷◌, ◌++◌, length, Some, IsSome, ⊤}
use Rattle.std.specs.FinMap.{get}
use Rattle.std.specs.List.{AllByRecursion}
use Rattle.reg_names.specs.declared.TheConstants.{PATH_LIMIT}
use Rattle.reg_names.specs.Names.{folded, is_key_name, is_value_name}
use Rattle.reg_heap.specs.declared.limits.TheConstants.{DATA_LIMIT, DESCRIPTOR_LIMIT, SUBKEYS_LIMIT, VALUES_LIMIT}
use Rattle.reg_heap.specs.Paths.{Path, Tree, Rec, Member, children_of}

-- values of which no two have names that are the same after folding
abbrev pub NamesDiffer : List Member → Type 0
NamesDiffer [] = ⊤
NamesDiffer (v ∷ vs) = AllByRecursion (λ (w : Member). folded v.name ≢ folded w.name) vs × NamesDiffer vs

-- a tree of keys: it holds the root, and with each key the one above; the last name of a path is its key's name, folded; and the
-- names of a key's values differ after folding
pub record IsTree (t : Tree) : Type 0 where
  pub root : IsSome (get t [])
  pub parents : (p : Path) (name : List ℕ) → IsSome (get t (p ++ name ∷ [])) → IsSome (get t p)
  pub names : (p : Path) (name : List ℕ) (r : Rec) → get t (p ++ name ∷ []) ≡ Some r → folded r.name ≡ name
  pub apart : (p : Path) (r : Rec) → get t p ≡ Some r → NamesDiffer r.values

-- a value within the limits
pub record IsSmallValue (v : Member) : Type 0 where
  pub name : is_value_name v.name ≡ true
  pub bytes : length v.bytes ≤ DATA_LIMIT

-- a key within the limits; its marks hold no bit of 0x67
pub record IsSmallKey (r : Rec) : Type 0 where
  pub name : is_key_name r.name ≡ true
  pub marks : bit_and r.marks 103 ≡ 0
  pub class : length r.class < 65536
  pub described : 1 ≤ length r.descriptor
  pub descriptor : length r.descriptor ≤ DESCRIPTOR_LIMIT
  pub few : length r.values ≤ VALUES_LIMIT
  pub values : AllByRecursion IsSmallValue r.values

-- a tree within the limits: of each key, of how many are right below one, and of how deep one is
pub record IsWithinLimits (t : Tree) : Type 0 where
  pub keys : (p : Path) (r : Rec) → get t p ≡ Some r → IsSmallKey r
  pub few : (p : Path) → length (children_of t p) ≤ SUBKEYS_LIMIT
  pub shallow : (p : Path) → IsSome (get t p) → length p ≤ PATH_LIMIT
