-- A key copied from one tree to another, with all below it (Win32 registry reference, `RegCopyTree`, "Registry Element Size Limits").
use Rattle.std.specs.Prelude.{◌≡◌, ◌⊎◌, ◌<◌, ◌≤◌, ℕ, false, List, [], ◌∷◌, ◌++◌, length, Some, None, IsSome, ⊤}
use Rattle.std.specs.Option.{option_map}
use Rattle.std.specs.FinMap.{get}
use Rattle.reg_names.specs.declared.TheConstants.{PATH_LIMIT}
use Rattle.reg_heap.specs.declared.limits.TheConstants.{SUBKEYS_LIMIT}
use Rattle.reg_heap.specs.Paths.{Path, Tree, Rec, children_of}
use Rattle.reg_heap.specs.Edits.{child_path, edited, at_time, is_within}
use Rattle.reg_tree_text.specs.PathQueries.{key_at}
use Rattle.reg_copy.specs.declared.fault.CopyFault.{CopyFault}
use Rattle.reg_copy.specs.declared.fault.CopyFault.TheVariants.{NoKey, NoPlace, Taken, Limit, Full, Memory}

-- the copy of the key at a path: the marks of the root, which say that it is one, aren't copied
abbrev pub copy_of : Path → Rec → Rec
copy_of [] r = record r { marks = 0 }
copy_of (name ∷ path) r = r

-- below the key at a path, whose time is a moment, stands a copy of another tree's key and of all that is below it, at the path `to`; what
-- is elsewhere is as it was
pub record HasCopy (source : Tree) (from : Path) (old : Tree) (into to : Path) (moment : ℕ) (new : Tree) : Type 0 where
  pub copied : (path : Path) → get new (to ++ path) ≡ option_map (copy_of (from ++ path)) (get source (from ++ path))
  pub others : (path : Path) → is_within to path ≡ false → get new path ≡ get (edited old into (at_time moment)) path

-- there is a key to be copied, and one to copy it into, where none of its name is
pub record MayCopy (source : Tree) (key : List ℕ) (target : Tree) (place : List ℕ) : Type 0 where
  pub from : Path
  pub into : Path
  pub copied : Rec
  pub from_is : key_at source key ≡ Some from
  pub into_is : key_at target place ≡ Some into
  pub key_is : get source from ≡ Some copied
  pub free : get target (child_path into copied.name) ≡ None

-- a key was copied, under its own name
abbrev pub IsCopied : (source : Tree) (key : List ℕ) (old : Tree) (place : List ℕ) (moment : ℕ) (new : Tree) → Type 0
IsCopied source key old place moment new =
    (may : MayCopy source key old place) × HasCopy source may.from old may.into (child_path may.into may.copied.name) moment new

-- a copied key would have too many names on its path, or there are as many keys as there may be where the copy would stand
abbrev pub WontFit : (source target : Tree) (from into to : Path) → Type 0
WontFit source target from into to =
    ((path : Path) × IsSome (get source (from ++ path)) × (PATH_LIMIT < length (to ++ path))) ⊎ (SUBKEYS_LIMIT ≤ length (children_of target into))

-- why a key wasn't copied
abbrev pub CopyStops : CopyFault → (source : Tree) (key : List ℕ) (target : Tree) (place : List ℕ) → Type 0
CopyStops NoKey source key target place = key_at source key ≡ None
CopyStops NoPlace source key target place = IsSome (key_at source key) × (key_at target place ≡ None)
CopyStops Taken source key target place =
    (from into : Path) × (copied : Rec) × (key_at source key ≡ Some from) × (key_at target place ≡ Some into) × (get source from ≡ Some copied)
    × IsSome (get target (child_path into copied.name))
CopyStops Limit source key target place =
    (may : MayCopy source key target place) × WontFit source target may.from may.into (child_path may.into may.copied.name)
CopyStops Full source key target place = MayCopy source key target place
CopyStops Memory source key target place = MayCopy source key target place

-- nothing has changed behind these
abbrev pub IsEarly : CopyFault → Type 0
IsEarly NoKey = ⊤
IsEarly NoPlace = ⊤
IsEarly Taken = ⊤
IsEarly Limit = ⊥
IsEarly Full = ⊥
IsEarly Memory = ⊥
