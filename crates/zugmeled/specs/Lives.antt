-- How a hive begins.
use Rattle.std.specs.Prelude.{◌≡◌, ◌≢◌, ◌⊎◌, ◌||◌, not, ℕ, Bool, true, false, List, [], ◌++◌, Option, Some, None, Ok}
use Rattle.std.specs.FinMap.{insert, empty}
use Rattle.reg_names.specs.Names.{is_key_name}
use Rattle.reg_heap.specs.Paths.{Tree}
use Rattle.reg_model.specs.Causes.{is_bad_descriptor}
use Rattle.reg_model.specs.declared.statuses.TheConstants.{INVALID_PARAMETER, NOT_ENOUGH_MEMORY}
use Rattle.reg_tree.specs.NewHive.{IsNewHive}
use Rattle.reg_tree.specs.TreeKeys.{made_root}
use Rattle.reg_calls.specs.Views.{IsHive}
use Rattle.reg_tree_image.specs.Images.{loaded}
use Rattle.reg_tree_image.specs.Loads.{MeetsFault, SparesOwn, TakesOwn, fault_number}
use Rattle.reg_tree_image.specs.declared.LoadFault.{LoadFault}
use Rattle.reg_tree_image.specs.declared.LoadFault.TheVariants.{Read, Memory}
use Rattle.reg_image.specs.Loads.{IsLoaded}
use Rattle.zugmeled.specs.declared.statuses.TheConstants.{ALREADY_EXISTS, NOT_REGISTRY_FILE}
use Rattle.zugmeled.specs.Held.{HeldHive}
use Rattle.zugmeled.specs.Calls.{seen}

-- a hive of one root, to which nothing was done: its cells, its tree, and a journal that begins with number 0 and has no entry
pub record IsFresh (root_name descriptor : List ℕ) (moment : ℕ) (held : HeldHive) : Type 0 where
  pub cells : IsNewHive (seen held).keys root_name descriptor moment
  pub origin : (seen held).origin ≡ insert empty [] (made_root root_name descriptor moment)
  pub journal : (seen held).journal ≡ []
  pub base : (seen held).base ≡ 0
  pub hive : IsHive (seen held)

-- no key may have the name, or no key the descriptor
abbrev pub is_bad_root : List ℕ → List ℕ → Bool
is_bad_root root_name descriptor = not (is_key_name root_name) || is_bad_descriptor descriptor

-- 87 where the name or the descriptor is bad; else 8
abbrev pub IsNewRefused : List ℕ → List ℕ → ℕ → Type 0
IsNewRefused root_name descriptor status =
    ((status ≡ INVALID_PARAMETER) × (is_bad_root root_name descriptor ≡ true))
    ⊎ ((status ≡ NOT_ENOUGH_MEMORY) × (is_bad_root root_name descriptor ≡ false))

-- C holds a new hive; or it is refused, and C holds none. 183 where C held one, and it still does
abbrev pub IsNewTold : List ℕ → List ℕ → ℕ → Option HeldHive → Option HeldHive → ℕ → Type 0
IsNewTold root_name descriptor moment (Some old) new status = (status ≡ ALREADY_EXISTS) × (new ≡ Some old)
IsNewTold root_name descriptor moment None new status =
    ((status ≡ 0) × (held : HeldHive) × (new ≡ Some held) × IsFresh root_name descriptor moment held)
    ⊎ (IsNewRefused root_name descriptor status × (new ≡ None))

-- at the front of the bytes stands an image that loads; this is its tree
abbrev pub BeginsWith : List ℕ → Tree → Type 0
BeginsWith bytes tree = (image rest : List ℕ) × (bytes ≡ image ++ rest) × (loaded image ≡ Ok tree)

-- a hive that was loaded from the front of the bytes; an image that a hive made is taken as it stands
pub record IsLoadedFrom (bytes : List ℕ) (held : HeldHive) : Type 0 where
  pub image : List ℕ
  pub rest : List ℕ
  pub front : bytes ≡ image ++ rest
  pub is : IsLoaded image (seen held)
  pub stands : TakesOwn (seen held).keys.bins (Some bytes)

-- the fault that the bytes meet, none but for want of memory where a hive made their image, and never that a read failed; or no memory for
-- the hive of an image that loads
abbrev pub IsLoadRefused : List ℕ → LoadFault → Type 0
IsLoadRefused bytes fault =
    ((left : Option (List ℕ)) × MeetsFault fault (Some bytes) left × SparesOwn fault (Some bytes) × (fault ≢ Read))
    ⊎ ((fault ≡ Memory) × (tree : Tree) × BeginsWith bytes tree)

-- 8 for want of memory, else 1017 with the number of the fault
abbrev pub IsFaultTold : LoadFault → (status fault : ℕ) → Type 0
IsFaultTold Memory status fault = (status ≡ NOT_ENOUGH_MEMORY) × (fault ≡ 0)
IsFaultTold met status fault = (status ≡ NOT_REGISTRY_FILE) × (fault ≡ fault_number met)

-- C holds a hive that was loaded; or it is refused, and C holds none. 183 where C held one, and it still does
abbrev pub IsLoadTold : List ℕ → Option HeldHive → Option HeldHive → (status fault : ℕ) → Type 0
IsLoadTold bytes (Some old) new status fault = (status ≡ ALREADY_EXISTS) × (fault ≡ 0) × (new ≡ Some old)
IsLoadTold bytes None new status fault =
    ((status ≡ 0) × (fault ≡ 0) × (held : HeldHive) × (new ≡ Some held) × IsLoadedFrom bytes held)
    ⊎ ((met : LoadFault) × IsLoadRefused bytes met × IsFaultTold met status fault × (new ≡ None))
