-- What is sought in an image along a path, without loading it, and what comes of it.
use Rattle.std.specs.Prelude.{◌≡◌, ℕ, ◌+◌, ◌<◌, ◌≤◌, nat_le, Option, Some, Result, Ok, Err, List, length, take, drop}
use Rattle.std.specs.Io.KnownBytes.{Consumes, IsAtEnd}
use Rattle.reg_heap.specs.ByteWords.{word}
use Rattle.reg_heap.specs.Heaps.{Heap}
use Rattle.reg_heap.specs.Paths.{Tree, Member}
use Rattle.reg_heap.specs.declared.limits.TheConstants.{BINS_LIMIT}
use Rattle.reg_arena.specs.Cells.{bins_of, cells_of_bins, content_in}
use Rattle.reg_tree_image.specs.declared.LoadFault.{LoadFault}
use Rattle.reg_tree_image.specs.declared.LoadFault.TheVariants.{Read, Short, Bins, Cells, Memory}
use Rattle.reg_tree_image.specs.WalkSteps.{Seen, Step, ◌>>=◌, ◌>>◌, check, given}
use Rattle.reg_tree_image.specs.BaseBlock.{block_walk}
use Rattle.reg_tree_image.specs.Images.{nothing, loaded, fault_in}
use Rattle.reg_tree_image.specs.Loads.{asked_for, HasBlock, IsOutside}
use Rattle.reg_tree_image.specs.PathWalk.{value_of_path, value_in_tree}
use Rattle.reg_tree_image.specs.KeyListing.{KeyRead, Listing, key_on_path, IsListed, ListsAs}

-- a walk of the cells of a hive, of its minor version and from its root on
abbrev pub Walk : Type 0 → Type 0
Walk A = Heap → ℕ → ℕ → Step A

-- that walk of the hive in the bins: the headers of all bins, then the cells of all, then the keys that it comes to
unfoldable pub bins_path : {A : Type 0} → Walk A → List ℕ → ℕ → ℕ → Step A
bins_path walk bins minor root = do
  places ← given Bins (bins_of bins)
  cells ← given Cells (cells_of_bins bins places)
  walk (content_in bins cells) minor root

-- that of an image: its base block, the size of the bins, and the hive in them
unfoldable pub image_path : {A : Type 0} → Walk A → List ℕ → Step A
image_path walk bytes = do
  check Short (nat_le 4096 (length bytes))
  block ← block_walk bytes
  check Short (nat_le (4096 + block.size) (length bytes))
  bins_path walk (take block.size (drop 4096 bytes)) block.minor block.root

-- the result of a walk
abbrev pub result_in : {A : Type 0} → Result (A × Seen) LoadFault → Result A LoadFault
result_in (Ok x) = Ok x.0
result_in (Err fault) = Err fault

-- what the walk finds in an image, or the fault of the first test that fails on it
unfoldable pub looked_up : {A : Type 0} → Walk A → List ℕ → Result A LoadFault
looked_up walk bytes = result_in (image_path walk bytes nothing)

-- of the input an image was read to the end of its bins; this the walk finds in it, and where it loads, this is that of its tree
pub record Finds {A : Type 0} (walk : Walk A) (IsOf : Tree → A → Type 0) (unread left : Option (List ℕ)) (found : A) : Type 0 where
  pub image : List ℕ
  pub consumed : Consumes unread left image
  pub size : length image ≡ 4096 + word image 40
  pub finds : looked_up walk image ≡ Ok found
  pub as_loaded : (tree : Tree) → loaded image ≡ Ok tree → IsOf tree found

-- why the walk ended, where so much of an image was read and this is left, as for loading: but no new bins are built
abbrev pub IsMissed : {A : Type 0} → LoadFault → Walk A → List ℕ → Option (List ℕ) → Type 0
IsMissed Read walk image left = length image < asked_for image
IsMissed Short walk image left = (length image < asked_for image) × (fault_in (looked_up walk image) ≡ Some Short) × IsAtEnd left
IsMissed Memory walk image left = (length image ≤ asked_for image) × HasBlock image
IsMissed fault walk image left = (length image ≡ asked_for image) × (fault_in (looked_up walk image) ≡ Some fault)

-- of the input so much was read, and it met that fault; where that is an image that loads, the fault is none of its own
pub record Misses {A : Type 0} (fault : LoadFault) (walk : Walk A) (unread left : Option (List ℕ)) : Type 0 where
  pub image : List ℕ
  pub consumed : Consumes unread left image
  pub within : length image ≤ 4096 + BINS_LIMIT
  pub missed : IsMissed fault walk image left
  pub as_loaded : (tree : Tree) → loaded image ≡ Ok tree → IsOutside fault

-- ---- a value of the key at a path

abbrev pub value_walk : List (List ℕ) → List ℕ → Walk (Option (Option Member))
value_walk names name heap minor root = value_of_path heap minor names root name

abbrev pub IsValueOf : List (List ℕ) → List ℕ → Tree → Option (Option Member) → Type 0
IsValueOf names name tree found = found ≡ value_in_tree tree names name

-- an image has this at a path, under a value's name
abbrev pub FindsThere : (unread left : Option (List ℕ)) → List (List ℕ) → List ℕ → Option (Option Member) → Type 0
FindsThere unread left names name found = Finds (value_walk names name) (IsValueOf names name) unread left found

abbrev pub MissesThere : LoadFault → (unread left : Option (List ℕ)) → List (List ℕ) → List ℕ → Type 0
MissesThere fault unread left names name = Misses fault (value_walk names name) unread left

-- ---- the key at a path

abbrev pub key_walk : List (List ℕ) → Walk (Option KeyRead)
key_walk names heap minor root = key_on_path heap minor names root

abbrev pub IsKeyOf : List (List ℕ) → Tree → Option KeyRead → Type 0
IsKeyOf names tree found = ListsAs tree names found

-- of the key that an image has at a path this is listed
pub record ListsThere (unread left : Option (List ℕ)) (names : List (List ℕ)) (listing : Option Listing) : Type 0 where
  pub read : Option KeyRead
  pub finds : Finds (key_walk names) (IsKeyOf names) unread left read
  pub listed : IsListed read listing
