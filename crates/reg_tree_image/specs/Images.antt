-- Images of hives, and what loading them gives (Suhanov, Windows registry file format specification, "Format of primary files").
use Rattle.std.specs.Prelude.{ℕ, suc, ◌+◌, nat_le, Option, Some, None, Result, Ok, Err, List, [], ◌++◌, length, take, drop}
use Rattle.std.specs.FinMap.{from_entries}
use Rattle.std.specs.Result.{result_ok}
use Rattle.reg_names.specs.declared.TheConstants.{PATH_LIMIT}
use Rattle.reg_heap.specs.Paths.{Tree}
use Rattle.reg_arena.specs.Cells.{bins_of, cells_of_bins, content_in}
use Rattle.reg_tree_image.specs.declared.LoadFault.{LoadFault}
use Rattle.reg_tree_image.specs.declared.LoadFault.TheVariants.{Short, Bins, Cells}
use Rattle.reg_tree_image.specs.WalkSteps.{Seen, Step, ◌>>=◌, ◌>>◌, check, given}
use Rattle.reg_tree_image.specs.LoadingWalk.{root_path, key_from}
use Rattle.reg_tree_image.specs.BaseBlock.{block_of, block_walk}

-- the image of bins with a root, at a moment, with a sequence number
unfoldable pub image_of : List ℕ → ℕ → ℕ → ℕ → List ℕ
image_of bins root moment sequence = block_of (length bins) root moment sequence ++ bins

-- the walk of the hive in the bins: the headers of all bins, then the cells of all, then the keys from the root on, of which at most 512
-- lead down from it
unfoldable pub bins_walk : List ℕ → ℕ → ℕ → Step (Unit {0})
bins_walk bins minor root = do
  places ← given Bins (bins_of bins)
  cells ← given Cells (cells_of_bins bins places)
  key_from (content_in bins cells) minor (suc PATH_LIMIT) [] root_path root

-- the walk of an image: its base block, the size of the bins, and the hive in them; what follows the bins isn't read
unfoldable pub image_walk : List ℕ → Step (Unit {0})
image_walk bytes = do
  check Short (nat_le 4096 (length bytes))
  block ← block_walk bytes
  check Short (nat_le (4096 + block.size) (length bytes))
  bins_walk (take block.size (drop 4096 bytes)) block.minor block.root

-- nothing was named yet, nothing told
abbrev pub nothing : Seen
nothing = record { found = []; told = [] }

-- the tree of the keys that were told
abbrev pub tree_told : Seen → Tree
tree_told seen = from_entries seen.told

abbrev pub tree_in : Result (Unit {0} × Seen) LoadFault → Result Tree LoadFault
tree_in (Ok x) = Ok (tree_told x.1)
tree_in (Err fault) = Err fault

abbrev pub fault_in : {A : Type 0} → Result A LoadFault → Option LoadFault
fault_in (Ok x) = None
fault_in (Err fault) = Some fault

-- an image's tree, or the fault of the first test that fails
unfoldable pub loaded : List ℕ → Result Tree LoadFault
loaded bytes = tree_in (image_walk bytes nothing)

-- the tree of an image, where no test fails
abbrev pub image_tree : List ℕ → Option Tree
image_tree bytes = result_ok (loaded bytes)

-- the fault of the first test that fails, where one does
abbrev pub fault_of : List ℕ → Option LoadFault
fault_of bytes = fault_in (loaded bytes)
