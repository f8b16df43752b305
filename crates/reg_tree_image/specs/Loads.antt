-- What comes of loading a tree from a reader.
use Rattle.std.specs.Prelude.{◌≡◌, false, ℕ, ◌+◌, ◌++◌, ⊤, ◌<◌, ◌≤◌, ◌⊎◌, nat_lt, if◌then◌else◌, Option, Some, None, Result, Ok, Err, IsOk, List, length, take, drop}
use Rattle.std.specs.Io.KnownBytes.{Consumes, IsAtEnd}
use Rattle.reg_text.specs.Failures.{Stays, Fails}
use Rattle.reg_heap.specs.ByteWords.{word}
use Rattle.reg_heap.specs.Paths.{Tree}
use Rattle.reg_heap.specs.declared.limits.TheConstants.{BINS_LIMIT}
use Rattle.reg_tree_image.specs.declared.LoadFault.{LoadFault}
use Rattle.reg_tree_image.specs.declared.LoadFault.TheVariants.{Read, Short, Signature, Version, Checksum, Dirty, Bins, Cells, Record, Loop}
use Rattle.reg_tree_image.specs.declared.LoadFault.TheVariants.{Twice, NotInProfile, Limit, Memory}
use Rattle.reg_tree_image.specs.declared.block.BaseBlock.{BaseBlock}
use Rattle.reg_tree_image.specs.WalkSteps.{Seen}
use Rattle.reg_tree_image.specs.BaseBlock.{block_walk}
use Rattle.reg_arena.specs.Arena.{IsArena, heap_of, Bins as ArenaBins}
use Rattle.reg_arena.specs.Cells.{cell_at, cells_of}
use Rattle.reg_shape.specs.Whole.{Whole}
use Rattle.reg_tree_image.specs.Images.{nothing, image_of, loaded, fault_of}
use Rattle.reg_tree_image.specs.CrowdedBins.{AreCrowded}

-- the number of a fault
abbrev pub fault_number : LoadFault → ℕ
fault_number Read = 1
fault_number Short = 2
fault_number Signature = 3
fault_number Version = 4
fault_number Checksum = 5
fault_number Dirty = 6
fault_number Bins = 7
fault_number Cells = 8
fault_number Record = 9
fault_number Loop = 10
fault_number Twice = 11
fault_number NotInProfile = 12
fault_number Limit = 13
fault_number Memory = 14

-- a base block, and the bins behind it, where its tests told their size
abbrev pub asked_by : Result (BaseBlock × Seen) LoadFault → ℕ
asked_by (Ok x) = 4096 + x.0.size
asked_by (Err fault) = 4096

-- how many bytes the steps so far ask for, where these were read: the base block, and once that passes its tests, the bins too
abbrev pub asked_for : List ℕ → ℕ
asked_for bytes = if nat_lt (length bytes) 4096 then 4096 else asked_by (block_walk bytes nothing)

-- a base block was read, and passes its tests
abbrev pub HasBlock : List ℕ → Type 0
HasBlock bytes = (4096 ≤ length bytes) × IsOk (block_walk bytes nothing)

-- of the input an image was read to the end of its bins, and this is its tree
pub record ReadsImage (unread left : Option (List ℕ)) (tree : Tree) : Type 0 where
  pub image : List ℕ
  pub consumed : Consumes unread left image
  pub size : length image ≡ 4096 + word image 40
  pub loads : loaded image ≡ Ok tree

-- of the input an image was read to the end of its bins; this is its tree, and this its sequence number
pub record ReadsNumbered (unread left : Option (List ℕ)) (tree : Tree) (sequence : ℕ) : Type 0 where
  pub image : List ℕ
  pub consumed : Consumes unread left image
  pub size : length image ≡ 4096 + word image 40
  pub loads : loaded image ≡ Ok tree
  pub numbered : sequence ≡ word image 4

-- a base block that passes its tests, and bins behind it with a key that the new bins have no room for
abbrev pub IsImageCrowded : List ℕ → Type 0
IsImageCrowded bytes =
    (block : BaseBlock) × (block_walk bytes nothing ≡ Ok (block, nothing))
    × AreCrowded false (take block.size (drop 4096 bytes)) block.minor block.root

-- at the start of these bytes stands the image of a whole hive, whose bins are an arena's, with whatever behind it
pub record HoldsOwn (bytes : List ℕ) : Type 0 where
  pub bins : List ℕ
  pub root : ℕ
  pub moment : ℕ
  pub sequence : ℕ
  pub rest : List ℕ
  pub is : bytes ≡ image_of bins root moment sequence ++ rest
  pub arena : IsArena bins
  pub whole : Whole bins root

-- why loading ended, where so much of an image was read and this is left. A read failed before all was read that was asked for; or the
-- reader came to its end before that. Otherwise all that was asked for was read, and no more, and it meets that fault; or it meets none, bins
-- are built of such an image, and have no room for a key of it. Once the base block passes its tests, memory may lack at any time
abbrev pub IsRefusedBy : (List ℕ → Type 0) → LoadFault → List ℕ → Option (List ℕ) → Type 0
IsRefusedBy IsBuilt Read image left = length image < asked_for image
IsRefusedBy IsBuilt Short image left = (length image < asked_for image) × (fault_of image ≡ Some Short) × IsAtEnd left
IsRefusedBy IsBuilt Limit image left =
    (length image ≡ asked_for image) × ((fault_of image ≡ Some Limit) ⊎ ((fault_of image ≡ None) × IsImageCrowded image × IsBuilt image))
IsRefusedBy IsBuilt Memory image left = (length image ≤ asked_for image) × HasBlock image
IsRefusedBy IsBuilt fault image left = (length image ≡ asked_for image) × (fault_of image ≡ Some fault)

-- bins are built of those images alone that are not of a whole hive
abbrev pub IsForeign : List ℕ → Type 0
IsForeign image = HoldsOwn image → ⊥

-- bins are built of any image
abbrev pub IsAny : List ℕ → Type 0
IsAny image = ⊤

abbrev pub IsRefused : LoadFault → List ℕ → Option (List ℕ) → Type 0
IsRefused = IsRefusedBy IsForeign

-- of the input so much was read, and it met that fault
pub record MeetsFaultBy (IsBuilt : List ℕ → Type 0) (fault : LoadFault) (unread left : Option (List ℕ)) : Type 0 where
  pub image : List ℕ
  pub consumed : Consumes unread left image
  pub within : length image ≤ 4096 + BINS_LIMIT
  pub refused : IsRefusedBy IsBuilt fault image left

abbrev pub MeetsFault : LoadFault → (unread left : Option (List ℕ)) → Type 0
MeetsFault = MeetsFaultBy IsForeign

-- a failed read, after which no more was asked of the reader; or none failed, where it ended otherwise
abbrev pub IsBlamed : LoadFault → Option ℕ → Option ℕ → Type 0
IsBlamed Read before after = Fails before after
IsBlamed fault before after = Stays before after

-- a fault that no bytes are to blame for: a read failed, or memory lacked
abbrev pub IsOutside : LoadFault → Type 0
IsOutside Read = ⊤
IsOutside Memory = ⊤
IsOutside fault = ⊥

-- an image of a whole hive meets no other
abbrev pub SparesOwn : LoadFault → Option (List ℕ) → Type 0
SparesOwn fault unread = (bytes : List ℕ) → unread ≡ Some bytes → HoldsOwn bytes → IsOutside fault

-- bins are these bytes as they stand, but for what free cells hold: they are as long, have the same cells, and these hold the same
pub record StandAs (bins : ArenaBins) (bytes : List ℕ) : Type 0 where
  pub long : length bins.bytes ≡ length bytes
  pub cells : cells_of bins.bytes ≡ cells_of bytes
  pub contents : (offset : ℕ) → heap_of bins offset ≡ cell_at bytes offset

-- the image of a whole hive is taken as it stands
abbrev pub TakesOwn : ArenaBins → Option (List ℕ) → Type 0
TakesOwn bins unread = (bytes : List ℕ) → unread ≡ Some bytes → (own : HoldsOwn bytes) → StandAs bins own.bins
