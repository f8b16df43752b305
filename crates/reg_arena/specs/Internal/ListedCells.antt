-- What ties the tables of the free lists to the bytes and to the free cells.
use Rattle.std.specs.Prelude.{◌≡◌, ℕ, ◌+◌, ◌-◌, ◌*◌, ◌%◌, ◌<◌, ◌≤◌, ◌⊎◌, ◌==◌, ◌&&◌, not, if◌then◌else◌, nat_lt, List, [], ◌∷◌, length}
use Rattle.byteorder.specs.Endian.{little_bytes}
use Rattle.reg_heap.specs.declared.limits.TheConstants.{BINS_LIMIT, NONE}
use Rattle.reg_heap.specs.ByteWords.{word, splice, SameOutside}
use Rattle.reg_arena.specs.declared.Cell.{Cell}
use Rattle.reg_arena.specs.declared.free_lists.FreeLists.{FreeLists}
use Rattle.reg_arena.specs.declared.free_lists.Fit.{Fit}
use Rattle.reg_bins.specs.Rows.{Row}
use Rattle.reg_arena.specs.Arena.{IsArena}
use Rattle.reg_arena.specs.NewBin.{AppendsBin}
use Rattle.reg_arena.specs.Internal.BinParts.{IsSplit}
use Rattle.reg_arena.specs.Cells.{cells_in}
use Rattle.reg_arena.specs.Classes.{class_of}
use Rattle.reg_arena.specs.Internal.CellThreads.{AreThreads}
use Rattle.reg_arena.specs.Internal.SizeTables.{at_eight, head_at, back_in}

-- the size of the free cell at an offset, or 0 where there is none
abbrev pub free_size : List Cell → ℕ → ℕ
free_size [] x = 0
free_size (cell ∷ cells) x = if not cell.allocated && (cell.offset == x) then cell.size else free_size cells x

-- the sizes after that of one offset is set: to 0, and no free cell is there
abbrev pub sized : ℕ → ℕ → (ℕ → ℕ) → ℕ → ℕ
sized cell size sizes x = if x == cell then size else sizes x

-- the sizes after a free cell came, unless its size is 0
abbrev pub added : ℕ → ℕ → (ℕ → ℕ) → ℕ → ℕ
added cell size sizes x = if (x == cell) && nat_lt 0 size then size else sizes x

-- bytes where a free cell may stand
pub record IsPiece (bytes : List ℕ) (cell size : ℕ) : Type 0 where
  pub eights : cell % 8 ≡ 0
  pub some : 8 ≤ cell
  pub size_eights : size % 8 ≡ 0
  pub within : cell + size ≤ length bytes

-- no free cell stands in these bytes
abbrev pub IsFreeOf : (ℕ → ℕ) → ℕ → ℕ → Type 0
IsFreeOf sizes cell size = (x : ℕ) → 0 < sizes x → (x + sizes x ≤ cell) ⊎ (cell + size ≤ x)

-- The marks, by their offsets, have just the free cells: an odd number where each begins, and where one of more than eight bytes
-- has its last eight, the offset where it begins.
pub record AreMarks (sizes mark : ℕ → ℕ) : Type 0 where
  pub begins : (x : ℕ) → 0 < sizes x → mark x % 2 ≡ 1
  pub ends : (x : ℕ) → 8 < sizes x → mark (x + sizes x - 8) ≡ x
  pub odd : (x : ℕ) → mark x % 2 ≡ 1 → 0 < sizes x
  pub even : (x : ℕ) → mark x % 2 ≡ 0 → 0 < mark x → (0 < sizes (mark x)) × (mark x + sizes (mark x) ≡ x + 8)

-- the same of a table; searches for proofs of other things don't open it
unfoldable pub HasMarks : (ℕ → ℕ) → List ℕ → Type 0
HasMarks sizes marks = AreMarks sizes (at_eight marks 0)

-- the free cells, given by their sizes, stand in the bytes, apart from each other, and the tables have just them: `top` is above
-- all sizes, and `large` counts the cells of the last list
pub record AreTables (bytes : List ℕ) (sizes : ℕ → ℕ) (heads firsts words marks : List ℕ) (large top : ℕ) : Type 0 where
  pub threads : AreThreads class_of 16384 sizes (λ x. word bytes (x + 4)) (back_in marks) (head_at heads) (at_eight firsts NONE)
  pub pieces : (x : ℕ) → 0 < sizes x → IsPiece bytes x (sizes x)
  pub fields : (x : ℕ) → 0 < sizes x → word bytes x ≡ sizes x
  pub apart : (x y : ℕ) → 0 < sizes x → 0 < sizes y → x < y → x + sizes x ≤ y
  pub marks_are : HasMarks sizes marks
  pub below : (x : ℕ) → 0 < sizes x → sizes x < top
  pub words_long : 0 < length bytes → 32 ≤ length words
  pub firsts_long : 0 < length bytes → 2048 ≤ length firsts
  pub marks_long : length bytes ≤ 8 * length marks
  pub heads_long : length heads ≡ 24
  pub small : length bytes ≤ BINS_LIMIT
  pub count : length (threads.lists 23) ≡ large

-- the same of the struct
abbrev pub IsListed : List ℕ → (ℕ → ℕ) → FreeLists → Type 0
IsListed bytes sizes lists =
    AreTables bytes sizes lists.heads lists.firsts lists.words lists.marks lists.large lists.top

-- the tables have room for so many eights
pub record HasRoom (units : ℕ) (lists : FreeLists) : Type 0 where
  pub marks : units ≤ length lists.marks
  pub firsts : 2048 ≤ length lists.firsts
  pub words : 32 ≤ length lists.words

-- there are some such free cells
pub record HasLists (bytes : List ℕ) (lists : FreeLists) : Type 0 where
  pub sizes : ℕ → ℕ
  pub listed : IsListed bytes sizes lists

-- there are, and one of them has this size; or the size is 0 and there is none at that offset
pub record HasCell (bytes : List ℕ) (lists : FreeLists) (cell size : ℕ) : Type 0 where
  pub sizes : ℕ → ℕ
  pub listed : IsListed bytes sizes lists
  pub there : sizes cell ≡ size

-- there are, and bytes have room for one more
pub record HasPlace (bytes : List ℕ) (lists : FreeLists) (cell size : ℕ) : Type 0 where
  pub sizes : ℕ → ℕ
  pub listed : IsListed bytes sizes lists
  pub piece : IsPiece bytes cell size
  pub free : IsFreeOf sizes cell size

-- at most the link of one free cell was set
abbrev pub Relinks : (ℕ → ℕ) → List ℕ → List ℕ → Type 0
Relinks sizes old new = (new ≡ old) ⊎ ((p : ℕ) × (v : ℕ) × (0 < sizes p) × (new ≡ splice (p + 4) (little_bytes 4 v) old))

-- a free cell left its list, or there was none
pub record Drops (sizes : ℕ → ℕ) (cell : ℕ) (old new : List ℕ) (lists : FreeLists) : Type 0 where
  pub listed : IsListed new (sized cell 0 sizes) lists
  pub relinks : Relinks sizes old new

-- bytes became a free cell of a list, or there were none
pub record Adds (sizes : ℕ → ℕ) (cell size : ℕ) (old new : List ℕ) (lists : FreeLists) : Type 0 where
  pub listed : IsListed new (added cell size sizes) lists
  pub mid : List ℕ
  pub relinks : Relinks sizes old mid
  pub region : SameOutside cell (cell + size) mid new

-- a free cell that has room, and below 16,384 bytes the smallest that has
pub record IsBestFit (sizes : ℕ → ℕ) (total : ℕ) (fit : Fit) : Type 0 where
  pub free : sizes fit.cell ≡ fit.size
  pub fits : total ≤ fit.size
  pub least : (x : ℕ) → total ≤ sizes x → sizes x < 16384 → fit.size ≤ sizes x

-- no free cell has room
abbrev pub NoneFits : (ℕ → ℕ) → ℕ → Type 0
NoneFits sizes total = (x : ℕ) → 0 < sizes x → sizes x < total

-- an arena, with its free cells in lists
pub record IsIndexed (bytes : List ℕ) (lists : FreeLists) : Type 0 where
  pub arena : IsArena bytes
  pub listed : IsListed bytes (free_size (cells_in arena.layout)) lists

-- an arena, with its free cells in lists, and each bin in a vector of its own
pub record IsStored (bins : Row) (lists : FreeLists) : Type 0 where
  pub indexed : IsIndexed bins.items lists
  pub split : IsSplit bins.items bins.parts

-- the same as one word: what every arena keeps
unfoldable pub IsKept : Row → FreeLists → Type 0
IsKept bins lists = IsStored bins lists

-- an arena, with its free cells in lists, and one that fits
pub record HasFit (bytes : List ℕ) (lists : FreeLists) (total : ℕ) (fit : Fit) : Type 0 where
  pub indexed : IsIndexed bytes lists
  pub fit_is : IsBestFit (free_size (cells_in indexed.arena.layout)) total fit

-- an arena, with its free cells in lists but one, which has this size
pub record LacksCell (bytes : List ℕ) (lists : FreeLists) (cell size : ℕ) : Type 0 where
  pub arena : IsArena bytes
  pub there : free_size (cells_in arena.layout) cell ≡ size
  pub some : 0 < size
  pub listed : IsListed bytes (sized cell 0 (free_size (cells_in arena.layout))) lists

-- a bin was appended whose one free cell is in no list
pub record IsAdded (old new : List ℕ) (lists : FreeLists) (cell size total : ℕ) : Type 0 where
  pub lacks : LacksCell new lists cell size
  pub appends : AppendsBin old new total
