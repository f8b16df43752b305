-- What an arena's invariant gives its callers.
use Rattle.std.proofs.Common.{◌≡◌, ℕ, ◌+◌, ◌%◌, List, [], ◌∷◌, length, arith}
use Rattle.std.specs.List.{AllByRecursion}
use Rattle.reg_arena.specs.declared.Cell.{Cell}
use Rattle.reg_arena.specs.Cells.{Bin, Tiles, AreBins, cells_in}
use Rattle.reg_arena.specs.Arena.{IsArena}
use Rattle.reg_arena.specs.declared.free_lists.FreeLists.{FreeLists}
use Rattle.reg_arena.specs.Internal.CellWalks.{IsRowOfBins}
use Rattle.reg_bins.specs.Rows.{Row}
use Rattle.reg_arena.specs.Internal.BinParts.{IsSplit}
use Rattle.reg_arena.specs.Internal.ListedCells.{IsIndexed, IsKept}
use Rattle.reg_arena.proofs.Contents.CellWrites.{all-append}

Tiles-eights : (bytes : List ℕ) (at stop : ℕ) (cells : List Cell) → at % 8 ≡ 0 → Tiles bytes at stop cells → AllByRecursion (λ (c : Cell). c.offset % 8 ≡ 0) cells
Tiles-eights bytes at stop [] e h = tt
Tiles-eights bytes at stop (c ∷ cells) e h =
    (rw h.0 e, Tiles-eights bytes (at + c.size) stop cells (omega (arith, h.1.eights)) h.2)

pub AreBins-eights : (bytes : List ℕ) (at : ℕ) (layout : List Bin) → at % 8 ≡ 0 → AreBins bytes at layout → AllByRecursion (λ (c : Cell). c.offset % 8 ≡ 0) (cells_in layout)
AreBins-eights bytes at [] e h = tt
AreBins-eights bytes at (b ∷ layout) e h =
    all-append (λ (c : Cell). c.offset % 8 ≡ 0) b.cells (cells_in layout) (Tiles-eights bytes (at + 32) (at + b.size) b.cells (omega arith) h.2)
    (AreBins-eights bytes (at + b.size) layout (omega (arith, h.1.pages)) h.3)

pub AreBins-pages : (bytes : List ℕ) (at : ℕ) (layout : List Bin) → at % 4096 ≡ 0 → AreBins bytes at layout → length bytes % 4096 ≡ 0
AreBins-pages bytes at [] e h = rw (← h) e
AreBins-pages bytes at (b ∷ layout) e h = AreBins-pages bytes (at + b.size) layout (omega (arith, h.1.pages)) h.3

pub row_of_bins : (bytes : List ℕ) → IsArena bytes → IsRowOfBins bytes
row_of_bins bytes a = record { layout = a.layout; tiled = a.tiled }

-- ---- the invariant's one word

pub opened : (bins : Row) (lists : FreeLists) → IsKept bins lists → IsIndexed bins.items lists
unfolding IsKept
opened bins lists kept = kept.indexed

pub apart : (bins : Row) (lists : FreeLists) → IsKept bins lists → IsSplit bins.items bins.parts
unfolding IsKept
apart bins lists kept = kept.split

pub closed : (bins : Row) (lists : FreeLists) → IsIndexed bins.items lists → IsSplit bins.items bins.parts → IsKept bins lists
unfolding IsKept
closed bins lists indexed split = record { indexed = indexed; split = split }
