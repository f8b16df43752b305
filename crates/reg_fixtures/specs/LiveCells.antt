-- The cells that a subject works on.
use Rattle.std.specs.Prelude.{◌≡◌, ℕ, ◌+◌, ◌≤◌, List}
use Rattle.reg_heap.specs.Heaps.{allocated}
use Rattle.reg_heap.specs.Kinds.{times}
use Rattle.reg_arena.specs.Cells.{cell_at}

-- each offset of the two lists is that of an allocated cell, and stands once
abbrev pub AreLive : List ℕ → List ℕ → List ℕ → Type 0
AreLive bytes offsets chosen =
    (offset : ℕ) → times offset offsets + times offset chosen ≤ allocated (cell_at bytes) offset

-- the chosen cells that are chosen no more were freed, and no others
abbrev pub FreesChosen : List ℕ → List ℕ → List ℕ → List ℕ → Type 0
FreesChosen old new chosen rest =
    (offset : ℕ) → allocated (cell_at new) offset + times offset chosen ≡ allocated (cell_at old) offset + times offset rest
