-- Room for bins to come: capacity for their bytes, and tables that reach as far.
use Rattle.std.specs.Prelude.{◌≡◌, ℕ, ◌*◌, ◌≤◌, List, [], length, replicate}
use Rattle.reg_arena.specs.NewBin.{IsBinSize}
use Rattle.reg_arena.specs.declared.free_lists.FreeLists.{FreeLists}

-- the bins may have so many bytes in all before memory is asked for
pub record AreReserved (limit capacity : ℕ) (lists : FreeLists) : Type 0 where
  pub bytes : limit ≤ capacity
  pub marks_long : limit ≤ 8 * length lists.marks
  pub firsts_long : 2048 ≤ length lists.firsts
  pub words_long : 32 ≤ length lists.words

-- the tables are as long as before, or longer
pub record KeepsTables (old new : FreeLists) : Type 0 where
  pub marks_long : length old.marks ≤ length new.marks
  pub firsts_long : length old.firsts ≤ length new.firsts
  pub words_long : length old.words ≤ length new.words

-- there is as much room as before, or more
pub record KeepsRoom (capacity : ℕ) (old : FreeLists) (capacity' : ℕ) (new : FreeLists) : Type 0 where
  pub bytes : capacity ≤ capacity'
  pub tables : KeepsTables old new

-- zeros for a bin of the least size that has room for so many bytes of cells
pub record IsBlank (blank : List ℕ) (total : ℕ) : Type 0 where
  pub zeros : blank ≡ replicate (length blank) 0
  pub least : IsBinSize (length blank) total

-- memory for such a bin, just as much as it takes, in which nothing is written yet
pub record IsRoomFor (items : List ℕ) (capacity total : ℕ) : Type 0 where
  pub none : items ≡ []
  pub fits : (size : ℕ) → IsBinSize size total → size ≡ capacity
