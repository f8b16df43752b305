-- The definitions at bytes that were worked out by hand.
use Rattle.std.proofs.Common.{arith}
use Rattle.std.specs.Prelude.{◌≡◌, ℕ, ◌-◌, List, [], ◌∷◌, ◌++◌, replicate, Some, None, refl}
use Rattle.byteorder.specs.Endian.{little_bytes}
use Rattle.reg_heap.specs.ByteWords.{word}
use Rattle.reg_arena.specs.declared.TheConstants.{CARVE_LIMIT}
use Rattle.reg_arena.specs.Cells.{bins_of, cells_of, cell_at}
use Rattle.reg_arena.specs.NewCells.{used, unused}
use Rattle.reg_arena.specs.Free.{Follows, free_of}
use Rattle.reg_arena.specs.Frees.{Frees}
use Rattle.reg_arena.specs.Classes.{class_of}
use Rattle.reg_arena.specs.NewBin.{new_bin}

-- an allocated cell of zeros
abbrev used_bytes : ℕ → List ℕ
used_bytes size = little_bytes 4 (4294967296 - size) ++ replicate (size - 4) 0

-- a free cell with a link
abbrev free_bytes : ℕ → ℕ → List ℕ
free_bytes size next = little_bytes 4 size ++ (little_bytes 4 next ++ replicate (size - 8) 0)

abbrev header : ℕ → ℕ → List ℕ
header at size = little_bytes 4 1852400232 ++ (little_bytes 4 at ++ (little_bytes 4 size ++ replicate 20 0))

-- ---- a fresh hive: the root key's cell, its descriptor's cell and a free cell

-- `hbin`, offset 0, size 4096 and 20 zeros; -88; -48; 3928 and no next cell
abbrev fresh_hive : List ℕ
fresh_hive =
    (104 ∷ 98 ∷ 105 ∷ 110 ∷ 0 ∷ 0 ∷ 0 ∷ 0 ∷ 0 ∷ 16 ∷ 0 ∷ 0 ∷ []) ++
    (replicate 20 0 ++ ((168 ∷ 255 ∷ 255 ∷ 255 ∷ []) ++
    (replicate 84 0 ++ ((208 ∷ 255 ∷ 255 ∷ 255 ∷ []) ++ (replicate 44 0 ++ ((88 ∷ 15 ∷ 0 ∷ 0 ∷ 255 ∷ 255 ∷ 255 ∷ 255 ∷ []) ++ replicate 3920 0))))))

fresh_hive-cells : cells_of fresh_hive ≡ Some (used 32 88 ∷ used 120 48 ∷ unused 168 3928 ∷ [])
unfolding cells_of word
fresh_hive-cells = refl

-- 3928 bytes are in the list of 2,048 to 4,088
fresh_hive-free : free_of class_of 20 (used 32 88 ∷ used 120 48 ∷ unused 168 3928 ∷ []) ≡ 168 ∷ []
unfolding class_of
fresh_hive-free = refl

fresh_hive-other : free_of class_of 19 (used 32 88 ∷ used 120 48 ∷ unused 168 3928 ∷ []) ≡ []
unfolding class_of
fresh_hive-other = refl

fresh_hive-list : Follows fresh_hive 168 (168 ∷ [])
unfolding word
fresh_hive-list = (refl, refl)

fresh_hive-descriptor : cell_at fresh_hive 120 ≡ Some (replicate 44 0)
unfolding cell_at cells_of word
fresh_hive-descriptor = refl

-- a free cell has no content, and neither has the middle of a cell
fresh_hive-no-free-content : cell_at fresh_hive 168 ≡ None
unfolding cell_at cells_of word
fresh_hive-no-free-content = refl

fresh_hive-no-middle : cell_at fresh_hive 40 ≡ None
unfolding cell_at cells_of word
fresh_hive-no-middle = refl

-- ---- carve [16, 24, 32, 16]

abbrev four_cells : List ℕ
four_cells = header 0 4096 ++ (used_bytes 16 ++ (used_bytes 24 ++ (used_bytes 32 ++ (used_bytes 16 ++ free_bytes 3976 4294967295))))

four_cells-are : cells_of four_cells ≡ Some (used 32 16 ∷ used 48 24 ∷ used 72 32 ∷ used 104 16 ∷ unused 120 3976 ∷ [])
unfolding cells_of word
four_cells-are = refl

-- the first three freed: one free cell, which leads to the other
abbrev three_freed : List ℕ
three_freed = header 0 4096 ++ (free_bytes 72 120 ++ (used_bytes 16 ++ free_bytes 3976 4294967295))

three_freed-cells : cells_of three_freed ≡ Some (unused 32 72 ∷ used 104 16 ∷ unused 120 3976 ∷ [])
unfolding cells_of word
three_freed-cells = refl

three_freed-list : Follows three_freed 32 (32 ∷ 120 ∷ [])
unfolding word
three_freed-list = (refl, (refl, refl))

-- ---- the same cells freed one by one: 48, 32, 72

-- the second freed: no free cell touches it
abbrev second_freed : List ℕ
second_freed =
    header 0 4096 ++ (used_bytes 16 ++ (free_bytes 24 120 ++ (used_bytes 32 ++ (used_bytes 16 ++ free_bytes 3976 4294967295))))

second_freed-is : Frees four_cells second_freed 48
unfolding cells_of word
second_freed-is = record {
  before = used 32 16 ∷ [];
  left = [];
  size = 24;
  right = [];
  after = used 72 32 ∷ used 104 16 ∷ unused 120 3976 ∷ [];
  lo = 48;
  hi = 72;
  left_is = refl;
  right_is = refl;
  was = refl;
  now = refl;
  long = refl;
}

-- the first freed: it takes in the free cell on its right
abbrev two_freed : List ℕ
two_freed = header 0 4096 ++ (free_bytes 40 120 ++ (used_bytes 32 ++ (used_bytes 16 ++ free_bytes 3976 4294967295)))

two_freed-is : Frees second_freed two_freed 32
unfolding cells_of word
two_freed-is = record {
  before = [];
  left = [];
  size = 16;
  right = unused 48 24 ∷ [];
  after = used 72 32 ∷ used 104 16 ∷ unused 120 3976 ∷ [];
  lo = 32;
  hi = 72;
  left_is = refl;
  right_is = (refl, omega arith);
  was = refl;
  now = refl;
  long = refl;
}

-- the third freed: it becomes part of the free cell on its left
three_freed-is : Frees two_freed three_freed 72
unfolding cells_of word
three_freed-is = record {
  before = [];
  left = unused 32 40 ∷ [];
  size = 32;
  right = [];
  after = used 104 16 ∷ unused 120 3976 ∷ [];
  lo = 32;
  hi = 104;
  left_is = (refl, omega arith);
  right_is = refl;
  was = refl;
  now = refl;
  long = refl;
}

-- ---- bins

new_bin-cells : cells_of (new_bin 0 4096 4294967295) ≡ Some (unused 32 4064 ∷ [])
unfolding cells_of word
new_bin-cells = refl

no_bin : cells_of [] ≡ Some []
unfolding cells_of
no_bin = refl

two_bins-cells : cells_of (header 0 4096 ++ (used_bytes 4064 ++ new_bin 4096 4096 4294967295)) ≡ Some (used 32 4064 ∷ unused 4128 4064 ∷ [])
unfolding cells_of word
two_bins-cells = refl

-- freed cells of two bins don't touch
abbrev two_bins : List ℕ
two_bins = header 0 4096 ++ (used_bytes 4064 ++ (header 4096 4096 ++ used_bytes 4064))

abbrev first_bin_freed : List ℕ
first_bin_freed = header 0 4096 ++ (free_bytes 4064 4294967295 ++ (header 4096 4096 ++ used_bytes 4064))

abbrev both_bins_freed : List ℕ
both_bins_freed = header 0 4096 ++ (free_bytes 4064 4294967295 ++ (header 4096 4096 ++ free_bytes 4064 32))

first_bin-freed : Frees two_bins first_bin_freed 32
unfolding cells_of word
first_bin-freed = record {
  before = [];
  left = [];
  size = 4064;
  right = [];
  after = used 4128 4064 ∷ [];
  lo = 32;
  hi = 4096;
  left_is = refl;
  right_is = refl;
  was = refl;
  now = refl;
  long = refl;
}

second_bin-freed : Frees first_bin_freed both_bins_freed 4128
unfolding cells_of word
second_bin-freed = record {
  before = unused 32 4064 ∷ [];
  left = [];
  size = 4064;
  right = [];
  after = [];
  lo = 4128;
  hi = 8192;
  left_is = refl;
  right_is = refl;
  was = refl;
  now = refl;
  long = refl;
}

-- ---- what is no row of bins

size_no_multiple_of_eight : cells_of (header 0 4096 ++ (used_bytes 20 ++ free_bytes 4044 4294967295)) ≡ None
unfolding cells_of word
size_no_multiple_of_eight = refl

size_zero : cells_of (header 0 4096 ++ replicate 4064 0) ≡ None
unfolding cells_of word
size_zero = refl

cell_past_its_bin : cells_of (header 0 4096 ++ (used_bytes 16 ++ free_bytes 4056 4294967295)) ≡ None
unfolding cells_of word
cell_past_its_bin = refl

signature_wrong : cells_of (little_bytes 4 1852400233 ++ (little_bytes 4 0 ++ (little_bytes 4 4096 ++ (replicate 20 0 ++ free_bytes 4064 4294967295)))) ≡ None
unfolding cells_of word
signature_wrong = refl

place_wrong : cells_of (header 4096 4096 ++ free_bytes 4064 4294967295) ≡ None
unfolding cells_of word
place_wrong = refl

bin_longer_than_the_bytes : cells_of (header 0 8192 ++ free_bytes 4064 4294967295) ≡ None
unfolding cells_of word
bin_longer_than_the_bytes = refl

bin_size_zero : cells_of (header 0 0 ++ free_bytes 4064 4294967295) ≡ None
unfolding cells_of word
bin_size_zero = refl

bin_size_no_multiple_of_4096 : cells_of (header 0 2048 ++ free_bytes 2016 4294967295) ≡ None
unfolding cells_of word
bin_size_no_multiple_of_4096 = refl

byte_behind_the_bin : cells_of (header 0 4096 ++ (free_bytes 4064 4294967295 ++ 0 ∷ [])) ≡ None
unfolding cells_of word
byte_behind_the_bin = refl

second_header_wrong : cells_of (header 0 4096 ++ (used_bytes 4064 ++ new_bin 0 4096 4294967295)) ≡ None
unfolding cells_of word
second_header_wrong = refl

-- a cell may not reach into the next bin
cell_over_two_bins : cells_of (header 0 4096 ++ (used_bytes 4072 ++ new_bin 4096 4096 4294967295)) ≡ None
unfolding cells_of word
cell_over_two_bins = refl

-- the bins stand by their headers alone, whatever their cells are
bins_of_bad_cells : bins_of (header 0 4096 ++ (replicate 4064 0 ++ new_bin 4096 8192 4294967295)) ≡ Some (record { start = 0; size = 4096 } ∷ record { start = 4096; size = 8192 } ∷ [])
unfolding word
bins_of_bad_cells = refl

bad_header_behind_bad_cells : bins_of (header 0 4096 ++ (replicate 4064 0 ++ new_bin 0 4096 4294967295)) ≡ None
unfolding word
bad_header_behind_bad_cells = refl

-- ---- contents

-- the cell at the end of a bin, and the smallest cell there is
last_of_its_bin : cell_at (header 0 4096 ++ (free_bytes 4056 4294967295 ++ ((248 ∷ 255 ∷ 255 ∷ 255 ∷ 1 ∷ 2 ∷ 3 ∷ 4 ∷ []) ++ new_bin 4096 4096 4294967295))) 4088 ≡ Some (1 ∷ 2 ∷ 3 ∷ 4 ∷ [])
unfolding cell_at cells_of word
last_of_its_bin = refl

-- a bin's header is no cell
header_has_no_content : cell_at (header 0 4096 ++ used_bytes 4064) 0 ≡ None
unfolding cell_at cells_of word
header_has_no_content = refl

-- where there are no cells, there is no content
no_cells_no_content : cell_at (header 0 4096 ++ replicate 4064 0) 32 ≡ None
unfolding cell_at cells_of word
no_cells_no_content = refl

-- the most that one carve may be asked for, in digits: who changes the constant changes the rules
carve_limit_is : CARVE_LIMIT ≡ 16777216
carve_limit_is = refl
