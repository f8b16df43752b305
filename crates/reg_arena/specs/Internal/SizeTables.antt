-- The tables of the free lists: bits and first cells of the sizes, links, and the marks of where cells begin and end.
use Rattle.std.specs.Prelude.{◌≡◌, ℕ, ◌+◌, ◌-◌, ◌≤◌, ◌<◌, ◌/◌, ◌%◌, ◌==◌, ◌&&◌, nat_lt, if◌then◌else◌, set, length, get_or, List}
use Rattle.std.specs.Int.{bit_at}
use Rattle.byteorder.specs.Endian.{little_bytes}
use Rattle.reg_heap.specs.declared.limits.TheConstants.{NONE}
use Rattle.reg_heap.specs.ByteWords.{word, splice}

-- the number that a table has for each eight
abbrev pub at_eight : List ℕ → ℕ → ℕ → ℕ
at_eight table other x = if x % 8 == 0 then get_or table (x / 8) other else other

-- a list's head
abbrev pub head_at : List ℕ → ℕ → ℕ
head_at heads class = get_or heads class NONE

-- a table after the number of a cell, if there is one, is set
abbrev pub marked : ℕ → ℕ → List ℕ → List ℕ
marked cell value table = if cell == NONE then table else set table (cell / 8) value

-- the table after the number of a cell's last eight bytes is set, where those are not its first
abbrev pub ended : ℕ → ℕ → ℕ → List ℕ → List ℕ
ended cell size value table = if nat_lt 8 size then set table ((cell + size - 8) / 8) value else table

-- a link with its lowest bit set
abbrev pub tagged : ℕ → ℕ
tagged link = if link == NONE then NONE else link + 1

-- the link of a number with that bit
abbrev pub untagged : ℕ → ℕ
untagged mark = if mark == NONE then NONE else mark - mark % 2

-- the cell before a free cell in its list
abbrev pub back_in : List ℕ → ℕ → ℕ
back_in marks x = untagged (at_eight marks 0 x)

-- where the free cell begins that ends with the eight bytes at an offset, or 0: an odd number says that it begins with them
abbrev pub start_in : List ℕ → ℕ → ℕ
start_in marks x = if get_or marks (x / 8) 0 % 2 == 1 then x else get_or marks (x / 8) 0

-- the heads after the link behind a cell, or where there is none the head, is set
abbrev pub head_linked : ℕ → ℕ → ℕ → List ℕ → List ℕ
head_linked class cell value heads = if cell == NONE then set heads class value else heads

-- the bytes after that
abbrev pub linked : ℕ → ℕ → List ℕ → List ℕ
linked cell value bytes = if cell == NONE then bytes else splice (cell + 4) (little_bytes 4 value) bytes

-- the bytes after the two words of a free cell were written
abbrev pub freed : ℕ → ℕ → ℕ → List ℕ → List ℕ
freed at size next bytes = splice (at + 4) (little_bytes 4 next) (splice at (little_bytes 4 size) bytes)

-- the link behind a cell, or where there is none the head
abbrev pub following : List ℕ → List ℕ → ℕ → ℕ → ℕ
following bytes heads class cell = if cell == NONE then get_or heads class NONE else word bytes (cell + 4)

-- the size of a free cell, or 0 where there is none
abbrev pub size_or_none : List ℕ → ℕ → ℕ
size_or_none bytes cell = if cell == NONE then 0 else word bytes cell

-- the bit of a bitmap
abbrev pub bit_in : List ℕ → ℕ → ℕ
bit_in words i = bit_at (get_or words (i / 64) 0) (i % 64)

-- the bits say of which sizes there is a cell
abbrev pub AreBits : List ℕ → List ℕ → Type 0
AreBits words firsts = (i : ℕ) → bit_in words i ≡ (if get_or firsts i NONE == NONE then 0 else 1)

-- the free lists as plain tables and numbers
pub record Tables : Type 0 where
  pub heads : List ℕ
  pub firsts : List ℕ
  pub words : List ℕ
  pub marks : List ℕ
  pub large : ℕ
  pub top : ℕ

-- what holds of the tables by size whatever the bins have: the bits are right, and there are none of further sizes
pub record AreSizeTables (firsts words : List ℕ) : Type 0 where
  pub bits : AreBits words firsts
  pub words_small : length words ≤ 32

-- a bit is the first from one on
pub record IsLeast (words : List ℕ) (from i : ℕ) : Type 0 where
  pub from_there : from ≤ i
  pub is_set : bit_in words i ≡ 1
  pub least : (j : ℕ) → from ≤ j → j < i → bit_in words j ≡ 0

-- the table of first cells after a cell of a size came
abbrev pub first_put : ℕ → ℕ → ℕ → List ℕ → List ℕ
first_put previous cell size firsts = if nat_lt size 16384 && (previous == NONE) then set firsts (size / 8) cell else firsts

-- the table of first cells after a cell of a size, before a next one of a size, went
abbrev pub first_taken : ℕ → ℕ → ℕ → ℕ → List ℕ → List ℕ
first_taken cell size next next_size firsts =
    if nat_lt size 16384 && (get_or firsts (size / 8) NONE == cell)
    then set firsts (size / 8) (if next_size == size then next else NONE)
    else firsts

-- how many cells of the last list a cell of a size is
abbrev pub counted : ℕ → ℕ
counted size = if nat_lt size 16384 then 0 else 1
