-- What ties the vectors of the bins, and the tables of the pages, to the row that they are.
use Rattle.std.specs.Prelude.{◌≡◌, ℕ, zero, suc, ◌+◌, ◌-◌, ◌/◌, ◌%◌, ◌≤◌, ◌<◌, List, [], ◌∷◌, ◌++◌, length, set, take, drop, ⊤}
use Rattle.std.specs.List.{AllByRecursion}
use Rattle.reg_heap.specs.ByteWords.{splice}
use Rattle.reg_bins.specs.Rows.{end_from}
use Rattle.reg_bins.specs.declared.row.Page.{Page}
use Rattle.reg_bins.specs.declared.tables.PageTable.{PageTable}

-- the bytes of the bins in a row; a page behind a bin's first has none of its own
abbrev pub bytes_of : List Page → List ℕ
bytes_of [] = []
bytes_of (page ∷ pages) = page.bytes.items ++ bytes_of pages

-- the sizes of the bins
abbrev pub size_of : List ℕ → List ℕ
size_of [] = []
size_of (byte ∷ bytes) = suc (length bytes) ∷ []

abbrev pub sizes_of : List Page → List ℕ
sizes_of [] = []
sizes_of (page ∷ pages) = size_of page.bytes.items ++ sizes_of pages

-- the pages from a place on, where so many more belong to the bin that begins at `start`: then each bin begins where the one before
-- ends and is of whole pages; its first page has its bytes, and each of its pages knows where it begins
abbrev pub ArePlaced : ℕ → ℕ → ℕ → List Page → Type 0
ArePlaced at start left [] = left ≡ 0
ArePlaced at start zero (page ∷ pages) =
    (page.start ≡ at) × (0 < length page.bytes.items) × (length page.bytes.items % 4096 ≡ 0)
    × ArePlaced (at + 4096) at (length page.bytes.items / 4096 - 1) pages
ArePlaced at start (suc left) (page ∷ pages) = (page.start ≡ start) × (page.bytes.items ≡ []) × ArePlaced (at + 4096) start left pages

-- so many pages behind the first one of the bin that begins at `start`
abbrev pub AreWithin : ℕ → ℕ → List Page → Type 0
AreWithin start zero [] = ⊤
AreWithin start (suc more) (page ∷ pages) = (page.start ≡ start) × (page.bytes.items ≡ []) × AreWithin start more pages
AreWithin start more pages = ⊥

-- the row with some bytes of it written over
pub record IsPut (pages : List Page) (at : ℕ) (piece : List ℕ) (new : List Page) : Type 0 where
  pub placed : ArePlaced 0 0 0 new
  pub sizes : sizes_of new ≡ sizes_of pages
  pub bytes : bytes_of new ≡ splice at piece (bytes_of pages)
  pub long : length (bytes_of new) ≡ length (bytes_of pages)

-- the bin of a byte, by its first page and that page's number
pub record IsBin (pages : List Page) (at number : ℕ) (bin : Page) : Type 0 where
  pub from : bin.start ≤ at
  pub to : at < bin.start + length bin.bytes.items
  pub ends : end_from 0 (sizes_of pages) at ≡ bin.start + length bin.bytes.items
  pub within : bin.start + length bin.bytes.items ≤ length (bytes_of pages)
  pub read : (n : ℕ) → at - bin.start + n ≤ length bin.bytes.items → take n (drop (at - bin.start) bin.bytes.items) ≡ take n (drop at (bytes_of pages))
  pub put : (piece : List ℕ) (new : Page) → at - bin.start + length piece ≤ length bin.bytes.items → new.start ≡ bin.start
      → new.bytes.items ≡ splice (at - bin.start) piece bin.bytes.items → IsPut pages at piece (set pages number new)

-- the numbers of the pages in a row
abbrev pub numbers_of : List PageTable → List ℕ
numbers_of [] = []
numbers_of (page ∷ pages) = page.numbers.items ++ numbers_of pages

-- each page has 512 numbers
abbrev pub AreWhole : List PageTable → Type 0
AreWhole pages = AllByRecursion (λ (page : PageTable). length page.numbers.items ≡ 512) pages
