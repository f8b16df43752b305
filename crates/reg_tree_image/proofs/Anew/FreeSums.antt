-- Free bytes, counted cell by cell and bin by bin.
use Rattle.std.proofs.Common.{◌≡◌, ℕ, suc, ◌+◌, ◌<◌, ◌≤◌, Bool, true, false, if◌then◌else◌, List, [], ◌∷◌, ◌++◌, length, take, drop, unwrap_or, refl, sym, ap, ◌∙◌, subst, arith}
use Rattle.std.specs.Prelude.{Contains}
use Rattle.std.proofs.lemmas.List.Sums.{sum_by-append, sum_by-cons}
use Rattle.std.proofs.lemmas.Option.{same_Some}
use Rattle.byteorder.specs.Endian.{little_number}
use Rattle.reg_heap.specs.ByteWords.{word}
use Rattle.reg_arena.specs.declared.Cell.{Cell}
use Rattle.reg_arena.specs.Cells.{Bin, AreBins, IsCell, IsHeader, IsInBin, Tiles, cells_in, is_allocated_in, size_in}
use Rattle.reg_arena.proofs.Tiling.BinPieces.{in_bin-within}
use Rattle.reg_arena.proofs.Tiling.Tilings.{Tiles-le, cells_from-Tiles, cells_of-AreBins, IsCell-eight}
use Rattle.reg_tree_image.specs.FreeBytes.{free_in, free_size}
use Rattle.reg_tree_image.specs.Internal.FreeCells.{AreCellsOfBin}
use Rattle.reg_tree_image.proofs.Devices.WrittenBins.{IsBoundary, piece-length}
use Rattle.reg_tree_image.proofs.Readers.BlockWords.{word-front}

-- a cell's size field as it was read
module _ (bytes : List ℕ) (at : ℕ) (there : IsInBin bytes at 4) (field : List ℕ) (is : field ≡ take 4 (drop at bytes)) where
  pub field-length : length field ≡ 4
  field-length = let within = in_bin-within bytes at 4 there in piece-length bytes at 4 4 within field is

  pub field-word : word field 0 ≡ word bytes at
  unfolding word
  field-word = ap (λ xs. little_number 4 xs) is ∙ word-front 4 0 (drop at bytes) (omega arith)

-- how many bytes of a cell are free
abbrev part_of : Cell → ℕ
part_of cell = if cell.allocated then 0 else cell.size

free-nil : free_in [] ≡ 0
unfolding free_in
free-nil = refl

free-cons : (cell : Cell) (cells : List Cell) → free_in (cell ∷ cells) ≡ part_of cell + free_in cells
unfolding free_in
free-cons cell cells = sum_by-cons part_of cell cells

free-append : (xs ys : List Cell) → free_in (xs ++ ys) ≡ free_in xs + free_in ys
unfolding free_in
free-append xs ys = sum_by-append part_of xs ys

at-most : (free : Bool) (size : ℕ) → (if free then 0 else size) ≤ size
at-most true size = omega arith
at-most false size = omega arith

part-within : (cell : Cell) → part_of cell ≤ cell.size
part-within cell = at-most cell.allocated cell.size

-- ---- the cells of a bin

tiles-same : (bytes : List ℕ) (at stop : ℕ) (xs ys : List Cell) → Tiles bytes at stop xs → Tiles bytes at stop ys → xs ≡ ys
tiles-same bytes at stop xs ys a b =
    same_Some xs ys (sym (cells_from-Tiles (suc stop) bytes at stop xs (omega arith) a) ∙ cells_from-Tiles (suc stop) bytes at stop ys (omega arith) b)

tiles-end : (bytes : List ℕ) (at stop : ℕ) (cells : List Cell) → stop ≤ at → Tiles bytes at stop cells → cells ≡ []
tiles-end bytes at stop [] l t = refl
tiles-end bytes at stop (cell ∷ cells) l t = absurd (omega (arith, l, t.0, t.1.positive, t.1.within))

-- the cells before at were counted, from `from` on, and so many of their bytes are free
pub record IsFreeTo (bytes : List ℕ) (from at stop free : ℕ) : Type 0 where
  pub left : AreCellsOfBin bytes at stop
  pub sum : (cells : List Cell) → Tiles bytes from stop cells → free_in cells ≡ free + free_in left.cells
  pub within : from + free ≤ at

-- the cell at hand, and those behind it
record AtCell (bytes : List ℕ) (at stop : ℕ) (cells : List Cell) : Type 0 where
  cell : Cell
  rest : List Cell
  cells_are : cells ≡ cell ∷ rest
  offset : cell.offset ≡ at
  is : IsCell bytes stop cell
  tiles : Tiles bytes (at + cell.size) stop rest

at-cell : (bytes : List ℕ) (at stop : ℕ) (cells : List Cell) → at < stop → Tiles bytes at stop cells → AtCell bytes at stop cells
at-cell bytes at stop [] l t = absurd (omega (arith, l, t))
at-cell bytes at stop (cell ∷ rest) l t = record {
  cell = cell;
  rest = rest;
  cells_are = refl;
  offset = t.0;
  is = t.1;
  tiles = t.2;
}

module _ (bytes : List ℕ) (from stop : ℕ) where
  pub free-none : AreCellsOfBin bytes from stop → IsFreeTo bytes from from stop 0
  free-none a = record {
    left = a;
    sum = λ cells t. let e = ap free_in (tiles-same bytes from stop cells a.cells t a.tiles) in omega (arith, e);
    within = omega arith;
  }

  module _ (at free : ℕ) (w : IsFreeTo bytes from at stop free) where
    module _ (inside : at < stop) where
      here : AtCell bytes at stop w.left.cells
      here = at-cell bytes at stop w.left.cells inside w.left.tiles

      size-is : (size : ℕ) → size ≡ size_in (word bytes at) → size ≡ here.cell.size
      size-is size e = e ∙ (ap (λ n. size_in (word bytes n)) (sym here.offset) ∙ here.is.size)

      pub field-there : IsInBin bytes at 4
      field-there =
          let eight = IsCell-eight here.is in
          let place = w.left.in_bin in
          record {
            bins = place.bins;
            bins_are = place.bins_are;
            bin = place.bin;
            among = place.among;
            from = place.from;
            to = omega (arith, eight, here.offset, here.is.within, place.to, inside);
          }

      module _ (cell : Cell) (size : cell.size ≡ size_in (word bytes at)) where
        pub cell-some : 0 < cell.size
        cell-some = omega (arith, size-is cell.size size, here.is.positive)

        pub cell-within : at + cell.size ≤ stop
        cell-within = omega (arith, size-is cell.size size, here.offset, here.is.within)

        module _ (allocated : cell.allocated ≡ is_allocated_in (word bytes at)) (part : ℕ) (counted : part ≡ part_of cell) where
          part-is : part ≡ part_of here.cell
          part-is =
              let same : cell.allocated ≡ here.cell.allocated =
              allocated ∙ (ap (λ n. is_allocated_in (word bytes n)) (sym here.offset) ∙ here.is.allocated) in
              counted ∙ (ap (λ (b : Bool). if b then 0 else cell.size) same
              ∙ ap (λ (n : ℕ). if here.cell.allocated then 0 else n) (size-is cell.size size))

          pub part-fits : from + (free + part) ≤ at + cell.size
          part-fits = omega (arith, part-is, part-within here.cell, size-is cell.size size, w.within)

          pub free-more : IsFreeTo bytes from (at + cell.size) stop (free + part)
          free-more =
              let e = size-is cell.size size in
              let place = w.left.in_bin in
              record {
                left = record {
                  cells = here.rest;
                  tiles = subst (λ n. Tiles bytes (at + n) stop here.rest) (sym e) here.tiles;
                  in_bin = record {
                    bins = place.bins;
                    bins_are = place.bins_are;
                    bin = place.bin;
                    among = place.among;
                    from = omega (arith, place.from);
                    to = omega (arith, place.to, cell-within, inside);
                  };
                };
                sum = λ cells t.
                    let before = w.sum cells t in
                    let split = ap free_in here.cells_are ∙ free-cons here.cell here.rest in
                    omega (arith, before, split, part-is);
                within = part-fits;
              }

    pub free-all : stop ≤ at → (cells : List Cell) → Tiles bytes from stop cells → free ≡ free_in cells
    free-all end cells t =
        let none = ap free_in (tiles-end bytes at stop w.left.cells end w.left.tiles) ∙ free-nil in
        let all = w.sum cells t in
        omega (arith, none, all)

    pub free-within : from + free ≤ stop
    free-within = let below = Tiles-le bytes at stop w.left.cells w.left.tiles in omega (arith, below, w.within)

-- ---- the bins

-- the bins before at were counted, and so many of their bytes are free
pub record IsFreeBefore (bytes : List ℕ) (at free : ℕ) : Type 0 where
  pub boundary : IsBoundary bytes at
  pub sum : free_in (cells_in boundary.bins) ≡ free + free_in (cells_in boundary.rest)
  pub within : free ≤ at

-- the bin at hand, and what comes of counting its cells
record AtBin (bytes : List ℕ) (at free : ℕ) : Type 0 where
  bin : Bin
  start : bin.start ≡ at
  header : IsHeader bytes bin
  cells : AreCellsOfBin bytes (at + 32) (at + bin.size)
  next : (part : ℕ) → ((cells : List Cell) → Tiles bytes (at + 32) (at + bin.size) cells → part ≡ free_in cells) →
      at + 32 + part ≤ at + bin.size → IsFreeBefore bytes (at + bin.size) (free + part)

module _ (bytes : List ℕ) (at free : ℕ) where
  at-bin-by : (bins : List Bin) → AreBins bytes 0 bins → (rest : List Bin) → AreBins bytes at rest →
      ((bin : Bin) → Contains rest bin → Contains bins bin) → free_in (cells_in bins) ≡ free + free_in (cells_in rest) → free ≤ at →
      at < length bytes → AtBin bytes at free
  at-bin-by bins b [] r among sum few l = absurd (omega (arith, r))
  at-bin-by bins b (bin ∷ rest) r among sum few l = record {
    bin = bin;
    start = r.0;
    header = r.1;
    cells = record {
      cells = bin.cells;
      tiles = r.2;
      in_bin = record {
        bins = bins;
        bins_are = b;
        bin = bin;
        among = among bin (0, omega arith, refl);
        from = omega (arith, r.0);
        to = omega (arith, r.0, r.1.positive, r.1.pages);
      };
    };
    next = λ part counted fits. record {
      boundary = record {
        bins = bins;
        bins_are = b;
        rest = rest;
        rest_are = r.3;
        among = λ other there. among other (suc there.0, omega (arith, there.1), there.2);
      };
      sum =
          let split = free-append bin.cells (cells_in rest) in
          let part_is = counted bin.cells r.2 in
          omega (arith, sum, split, part_is);
      within = omega (arith, few, fits);
    };
  }

  module _ (w : IsFreeBefore bytes at free) where
    module _ (inside : at < length bytes) where
      begun : AtBin bytes at free
      begun = at-bin-by w.boundary.bins w.boundary.bins_are w.boundary.rest w.boundary.rest_are w.boundary.among w.sum w.within inside

      module _ (size : ℕ) (said : size ≡ word bytes (at + 8)) where
        size-of-bin : size ≡ begun.bin.size
        size-of-bin = said ∙ (ap (λ n. word bytes (n + 8)) (sym begun.start) ∙ begun.header.size)

        pub bin-cells : AreCellsOfBin bytes (at + 32) (at + size)
        bin-cells = subst (λ n. AreCellsOfBin bytes (at + 32) (at + n)) (sym size-of-bin) begun.cells

        pub bin-counted : (part : ℕ) → ((cells : List Cell) → Tiles bytes (at + 32) (at + size) cells → part ≡ free_in cells) →
            at + 32 + part ≤ at + size → IsFreeBefore bytes (at + size) (free + part)
        bin-counted part counted fits =
            subst (λ n. IsFreeBefore bytes (at + n) (free + part)) (sym size-of-bin)
            (begun.next part (subst (λ n. (cells : List Cell) → Tiles bytes (at + 32) (at + n) cells → part ≡ free_in cells) size-of-bin counted)
            (omega (arith, fits, size-of-bin)))

    bins-end : (rest : List Bin) → AreBins bytes at rest → length bytes ≤ at → rest ≡ []
    bins-end [] r l = refl
    bins-end (bin ∷ rest) r l = absurd (omega (arith, r.0, r.1.positive, r.1.within))

    pub bins-counted : length bytes ≤ at → free ≡ free_size bytes
    unfolding free_size
    bins-counted end =
        let none = ap (λ bins. free_in (cells_in bins)) (bins-end w.boundary.rest w.boundary.rest_are end) ∙ free-nil in
        let all : free_size bytes ≡ free_in (cells_in w.boundary.bins) =
        ap (λ cells. free_in (unwrap_or cells [])) (cells_of-AreBins bytes w.boundary.bins w.boundary.bins_are) in
        omega (arith, none, all, w.sum)

bins-le : (bytes : List ℕ) (at : ℕ) (rest : List Bin) → AreBins bytes at rest → at ≤ length bytes
bins-le bytes at [] r = omega (arith, r)
bins-le bytes at (bin ∷ rest) r = omega (arith, r.0, r.1.within)

pub bins-few : (bytes : List ℕ) (at free : ℕ) → IsFreeBefore bytes at free → free ≤ length bytes
bins-few bytes at free w =
    let below = bins-le bytes at w.boundary.rest w.boundary.rest_are in omega (arith, below, w.within)

pub bins-none : (bytes : List ℕ) (bins : List Bin) → AreBins bytes 0 bins → IsFreeBefore bytes 0 0
bins-none bytes bins b = record {
  boundary = record { bins = bins; bins_are = b; rest = bins; rest_are = b; among = λ bin there. there };
  sum = omega arith;
  within = omega arith;
}
