-- What the cells of some bytes say of the bytes, and of what each cell holds. Crates above may cite this file.
use Rattle.std.proofs.Common.{◌≡◌, ℕ, zero, suc, ◌+◌, ◌-◌, ◌%◌, ◌<◌, ◌≤◌, Bool, true, false, List, [], ◌∷◌, ◌++◌, length, take, drop, refl, sym, ap, ◌∙◌, subst, arith, Option, Some, None}
use Rattle.std.proofs.Common.{◌&&◌, eqb, ltb, leb, is_some, length-take, length-drop, length-append, get_or}
use Rattle.std.specs.Prelude.{sum_by, option_map, All, Contains}
use Rattle.std.specs.List.{AllByRecursion}
use Rattle.std.proofs.Math.Seq.{get_or-append_seam}
use Rattle.std.proofs.lemmas.Bool.{and_parts, eqb-true, ltb-true, leb-true, ne_eqb, eq-eqb}
use Rattle.std.proofs.lemmas.List.Elements.{All-from_recursion}
use Rattle.std.proofs.lemmas.List.Sums.{sum_by-cons}
use Rattle.std.proofs.lemmas.Option.{same_Some}
use Rattle.reg_heap.specs.ByteWords.{word}
use Rattle.reg_arena.specs.declared.Cell.{Cell}
use Rattle.std.specs.Option.{option_and_then}
use Rattle.reg_arena.specs.Cells.{Bin, BinPlace, IsCell, Tiles, IsHeader, AreBins, cells_in, choose, joined, cells_from, bins_from, bins_of, cells_of_bins}
use Rattle.reg_arena.specs.Cells.{cells_of, content_in, content_of, cell_at, size_in, is_allocated_in}
use Rattle.reg_arena.proofs.Tiling.CellPositions.{looked, stands}
use Rattle.reg_arena.proofs.Contents.CellContents.{AreOrdered, AreOrdered-AreBins, AreOrdered-back}

-- ---- sums

abbrev size_of : Cell → ℕ
size_of c = c.size

abbrev bytes_of : Bin → ℕ
bytes_of b = b.size

-- cells that fill the bytes from at to stop have so many bytes
pub Tiles-sum : (bytes : List ℕ) (at stop : ℕ) (cells : List Cell) → Tiles bytes at stop cells → at + sum_by size_of cells ≡ stop
Tiles-sum bytes at stop [] h = omega arith
Tiles-sum bytes at stop (c ∷ cells) h = let e = Tiles-sum bytes (at + c.size) stop cells h.2 in omega (arith, sum_by-cons size_of c cells)

bins_full : (bytes : List ℕ) (at : ℕ) (layout : List Bin) → AreBins bytes at layout → AllByRecursion (λ (b : Bin). 32 + sum_by size_of b.cells ≡ b.size) layout
bins_full bytes at [] h = tt
bins_full bytes at (b ∷ layout) h =
    let e = Tiles-sum bytes (at + 32) (at + b.size) b.cells h.2 in (omega arith, bins_full bytes (at + b.size) layout h.3)

-- a bin's cells and its header are the whole bin
pub AreBins-full : (bytes : List ℕ) (layout : List Bin) → AreBins bytes 0 layout → All (λ (b : Bin). 32 + sum_by size_of b.cells ≡ b.size) layout
AreBins-full bytes layout h = All-from_recursion (λ (b : Bin). 32 + sum_by size_of b.cells ≡ b.size) layout (bins_full bytes 0 layout h)

bins_sum : (bytes : List ℕ) (at : ℕ) (layout : List Bin) → AreBins bytes at layout → at + sum_by bytes_of layout ≡ length bytes
bins_sum bytes at [] h = omega arith
bins_sum bytes at (b ∷ layout) h = let e = bins_sum bytes (at + b.size) layout h.3 in omega (arith, sum_by-cons bytes_of b layout)

-- all bins together are all bytes
pub AreBins-sum : (bytes : List ℕ) (layout : List Bin) → AreBins bytes 0 layout → sum_by bytes_of layout ≡ length bytes
AreBins-sum bytes layout h = let e = bins_sum bytes 0 layout h in omega arith

-- ---- where there are cells, there are bins of them

-- a cell as its size field gives it
abbrev met : List ℕ → ℕ → Cell
met bytes at = record { offset = at; size = size_in (word bytes at); allocated = is_allocated_in (word bytes at) }

tiles-cell : (bytes : List ℕ) (at stop : ℕ) (cells : List Cell) (good : Bool) →
    (ltb 0 (size_in (word bytes at)) && eqb (size_in (word bytes at) % 8) 0 && leb (at + size_in (word bytes at)) stop) ≡ good →
    (rest : Option (List Cell)) → ((ys : List Cell) → rest ≡ Some ys → Tiles bytes (at + size_in (word bytes at)) stop ys) →
    choose good (λ _. option_map (λ (ys : List Cell). met bytes at ∷ ys) rest) (λ _. None) ≡ Some cells → Tiles bytes at stop cells
tiles-cell bytes at stop cells false g rest t e = absurd (cc)
tiles-cell bytes at stop cells true g None t e = absurd (cc)
tiles-cell bytes at stop cells true g (Some ys) t e =
    let two = and_parts _ (leb (at + size_in (word bytes at)) stop) g in
    let one = and_parts (ltb 0 (size_in (word bytes at))) _ two.0 in
    let cell : IsCell bytes stop (met bytes at) = record { size = refl; allocated = refl; positive = ltb-true _ _ one.0; eights = eqb-true _ _ one.1; within = leb-true _ _ two.1 } in
    subst (Tiles bytes at stop) (same_Some (met bytes at ∷ ys) cells e) (refl, cell, t ys refl)

tiles-end : (bytes : List ℕ) (at stop : ℕ) (cells : List Cell) (end : Bool) → eqb at stop ≡ end → (other : Option (List Cell)) →
    (other ≡ Some cells → Tiles bytes at stop cells) → choose end (λ _. Some []) (λ _. other) ≡ Some cells → Tiles bytes at stop cells
tiles-end bytes at stop cells true z other t e = subst (Tiles bytes at stop) (same_Some [] cells e) (eqb-true at stop z)
tiles-end bytes at stop cells false z other t e = t e

-- cells that are met from at to stop fill those bytes
pub Tiles-cells_from : (steps : ℕ) (bytes : List ℕ) (at stop : ℕ) (cells : List Cell) → cells_from steps bytes at stop ≡ Some cells → Tiles bytes at stop cells
Tiles-cells_from zero bytes at stop cells e = absurd (cc)
Tiles-cells_from (suc steps) bytes at stop cells e =
    tiles-end bytes at stop cells _ refl _ (tiles-cell bytes at stop cells _ refl (cells_from steps bytes (at + size_in (word bytes at)) stop)
    (λ ys f. Tiles-cells_from steps bytes (at + size_in (word bytes at)) stop ys f)) e

-- bins that hold these cells, from at on
pub record HasLayout (bytes : List ℕ) (at : ℕ) (cells : List Cell) : Type 0 where
  pub layout : List Bin
  pub tiled : AreBins bytes at layout
  pub cells_are : cells ≡ cells_in layout

bins-joined : (bytes : List ℕ) (at size : ℕ) (cells : List Cell) → ((zs : List Cell) → IsHeader bytes (record { start = at; size = size; cells = zs })) →
    (xs ys : Option (List Cell)) → ((zs : List Cell) → xs ≡ Some zs → Tiles bytes (at + 32) (at + size) zs) →
    ((zs : List Cell) → ys ≡ Some zs → HasLayout bytes (at + size) zs) → joined xs ys ≡ Some cells → HasLayout bytes at cells
bins-joined bytes at size cells header None ys t l e = absurd (cc)
bins-joined bytes at size cells header (Some xs) None t l e = absurd (cc)
bins-joined bytes at size cells header (Some xs) (Some ys) t l e =
    let bin : Bin = record { start = at; size = size; cells = xs } in
    let rest = l ys refl in
    record { layout = bin ∷ rest.layout; tiled = (refl, header xs, t xs refl, rest.tiled); cells_are = sym (same_Some (xs ++ ys) cells e) ∙ ap (λ (zs : List Cell). xs ++ zs) rest.cells_are }

bins-bin : (bytes : List ℕ) (at : ℕ) (ps : List BinPlace) (cells : List Cell) (good : Bool) →
    (eqb (word bytes at) 1852400232 && eqb (word bytes (at + 4)) at && ltb 0 (word bytes (at + 8)) && eqb (word bytes (at + 8) % 4096) 0 && leb
    (at + word bytes (at + 8)) (length bytes)) ≡ good → (rest : Option (List BinPlace)) →
    ((rs : List BinPlace) (zs : List Cell) → rest ≡ Some rs → cells_of_bins bytes rs ≡ Some zs → HasLayout bytes (at + word bytes (at + 8)) zs) →
    choose good (λ _. option_map (λ (rs : List BinPlace). record { start = at; size = word bytes (at + 8) } ∷ rs) rest) (λ _. None) ≡ Some ps →
    cells_of_bins bytes ps ≡ Some cells → HasLayout bytes at cells
bins-bin bytes at ps cells false g rest l e f = absurd (cc)
bins-bin bytes at ps cells true g None l e f = absurd (cc)
bins-bin bytes at ps cells true g (Some rs) l e f =
    let size = word bytes (at + 8) in
    let four = and_parts _ (leb (at + size) (length bytes)) g in
    let three = and_parts _ (eqb (size % 4096) 0) four.0 in
    let two = and_parts _ (ltb 0 size) three.0 in
    let one = and_parts (eqb (word bytes at) 1852400232) _ two.0 in
    let header : (zs : List Cell) → IsHeader bytes (record { start = at; size = size; cells = zs }) = λ zs. record {
      signature = eqb-true _ _ one.0;
      place = eqb-true _ _ one.1;
      size = refl;
      positive = ltb-true _ _ two.1;
      pages = eqb-true _ _ three.1;
      within = leb-true _ _ four.1;
    } in
    let same : record { start = at; size = size } ∷ rs ≡ ps = same_Some _ _ e in
    let all : cells_of_bins bytes (record { start = at; size = size } ∷ rs) ≡ Some cells = ap (cells_of_bins bytes) same ∙ f in
    bins-joined bytes at size cells header (cells_from (suc size) bytes (at + 32) (at + size)) (cells_of_bins bytes rs)
    (λ zs h. Tiles-cells_from (suc size) bytes (at + 32) (at + size) zs h) (λ zs h. l rs zs refl h) all

bins-end : (bytes : List ℕ) (at : ℕ) (ps : List BinPlace) (cells : List Cell) (end : Bool) → eqb at (length bytes) ≡ end →
    (other : Option (List BinPlace)) → (other ≡ Some ps → HasLayout bytes at cells) → choose end (λ _. Some []) (λ _. other) ≡ Some ps →
    cells_of_bins bytes ps ≡ Some cells → HasLayout bytes at cells
bins-end bytes at ps cells true z other t e f =
    let none : [] ≡ ps = same_Some [] ps e in
    let all : Some [] ≡ Some cells = ap (cells_of_bins bytes) none ∙ f in
    record { layout = []; tiled = eqb-true at (length bytes) z; cells_are = sym (same_Some [] cells all) }
bins-end bytes at ps cells false z other t e f = t e

layout-bins_from : (steps : ℕ) (bytes : List ℕ) (at : ℕ) (ps : List BinPlace) (cells : List Cell) → bins_from steps bytes at ≡ Some ps →
    cells_of_bins bytes ps ≡ Some cells → HasLayout bytes at cells
layout-bins_from zero bytes at ps cells e f = absurd (cc)
layout-bins_from (suc steps) bytes at ps cells e f =
    let size = word bytes (at + 8) in
    bins-end bytes at ps cells _ refl _
    (λ h. bins-bin bytes at ps cells _ refl (bins_from steps bytes (at + size)) (λ rs zs g i. layout-bins_from steps bytes (at + size) rs zs g i) h f) e f

-- bytes that have cells are bins of these cells
pub layout-cells_of : (bytes : List ℕ) (cells : List Cell) → cells_of bytes ≡ Some cells → HasLayout bytes 0 cells
unfolding cells_of
layout-cells_of bytes cells e = by (bins_of bytes) refl e
  where
    by : (o : Option (List BinPlace)) → bins_of bytes ≡ o → option_and_then (cells_of_bins bytes) o ≡ Some cells → HasLayout bytes 0 cells
    by None f e = absurd (cc)
    by (Some ps) f e = layout-bins_from (suc (length bytes)) bytes 0 ps cells f e

-- ---- free cells

-- the cells before one begin before it, and those behind it begin behind it
before : (at : ℕ) (xs : List Cell) (c : Cell) (ys : List Cell) → AreOrdered at (xs ++ c ∷ ys) → (at ≤ c.offset) × AllByRecursion (λ (x : Cell). x.offset < c.offset) xs
before at [] c ys h = (h.0, tt)
before at (x ∷ xs) c ys h = let r = before (x.offset + x.size) xs c ys h.2 in (omega (arith, r.0, h.0, h.1), (omega (arith, r.0, h.1), r.1))

behind : (n at : ℕ) (ys : List Cell) → n < at → AreOrdered at ys → AllByRecursion (λ (y : Cell). n < y.offset) ys
behind n at [] l h = tt
behind n at (y ∷ ys) l h = (omega (arith, h.0), behind n (y.offset + y.size) ys (omega (arith, h.0)) h.2)

back : (at : ℕ) (xs : List Cell) (c : Cell) (ys : List Cell) → AreOrdered at (xs ++ c ∷ ys) → AllByRecursion (λ (y : Cell). c.offset < y.offset) ys
back at [] c ys h = behind c.offset (c.offset + c.size) ys (omega (arith, h.1)) h.2
back at (x ∷ xs) c ys h = back (x.offset + x.size) xs c ys h.2

content-before : (bytes : List ℕ) (xs rest : List Cell) (offset : ℕ) → AllByRecursion (λ (x : Cell). x.offset < offset) xs → content_in bytes (xs ++ rest) offset ≡ content_in bytes rest offset
content-before bytes [] rest offset h = refl
content-before bytes (x ∷ xs) rest offset h = rw (ne_eqb x.offset offset (λ e. omega (arith, h.0))) (content-before bytes xs rest offset h.1)

content-behind : (bytes : List ℕ) (ys : List Cell) (offset : ℕ) → AllByRecursion (λ (y : Cell). offset < y.offset) ys → content_in bytes ys offset ≡ None
content-behind bytes [] offset h = refl
content-behind bytes (y ∷ ys) offset h = rw (ne_eqb y.offset offset (λ e. omega (arith, h.0))) (content-behind bytes ys offset h.1)

-- the cells of some bytes are in order and do not overlap
pub ordered : (bytes : List ℕ) (cells : List Cell) → cells_of bytes ≡ Some cells → AreOrdered 0 cells
ordered bytes cells e =
    let l = layout-cells_of bytes cells e in rw l.cells_are (AreOrdered-AreBins bytes 0 l.layout l.tiled)

cell_at-cells_of : (bytes : List ℕ) (cells : List Cell) (offset : ℕ) → cells_of bytes ≡ Some cells → cell_at bytes offset ≡ content_in bytes cells offset
unfolding cell_at
cell_at-cells_of bytes cells offset e = ap (λ (o : Option (List Cell)). content_of bytes o offset) e

-- a free cell has no content
pub free-no_content : (bytes : List ℕ) (front : List Cell) (cell : Cell) (rest : List Cell) → cells_of bytes ≡ Some (front ++ cell ∷ rest) → cell.allocated ≡ false → cell_at bytes cell.offset ≡ None
free-no_content bytes front cell rest e f =
    let o = ordered bytes (front ++ cell ∷ rest) e in
    cell_at-cells_of bytes (front ++ cell ∷ rest) cell.offset e ∙ content-before bytes front (cell ∷ rest) cell.offset (before 0 front cell rest o).1
    ∙ rw (f, eq-eqb cell.offset cell.offset refl) (content-behind bytes rest cell.offset (back 0 front cell rest o))

-- an allocated cell holds the bytes behind its size field
pub allocated-content : (bytes : List ℕ) (front : List Cell) (cell : Cell) (rest : List Cell) → cells_of bytes ≡ Some (front ++ cell ∷ rest) →
    cell.allocated ≡ true → cell_at bytes cell.offset ≡ Some (take (cell.size - 4) (drop (cell.offset + 4) bytes))
allocated-content bytes front cell rest e f =
    let o = ordered bytes (front ++ cell ∷ rest) e in
    cell_at-cells_of bytes (front ++ cell ∷ rest) cell.offset e ∙ content-before bytes front (cell ∷ rest) cell.offset (before 0 front cell rest o).1
    ∙ rw (f, eq-eqb cell.offset cell.offset refl) refl

-- the place of a cell among others
pub record StandsAmong (cells : List Cell) (cell : Cell) : Type 0 where
  pub front : List Cell
  pub rest : List Cell
  pub cells_are : cells ≡ front ++ cell ∷ rest

among-by : (cells : List Cell) (cell : Cell) (k : ℕ) → k < length cells → get_or cells k cell ≡ cell → StandsAmong cells cell
among-by [] cell k l e = absurd (omega arith)
among-by (c ∷ cells) cell zero l e = record { front = []; rest = cells; cells_are = ap (λ (x : Cell). x ∷ cells) e }
among-by (c ∷ cells) cell (suc k) l e =
    let r = among-by cells cell k (omega arith) e in
    record { front = c ∷ r.front; rest = r.rest; cells_are = ap (λ (xs : List Cell). c ∷ xs) r.cells_are }

pub among : (cells : List Cell) (cell : Cell) → Contains cells cell → StandsAmong cells cell
among cells cell h = among-by cells cell h.0 h.1 h.2

-- the two facts of a cell by its place, for a cell that is one of them
pub free-none : (bytes : List ℕ) (cells : List Cell) (cell : Cell) → cells_of bytes ≡ Some cells → Contains cells cell → cell.allocated ≡ false → cell_at bytes cell.offset ≡ None
free-none bytes cells cell e h f =
    let a = among cells cell h in free-no_content bytes a.front cell a.rest (e ∙ ap Some a.cells_are) f

pub allocated-some : (bytes : List ℕ) (cells : List Cell) (cell : Cell) → cells_of bytes ≡ Some cells → Contains cells cell → cell.allocated ≡ true →
    cell_at bytes cell.offset ≡ Some (take (cell.size - 4) (drop (cell.offset + 4) bytes))
allocated-some bytes cells cell e h f =
    let a = among cells cell h in allocated-content bytes a.front cell a.rest (e ∙ ap Some a.cells_are) f

-- ---- contents

-- the allocated cell whose content stands at an offset
pub record IsHolder (bytes : List ℕ) (cells : List Cell) (offset : ℕ) (content : List ℕ) : Type 0 where
  pub front : List Cell
  pub cell : Cell
  pub rest : List Cell
  pub cells_are : cells ≡ front ++ cell ∷ rest
  pub offset_is : cell.offset ≡ offset
  pub allocated : cell.allocated ≡ true
  pub long : length content + 4 ≡ cell.size
  pub eight : 8 ≤ cell.size
  pub eights : cell.size % 8 ≡ 0
  pub within : offset + cell.size ≤ length bytes
  pub content_is : content ≡ take (cell.size - 4) (drop (offset + 4) bytes)

piece_length : (bytes : List ℕ) (offset size : ℕ) → 8 ≤ size → offset + size ≤ length bytes → length (take (size - 4) (drop (offset + 4) bytes)) + 4 ≡ size
piece_length bytes offset size l w = simp (length-take, length-drop) (omega arith)

holder-parts : (bytes : List ℕ) (cells : List Cell) (offset : ℕ) (content : List ℕ) (front : List Cell) (cell : Cell) (rest : List Cell) →
    cells ≡ front ++ cell ∷ rest → cell.offset ≡ offset → cell.allocated ≡ true →
    content_in bytes cells offset ≡ Some (take (cell.size - 4) (drop (cell.offset + 4) bytes)) → content_in bytes cells offset ≡ Some content →
    IsCell bytes (length bytes) cell → IsHolder bytes cells offset content
holder-parts bytes cells offset content front cell rest are here used found e is =
    let piece : content ≡ take (cell.size - 4) (drop (offset + 4) bytes) = subst (λ (n : ℕ). content ≡ take (cell.size - 4) (drop (n + 4) bytes)) here (same_Some content _ (sym e ∙ found)) in
    let eight : 8 ≤ cell.size = omega (arith, is.positive, is.eights) in
    let within : offset + cell.size ≤ length bytes = omega (arith, is.within) in
    record {
      front = front;
      cell = cell;
      rest = rest;
      cells_are = are;
      offset_is = here;
      allocated = used;
      long = ap (λ (xs : List ℕ). length xs + 4) piece ∙ piece_length bytes offset cell.size eight within;
      eight = eight;
      eights = is.eights;
      within = within;
      content_is = piece;
    }

holder-from : (bytes : List ℕ) (cells : List Cell) (offset : ℕ) (content : List ℕ) (layout : List Bin) → AreBins bytes 0 layout →
    cells ≡ cells_in layout → content_in bytes cells offset ≡ Some content → IsHolder bytes cells offset content
holder-from bytes cells offset content layout tiled are e =
    let k = looked bytes cells offset (ap is_some e) in
    let s = stands bytes layout k.xs k.c k.ys tiled (sym are ∙ k.cells_are) in
    holder-parts bytes cells offset content k.xs k.c k.ys k.cells_are k.offset_is k.allocated k.content e s.cell

-- what stands at an offset is what an allocated cell there holds
pub holder : (bytes : List ℕ) (cells : List Cell) (offset : ℕ) (content : List ℕ) → cells_of bytes ≡ Some cells → cell_at bytes offset ≡ Some content → IsHolder bytes cells offset content
holder bytes cells offset content e c =
    let l = layout-cells_of bytes cells e in
    holder-from bytes cells offset content l.layout l.tiled l.cells_are (sym (cell_at-cells_of bytes cells offset e) ∙ c)

-- the same, where the cells are not known yet
pub record HasHolder (bytes : List ℕ) (offset : ℕ) (content : List ℕ) : Type 0 where
  pub cells : List Cell
  pub cells_are : cells_of bytes ≡ Some cells
  pub holds : IsHolder bytes cells offset content

has-by : (bytes : List ℕ) (offset : ℕ) (content : List ℕ) (o : Option (List Cell)) → cells_of bytes ≡ o → content_of bytes o offset ≡ Some content → HasHolder bytes offset content
has-by bytes offset content None e c = absurd (cc)
has-by bytes offset content (Some cells) e c = record { cells = cells; cells_are = e; holds = holder bytes cells offset content e (cell_at-cells_of bytes cells offset e ∙ c) }

pub has_holder : (bytes : List ℕ) (offset : ℕ) (content : List ℕ) → cell_at bytes offset ≡ Some content → HasHolder bytes offset content
unfolding cell_at
has_holder bytes offset content c = has-by bytes offset content (cells_of bytes) refl c

holder-among : (bytes : List ℕ) (cells : List Cell) (offset : ℕ) (content : List ℕ) → IsHolder bytes cells offset content →
    (cell : Cell) × Contains cells cell × (cell.offset ≡ offset) × (cell.allocated ≡ true) × (length content + 4 ≡ cell.size)
holder-among bytes cells offset content h =
    let here : Contains (h.front ++ h.cell ∷ h.rest) h.cell = (length h.front, simp length-append (omega arith), get_or-append_seam h.front h.cell h.rest h.cell) in
    (h.cell, rw h.cells_are here, h.offset_is, h.allocated, h.long)

-- the holder is one of the cells
pub holder-is : (bytes : List ℕ) (cells : List Cell) (offset : ℕ) (content : List ℕ) → cells_of bytes ≡ Some cells →
    cell_at bytes offset ≡ Some content → (cell : Cell) × Contains cells cell × (cell.offset ≡ offset) × (cell.allocated ≡ true) ×
    (length content + 4 ≡ cell.size)
holder-is bytes cells offset content e c = holder-among bytes cells offset content (holder bytes cells offset content e c)

-- ---- as laws

pub cells_apart : (bytes : List ℕ) (front middle rest : List Cell) (first second : Cell) →
    cells_of bytes ≡ Some (front ++ first ∷ (middle ++ second ∷ rest)) → first.offset + first.size ≤ second.offset
cells_apart bytes front middle rest first second e =
    let o = AreOrdered-back 0 front (first ∷ (middle ++ second ∷ rest)) (ordered bytes (front ++ first ∷ (middle ++ second ∷ rest)) e) in
    (before (first.offset + first.size) middle second rest o.2).0

pub in_bins : (bytes : List ℕ) (cells : List Cell) → cells_of bytes ≡ Some cells → (layout : List Bin) × AreBins bytes 0 layout × (cells ≡ cells_in layout)
in_bins bytes cells e = let l = layout-cells_of bytes cells e in (l.layout, l.tiled, l.cells_are)

pub has_cells : (bytes : List ℕ) (offset : ℕ) (content : List ℕ) → cell_at bytes offset ≡ Some content → (cells : List Cell) × (cells_of bytes ≡ Some cells)
has_cells bytes offset content c = let h = has_holder bytes offset content c in (h.cells, h.cells_are)
