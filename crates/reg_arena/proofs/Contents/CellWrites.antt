-- A write into one allocated cell.
use Rattle.std.proofs.Common.{◌≡◌, ℕ, ◌+◌, ◌-◌, ◌<◌, ◌≤◌, true, false, cond, ◌⊎◌, inl, inr, List, [], ◌∷◌, ◌++◌, length, get_or, take, drop, refl, sym, ap, ◌∙◌, subst, arith, Option}
use Rattle.std.proofs.Common.{Some, None, eqb, is_some, unwrap_or, length-take, length-drop}
use Rattle.std.proofs.lemmas.List.{ext_get_or, get_or-take, get_or-drop}
use Rattle.std.proofs.lemmas.Bool.{cases_eq, cases_lt, eq-eqb, ne_eqb}
use Rattle.std.specs.List.{AllByRecursion}
use Rattle.reg_heap.specs.ByteWords.{word, splice, SameOutside}
use Rattle.reg_heap.specs.Heaps.{Writes}
use Rattle.reg_heap.proofs.CellFrame.{writes_one}
use Rattle.reg_arena.specs.declared.Cell.{Cell}
use Rattle.reg_arena.specs.Cells.{Bin, IsCell, Tiles, AreBins, cells_in, content_in, size_in, cell_at, cells_of, bins_of}
use Rattle.reg_arena.proofs.Tiling.BinPlaces.{places-same}
use Rattle.reg_arena.specs.Arena.{IsArena}
use Rattle.reg_arena.specs.declared.free_lists.FreeLists.{FreeLists}
use Rattle.reg_arena.specs.Internal.ListedCells.{IsListed, IsIndexed, IsFreeOf, free_size}
use Rattle.reg_arena.proofs.Contents.ByteSplices.{same-splice, word-same_below, length-splice, get_or-splice_below, get_or-splice_above, get_or-splice_in}
use Rattle.reg_arena.proofs.Tiling.Tilings.{with_cells, AreBins-edit, cells_of-AreBins, cell_at-AreBins, IsCell-same, IsCell-within}
use Rattle.reg_arena.proofs.Tiling.CellPositions.{looked, Stands, stands}
use Rattle.reg_arena.proofs.Tiling.BlankHeaders.{blank-same}
use Rattle.reg_arena.proofs.Contents.CellContents.{content_in-append, IsBeside, content_in-beside, AreOrdered, AreOrdered-AreBins, besides-before, besides-after}
use Rattle.reg_arena.proofs.FreeList.ListedFrames.{beside-free as beside-free-cells}
use Rattle.reg_arena.proofs.FreeList.FreeSizes.{used-free}

-- what is known of an allocated cell
pub record Found (bytes : List ℕ) (offset : ℕ) : Type 0 where
  pub eight : 8 ≤ size_in (word bytes offset)
  pub within : offset + size_in (word bytes offset) ≤ length bytes
  pub content : cell_at bytes offset ≡ Some (take (size_in (word bytes offset) - 4) (drop (offset + 4) bytes))

found-by : (bytes : List ℕ) (offset : ℕ) (c : Cell) → c.offset ≡ offset → IsCell bytes (length bytes) c →
    cell_at bytes offset ≡ Some (take (c.size - 4) (drop (c.offset + 4) bytes)) → Found bytes offset
found-by bytes offset c e cell content =
    let size : size_in (word bytes offset) ≡ c.size = subst (λ (k : ℕ). size_in (word bytes k) ≡ c.size) e cell.size in
    record {
      eight = omega (arith, size, cell.positive, cell.eights);
      within = omega (arith, size, cell.within);
      content = content ∙ ap (λ (n : ℕ). Some (take (n - 4) (drop (c.offset + 4) bytes))) (sym size) ∙ ap (λ (n : ℕ). Some (take (size_in (word bytes offset) - 4) (drop (n + 4) bytes))) e;
    }

pub found : (bytes : List ℕ) (offset : ℕ) → IsArena bytes → is_some (cell_at bytes offset) ≡ true → Found bytes offset
found bytes offset a h =
    let at = cell_at-AreBins bytes a.layout offset a.tiled in
    let some : is_some (content_in bytes (cells_in a.layout) offset) ≡ true = ap is_some (sym at) ∙ h in
    let l = looked bytes (cells_in a.layout) offset some in
    let s = stands bytes a.layout l.xs l.c l.ys a.tiled l.cells_are in
    found-by bytes offset l.c l.offset_is s.cell (at ∙ l.content)

none-by : (lo hi : ℕ) (c : Cell) (offset : ℕ) → IsBeside lo hi c → lo ≤ offset → offset < hi → eqb c.offset offset ≡ false
none-by lo hi c offset (e, inl b) l m = ne_eqb c.offset offset (λ x. omega arith)
none-by lo hi c offset (e, inr b) l m = ne_eqb c.offset offset (λ x. omega arith)

pub content_in-none : (lo hi : ℕ) (bytes : List ℕ) (cells : List Cell) (offset : ℕ) → AllByRecursion (IsBeside lo hi) cells → lo ≤ offset → offset < hi → content_in bytes cells offset ≡ None
content_in-none lo hi bytes [] offset h l m = refl
content_in-none lo hi bytes (c ∷ cells) offset h l m = rw (none-by lo hi c offset h.0 l m) (content_in-none lo hi bytes cells offset h.1 l m)

-- a piece of a list that holds the place written
pub piece-splice : (n p at : ℕ) (piece old : List ℕ) → at + length piece ≤ n → p + n ≤ length old → take n (drop p (splice (p + at) piece old)) ≡ splice at piece (take n (drop p old))
piece-splice n p at piece old a b =
    let long = length-splice (p + at) piece old (omega arith) in
    let part : length (take n (drop p old)) ≡ n = simp (length-take, length-drop) (omega arith) in
    let part' : length (take n (drop p (splice (p + at) piece old))) ≡ n = simp (length-take, length-drop, long) (omega arith) in
    let long' = length-splice at piece (take n (drop p old)) (omega arith) in
    ext_get_or 0 _ _ (part' ∙ sym (long' ∙ part))
    (λ k h.
    let lt : k < n = omega arith in
    get_or-take n (drop p (splice (p + at) piece old)) k 0 lt ∙ get_or-drop p (splice (p + at) piece old) k 0 ∙
    piece-at n p at piece old k a b lt part (cases_lt k at) (cases_lt k (at + length piece)))
  where
    piece-at : (n p at : ℕ) (piece old : List ℕ) (k : ℕ) → at + length piece ≤ n → p + n ≤ length old → k < n → length (take n (drop p old)) ≡ n →
        (k < at) ⊎ (at ≤ k) → (k < at + length piece) ⊎ (at + length piece ≤ k) →
        get_or (splice (p + at) piece old) (p + k) 0 ≡ get_or (splice at piece (take n (drop p old))) k 0
    piece-at n p at piece old k a b lt e (inl x) y =
        get_or-splice_below (p + at) piece old (p + k) (omega arith) (omega arith) ∙
        sym (get_or-splice_below at piece (take n (drop p old)) k (omega arith) x ∙ get_or-take n (drop p old) k 0 lt ∙ get_or-drop p old k 0)
    piece-at n p at piece old k a b lt e (inr x) (inl y) =
        let i : p + k ≡ p + at + (k - at) = omega arith in
        let j : k ≡ at + (k - at) = omega arith in
        ap (λ (z : ℕ). get_or (splice (p + at) piece old) z 0) i ∙ get_or-splice_in (p + at) piece old (k - at) (omega arith) (omega arith)
        ∙ sym (ap (λ (z : ℕ). get_or (splice at piece (take n (drop p old))) z 0) j ∙ get_or-splice_in at piece (take n (drop p old)) (k - at) (omega arith) (omega arith))
    piece-at n p at piece old k a b lt e (inr x) (inr y) =
        get_or-splice_above (p + at) piece old (p + k) (omega arith) (omega arith) ∙
        sym (get_or-splice_above at piece (take n (drop p old)) k (omega arith) y ∙ get_or-take n (drop p old) k 0 lt ∙ get_or-drop p old k 0)

pub all-append : {X : Type 0} (P : X → Type 0) (xs ys : List X) → AllByRecursion P xs → AllByRecursion P ys → AllByRecursion P (xs ++ ys)
all-append P [] ys a b = b
all-append P (x ∷ xs) ys a b = (a.0, all-append P xs ys a.1 b)

-- what holds of all holds of one
pub all-at : {X : Type 0} (P : X → Type 0) (xs : List X) (x : X) (ys : List X) → AllByRecursion P (xs ++ x ∷ ys) → P x
all-at P [] x ys h = h.0
all-at P (z ∷ xs) x ys h = all-at P xs x ys h.1

-- ---- the write

-- what a write leaves
pub record Wrote (old new : List ℕ) (lists : FreeLists) (cell at : ℕ) (piece : List ℕ) : Type 0 where
  pub indexed : IsIndexed new lists
  pub cells : cells_of new ≡ cells_of old
  pub long : length new ≡ length old
  pub contents : (offset : ℕ) → cell_at new offset ≡ cond (eqb offset cell) (Some (splice at piece (unwrap_or (cell_at old cell) []))) (cell_at old offset)
  pub writes : Writes (cell_at old) (cell_at new) (cell ∷ [])
  pub bins : bins_of new ≡ bins_of old

contents-by : (old new : List ℕ) (xs : List Cell) (c : Cell) (ys : List Cell) (value : List ℕ) (offset : ℕ) → c.allocated ≡ true →
    take (c.size - 4) (drop (c.offset + 4) new) ≡ value → content_in new xs offset ≡ content_in old xs offset →
    content_in new ys offset ≡ content_in old ys offset → (offset ≡ c.offset → content_in new xs offset ≡ None) →
    (offset ≡ c.offset) ⊎ (offset ≡ c.offset → ⊥) → content_in new (xs ++ c ∷ ys) offset ≡ cond (eqb offset c.offset) (Some value)
    (content_in old (xs ++ c ∷ ys) offset)
contents-by old new xs c ys value offset a v x y n (inl e) =
    let same : eqb offset c.offset ≡ true = eq-eqb _ _ e in
    let same' : eqb c.offset offset ≡ true = eq-eqb _ _ (sym e) in
    rw (same, content_in-append new xs (c ∷ ys) offset, n e, same', a, v) refl
contents-by old new xs c ys value offset a v x y n (inr ne) =
    let other : eqb offset c.offset ≡ false = ne_eqb _ _ ne in
    let other' : eqb c.offset offset ≡ false = ne_eqb _ _ (λ e. ne (sym e)) in
    rw (other, content_in-append new xs (c ∷ ys) offset, content_in-append old xs (c ∷ ys) offset, other', x, y) refl

-- the layout stays the same where one cell's size field stays
pub layout-same : {lo hi : ℕ} {old new : List ℕ} → SameOutside lo hi old new → (layout : List Bin) (xs : List Cell) (c : Cell) (ys : List Cell) →
    Stands old layout xs c ys → lo ≡ c.offset → hi ≡ c.offset + c.size → word new c.offset ≡ word old c.offset → AreBins old 0 layout →
    AreBins new 0 layout
layout-same {lo = lo} {hi = hi} {old = old} {new = new} s layout xs c ys st e f w h =
    let p = st.place in
    let was : AreBins old 0 (p.ps ++ p.b ∷ p.qs) = rw p.bins at h in
    let one : Tiles new lo hi (c ∷ []) = (sym e, IsCell-within hi (IsCell-same w st.cell) (omega arith), omega arith) in
    let now = AreBins-edit s 0 p.ps p.b p.qs p.us (c ∷ []) (c ∷ []) p.vs p.cells (st.start ∙ sym e) (omega arith) was one in
    let same : with_cells p.b (p.us ++ c ∷ p.vs) ≡ p.b = ap (with_cells p.b) (sym p.cells) in
    rw p.bins (subst (λ (b : Bin). AreBins new 0 (p.ps ++ b ∷ p.qs)) same now)

wrote-by : (old : List ℕ) (lists : FreeLists) (at : ℕ) (piece : List ℕ) (a : IsArena old) → IsListed old (free_size (cells_in a.layout)) lists → (xs : List Cell) (c : Cell) (ys : List Cell) →
    cells_in a.layout ≡ xs ++ c ∷ ys → c.allocated ≡ true → cell_at old c.offset ≡ Some (take (c.size - 4) (drop (c.offset + 4) old)) →
    at + length piece ≤ length (unwrap_or (cell_at old c.offset) []) → Wrote old (splice (c.offset + 4 + at) piece old) lists c.offset at piece
wrote-by old lists at piece a listed xs c ys e used content fits =
    let new : List ℕ = splice (c.offset + 4 + at) piece old in
    let st = stands old a.layout xs c ys a.tiled e in
    let eight : 8 ≤ c.size = omega (arith, st.cell.positive, st.cell.eights) in
    let within = st.cell.within in
    let value : unwrap_or (cell_at old c.offset) [] ≡ take (c.size - 4) (drop (c.offset + 4) old) = ap (λ (o : Option (List ℕ)). unwrap_or o []) content in
    let long : length (unwrap_or (cell_at old c.offset) []) ≡ c.size - 4 = ap length value ∙ simp (length-take, length-drop) (omega arith) in
    let room : at + length piece ≤ c.size - 4 = omega arith in
    let s : SameOutside c.offset (c.offset + c.size) old new = same-splice (c.offset + 4 + at) c.offset (c.offset + c.size) piece old (omega arith) (omega arith) within in
    let t : SameOutside (c.offset + 4) (c.offset + c.size) old new = same-splice (c.offset + 4 + at) (c.offset + 4) (c.offset + c.size) piece old (omega arith) (omega arith) within in
    let tiled : AreBins new 0 a.layout = layout-same s a.layout xs c ys st refl refl (word-same_below t c.offset (omega arith)) a.tiled in
    let ordered : AreOrdered 0 (xs ++ c ∷ ys) = subst (AreOrdered 0) e (AreOrdered-AreBins old 0 a.layout a.tiled) in
    let before = besides-before 0 c.offset (c.offset + c.size) xs c ys refl ordered in
    let after = besides-after 0 c.offset (c.offset + c.size) xs c ys (omega arith) ordered in
    let part : take (c.size - 4) (drop (c.offset + 4) new) ≡ splice at piece (unwrap_or (cell_at old c.offset) []) =
    piece-splice (c.size - 4) (c.offset + 4) at piece old room (omega arith) ∙ ap (splice at piece) (sym value) in
    let contents : (offset : ℕ) → cell_at new offset ≡ cond (eqb offset c.offset) (Some (splice at piece (unwrap_or (cell_at old c.offset) []))) (cell_at old offset) = λ offset.
    cell_at-AreBins new a.layout offset tiled ∙ ap (λ cs. content_in new cs offset) e
    ∙ contents-by old new xs c ys (splice at piece (unwrap_or (cell_at old c.offset) [])) offset used part (content_in-beside s xs offset before) (content_in-beside s ys offset after)
    (λ f. content_in-none c.offset (c.offset + c.size) new xs offset before (omega arith) (omega arith)) (cases_eq offset c.offset)
    ∙ sym (ap (λ o. cond (eqb offset c.offset) (Some (splice at piece (unwrap_or (cell_at old c.offset) []))) o)
    (cell_at-AreBins old a.layout offset a.tiled ∙ ap (λ cs. content_in old cs offset) e)) in
    record {
      indexed = record {
        arena = record {
          layout = a.layout;
          tiled = tiled;
          blank = blank-same s a.layout xs c ys st refl refl a.tiled a.blank;
          apart = a.apart;
          small = omega (arith, s.long, a.small);
        };
        listed = beside-free-cells old new (free_size (cells_in a.layout)) lists c.offset c.size listed s free;
      };
      cells = cells_of-AreBins new a.layout tiled ∙ sym (cells_of-AreBins old a.layout a.tiled);
      long = s.long;
      contents = contents;
      writes = writes_one (cell_at old) (cell_at new) c.offset _ (ap is_some content) contents;
      bins = places-same old new a.layout a.tiled tiled;
    }
  where
    free : IsFreeOf (free_size (cells_in a.layout)) c.offset c.size
    free x h =
        let ordered : AreOrdered 0 (xs ++ c ∷ ys) = subst (AreOrdered 0) e (AreOrdered-AreBins old 0 a.layout a.tiled) in
        used-free c used xs ys (besides-before 0 c.offset (c.offset + c.size) xs c ys refl ordered) (besides-after 0 c.offset (c.offset + c.size) xs c ys (omega arith) ordered)
        (cells_in a.layout) e x h

pub wrote : (old : List ℕ) (lists : FreeLists) (cell at : ℕ) (piece : List ℕ) → IsIndexed old lists → is_some (cell_at old cell) ≡ true →
    at + length piece ≤ length (unwrap_or (cell_at old cell) []) → Wrote old (splice (cell + 4 + at) piece old) lists cell at piece
wrote old lists cell at piece i h fits =
    let a = i.arena in
    let found_at = cell_at-AreBins old a.layout cell a.tiled in
    let some : is_some (content_in old (cells_in a.layout) cell) ≡ true = ap is_some (sym found_at) ∙ h in
    let l = looked old (cells_in a.layout) cell some in
    let content : cell_at old cell ≡ Some (take (l.c.size - 4) (drop (l.c.offset + 4) old)) = found_at ∙ l.content in
    let Goal : ℕ → Type 0 = λ k. cell_at old k ≡ Some (take (l.c.size - 4) (drop (l.c.offset + 4) old)) →
    at + length piece ≤ length (unwrap_or (cell_at old k) []) → Wrote old (splice (k + 4 + at) piece old) lists k at piece in
    subst Goal l.offset_is (wrote-by old lists at piece a i.listed l.xs l.c l.ys l.cells_are l.allocated) content fits
