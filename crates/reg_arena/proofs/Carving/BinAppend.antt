-- A bin more at the end.
use Rattle.std.proofs.Common.{◌≡◌, ℕ, ◌+◌, ◌-◌, ◌<◌, ◌≤◌, ◌/◌, ◌%◌, ◌⊎◌, List, [], ◌∷◌, ◌++◌, length, get_or, take, drop, replicate, refl, sym, ap, ◌∙◌, subst, arith, append_assoc, length-append}
use Rattle.std.proofs.Common.{length-take, length-drop, Option, Some, None, inl, inr}
use Rattle.std.proofs.lemmas.Bool.{cases_eq}
use Rattle.std.proofs.lemmas.List.{get_or_append_left, ext_get_or, get_or-take, get_or-drop}
use Rattle.std.specs.List.{AllByRecursion}
use Rattle.reg_heap.specs.ByteWords.{word}
use Rattle.reg_arena.specs.declared.Cell.{Cell}
use Rattle.reg_arena.specs.Cells.{Bin, IsCell, IsHeader, Tiles, AreBins, cells_in, content_in}
use Rattle.reg_arena.specs.Free.{Touch, AreApart}
use Rattle.reg_arena.specs.Arena.{IsArena, AreBlank}
use Rattle.reg_arena.specs.NewBin.{new_bin, headed, IsBinSize}
use Rattle.reg_arena.specs.NewCells.{unused}
use Rattle.reg_arena.specs.Carves.{or_else}
use Rattle.reg_arena.specs.declared.free_lists.FreeLists.{FreeLists}
use Rattle.reg_arena.specs.Internal.SizeTables.{freed}
use Rattle.reg_arena.specs.Internal.BinParts.{IsSplit}
use Rattle.reg_arena.specs.Internal.ListedCells.{free_size, sized, IsListed, IsIndexed, HasRoom, IsAdded}
use Rattle.reg_arena.proofs.Contents.ByteSplices.{word-at}
use Rattle.reg_arena.proofs.Carving.NewBinBytes.{says_bin, length-new_bin, appended}
use Rattle.reg_arena.proofs.Carving.CarveWhole.{free-size, free-flag}
use Rattle.reg_arena.proofs.Tiling.Tilings.{IsCell-same, IsCell-eight, cells_of-AreBins, cell_at-AreBins, Tiles-le}
use Rattle.reg_arena.proofs.Tiling.BinParts.{split-more}
use Rattle.reg_arena.proofs.Tiling.CellPositions.{stands}
use Rattle.reg_arena.proofs.Tiling.ArenaInvariant.{AreBins-pages}
use Rattle.reg_arena.proofs.Contents.CellContents.{content_in-append}
use Rattle.reg_arena.proofs.FreeList.ListedSpots.{sized-here, sized-other}
use Rattle.reg_arena.proofs.FreeList.ListedFrames.{framed}
use Rattle.reg_arena.proofs.FreeList.FreeSizes.{AreAway, size-none, size-after, size-before, size-here}
use Rattle.reg_arena.proofs.FreeList.RelinkedCells.{free-content}

-- longer bytes with the same beginning
pub record Extends (old new : List ℕ) : Type 0 where
  pub long : length old ≤ length new
  pub below : (k : ℕ) → k < length old → get_or new k 0 ≡ get_or old k 0

pub word-extends : {old new : List ℕ} → Extends old new → (p : ℕ) → p + 4 ≤ length old → word new p ≡ word old p
word-extends {old = xs} {new = ys} s p l =
    rw (word-at xs p, word-at ys p, s.below p (omega arith), s.below (p + 1) (omega arith), s.below (p + 2) (omega arith), s.below (p + 3) (omega arith)) refl

pub Tiles-extends : {old new : List ℕ} → Extends old new → (at stop : ℕ) (cs : List Cell) → stop ≤ length old → Tiles old at stop cs → Tiles new at stop cs
Tiles-extends s at stop [] l h = h
Tiles-extends s at stop (c ∷ cs) l h =
    let e = IsCell-eight h.1 in
    (h.0, IsCell-same (word-extends s c.offset (omega (arith, h.1.within))) h.1, Tiles-extends s (at + c.size) stop cs l h.2)

pub AreBins-extends : {old new : List ℕ} → Extends old new → (at : ℕ) (bs more : List Bin) → AreBins old at bs → AreBins new (length old) more → AreBins new at (bs ++ more)
AreBins-extends {new = new} s at [] more h m = subst (λ (k : ℕ). AreBins new k more) (sym h) m
AreBins-extends {new = new} s at (b ∷ bs) more h m =
    let within = h.1.within in
    let under = Tiles-le _ (at + 32) (at + b.size) b.cells h.2 in
    let header : IsHeader new b = record {
      signature = word-extends s b.start (omega arith) ∙ h.1.signature;
      place = word-extends s (b.start + 4) (omega arith) ∙ h.1.place;
      size = word-extends s (b.start + 8) (omega arith) ∙ h.1.size;
      positive = h.1.positive;
      pages = h.1.pages;
      within = omega (arith, s.long);
    } in
    (h.0, header, Tiles-extends s (at + 32) (at + b.size) b.cells (omega arith) h.2, AreBins-extends s (at + b.size) bs more h.3 m)

pub cells_in-append : (bs more : List Bin) → cells_in (bs ++ more) ≡ cells_in bs ++ cells_in more
cells_in-append [] more = refl
cells_in-append (b ∷ bs) more = ap (λ t. b.cells ++ t) (cells_in-append bs more) ∙ sym (append_assoc b.cells (cells_in bs) (cells_in more))

apart-last : (xs : List Cell) (n size : ℕ) → AllByRecursion (λ (x : Cell). x.offset + x.size < n) xs → AreApart xs → AreApart (xs ++ unused n size ∷ [])
apart-last [] n size a h = (tt, tt)
apart-last (x ∷ xs) n size a h = (join xs h.0, apart-last xs n size a.1 h.1)
  where
    join : (zs : List Cell) → AllByRecursion (λ y. Touch x y → ⊥) zs → AllByRecursion (λ y. Touch x y → ⊥) (zs ++ unused n size ∷ [])
    join [] b = ((λ (t : Touch x (unused n size)). omega (arith, t.ends, a.0)), tt)
    join (z ∷ zs) b = (b.0, join zs b.1)

-- each cell ends within the bytes
pub ends-from : (old : List ℕ) (layout : List Bin) → AreBins old 0 layout → (P : Cell → Type 0) → ((c : Cell) → IsCell old (length old) c → P c) →
    (xs ys : List Cell) → cells_in layout ≡ xs ++ ys → AllByRecursion P ys
ends-from old layout h P f xs [] e = tt
ends-from old layout h P f xs (c ∷ ys) e = (f c (stands old layout xs c ys h e).cell, ends-from old layout h P f (xs ++ c ∷ []) ys (e ∙ sym (append_assoc xs (c ∷ []) ys)))

piece-extends : {old new : List ℕ} → Extends old new → (n p : ℕ) → p + n ≤ length old → take n (drop p new) ≡ take n (drop p old)
piece-extends {old = old} {new = new} s n p l =
    let longer = s.long in
    let one : length (take n (drop p new)) ≡ n = simp (length-take, length-drop) (omega arith) in
    let two : length (take n (drop p old)) ≡ n = simp (length-take, length-drop) (omega arith) in
    ext_get_or 0 (take n (drop p new)) (take n (drop p old)) (one ∙ sym two)
    (λ k h. (let lt : k < n = omega arith in get_or-take n (drop p new) k 0 lt ∙ get_or-drop p new k 0 ∙ s.below (p + k) (omega arith) ∙
    sym (get_or-take n (drop p old) k 0 lt ∙ get_or-drop p old k 0)))

content-extends : {old new : List ℕ} → Extends old new → (cells : List Cell) (offset : ℕ) →
    AllByRecursion (λ (c : Cell). IsCell old (length old) c) cells → content_in new cells offset ≡ content_in old cells offset
content-extends s [] offset h = refl
content-extends s (c ∷ cells) offset h =
    let e = IsCell-eight h.0 in
    rw (piece-extends s (c.size - 4) (c.offset + 4) (omega (arith, h.0.within)), content-extends s cells offset h.1) refl

blank-extends : {old new : List ℕ} → Extends old new → (at : ℕ) (bs more : List Bin) → AreBins old at bs → AreBlank old bs → AreBlank new more → AreBlank new (bs ++ more)
blank-extends s at [] more t h m = m
blank-extends s at (b ∷ bs) more t h m =
    (piece-extends s 20 (b.start + 12) (omega (arith, t.1.within, t.1.positive, t.1.pages)) ∙ h.0, blank-extends s (at + b.size) bs more t.3 h.1 m)

or_else-none : (x : Option (List ℕ)) → or_else x None ≡ x
or_else-none None = refl
or_else-none (Some x) = refl

pub extends-append : (old more : List ℕ) → Extends old (old ++ more)
extends-append old more = record {
  long = omega (arith, length-append old more);
  below = λ k l. get_or_append_left old more 0 k l;
}

pub size-eights : (size : ℕ) → size % 4096 ≡ 0 → (size - 32) % 8 ≡ 0
size-eights size e = omega (arith, e)

-- the lists have all free cells but the new bin's
grown-listed : (old more : List ℕ) (lists : FreeLists) (size : ℕ) (a : IsArena old) → IsListed old (free_size (cells_in a.layout)) lists → size % 4096 ≡ 0 → length more ≡ size → 40 ≤ size →
    length old + size ≤ 268435456 → HasRoom ((length old + size) / 8) lists →
    IsListed (old ++ more) (sized (length old + 32) 0 (free_size (cells_in a.layout ++ unused (length old + 32) (size - 32) ∷ []))) lists
grown-listed old more lists size a w pages is wide room units =
    let cells = cells_in a.layout in
    let at : ℕ = length old + 32 in
    let s = extends-append old more in
    let long : length (old ++ more) ≡ length old + size = length-append old more ∙ ap (λ n. length old + n) is in
    let old_pages = AreBins-pages old 0 a.layout (omega arith) a.tiled in
    let ends = ends-from old a.layout a.tiled (λ (c : Cell). c.offset ≡ at → ⊥) (λ c h e. omega (arith, h.within, e)) [] cells refl in
    let listed : IsListed (old ++ more) (free_size cells) lists = framed old (old ++ more) (free_size cells) lists w s.long (omega (arith, units.marks, long))
    (λ h. units.words) (λ h. units.firsts) (omega arith)
    (λ x h. (let z = w.pieces x h in word-extends s x (omega (arith, z.within, z.size_eights))))
    (λ x h. (let z = w.pieces x h in word-extends s (x + 4) (omega (arith, z.within, z.size_eights)))) in
    subst (λ f. IsListed (old ++ more) f lists) (λ i x. same cells at ends x (cases_eq x at) i) listed
  where
    same : (cells : List Cell) (at : ℕ) → AreAway at cells → (x : ℕ) → (x ≡ at) ⊎ (x ≡ at → ⊥) → free_size cells x ≡ sized at 0 (free_size (cells ++ unused at (size - 32) ∷ [])) x
    same cells at away x (inl e) = ap (free_size cells) e ∙ size-none at cells away ∙ sym (sized-here at 0 (free_size (cells ++ unused at (size - 32) ∷ [])) x e)
    same cells at away x (inr o) = sym (sized-other at 0 (free_size (cells ++ unused at (size - 32) ∷ [])) x o ∙ size-before x cells (unused at (size - 32) ∷ []) ((λ e. o (sym e)), tt))

-- a bin with one free cell
abbrev fresh : ℕ → ℕ → Bin
fresh start size = record { start = start; size = size; cells = unused (start + 32) (size - 32) ∷ [] }

-- the bins with the new one
grown-tiled : (old : List ℕ) (link size : ℕ) (a : IsArena old) → size % 4096 ≡ 0 → 40 ≤ size → length old + size ≤ 268435456 → link < 4294967296 →
    AreBins (old ++ new_bin (length old) size link) 0 (a.layout ++ fresh (length old) size ∷ [])
grown-tiled old link size a pages wide room small =
    let start : ℕ = length old in
    let new : List ℕ = old ++ new_bin start size link in
    let at : ℕ = start + 32 in
    let n : ℕ = size - 32 in
    let long : length new ≡ start + size = omega (arith, length-append old (new_bin start size link), length-new_bin start size link wide) in
    let says = says_bin old start size link refl (omega arith) small in
    let s = extends-append old (new_bin start size link) in
    let bin : Bin = fresh start size in
    let header : IsHeader new bin = record { signature = says.signature; place = says.place; size = says.size_is; positive = omega arith; pages = pages; within = omega arith } in
    let end : at + n ≡ start + size = omega arith in
    let cell : IsCell new (start + size) (unused at n) = record {
      size = rw says.free (free-size n (omega arith));
      allocated =
          rw says.free (free-flag n (omega arith));
      positive = omega arith;
      eights = size-eights size pages;
      within = omega arith;
    } in
    let last : AreBins new start (bin ∷ []) = (refl, header, (refl, cell, end), sym long) in
    AreBins-extends s 0 a.layout (bin ∷ []) a.tiled last

pub grown : (old : List ℕ) (lists : FreeLists) (link size total : ℕ) (a : IsArena old) → IsListed old (free_size (cells_in a.layout)) lists → IsBinSize size total → 0 < total →
    length old + size ≤ 268435456 → link < 4294967296 → HasRoom ((length old + size) / 8) lists → IsAdded old (old ++ new_bin (length old) size link) lists (length old + 32) (size - 32) total
grown old lists link size total a w least some room small units =
    let start : ℕ = length old in
    let new : List ℕ = old ++ new_bin start size link in
    let at : ℕ = start + 32 in
    let n : ℕ = size - 32 in
    let wide : 40 ≤ size = omega (arith, least.pages, least.holds) in
    let long : length new ≡ start + size = omega (arith, length-append old (new_bin start size link), length-new_bin start size link wide) in
    let says = says_bin old start size link refl (omega arith) small in
    let s = extends-append old (new_bin start size link) in
    let bin : Bin = fresh start size in
    let cells = cells_in a.layout in
    let tiled : AreBins new 0 (a.layout ++ bin ∷ []) = grown-tiled old link size a least.pages wide room small in
    let cells' : cells_in (a.layout ++ bin ∷ []) ≡ cells ++ unused at n ∷ [] = cells_in-append a.layout (bin ∷ []) in
    let all = ends-from old a.layout a.tiled (λ c. IsCell old (length old) c) (λ c h. h) [] cells refl in
    let ends = ends-from old a.layout a.tiled (λ (c : Cell). c.offset + c.size < at) (λ c h. omega (arith, h.within)) [] cells refl in
    let away = ends-from old a.layout a.tiled (λ (c : Cell). c.offset ≡ at → ⊥) (λ c h e. omega (arith, h.within, e)) [] cells refl in
    let listed = grown-listed old (new_bin start size link) lists size a w least.pages (length-new_bin start size link wide) wide room units in
    record {
      lacks = record {
        arena = record {
          layout = a.layout ++ bin ∷ [];
          tiled = tiled;
          blank = blank-extends s 0 a.layout (bin ∷ []) a.tiled a.blank (says.blank, tt);
          apart = subst AreApart (sym cells') (apart-last cells at n ends a.apart);
          small = omega arith;
        };
        there = ap (λ cs. free_size cs at) cells' ∙ size-after at cells (unused at n ∷ []) away ∙ size-here (unused at n) at refl refl [];
        some = omega arith;
        listed = subst (λ cs. IsListed new (sized at 0 (free_size cs)) lists) (sym cells') listed;
      };
      appends = record {
        size = size;
        link = link;
        cells = cells;
        least = least;
        bytes = refl;
        was = cells_of-AreBins old a.layout a.tiled;
        now = cells_of-AreBins new (a.layout ++ bin ∷ []) tiled ∙ ap Some cells';
        contents = λ offset.
            cell_at-AreBins new (a.layout ++ bin ∷ []) offset tiled ∙ ap (λ cs. content_in new cs offset) cells' ∙ content_in-append new cells (unused at n ∷ []) offset
            ∙ ap (or_else (content_in new cells offset)) (free-content new (unused at n) [] offset refl) ∙ or_else-none (content_in new cells offset)
            ∙ content-extends s cells offset all ∙ sym (cell_at-AreBins old a.layout offset a.tiled);
      };
    }

-- what the writes of a new bin leave
written : (old long b2 b3 : List ℕ) (link at size : ℕ) → at ≡ length old → 40 ≤ size → long ≡ old ++ replicate size 0 → b2 ≡ headed at size long →
    b3 ≡ freed (at + 32) (size - 32) link b2 → b3 ≡ old ++ new_bin at size link
written old long b2 b3 link at size start wide e f g =
    g ∙ ap (freed (at + 32) (size - 32) link) (f ∙ ap (headed at size) e) ∙ appended old at size link start wide

pub added : (old long b2 b3 : List ℕ) (lists : FreeLists) (link at size total : ℕ) → at ≡ length old → length old + size ≤ 268435456 → link < 4294967296 →
    40 ≤ size → long ≡ old ++ replicate size 0 → b2 ≡ headed at size long → b3 ≡ freed (at + 32) (size - 32) link b2 →
    IsIndexed old lists → HasRoom ((length old + size) / 8) lists → IsBinSize size total → 0 < total → IsAdded old b3 lists (at + 32) (size - 32) total
added old long b2 b3 lists link at size total start room small wide e f g i units least some =
    rw (written old long b2 b3 link at size start wide e f g, start) (grown old lists link size total i.arena i.listed least some room small units)

pub added-split : (old long b2 b3 parts : List ℕ) (link at size : ℕ) → at ≡ length old → length old + size ≤ 268435456 → link < 4294967296 →
    40 ≤ size → size % 4096 ≡ 0 → long ≡ old ++ replicate size 0 → b2 ≡ headed at size long → b3 ≡ freed (at + 32) (size - 32) link b2 →
    IsArena old → IsSplit old parts → IsSplit b3 (parts ++ size ∷ [])
added-split old long b2 b3 parts link at size start room small wide pages e f g a split =
    rw (written old long b2 b3 link at size start wide e f g, start)
    (split-more old (old ++ new_bin (length old) size link) parts a.layout (fresh (length old) size) a.tiled split refl (grown-tiled old link size a pages wide room small))
