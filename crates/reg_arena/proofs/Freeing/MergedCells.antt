-- Cells side by side become one free cell.
use Rattle.std.proofs.Common.{◌≡◌, ℕ, ◌+◌, ◌<◌, ◌≤◌, ◌%◌, true, false, cond, ◌⊎◌, inl, inr, List, [], ◌∷◌, ◌++◌, length, refl, sym, ap, ◌∙◌, subst, arith, append_assoc, eqb, Option, Some, None}
use Rattle.std.proofs.lemmas.Bool.{cases_eq, eq-eqb, ne_eqb}
use Rattle.std.specs.List.{AllByRecursion}
use Rattle.reg_heap.specs.ByteWords.{word, SameOutside}
use Rattle.reg_arena.specs.Cells.{Bin, IsCell, Tiles, AreBins, bins_of, cells_in, content_in, cells_of, cell_at}
use Rattle.reg_arena.specs.Free.{Touch, AreApart}
use Rattle.reg_arena.specs.Arena.{IsArena, AreBlank}
use Rattle.reg_arena.specs.declared.Cell.{Cell}
use Rattle.reg_arena.specs.NewCells.{unused}
use Rattle.reg_arena.specs.Carves.{or_else}
use Rattle.reg_arena.proofs.Tiling.Tilings.{sizes, with_cells, AreBins-edit, cells_of-AreBins, cell_at-AreBins, Tiles-back, Tiles-front, Tiles-le, IsCell-eight}
use Rattle.reg_arena.proofs.Tiling.BinPlaces.{places-edited}
use Rattle.reg_arena.proofs.Tiling.CellPositions.{AreBins-at}
use Rattle.reg_arena.proofs.Tiling.BlankHeaders.{blank-edit}
use Rattle.reg_arena.proofs.Contents.CellContents.{IsBeside, content_in-append, content_in-beside, AreOrdered, AreOrdered-AreBins, AreOrdered-back, besides-before, beside-after}
use Rattle.reg_arena.proofs.Contents.CellWrites.{content_in-none}
use Rattle.reg_arena.proofs.FreeList.RelinkedCells.{free-content}
use Rattle.reg_arena.proofs.Carving.CarveFromCell.{cells_in-middle}
use Rattle.reg_arena.proofs.Carving.CarveWhole.{free-size, free-flag}

-- some cells in a row stand in one bin
pub record PlacedRow (layout : List Bin) (xs mid ys : List Cell) : Type 0 where
  pub ps : List Bin
  pub b : Bin
  pub qs : List Bin
  pub us : List Cell
  pub vs : List Cell
  pub bins : layout ≡ ps ++ b ∷ qs
  pub cells : b.cells ≡ us ++ (mid ++ vs)
  pub before : xs ≡ cells_in ps ++ us
  pub after : ys ≡ vs ++ cells_in qs

regroup : (a u m v q : List Cell) → a ++ ((u ++ (m ++ v)) ++ q) ≡ (a ++ u) ++ (m ++ (v ++ q))
regroup a u m v q = simp append_assoc

cells_in-row : (layout : List Bin) (xs mid mid' ys : List Cell) (p : PlacedRow layout xs mid ys) → cells_in (p.ps ++ with_cells p.b (p.us ++ (mid' ++ p.vs)) ∷ p.qs) ≡ xs ++ (mid' ++ ys)
cells_in-row layout xs mid mid' ys p =
    cells_in-middle p.ps (with_cells p.b (p.us ++ (mid' ++ p.vs))) p.qs ∙ regroup (cells_in p.ps) p.us mid' p.vs (cells_in p.qs)
    ∙ ap (λ (t : List Cell). t ++ (mid' ++ (p.vs ++ cells_in p.qs))) (sym p.before) ∙ ap (λ (t : List Cell). xs ++ (mid' ++ t)) (sym p.after)

AreOrdered-past : (bytes : List ℕ) (at hi from : ℕ) (mid ys : List Cell) → Tiles bytes at hi mid → from ≡ at → AreOrdered from (mid ++ ys) → AreOrdered hi ys
AreOrdered-past bytes at hi from [] ys t e h = subst (λ (k : ℕ). AreOrdered k ys) (e ∙ t) h
AreOrdered-past bytes at hi from (c ∷ mid) ys t e h = AreOrdered-past bytes (at + c.size) hi (c.offset + c.size) mid ys t.2 (omega (arith, t.0)) h.2

-- the free cells before and after do not touch the piece
pub record EndsFree (xs ys : List Cell) (lo hi : ℕ) : Type 0 where
  pub before : AllByRecursion (λ (x : Cell). x.allocated ≡ false → x.offset + x.size ≡ lo → ⊥) xs
  pub after : AllByRecursion (λ (y : Cell). y.allocated ≡ false → hi ≡ y.offset → ⊥) ys

pub apart-back : (xs ys : List Cell) → AreApart (xs ++ ys) → AreApart ys
apart-back [] ys h = h
apart-back (x ∷ xs) ys h = apart-back xs ys h.1

all-drop : (P : Cell → Type 0) (xs mid ys : List Cell) (m : Cell) → P m → AllByRecursion P (xs ++ (mid ++ ys)) → AllByRecursion P (xs ++ m ∷ ys)
all-drop P [] mid ys m p a = (p, drop-front mid a)
  where
    drop-front : (zs : List Cell) → AllByRecursion P (zs ++ ys) → AllByRecursion P ys
    drop-front [] q = q
    drop-front (z ∷ zs) q = drop-front zs q.1
all-drop P (x ∷ xs) mid ys m p a = (a.0, all-drop P xs mid ys m p a.1)

pub apart-merge : (xs mid ys : List Cell) (lo size : ℕ) → EndsFree xs ys lo (lo + size) → AreApart (xs ++ (mid ++ ys)) → AreApart (xs ++ unused lo size ∷ ys)
apart-merge [] mid ys lo size e h = (touch-after ys e.after, apart-back mid ys h)
  where
    touch-after : (zs : List Cell) → AllByRecursion (λ (y : Cell). y.allocated ≡ false → lo + size ≡ y.offset → ⊥) zs → AllByRecursion (λ y. Touch (unused lo size) y → ⊥) zs
    touch-after [] a = tt
    touch-after (z ∷ zs) a = ((λ (t : Touch (unused lo size) z). a.0 t.second t.ends), touch-after zs a.1)
apart-merge (x ∷ xs) mid ys lo size e h = (
  all-drop (λ y. Touch x y → ⊥) xs mid ys (unused lo size) (λ (t : Touch x (unused lo size)). e.before.0 t.first t.ends) h.0,
  apart-merge xs mid ys lo size (record { before = e.before.1; after = e.after }) h.1,
)

sizes-eights : (bytes : List ℕ) (at stop : ℕ) (cs : List Cell) → Tiles bytes at stop cs → sizes cs % 8 ≡ 0
sizes-eights bytes at stop [] t = omega arith
sizes-eights bytes at stop (c ∷ cs) t = (let r = sizes-eights bytes (at + c.size) stop cs t.2 in omega (arith, r, t.1.eights))

-- the cells beside a row
pub row-beside : (bytes : List ℕ) (layout : List Bin) (xs : List Cell) (m : Cell) (ms ys : List Cell) → AreBins bytes 0 layout → cells_in layout ≡ xs ++ ((m ∷ ms) ++ ys) →
    PlacedRow layout xs (m ∷ ms) ys →
    AllByRecursion (IsBeside m.offset (m.offset + sizes (m ∷ ms))) xs × AllByRecursion (IsBeside m.offset (m.offset + sizes (m ∷ ms))) ys × (m.offset + sizes (m ∷ ms) ≤ length bytes)
row-beside bytes layout xs m ms ys tiled cells_are p =
    let mid : List Cell = m ∷ ms in
    let lo : ℕ = m.offset in
    let hi : ℕ = lo + sizes mid in
    let here = AreBins-at bytes 0 p.ps p.b p.qs (subst (AreBins bytes 0) p.bins tiled) in
    let in_bin : Tiles bytes (p.b.start + 32) (p.b.start + p.b.size) (p.us ++ (mid ++ p.vs)) = subst (Tiles bytes (p.b.start + 32) (p.b.start + p.b.size)) p.cells here.1 in
    let from = Tiles-back bytes (p.b.start + 32) (p.b.start + p.b.size) p.us (mid ++ p.vs) in_bin in
    let start : p.b.start + 32 + sizes p.us ≡ lo = sym from.0 in
    let row : Tiles bytes lo hi mid = subst (λ (k : ℕ). Tiles bytes k (k + sizes mid) mid) start (Tiles-front bytes (p.b.start + 32 + sizes p.us) (p.b.start + p.b.size) mid p.vs from) in
    let rest = Tiles-back bytes (p.b.start + 32 + sizes p.us) (p.b.start + p.b.size) mid p.vs from in
    let end = Tiles-le bytes _ (p.b.start + p.b.size) p.vs rest in
    let ordered : AreOrdered 0 (xs ++ (mid ++ ys)) = subst (AreOrdered 0) cells_are (AreOrdered-AreBins bytes 0 layout tiled) in
    let ordered_mid : AreOrdered 0 (mid ++ ys) = AreOrdered-back 0 xs (mid ++ ys) ordered in (
      besides-before 0 lo hi xs m (ms ++ ys) refl ordered,
      beside-after lo hi hi ys (omega arith) (AreOrdered-past bytes lo hi lo mid ys row refl (omega arith, ordered_mid.1, ordered_mid.2)),
      omega (arith, here.0.within),
    )

-- what freeing leaves
pub record Freeing (old new : List ℕ) (lo cell : ℕ) (xs mid ys : List Cell) : Type 0 where
  pub arena : IsArena new
  pub cells_are : cells_in arena.layout ≡ xs ++ unused lo (sizes mid) ∷ ys
  pub long : length new ≡ length old
  pub now : cells_of new ≡ Some (xs ++ unused lo (sizes mid) ∷ ys)
  pub contents : (offset : ℕ) → cell_at new offset ≡ cond (eqb offset cell) None (cell_at old offset)
  pub bins : bins_of new ≡ bins_of old

contents-free : (x m y : Option (List ℕ)) (offset cell : ℕ) → ((offset ≡ cell → ⊥) → m ≡ None) → (offset ≡ cell → (x ≡ None) × (y ≡ None)) →
    (offset ≡ cell) ⊎ (offset ≡ cell → ⊥) → or_else x y ≡ cond (eqb offset cell) None (or_else x (or_else m y))
contents-free x m y offset cell f g (inl e) = let s : eqb offset cell ≡ true = eq-eqb _ _ e in let n = g e in rw (s, n.0, n.1) refl
contents-free x m y offset cell f g (inr e) = let s : eqb offset cell ≡ false = ne_eqb _ _ e in let n = f e in rw (s, n) refl

pub freeing : (old s1 new : List ℕ) (layout : List Bin) (xs : List Cell) (m : Cell) (ms ys : List Cell) (cell : ℕ) →
    AreBins old 0 layout → AreBins s1 0 layout → AreBlank s1 layout → length s1 ≤ 268435456 → length s1 ≡ length old →
    ((offset : ℕ) → content_in s1 (cells_in layout) offset ≡ content_in old (cells_in layout) offset) → AreApart (cells_in layout) →
    cells_in layout ≡ xs ++ ((m ∷ ms) ++ ys) → PlacedRow layout xs (m ∷ ms) ys → EndsFree xs ys m.offset (m.offset + sizes (m ∷ ms)) →
    m.offset ≤ cell → cell < m.offset + sizes (m ∷ ms) → ((offset : ℕ) → (offset ≡ cell → ⊥) → content_in s1 (m ∷ ms) offset ≡ None) →
    SameOutside m.offset (m.offset + sizes (m ∷ ms)) s1 new → word new m.offset ≡ sizes (m ∷ ms) → Freeing old new m.offset cell xs (m ∷ ms) ys
freeing old s1 new layout xs m ms ys cell tiled0 tiled blank small long same apart cells_are p ends in_lo in_hi only s field =
    let mid : List Cell = m ∷ ms in
    let size : ℕ = sizes mid in
    let lo : ℕ = m.offset in
    let hi : ℕ = lo + size in
    let here = AreBins-at s1 0 p.ps p.b p.qs (subst (AreBins s1 0) p.bins tiled) in
    let in_bin : Tiles s1 (p.b.start + 32) (p.b.start + p.b.size) (p.us ++ (mid ++ p.vs)) = subst (Tiles s1 (p.b.start + 32) (p.b.start + p.b.size)) p.cells here.1 in
    let from = Tiles-back s1 (p.b.start + 32) (p.b.start + p.b.size) p.us (mid ++ p.vs) in_bin in
    let start : p.b.start + 32 + sizes p.us ≡ lo = sym from.0 in
    let row : Tiles s1 lo hi mid = subst (λ (k : ℕ). Tiles s1 k (k + size) mid) start (Tiles-front s1 (p.b.start + 32 + sizes p.us) (p.b.start + p.b.size) mid p.vs from) in
    let eights = sizes-eights s1 lo (lo + size) mid row in
    let rest = Tiles-back s1 (p.b.start + 32 + sizes p.us) (p.b.start + p.b.size) mid p.vs from in
    let end = Tiles-le s1 _ (p.b.start + p.b.size) p.vs rest in
    let within : hi ≤ length s1 = omega (arith, here.0.within) in
    let eight : 8 ≤ size = omega (arith, IsCell-eight from.1) in
    let free : Cell = unused lo size in
    let is_cell : IsCell new hi free = record {
      size = rw field (free-size size (omega arith));
      allocated = rw field (free-flag size (omega arith));
      positive = omega arith;
      eights = eights;
      within = omega arith;
    } in
    let one : Tiles new lo hi (free ∷ []) = (refl, is_cell, refl) in
    let was : AreBins s1 0 (p.ps ++ p.b ∷ p.qs) = subst (AreBins s1 0) p.bins tiled in
    let layout' : List Bin = p.ps ++ with_cells p.b (p.us ++ ((free ∷ []) ++ p.vs)) ∷ p.qs in
    let tiled' : AreBins new 0 layout' = AreBins-edit s 0 p.ps p.b p.qs p.us mid (free ∷ []) p.vs p.cells start refl was one in
    let blank' : AreBlank new layout' = blank-edit s 0 p.ps p.b p.qs p.us mid p.vs (p.us ++ ((free ∷ []) ++ p.vs)) p.cells start refl was
    (subst (AreBlank s1) p.bins blank) in
    let cells' : cells_in layout' ≡ xs ++ free ∷ ys = cells_in-row layout xs mid (free ∷ []) ys p in
    let ordered : AreOrdered 0 (xs ++ (mid ++ ys)) = subst (AreOrdered 0) cells_are (AreOrdered-AreBins s1 0 layout tiled) in
    let before = besides-before 0 lo hi xs m (ms ++ ys) refl ordered in
    let ordered_mid : AreOrdered 0 (mid ++ ys) = AreOrdered-back 0 xs (mid ++ ys) ordered in
    let after = beside-after lo hi hi ys (omega arith) (AreOrdered-past s1 lo hi lo mid ys row refl (omega arith, ordered_mid.1, ordered_mid.2)) in
    let apart' : AreApart (cells_in layout') = subst AreApart (sym cells') (apart-merge xs mid ys lo size ends (subst AreApart cells_are apart)) in
    record {
      arena = record { layout = layout'; tiled = tiled'; blank = blank'; apart = apart'; small = omega (arith, s.long) };
      cells_are = cells';
      long = s.long ∙ long;
      now = cells_of-AreBins new layout' tiled' ∙ ap Some cells';
      contents = λ offset.
          cell_at-AreBins new layout' offset tiled' ∙ ap (λ cs. content_in new cs offset) cells' ∙ content_in-append new xs (free ∷ ys) offset
          ∙ ap (or_else (content_in new xs offset)) (free-content new free ys offset refl)
          ∙ ap (λ o. or_else o (content_in new ys offset)) (content_in-beside s xs offset before) ∙ ap (or_else (content_in s1 xs offset)) (content_in-beside s ys offset after)
          ∙ contents-free (content_in s1 xs offset) (content_in s1 mid offset) (content_in s1 ys offset) offset cell (only offset)
          (λ e. (content_in-none lo hi s1 xs offset before (omega arith) (omega arith), content_in-none lo hi s1 ys offset after (omega arith) (omega arith))) (cases_eq offset cell)
          ∙ ap (λ o. cond (eqb offset cell) None o) (sym (ap (or_else (content_in s1 xs offset)) (content_in-append s1 mid ys offset)) ∙
          sym (content_in-append s1 xs (mid ++ ys) offset) ∙ sym (ap (λ cs. content_in s1 cs offset) cells_are) ∙ same offset ∙
          sym (cell_at-AreBins old layout offset tiled0));
      bins = places-edited old new layout p.ps p.b p.qs (p.us ++ ((free ∷ []) ++ p.vs)) p.bins tiled0 tiled';
    }
