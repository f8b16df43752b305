-- Where a cell that is freed stands, and the free cells beside it.
use Rattle.std.proofs.Common.{◌≡◌, ℕ, ◌+◌, ◌-◌, ◌/◌, ◌<◌, ◌≤◌, ◌%◌, Bool, true, false, cond, inl, inr, List, [], ◌∷◌, ◌++◌, length, refl, sym, ap, ◌∙◌, subst}
use Rattle.std.proofs.Common.{arith, append_assoc, eqb, None, is_some}
use Rattle.std.proofs.lemmas.Bool.{eqb-false, cases_lt}
use Rattle.std.specs.List.{AllByRecursion}
use Rattle.reg_heap.specs.ByteWords.{word}
use Rattle.reg_arena.specs.declared.Cell.{Cell}
use Rattle.reg_arena.specs.declared.free_lists.FreeLists.{FreeLists}
use Rattle.reg_arena.specs.Cells.{Bin, AreBins, cells_in, cell_at, content_in, size_in}
use Rattle.reg_arena.specs.NewCells.{used, unused}
use Rattle.reg_arena.specs.Frees.{IsFreePiece, IsRight, start_of}
use Rattle.reg_arena.specs.Internal.SizeTables.{start_in}
use Rattle.reg_arena.specs.Internal.ListedCells.{free_size, IsFreeOf, IsIndexed}
use Rattle.reg_arena.proofs.Tiling.Tilings.{sizes, cell_at-AreBins}
use Rattle.reg_arena.proofs.Tiling.CellPositions.{looked, stands}
use Rattle.reg_arena.proofs.Tiling.ArenaInvariant.{AreBins-pages, AreBins-eights}
use Rattle.reg_arena.proofs.Contents.CellContents.{IsBeside, AreOrdered, AreOrdered-AreBins, besides-before, besides-after}
use Rattle.reg_arena.proofs.Contents.CellWrites.{all-at}
use Rattle.reg_arena.proofs.FreeList.FreeSizes.{free_at, used-free}
use Rattle.reg_arena.proofs.FreeList.CellMarks.{EndsAt, ends-at}
use Rattle.reg_arena.proofs.FreeList.ListedArenas.{size-at}
use Rattle.reg_arena.proofs.FreeList.RelinkedCells.{free-content}
use Rattle.reg_arena.proofs.Freeing.MergedCells.{PlacedRow, row-beside}
use Rattle.reg_arena.proofs.Freeing.FreeNeighbours.{Lefts, Rights, lefts, rights}

-- ---- where the cell stands

pub record Site (old : List ℕ) (layout : List Bin) (cell size : ℕ) (marks : List ℕ) : Type 0 where
  pub xs : List Cell
  pub ys : List Cell
  pub cells_are : cells_in layout ≡ xs ++ used cell size ∷ ys
  pub eight : 8 ≤ size
  pub size_eights : size % 8 ≡ 0
  pub cell_eights : cell % 8 ≡ 0
  pub header : 32 ≤ cell
  pub within : cell + size ≤ length old
  pub pages : length old % 4096 ≡ 0
  pub unit_in : (cell - 8) / 8 < length marks
  pub free : IsFreeOf (free_size (cells_in layout)) cell size

as_used : (c : Cell) (cell size : ℕ) → c.allocated ≡ true → c.offset ≡ cell → c.size ≡ size → c ≡ used cell size
as_used c cell size a e f = rw (← a, ← e, ← f) refl

pub site : (old : List ℕ) (lists : FreeLists) (cell size : ℕ) → (i : IsIndexed old lists) →
    is_some (cell_at old cell) ≡ true → size ≡ size_in (word old cell) → Site old i.arena.layout cell size lists.marks
site old lists cell size i h is =
    let a = i.arena in
    let at = cell_at-AreBins old a.layout cell a.tiled in
    let l = looked old (cells_in a.layout) cell (ap is_some (sym at) ∙ h) in
    let st = stands old a.layout l.xs l.c l.ys a.tiled l.cells_are in
    let same : l.c.size ≡ size = sym st.cell.size ∙ ap (λ (k : ℕ). size_in (word old k)) l.offset_is ∙ sym is in
    let all = AreBins-eights old 0 a.layout (omega arith) a.tiled in
    let own : l.c.offset % 8 ≡ 0 = all-at (λ (d : Cell). d.offset % 8 ≡ 0) l.xs l.c l.ys (subst (AllByRecursion (λ (d : Cell). d.offset % 8 ≡ 0)) l.cells_are all) in
    let place = l.offset_is in
    let ordered : AreOrdered 0 (l.xs ++ l.c ∷ l.ys) = subst (AreOrdered 0) l.cells_are (AreOrdered-AreBins old 0 a.layout a.tiled) in
    let free = used-free l.c l.allocated l.xs l.ys (besides-before 0 l.c.offset (l.c.offset + l.c.size) l.xs l.c l.ys refl ordered)
    (besides-after 0 l.c.offset (l.c.offset + l.c.size) l.xs l.c l.ys (omega arith) ordered) (cells_in a.layout) l.cells_are in
    record {
      xs = l.xs;
      ys = l.ys;
      cells_are = l.cells_are ∙ ap (λ (d : Cell). l.xs ++ d ∷ l.ys) (as_used l.c cell size l.allocated place same);
      eight = omega (arith, same, st.cell.positive, st.cell.eights);
      size_eights = rw same at st.cell.eights;
      cell_eights = rw place at own;
      header = omega (arith, place, st.header);
      within = omega (arith, place, same, st.cell.within);
      pages = AreBins-pages old 0 a.layout (omega arith) a.tiled;
      unit_in = omega (arith, place, same, st.cell.within, st.cell.positive, st.header, i.listed.marks_long);
      free = subst (λ k. IsFreeOf (free_size (cells_in a.layout)) k size) place (subst (λ k. IsFreeOf (free_size (cells_in a.layout)) l.c.offset k) same free);
    }

-- ---- the cells beside it

-- the left one's
left-ends : (old : List ℕ) (lists : FreeLists) (cell size left : ℕ) (i : IsIndexed old lists) → Site old i.arena.layout cell size lists.marks →
    left ≡ start_in lists.marks (cell - 8) → EndsAt (free_size (cells_in i.arena.layout)) cell left
left-ends old lists cell size left i s e =
    ends-at old (free_size (cells_in i.arena.layout)) _ _ _ _ _ _ i.listed cell size left s.cell_eights (omega (arith, s.header)) (omega (arith, s.eight)) s.free e

pub record Around (layout : List Bin) (cell size left right : ℕ) : Type 0 where
  pub ys : List Cell
  pub l : Lefts layout (used cell size) ys (start_of left cell) left
  pub r : Rights layout l.xs l.lefts (used cell size) (cell + size + right)

pub around : (old : List ℕ) (lists : FreeLists) (cell size left right : ℕ) (i : IsIndexed old lists) → Site old i.arena.layout cell size lists.marks →
    left ≡ start_in lists.marks (cell - 8) → IsRight old (cell + size) right → Around i.arena.layout cell size left right
around old lists cell size left right i s e h =
    let a = i.arena in
    let l = lefts old a.layout s.xs (used cell size) s.ys left a.tiled a.apart (left-ends old lists cell size left i s e) s.cells_are in
    record { ys = s.ys; l = l; r = rights old a.layout (used cell size) s.ys (start_of left cell) left right l a.tiled a.apart a.small h }

-- ---- a piece that is at most one free cell

pub piece-content : (bytes : List ℕ) (lo hi : ℕ) (ps : List Cell) (offset : ℕ) → IsFreePiece lo hi ps → content_in bytes ps offset ≡ None
piece-content bytes lo hi [] offset h = refl
piece-content bytes lo hi (p ∷ []) offset h = rw h.0 (free-content bytes (unused lo (hi - lo)) [] offset refl)
piece-content bytes lo hi (p ∷ (q ∷ ps)) offset h = absurd h

pub piece-sizes : (lo hi : ℕ) (ps : List Cell) → IsFreePiece lo hi ps → lo + sizes ps ≡ hi
piece-sizes lo hi [] h = omega arith
piece-sizes lo hi (p ∷ []) h = (let l = h.1 in let e : p.size ≡ hi - lo = ap (λ (c : Cell). c.size) h.0 in omega (arith, e))
piece-sizes lo hi (p ∷ (q ∷ ps)) h = absurd h

right-end-by : (old : List ℕ) (layout : List Bin) (xs : List Cell) (end hi : ℕ) (rs ys : List Cell) → AreBins old 0 layout → end ≤ length old →
    end % 8 ≡ 0 → IsFreePiece end hi rs → cells_in layout ≡ xs ++ (rs ++ ys) → (hi ≤ length old) × (hi % 8 ≡ 0)
right-end-by old layout xs end hi [] ys tiled l e h c = (omega arith, omega (arith, e))
right-end-by old layout xs end hi (v ∷ []) ys tiled l e h c =
    let st = stands old layout xs v ys tiled c in
    let place : v.offset ≡ end = ap (λ (d : Cell). d.offset) h.0 in
    let long : v.size ≡ hi - end = ap (λ (d : Cell). d.size) h.0 in
    let less = h.1 in
    (omega (arith, st.cell.within), omega (arith, st.cell.eights, e))
right-end-by old layout xs end hi (v ∷ (w ∷ rs)) ys tiled l e h c = absurd h

-- ---- the sizes beside it

-- the left one's, or none
pub left-size : (old : List ℕ) (lists : FreeLists) (cell size left : ℕ) (i : IsIndexed old lists) → Site old i.arena.layout cell size lists.marks →
    left ≡ start_in lists.marks (cell - 8) → (start_of left cell ≤ cell) × (free_size (cells_in i.arena.layout) (start_of left cell) ≡ cell - start_of left cell)
    × (start_of left cell % 8 ≡ 0) × (32 ≤ start_of left cell)
left-size old lists cell size left i s e = by (eqb left 0) refl
  where
    none : free_size (cells_in i.arena.layout) cell ≡ 0
    none = elim (cases_lt 0 (free_size (cells_in i.arena.layout) cell)) [
      | inr g ↦ omega arith
      | inl l ↦ absurd (elim (s.free cell l) [ inl q ↦ omega arith | inr q ↦ omega (arith, s.eight) ])
    ]

    by : (b : Bool) → eqb left 0 ≡ b → (cond b cell left ≤ cell) × (free_size (cells_in i.arena.layout) (cond b cell left) ≡ cell - cond b cell left) × (cond b cell left % 8 ≡ 0) ×
        (32 ≤ cond b cell left)
    by true z = (omega arith, none ∙ omega arith, s.cell_eights, s.header)
    by false z =
        let some : left ≡ 0 → ⊥ = eqb-false left 0 z in
        let t = (left-ends old lists cell size left i s e).some (omega arith) in
        let t0 = t.0 in
        let t1 = t.1 in
        let f = free_at (cells_in i.arena.layout) left t0 in
        let st = stands old i.arena.layout f.xs f.c f.ys i.arena.tiled f.cells_are in
        let pc = i.listed.pieces left t0 in
        (omega (arith, t1, s.cell_eights, s.header), omega (arith, t1, s.cell_eights, s.header), pc.eights, omega (arith, st.header, f.offset_is))

-- the right one's, or none
pub right-size : (old : List ℕ) (lists : FreeLists) (cell size left right : ℕ) (i : IsIndexed old lists) → Around i.arena.layout cell size left right →
    IsRight old (cell + size) right → free_size (cells_in i.arena.layout) (cell + size) ≡ right
right-size old lists cell size left right i w h = by w.r.rights w.r.rights_are w.r.cells_are
  where
    none : right ≡ 0 → free_size (cells_in i.arena.layout) (cell + size) ≡ 0
    none z = elim (cases_lt 0 (free_size (cells_in i.arena.layout) (cell + size))) [
      | inr g ↦ omega arith
      | inl l ↦ absurd (
          let p = i.listed.pieces (cell + size) l in
          let f = i.listed.fields (cell + size) l in
          elim h [
            | inl q ↦ omega (arith, q.2)
            | inr q ↦ q.1 (omega (arith, p.within)) (omega (arith, p.within, i.arena.small))
          ])
    ]

    shuffle : (a b : List Cell) (c v : Cell) (d : List Cell) → a ++ ((b ++ c ∷ (v ∷ [])) ++ d) ≡ (a ++ (b ++ c ∷ [])) ++ v ∷ d
    shuffle a b c v d = simp append_assoc

    by : (rs : List Cell) → IsFreePiece (cell + size) (cell + size + right) rs → cells_in i.arena.layout ≡ w.l.xs ++ ((w.l.lefts ++ used cell size ∷ rs) ++ w.r.ys) →
        free_size (cells_in i.arena.layout) (cell + size) ≡ right
    by [] p e = (let z : right ≡ 0 = omega arith in none z ∙ sym z)
    by (v ∷ []) p e =
        let e' : cells_in i.arena.layout ≡ (w.l.xs ++ (w.l.lefts ++ used cell size ∷ [])) ++ v ∷ w.r.ys = e ∙ shuffle w.l.xs w.l.lefts (used cell size) v w.r.ys in
        let ordered = subst (AreOrdered 0) e' (AreOrdered-AreBins old 0 i.arena.layout i.arena.tiled) in
        let place : v.offset ≡ cell + size = ap (λ (d : Cell). d.offset) p.0 in
        let long : v.size ≡ cell + size + right - (cell + size) = ap (λ (d : Cell). d.size) p.0 in
        let free : v.allocated ≡ false = ap (λ (d : Cell). d.allocated) p.0 in
        ap (λ k. free_size (cells_in i.arena.layout) k) (sym place) ∙ ap (λ cs. free_size cs v.offset) e' ∙ size-at 0 (w.l.xs ++ (w.l.lefts ++ used cell size ∷ [])) v w.r.ys ordered free ∙
        omega (arith, long)
    by (v ∷ (u ∷ rs)) p e = absurd p

-- ---- the step

-- what the cells and the bytes say of the merged cell
pub record Merging (old : List ℕ) (layout : List Bin) (cell size lo hi : ℕ) (xs ls rs ys : List Cell) : Type 0 where
  pub before : AllByRecursion (IsBeside lo hi) xs
  pub after : AllByRecursion (IsBeside lo hi) ys
  pub within : hi ≤ length old
  pub hi_eights : hi % 8 ≡ 0
  pub in_lo : lo ≤ cell
  pub in_hi : cell + size ≤ hi

pub merging : (old : List ℕ) (layout : List Bin) (cell size lo hi : ℕ) (xs ls rs ys : List Cell) → AreBins old 0 layout → IsFreePiece lo cell ls → IsFreePiece (cell + size) hi rs →
    cells_in layout ≡ xs ++ ((ls ++ used cell size ∷ rs) ++ ys) → PlacedRow layout xs (ls ++ used cell size ∷ rs) ys → cell % 8 ≡ 0 → size % 8 ≡ 0 → cell + size ≤ length old →
    Merging old layout cell size lo hi xs ls rs ys
merging old layout cell size lo hi xs ls rs ys tiled p q e row c8 s8 within =
    let z = right-end-by old layout (xs ++ (ls ++ used cell size ∷ [])) (cell + size) hi rs ys tiled within (omega arith) q (e ∙ shuffle xs ls (used cell size) rs ys) in
    by ls p q e row z
  where
    shuffle : (a b : List Cell) (c : Cell) (d f : List Cell) → a ++ ((b ++ c ∷ d) ++ f) ≡ (a ++ (b ++ c ∷ [])) ++ (d ++ f)
    shuffle a b c d f = simp append_assoc

    by : (ls : List Cell) → IsFreePiece lo cell ls → IsFreePiece (cell + size) hi rs → cells_in layout ≡ xs ++ ((ls ++ used cell size ∷ rs) ++ ys) →
        PlacedRow layout xs (ls ++ used cell size ∷ rs) ys → (hi ≤ length old) × (hi % 8 ≡ 0) → Merging old layout cell size lo hi xs ls rs ys
    by [] p q e row z =
        let b = row-beside old layout xs (used cell size) rs ys tiled e row in
        let r = piece-sizes (cell + size) hi rs q in
        let top : cell + sizes (used cell size ∷ rs) ≡ hi = omega arith in
        record {
          before = subst (λ k. AllByRecursion (IsBeside k hi) xs) (sym p) (subst (λ k. AllByRecursion (IsBeside cell k) xs) top b.0);
          after = subst (λ k. AllByRecursion (IsBeside k hi) ys)
              (sym p) (subst (λ k. AllByRecursion (IsBeside cell k) ys) top b.1);
          within = z.0;
          hi_eights = z.1;
          in_lo = omega (arith, p);
          in_hi = omega arith;
        }
    by (d ∷ []) p q e row z =
        let b = row-beside old layout xs d (used cell size ∷ rs) ys tiled e row in
        let r = piece-sizes (cell + size) hi rs q in
        let place : d.offset ≡ lo = ap (λ (c : Cell). c.offset) p.0 in
        let long : d.size ≡ cell - lo = ap (λ (c : Cell). c.size) p.0 in
        let less = p.1 in
        let top : d.offset + sizes (d ∷ (used cell size ∷ rs)) ≡ hi = omega arith in
        record {
          before = subst (λ k. AllByRecursion (IsBeside k hi) xs) place (subst (λ k. AllByRecursion (IsBeside d.offset k) xs) top b.0);
          after = subst
              (λ k. AllByRecursion (IsBeside k hi) ys) place (subst (λ k. AllByRecursion (IsBeside d.offset k) ys) top b.1);
          within = z.0;
          hi_eights = z.1;
          in_lo = omega arith;
          in_hi = omega arith;
        }
    by (d ∷ (u ∷ ls)) p q e row z = absurd p
