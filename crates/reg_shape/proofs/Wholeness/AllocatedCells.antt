-- Cells that are walked are allocated cells, and these are at most all cells.
use Rattle.std.proofs.Common.{◌≡◌, ℕ, zero, suc, ◌<◌, ◌≤◌, Bool, true, false, cond, eqb, is_some, IsSome, Option, Some, None, List, [], ◌∷◌, ◌++◌, map, length, refl, sym, ap, subst, arith}
use Rattle.std.specs.List.{AllByRecursion}
use Rattle.std.proofs.lemmas.Option.{same_Some}
use Rattle.std.proofs.lemmas.Bool.{false≢true}
use Rattle.reg_heap.specs.Heaps.{Heap, allocated}
use Rattle.reg_heap.specs.Kinds.{Found, times}
use Rattle.reg_arena.specs.declared.Cell.{Cell}
use Rattle.reg_arena.specs.Cells.{cells_of, cell_at}
use Rattle.reg_arena.proofs.Tiling.CellLayout.{among, holder-is}
use Rattle.reg_arena.proofs.Contents.CellWrites.{all-append}
use Rattle.reg_records.specs.BigData.{Named}
use Rattle.reg_shape.specs.Walk.{gather, walk}
use Rattle.reg_shape.specs.Whole.{IsAllocatedIn, Whole}
use Rattle.reg_shape.proofs.Walking.WalkParts.{gather-open, walk-open, walk-none}
use Rattle.reg_shape.proofs.Wholeness.FewerNumbers.{same-number}
use Rattle.reg_shape.proofs.Wholeness.ShapeRecords.{AreAtMost}
use Rattle.reg_shape.proofs.Wholeness.WholeShapes.{whole-from-shape, spelt-from-shape}
use Rattle.reg_shape.specs.Internal.Forests.{Branch}
use Rattle.reg_shape.specs.Nodes.{Node}
use Rattle.reg_shape.specs.Spelt.{spelt}
use Rattle.reg_shape.specs.Internal.Shapes.{IsWholeShape, tree_of}

-- ---- what is walked

some-is : {A : Type 0} (o : Option A) (x : A) → o ≡ Some x → IsSome o
some-is o x e = ap is_some e

all-gathered : (P : Found → Type 0) (go : Named → Option (List Found)) → ((n : Named) (found : List Found) → go n ≡ Some found →
    AllByRecursion P found) → (names : List Named) (below : List Found) → gather go names ≡ Some below → AllByRecursion P below
all-gathered P go h [] below e = subst (AllByRecursion P) (same_Some _ _ e) tt
all-gathered P go h (n ∷ names) below e =
    let o = gather-open go n names below e in
    subst (AllByRecursion P) o.all (all-append P o.head o.tail (h n o.head o.head_is) (all-gathered P go h names o.tail o.tail_is))

pub walked-held : (k : ℕ) (heap : Heap) (n : Named) (found : List Found) → walk k heap n ≡ Some found → AllByRecursion (λ (f : Found). IsSome (heap f.offset)) found
walked-held zero heap n found e = absurd (walk-none heap n found e)
walked-held (suc k) heap n found e =
    let m = walk-open k heap n found e in
    subst (AllByRecursion (λ (f : Found). IsSome (heap f.offset))) m.all
    (some-is (heap n.offset) m.content m.here, all-gathered (λ (f : Found). IsSome (heap f.offset)) (walk k heap) (walked-held k heap) m.names m.below m.below_is)

held-allocated : (bytes : List ℕ) (cells : List Cell) (offset : ℕ) → cells_of bytes ≡ Some cells → IsSome (cell_at bytes offset) → IsAllocatedIn cells offset
held-allocated bytes cells offset e s = by (cell_at bytes offset) refl s
  where
    by : (o : Option (List ℕ)) → cell_at bytes offset ≡ o → IsSome o → IsAllocatedIn cells offset
    by None a s = absurd (false≢true s)
    by (Some content) a s = let h = holder-is bytes cells offset content e a in (h.0, h.1, h.2, h.3)

each-allocated : (bytes : List ℕ) (cells : List Cell) → cells_of bytes ≡ Some cells → (found : List Found) →
    AllByRecursion (λ (f : Found). IsSome (cell_at bytes f.offset)) found → AllByRecursion (λ (f : Found). IsAllocatedIn cells f.offset) found
each-allocated bytes cells e [] a = tt
each-allocated bytes cells e (f ∷ found) a = (held-allocated bytes cells f.offset e a.0, each-allocated bytes cells e found a.1)

pub walked-allocated : (bytes : List ℕ) (cells : List Cell) (k : ℕ) (n : Named) (found : List Found) → cells_of bytes ≡ Some cells →
    walk k (cell_at bytes) n ≡ Some found → AllByRecursion (λ (f : Found). IsAllocatedIn cells f.offset) found
walked-allocated bytes cells k n found e w = each-allocated bytes cells e found (walked-held k (cell_at bytes) n found w)

-- ---- how many

abbrev offsets-of : List Cell → List ℕ
offsets-of cells = map (λ (c : Cell). c.offset) cells

length-offsets : (cells : List Cell) → length (offsets-of cells) ≡ length cells
length-offsets [] = refl
length-offsets (c ∷ cells) = ap suc (length-offsets cells)

times-among : (front rest : List Cell) (cell : Cell) → 0 < times cell.offset (offsets-of (front ++ cell ∷ rest))
times-among [] rest cell = let one : ◌≡◌ {A = ℕ} (cond (eqb cell.offset cell.offset) 1 0) 1 = ap (λ b. cond b 1 0) (same-number cell.offset) in omega (arith, one)
times-among (c ∷ front) rest cell = let l = times-among front rest cell in omega arith

pub cells-most : (bytes : List ℕ) (cells : List Cell) → cells_of bytes ≡ Some cells → AreAtMost (cell_at bytes) (length cells)
cells-most bytes cells e = record { offsets = offsets-of cells; all = all; few = let l = length-offsets cells in omega arith }
  where
    one : (z : ℕ) → IsAllocatedIn cells z → 0 < times z (offsets-of cells)
    one z h =
        let a = among cells h.0 h.1 in
        subst (λ z. 0 < times z (offsets-of cells)) h.2 (subst (λ cs. 0 < times h.0.offset (offsets-of cs)) (sym a.cells_are) (times-among a.front a.rest h.0))

    all : (z : ℕ) → allocated (cell_at bytes) z ≤ times z (offsets-of cells)
    all z = by (is_some (cell_at bytes z)) refl
      where
        by : (b : Bool) → is_some (cell_at bytes z) ≡ b → cond b 1 0 ≤ times z (offsets-of cells)
        by true s = let l = one z (held-allocated bytes cells z e s) in omega arith
        by false s = omega arith

-- ---- a shape in bytes

pub whole-in : (bytes : List ℕ) (root : ℕ) (keys : Branch Node) (ring : List ℕ) (cells : List Cell) → cells_of bytes ≡ Some cells →
    IsWholeShape (cell_at bytes) root keys ring → Whole bytes root
whole-in bytes root keys ring cells e w =
    record { cells = cells; cells_are = e; whole = whole-from-shape (cell_at bytes) root keys ring w (length cells) (cells-most bytes cells e) }

pub spelt-in : (bytes : List ℕ) (root : ℕ) (keys : Branch Node) (ring : List ℕ) (cells : List Cell) → cells_of bytes ≡ Some cells →
    IsWholeShape (cell_at bytes) root keys ring → spelt (length cells) (cell_at bytes) root ≡ Some (tree_of (cell_at bytes) keys)
spelt-in bytes root keys ring cells e w = spelt-from-shape (cell_at bytes) root keys ring w (length cells) (cells-most bytes cells e)
