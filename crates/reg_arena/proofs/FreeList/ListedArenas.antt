-- The lists of an arena are its free cells, by their classes.
use Rattle.std.proofs.Common.{◌≡◌, ℕ, zero, suc, ◌+◌, ◌<◌, ◌≤◌, Bool, true, false, not, cond, ◌&&◌, inl, inr, List, [], ◌∷◌, ◌++◌, length, get_or, map, filter, refl, sym, ap, ◌∙◌, subst, arith, eqb}
use Rattle.std.proofs.lemmas.Bool.{eqb-true, eqb-false, eq-eqb, ne_eqb, cases_eq}
use Rattle.std.specs.List.{AllByRecursion}
use Rattle.reg_heap.specs.Kinds.{times}
use Rattle.reg_arena.specs.declared.Cell.{Cell}
use Rattle.reg_arena.specs.declared.free_lists.FreeLists.{FreeLists}
use Rattle.reg_arena.specs.Cells.{Bin, AreBins, cells_in}
use Rattle.reg_arena.specs.Classes.{class_of}
use Rattle.reg_arena.specs.Free.{is_free_of, free_of, IsFreeList, AreLists}
use Rattle.reg_arena.specs.Arena.{IsSound}
use Rattle.reg_arena.specs.Carves.{NoFit}
use Rattle.reg_arena.specs.NewCells.{total_of, AreSizes}
use Rattle.std.proofs.lemmas.Option.{same_Some}
use Rattle.reg_arena.specs.Internal.CellThreads.{is_of}
use Rattle.reg_arena.specs.Internal.SizeTables.{head_at}
use Rattle.reg_arena.specs.Internal.ListedCells.{free_size, AreTables, IsIndexed, NoneFits}
use Rattle.reg_arena.proofs.Contents.CellContents.{AreOrdered, AreOrdered-AreBins}
use Rattle.reg_arena.proofs.Contents.CellWrites.{all-at}
use Rattle.reg_arena.proofs.Tiling.Tilings.{cells_of-AreBins}
use Rattle.reg_arena.proofs.Tiling.CellPositions.{stands}
use Rattle.reg_arena.proofs.Tiling.ArenaInvariant.{AreBins-eights, AreBins-pages}
use Rattle.reg_arena.proofs.FreeList.ClassMembers.{of-some, of-zero, of-other, of-same}
use Rattle.reg_arena.proofs.FreeList.SizeClasses.{class-in}
use Rattle.reg_arena.proofs.FreeList.FreeSizes.{free_at, size-after, size-here}
use Rattle.reg_arena.proofs.FreeList.BestFits.{list-follows}

-- nothing stands before the first cell
none-before : (class_of : ℕ → ℕ) (k at x : ℕ) (cells : List Cell) → AreOrdered at cells → x < at → (times x (free_of class_of k cells) ≡ 0) × (free_size cells x ≡ 0)
none-before class_of k at x [] o l = (refl, refl)
none-before class_of k at x (c ∷ cells) o l =
    let r = none-before class_of k (c.offset + c.size) x cells o.2 (omega (arith, o.0)) in
    let e : eqb c.offset x ≡ false = ne_eqb c.offset x (λ q. omega (arith, o.0)) in
    (listed (is_free_of class_of k c) e r.0, sized c.allocated e r.1)
  where
    listed : (b : Bool) → eqb c.offset x ≡ false → times x (free_of class_of k cells) ≡ 0 →
        times x (map (λ (d : Cell). d.offset) (cond b (c ∷ filter (is_free_of class_of k) cells) (filter (is_free_of class_of k) cells))) ≡ 0
    listed true e r = rw e (omega arith)
    listed false e r = r

    sized : (b : Bool) → eqb c.offset x ≡ false → free_size cells x ≡ 0 → cond (not b && eqb c.offset x) c.size (free_size cells x) ≡ 0
    sized true e r = r
    sized false e r = rw e r

-- the offsets of the free cells of a class, by their sizes
pub times-free_of : (class_of : ℕ → ℕ) (k at x : ℕ) (cells : List Cell) → AreOrdered at cells → times x (free_of class_of k cells) ≡ is_of class_of (free_size cells) k x
times-free_of class_of k at x [] o = sym (of-zero class_of (free_size []) k x refl)
times-free_of class_of k at x (c ∷ cells) o = elim (cases_eq c.offset x) [
  | inl e ↦ (let z = none-before class_of k (c.offset + c.size) x cells o.2 (omega (arith, o.1)) in at-it c.allocated refl (eq-eqb c.offset x e) z.0 z.1)
  | inr q ↦ past c.allocated refl (eqb (class_of c.size) k) refl (ne_eqb c.offset x q) (times-free_of class_of k (c.offset + c.size) x cells o.2)
]
  where
    past : (b : Bool) → c.allocated ≡ b → (d : Bool) → eqb (class_of c.size) k ≡ d → eqb c.offset x ≡ false → times x (free_of class_of k cells) ≡ is_of class_of (free_size cells) k x
        → times x (free_of class_of k (c ∷ cells)) ≡ is_of class_of (free_size (c ∷ cells)) k x
    past true a d f e r = rw a r
    past false a true f e r = let s : free_size (c ∷ cells) x ≡ free_size cells x = rw (a, e) refl in sized s (rw (a, f, e) refl)
      where
        sized : free_size (c ∷ cells) x ≡ free_size cells x → times x (free_of class_of k (c ∷ cells)) ≡ 0 + times x (free_of class_of k cells) →
            times x (free_of class_of k (c ∷ cells)) ≡ is_of class_of (free_size (c ∷ cells)) k x
        sized s t = let z = of-same class_of (free_size cells) (free_size (c ∷ cells)) k x s in omega arith
    past false a false f e r = let s : free_size (c ∷ cells) x ≡ free_size cells x = rw (a, e) refl in sized s (rw (a, f) refl)
      where
        sized : free_size (c ∷ cells) x ≡ free_size cells x → times x (free_of class_of k (c ∷ cells)) ≡ times x (free_of class_of k cells) →
            times x (free_of class_of k (c ∷ cells)) ≡ is_of class_of (free_size (c ∷ cells)) k x
        sized s t = let z = of-same class_of (free_size cells) (free_size (c ∷ cells)) k x s in omega arith

    at-it : (b : Bool) → c.allocated ≡ b → eqb c.offset x ≡ true → times x (free_of class_of k cells) ≡ 0 → free_size cells x ≡ 0 →
        times x (free_of class_of k (c ∷ cells)) ≡ is_of class_of (free_size (c ∷ cells)) k x
    at-it true a e r s = rw a (r ∙ sym (of-zero class_of (free_size cells) k x s))
    at-it false a e r s = classed (eqb (class_of c.size) k) refl (rw (a, e) refl)
      where
        classed : (d : Bool) → eqb (class_of c.size) k ≡ d → free_size (c ∷ cells) x ≡ c.size → times x (free_of class_of k (c ∷ cells)) ≡ is_of class_of (free_size (c ∷ cells)) k x
        classed true f z =
            let y = of-some class_of (free_size (c ∷ cells)) k x (omega (arith, o.1, z)) (ap class_of z ∙ eqb-true (class_of c.size) k f) in
            let t : times x (free_of class_of k (c ∷ cells)) ≡ 1 + times x (free_of class_of k cells) = rw (a, f, e) refl in
            omega arith
        classed false f z =
            let y = of-other class_of (free_size (c ∷ cells)) k x (λ q. eqb-false (class_of c.size) k f (ap class_of (sym z) ∙ q)) in
            let t : times x (free_of class_of k (c ∷ cells)) ≡ times x (free_of class_of k cells) = rw (a, f) refl in
            omega arith

-- the lists of all classes from one on
pub all-from : ℕ → (ℕ → List ℕ) → ℕ → List (List ℕ)
all-from zero lists k = []
all-from (suc n) lists k = lists k ∷ all-from n lists (suc k)

module _ (bytes : List ℕ) (cells : List Cell) (heads firsts words marks : List ℕ) (large top : ℕ) (w : AreTables bytes (free_size cells) heads firsts words marks large top)
    (ordered : AreOrdered 0 cells) where
  one-list : (k head : ℕ) → head_at heads k ≡ head → IsFreeList class_of k bytes head cells (w.threads.lists k)
  one-list k head e = record {
    follows = rw e at (list-follows bytes (free_size cells) heads firsts words marks large top w k);
    exact = λ x. w.threads.exact k x ∙ sym (times-free_of class_of k 0 x cells ordered);
  }

  pub are-lists : (k : ℕ) (hs : List ℕ) → ((i : ℕ) → i < length hs → head_at heads (k + i) ≡ get_or hs i 4294967295) → AreLists class_of k bytes hs cells (all-from (length hs) w.threads.lists k)
  unfolding all-from
  are-lists k [] h = tt
  are-lists k (x ∷ hs) h = (
    one-list k x (ap (head_at heads) (omega arith) ∙ h 0 (omega arith)),
    are-lists (suc k) hs (λ i l. ap (head_at heads) (omega arith) ∙ h (suc i) (omega arith)),
  )

all-classes : (bytes : List ℕ) (layout : List Bin) → AreBins bytes 0 layout → (n : ℕ) → 24 ≤ n → (xs ys : List Cell) → cells_in layout ≡ xs ++ ys →
    AllByRecursion (λ (c : Cell). class_of c.size < n) ys
all-classes bytes layout tiled n l xs [] e = tt
all-classes bytes layout tiled n l xs (c ∷ ys) e =
    let st = stands bytes layout xs c ys tiled e in
    (let z = class-in c.size st.cell.eights in omega arith, all-classes bytes layout tiled n l (xs ++ c ∷ []) ys (e ∙ step xs))
  where
    step : (zs : List Cell) → zs ++ c ∷ ys ≡ (zs ++ c ∷ []) ++ ys
    step [] = refl
    step (z ∷ zs) = ap (λ t. z ∷ t) (step zs)

pub sound : (bytes : List ℕ) (lists : FreeLists) → IsIndexed bytes lists → IsSound bytes lists.heads
sound bytes lists i =
    let a = i.arena in
    let w = i.listed in
    record {
      bins = a.layout;
      lists = all-from (length lists.heads) w.threads.lists 0;
      bins_are = a.tiled;
      cells_are = cells_of-AreBins bytes a.layout a.tiled;
      eights = AreBins-eights bytes 0 a.layout (omega arith) a.tiled;
      blank = a.blank;
      free = record {
        each = are-lists bytes (cells_in a.layout) _ _ _ _ _ _ w (AreOrdered-AreBins bytes 0 a.layout a.tiled) 0 lists.heads (λ k l. ap (head_at lists.heads) (omega arith));
        classes = all-classes bytes a.layout a.tiled (length lists.heads) (let h = w.heads_long in omega arith) [] (cells_in a.layout) refl;
        apart = a.apart;
      };
      heads_are = w.heads_long;
      pages = AreBins-pages bytes 0 a.layout (omega arith) a.tiled;
      small = a.small;
    }

-- ---- what fits

pub all-free : (P : Cell → Type 0) (all xs ys : List Cell) → all ≡ xs ++ ys → ((us : List Cell) (c : Cell) (vs : List Cell) → all ≡ us ++ c ∷ vs → P c) → AllByRecursion P ys
all-free P all xs [] e f = tt
all-free P all xs (c ∷ ys) e f = (f xs c ys e, all-free P all (xs ++ c ∷ []) ys (e ∙ step xs) f)
  where
    step : (zs : List Cell) → zs ++ c ∷ ys ≡ (zs ++ c ∷ []) ++ ys
    step [] = refl
    step (z ∷ zs) = ap (λ t. z ∷ t) (step zs)

pub size-at : (at : ℕ) (us : List Cell) (c : Cell) (vs : List Cell) → AreOrdered at (us ++ c ∷ vs) → c.allocated ≡ false → free_size (us ++ c ∷ vs) c.offset ≡ c.size
size-at at us c vs o f = size-after c.offset us (c ∷ vs) (away at us o) ∙ size-here c c.offset f refl vs
  where
    reach : (m : ℕ) (zs : List Cell) → AreOrdered m (zs ++ c ∷ vs) → m ≤ c.offset
    reach m [] p = p.0
    reach m (z ∷ zs) p = (let r = reach (z.offset + z.size) zs p.2 in omega (arith, p.0))

    away : (m : ℕ) (zs : List Cell) → AreOrdered m (zs ++ c ∷ vs) → AllByRecursion (λ (d : Cell). d.offset ≡ c.offset → ⊥) zs
    away m [] p = tt
    away m (z ∷ zs) p = ((λ e. (let r = reach (z.offset + z.size) zs p.2 in omega (arith, p.1))), away (z.offset + z.size) zs p.2)

pub no-fit : (bytes : List ℕ) (lists : FreeLists) (total : ℕ) (i : IsIndexed bytes lists) → NoneFits (free_size (cells_in i.arena.layout)) total → NoFit bytes total
no-fit bytes lists total i none cells e =
    let a = i.arena in
    let same : cells_in a.layout ≡ cells = same_Some _ _ (sym (cells_of-AreBins bytes a.layout a.tiled) ∙ e) in
    let ordered = AreOrdered-AreBins bytes 0 a.layout a.tiled in
    subst (AllByRecursion (λ (c : Cell). c.allocated ≡ false → c.size < total)) same
    (all-free (λ (c : Cell). c.allocated ≡ false → c.size < total) (cells_in a.layout) [] (cells_in a.layout) refl
    (λ us c vs f free. (let z : free_size (cells_in a.layout) c.offset ≡ c.size = ap (λ cs. free_size cs c.offset) f ∙ size-at 0 us c vs (subst (AreOrdered 0) f ordered) free in
    let st = stands bytes a.layout us c vs a.tiled f in
    let n = none c.offset (omega (arith, z, st.cell.positive)) in omega arith)))

-- a cell that fits
pub fit-some : (bytes : List ℕ) (lists : FreeLists) (total cell size : ℕ) (i : IsIndexed bytes lists) → free_size (cells_in i.arena.layout) cell ≡ size → total ≤ size → 0 < total →
    NoFit bytes total → ⊥
fit-some bytes lists total cell size i there fits positive none =
    let a = i.arena in
    let f = free_at (cells_in a.layout) cell (omega (arith, there)) in
    let all = none (cells_in a.layout) (cells_of-AreBins bytes a.layout a.tiled) in
    let l = all-at (λ (c : Cell). c.allocated ≡ false → c.size < total) f.xs f.c f.ys (subst (AllByRecursion (λ (c : Cell). c.allocated ≡ false → c.size < total)) f.cells_are all) f.free in
    omega (arith, f.size_is, there)

pub total-positive : (ss : List ℕ) → AreSizes ss → 0 < length ss → 0 < total_of ss
total-positive [] a l = absurd (omega arith)
total-positive (s ∷ ss) a l = (let p = a.0.0 in omega arith)
