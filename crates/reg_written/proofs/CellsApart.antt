-- Cells of which none that is free is followed by another, as they are read one after another.
use Rattle.std.proofs.Common.{◌≡◌, ℕ, suc, ◌+◌, ◌<◌, ◌≤◌, ◌&&◌, not, Bool, true, false, List, [], ◌∷◌, ◌++◌, refl, sym, ap, ◌∙◌, subst, arith}
use Rattle.std.specs.List.{AllByRecursion}
use Rattle.std.proofs.lemmas.Bool.{false≢true}
use Rattle.std.proofs.lemmas.Option.{same_Some}
use Rattle.reg_heap.specs.ByteWords.{word}
use Rattle.reg_arena.specs.declared.Cell.{Cell}
use Rattle.reg_arena.specs.Cells.{Tiles, size_in, is_allocated_in}
use Rattle.reg_arena.specs.Free.{Touch, AreApart}
use Rattle.reg_arena.specs.Internal.CellWalks.{IsTiled}
use Rattle.reg_arena.proofs.Tiling.Tilings.{cells_from-Tiles, IsCell-eight}
use Rattle.reg_arena.proofs.Contents.CellContents.{AreOrdered, AreOrdered-weaker, AreOrdered-Tiles}
use Rattle.reg_written.specs.Internal.ArenaTests.{are_apart_from}
use Rattle.reg_written.proofs.CellsRead.{both, and-made}

-- the cells from one place to another are determined
pub same-cells : (bytes : List ℕ) (at stop : ℕ) (xs ys : List Cell) → Tiles bytes at stop xs → Tiles bytes at stop ys → xs ≡ ys
same-cells bytes at stop xs ys a b =
    same_Some xs ys (sym (cells_from-Tiles (suc stop) bytes at stop xs (omega arith) a) ∙ cells_from-Tiles (suc stop) bytes at stop ys (omega arith) b)

-- ---- one after another

-- what is left of the cells decides as all of them do
pub record OnCells (bytes : List ℕ) (from at stop : ℕ) (behind : Bool) : Type 0 where
  pub rest : List Cell
  pub tiles : Tiles bytes at stop rest
  pub same : (cells : List Cell) → Tiles bytes from stop cells → are_apart_from behind rest ≡ are_apart_from false cells

pub cells-start : (bytes : List ℕ) (from stop : ℕ) → IsTiled bytes from stop → OnCells bytes from from stop false
cells-start bytes from stop t = record {
  rest = t.cells;
  tiles = t.tiles;
  same = λ cells h. ap (are_apart_from false) (same-cells bytes from stop t.cells cells t.tiles h);
}

-- what is known of the cell at hand
pub record AtCell (bytes : List ℕ) (at stop : ℕ) : Type 0 where
  pub eight : 8 ≤ size_in (word bytes at)
  pub within : at + size_in (word bytes at) ≤ stop

-- the cell at hand, and those behind it
record NextCell (bytes : List ℕ) (at stop : ℕ) (rest : List Cell) : Type 0 where
  cell : Cell
  more : List Cell
  rest_are : rest ≡ cell ∷ more
  size : size_in (word bytes at) ≡ cell.size
  allocated : is_allocated_in (word bytes at) ≡ cell.allocated
  known : AtCell bytes at stop
  tiles : Tiles bytes (at + size_in (word bytes at)) stop more

next-cell : (bytes : List ℕ) (at stop : ℕ) (rest : List Cell) → at < stop → Tiles bytes at stop rest → NextCell bytes at stop rest
next-cell bytes at stop [] l h = absurd (omega arith)
next-cell bytes at stop (c ∷ rest) l h =
    let size : size_in (word bytes at) ≡ c.size = subst (λ (k : ℕ). size_in (word bytes k) ≡ c.size) h.0 h.1.size in
    let allocated : is_allocated_in (word bytes at) ≡ c.allocated = subst (λ (k : ℕ). is_allocated_in (word bytes k) ≡ c.allocated) h.0 h.1.allocated in
    let eight = IsCell-eight h.1 in
    record {
      cell = c;
      more = rest;
      rest_are = refl;
      size = size;
      allocated = allocated;
      known = record { eight = omega arith; within = omega (arith, h.1.within) };
      tiles = subst (λ (k : ℕ). Tiles bytes (at + k) stop rest) (sym size) h.2;
    }

module _ (bytes : List ℕ) (from at stop : ℕ) (behind : Bool) (o : OnCells bytes from at stop behind) where
  next : at < stop → NextCell bytes at stop o.rest
  next l = next-cell bytes at stop o.rest l o.tiles

  pub at-cell : at < stop → AtCell bytes at stop
  at-cell l = (next l).known

  -- the test of the cell at hand, and of those behind it
  tested : (free : Bool) (l : at < stop) → free ≡ not (is_allocated_in (word bytes at)) → (cells : List Cell) → Tiles bytes from stop cells →
      (not (behind && free) && are_apart_from free (next l).more) ≡ are_apart_from false cells
  tested free l e cells h =
      let n = next l in
      let f : free ≡ not n.cell.allocated = e ∙ ap not n.allocated in
      ap (λ (b : Bool). not (behind && b) && are_apart_from b n.more) f ∙ (ap (are_apart_from behind) (sym n.rest_are) ∙ o.same cells h)

  -- a free cell behind a free one
  pub cells-touch : (free : Bool) → at < stop → free ≡ not (is_allocated_in (word bytes at)) → (behind && free) ≡ true → (cells : List Cell) →
      Tiles bytes from stop cells → false ≡ are_apart_from false cells
  cells-touch free l e b cells h = ap (λ (t : Bool). not t && are_apart_from free (next l).more) (sym b) ∙ tested free l e cells h

  -- another
  pub cells-more : (free : Bool) → at < stop → free ≡ not (is_allocated_in (word bytes at)) → (behind && free) ≡ false →
      OnCells bytes from (at + size_in (word bytes at)) stop free
  cells-more free l e b = record {
    rest = (next l).more;
    tiles = (next l).tiles;
    same = λ cells h. ap (λ (t : Bool). not t && are_apart_from free (next l).more) (sym b) ∙ tested free l e cells h;
  }

  -- all were met
  pub cells-end : stop ≤ at → (cells : List Cell) → Tiles bytes from stop cells → true ≡ are_apart_from false cells
  cells-end l cells h = by o.rest refl
    where
      by : (rest : List Cell) → o.rest ≡ rest → true ≡ are_apart_from false cells
      by [] e = ap (are_apart_from behind) (sym e) ∙ o.same cells h
      by (c ∷ rest) e = (let t = subst (Tiles bytes at stop) e o.tiles in let m = IsCell-eight t.1 in absurd (omega (arith, t.0, t.1.within, m, l)))

-- ---- what the tests say

-- cells that begin behind a place don't touch what ends there
touched-by-none : (c : Cell) (at : ℕ) (cells : List Cell) → c.offset + c.size < at → AreOrdered at cells → AllByRecursion (λ y. Touch c y → ⊥) cells
touched-by-none c at [] l h = tt
touched-by-none c at (y ∷ cells) l h =
    ((λ (t : Touch c y). omega (arith, t.ends, l, h.0)), touched-by-none c (y.offset + y.size) cells (omega (arith, l, h.0, h.1)) h.2)

not-free : (a b : Bool) → not (not a && not b) ≡ true → a ≡ false → b ≡ false → ⊥
not-free true b e f g = false≢true (sym f)
not-free false true e f g = false≢true (sym g)
not-free false false e f g = false≢true e

-- nor does the one right behind, where not both are free
untouched : (bytes : List ℕ) (c : Cell) (at stop : ℕ) (xs ys : List Cell) → c.offset + c.size ≡ at → Tiles bytes at stop xs → AreOrdered (suc stop) ys →
    are_apart_from (not c.allocated) xs ≡ true → AllByRecursion (λ y. Touch c y → ⊥) (xs ++ ys)
untouched bytes c at stop [] ys e h o a = touched-by-none c (suc stop) ys (omega (arith, e, h)) o
untouched bytes c at stop (x ∷ xs) ys e h o a =
    let b = both (not (not c.allocated && not x.allocated)) _ a in
    let behind : AreOrdered (at + x.size) (xs ++ ys) = AreOrdered-Tiles bytes (at + x.size) stop xs ys h.2 (AreOrdered-weaker (suc stop) stop ys (omega arith) o) in
    let m = IsCell-eight h.1 in (
      (λ (t : Touch c x). not-free c.allocated x.allocated b.0 t.first t.second),
      touched-by-none c (at + x.size) (xs ++ ys) (omega (arith, e, m)) behind,
    )

-- a bin's cells and those of the bins behind it: between them a header stands
pub apart-made : (bytes : List ℕ) (behind : Bool) (at stop : ℕ) (xs ys : List Cell) → Tiles bytes at stop xs → AreOrdered (suc stop) ys →
    are_apart_from behind xs ≡ true → AreApart ys → AreApart (xs ++ ys)
apart-made bytes behind at stop [] ys h o a p = p
apart-made bytes behind at stop (x ∷ xs) ys h o a p =
    let b = both (not (behind && not x.allocated)) _ a in
    (untouched bytes x (at + x.size) stop xs ys (ap (λ (k : ℕ). k + x.size) h.0) h.2 o b.1, apart-made bytes (not x.allocated) (at + x.size) stop xs ys h.2 o b.1 p)

-- no free one of these cells begins at a place
abbrev NoneFreeAt : ℕ → List Cell → Type 0
NoneFreeAt at cells = AllByRecursion (λ (y : Cell). y.allocated ≡ false → at ≡ y.offset → ⊥) cells

none-free : (c : Cell) (at : ℕ) (cells : List Cell) → c.offset + c.size ≡ at → c.allocated ≡ false → AllByRecursion (λ y. Touch c y → ⊥) cells → NoneFreeAt at cells
none-free c at [] e f a = tt
none-free c at (y ∷ cells) e f a =
    ((λ (g : y.allocated ≡ false) (p : at ≡ y.offset). a.0 (record { first = f; second = g; ends = e ∙ p })), none-free c at cells e f a.1)

not-both : (a b : Bool) → (a ≡ true → b ≡ false → ⊥) → not (a && not b) ≡ true
not-both true true f = refl
not-both true false f = absurd (f refl refl)
not-both false b f = refl

is-false : (b : Bool) → not b ≡ true → b ≡ false
is-false true e = absurd (false≢true e)
is-false false e = refl

pub apart-open : (bytes : List ℕ) (behind : Bool) (at stop : ℕ) (xs ys : List Cell) → Tiles bytes at stop xs → (behind ≡ true → NoneFreeAt at (xs ++ ys)) →
    AreApart (xs ++ ys) → are_apart_from behind xs ≡ true
apart-open bytes behind at stop [] ys h n p = refl
apart-open bytes behind at stop (x ∷ xs) ys h n p =
    and-made (not (behind && not x.allocated)) _ (not-both behind x.allocated (λ b f. (n b).0 f (sym h.0)))
    (apart-open bytes (not x.allocated) (at + x.size) stop xs ys h.2
    (λ e. none-free x (at + x.size) (xs ++ ys) (ap (λ (k : ℕ). k + x.size) h.0) (is-false x.allocated e) p.0) p.1)
