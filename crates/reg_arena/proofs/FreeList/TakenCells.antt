-- Bins that are taken as they stand: their free cells come into the lists, one after the other.
use Rattle.std.proofs.Common.{◌≡◌, ℕ, ◌+◌, ◌%◌, ◌<◌, ◌≤◌, Bool, true, false, not, cond, ◌&&◌, ◌⊎◌, inl, inr, List, [], ◌∷◌, ◌++◌, length, refl, sym, ap, ◌∙◌, subst, arith, eqb}
use Rattle.std.proofs.Common.{append_assoc}
use lib.Dec.{ltb}
use Rattle.std.proofs.lemmas.Bool.{cases_eq, le-leb, leb-false, lt-leb, lt-ltb}
use Rattle.std.proofs.lemmas.List.{append-nil}
use Rattle.std.specs.List.{AllByRecursion}
use Rattle.reg_heap.specs.ByteWords.{word}
use Rattle.reg_arena.specs.declared.Cell.{Cell}
use Rattle.reg_arena.specs.declared.free_lists.FreeLists.{FreeLists}
use Rattle.reg_arena.specs.Cells.{Bin, AreBins, cells_in, size_in, is_allocated_in}
use Rattle.reg_arena.specs.Internal.ListedCells.{free_size, sized, added, Adds, HasPlace, IsFreeOf, IsListed}
use Rattle.reg_arena.specs.Internal.TakenBins.{Fill, AreTaken, IsTaking, Takes}
use Rattle.reg_arena.proofs.Contents.CellContents.{AreOrdered, AreOrdered-AreBins, IsBeside, besides-before}
use Rattle.reg_arena.proofs.Contents.CellWrites.{all-at}
use Rattle.reg_arena.proofs.FreeList.FreeSizes.{AreAway, size-after, size-before, size-here, beside-away, beside-free}
use Rattle.reg_arena.proofs.FreeList.ListedSpots.{sized-here, sized-other, added-some}
use Rattle.reg_arena.proofs.FreeList.RelinkedCells.{Relinked, relinked, relinked-trans, relinked-within}
use Rattle.reg_arena.proofs.Tiling.ArenaInvariant.{AreBins-eights}
use Rattle.reg_arena.proofs.Tiling.CellPositions.{Stands, stands}

-- ---- the cell at hand

-- a cell of the bins, with what its size field says
pub record HasCellAt (bytes : List ℕ) (layout : List Bin) (front : List Cell) (cell : Cell) (after : List Cell) : Type 0 where
  pub stands_is : Stands bytes layout front cell after
  pub eights : cell.offset % 8 ≡ 0
  pub some : 8 ≤ cell.size
  pub beside : AllByRecursion (IsBeside cell.offset (cell.offset + cell.size)) front

pub cell-at : (bytes : List ℕ) (layout : List Bin) (front : List Cell) (cell : Cell) (after : List Cell) → AreBins bytes 0 layout →
    cells_in layout ≡ front ++ cell ∷ after → HasCellAt bytes layout front cell after
cell-at bytes layout front cell after tiled e =
    let st = stands bytes layout front cell after tiled e in
    let eights = all-at (λ (d : Cell). d.offset % 8 ≡ 0) front cell after (subst (AllByRecursion (λ (d : Cell). d.offset % 8 ≡ 0)) e (AreBins-eights bytes 0 layout refl tiled)) in
    record {
      stands_is = st;
      eights = eights;
      some = omega (arith, st.cell.positive, st.cell.eights);
      beside = besides-before 0 cell.offset (cell.offset + cell.size) front cell after refl (subst (AreOrdered 0) e (AreOrdered-AreBins bytes 0 layout tiled));
    }

-- a free cell's size field is its size, an allocated one's is negative
pub record HasField (field size : ℕ) (allocated : Bool) : Type 0 where
  pub low : field < 2147483648 → (size ≡ field) × (allocated ≡ false)
  pub high : 2147483648 ≤ field → allocated ≡ true
  pub free : allocated ≡ false → field ≡ size

pub field-says : (field size : ℕ) (allocated : Bool) → size_in field ≡ size → is_allocated_in field ≡ allocated → HasField field size allocated
field-says field size allocated s a = record {
  low = λ l. (sym s ∙ low-size l, sym a ∙ lt-leb 2147483648 field l);
  high = λ g. sym a ∙ le-leb 2147483648 field g;
  free = λ f. (let l : field < 2147483648 = leb-false 2147483648 field (a ∙ f) in sym (low-size l) ∙ s);
}
  where
    low-size : field < 2147483648 → size_in field ≡ field
    low-size l = let b : ltb field 2147483648 ≡ true = lt-ltb field 2147483648 l in rw b refl

-- ---- sizes of the front and one cell more

away-last : (x : ℕ) (c : Cell) → (x ≡ c.offset → ⊥) → AreAway x (c ∷ [])
away-last x c o = ((λ e. o (sym e)), tt)

used-last : (c : Cell) → c.allocated ≡ true → (front : List Cell) (x : ℕ) → free_size front x ≡ free_size (front ++ c ∷ []) x
used-last c used [] x = rw used refl
used-last c used (d ∷ front) x = ap (λ (n : ℕ). cond (not d.allocated && eqb d.offset x) d.size n) (used-last c used front x)

free-last : (c : Cell) → c.allocated ≡ false → 0 < c.size → (front : List Cell) → AreAway c.offset front →
    added c.offset c.size (free_size front) ≡ free_size (front ++ c ∷ [])
free-last c free some front away = sym (added-some c.offset c.size (free_size front) some) ∙ (λ i x. by x (cases_eq x c.offset) i)
  where
    by : (x : ℕ) → (x ≡ c.offset) ⊎ (x ≡ c.offset → ⊥) → sized c.offset c.size (free_size front) x ≡ free_size (front ++ c ∷ []) x
    by x (inl e) =
        sized-here c.offset c.size (free_size front) x e
        ∙ sym (size-after x front (c ∷ []) (subst (λ (k : ℕ). AreAway k front) (sym e) away) ∙ size-here c x free (sym e) [])
    by x (inr o) = sized-other c.offset c.size (free_size front) x o ∙ sym (size-before x front (c ∷ []) (away-last x c o))

size-front : (xs ys : List Cell) (x : ℕ) → 0 < free_size xs x → 0 < free_size (xs ++ ys) x
size-front [] ys x h = absurd (omega arith)
size-front (c ∷ xs) ys x h = by (λ g. size-front xs ys x g) (not c.allocated && eqb c.offset x) refl
  where
    by : (0 < free_size xs x → 0 < free_size (xs ++ ys) x) → (b : Bool) → (not c.allocated && eqb c.offset x) ≡ b →
        0 < cond (not c.allocated && eqb c.offset x) c.size (free_size (xs ++ ys) x)
    by more true e = rw e (rw e at h)
    by more false e = rw e (more (rw e at h))

-- ---- one cell

module _ (old now : List ℕ) (layout : List Bin) (front : List Cell) (c : Cell) (rest : List Cell) (lists : FreeLists) (t : AreTaken old now layout front (c ∷ rest) lists) where
  pub here : HasCellAt now layout front c rest
  here = cell-at now layout front c rest t.tiled t.split

  pub field-is : HasField (word now c.offset) c.size c.allocated
  field-is = field-says (word now c.offset) c.size c.allocated here.stands_is.cell.size here.stands_is.cell.allocated

  pub place-for : HasPlace now lists c.offset c.size
  place-for = record {
    sizes = free_size front;
    listed = t.listed;
    piece = record {
      eights = here.eights;
      some = omega (arith, here.stands_is.header);
      size_eights = here.stands_is.cell.eights;
      within = here.stands_is.cell.within;
    };
    free = beside-free c.offset (c.offset + c.size) front here.beside;
  }

  one-more : front ++ c ∷ rest ≡ (front ++ c ∷ []) ++ rest
  one-more = sym (append_assoc front (c ∷ []) rest)

  pub taken-used : c.allocated ≡ true → AreTaken old now layout (front ++ c ∷ []) rest lists
  taken-used used = record {
    split = t.split ∙ one-more;
    long = t.long;
    tiled = t.tiled;
    blank = t.blank;
    contents = t.contents;
    listed = subst (λ (f : ℕ → ℕ). IsListed now f lists) (λ i x. used-last c used front x i) t.listed;
  }

  module _ (new : List ℕ) (lists' : FreeLists) (free : c.allocated ≡ false) (ad : Adds (free_size front) c.offset c.size now new lists') where
    some : 0 < c.size
    some = omega (arith, here.some)

    away : AreAway c.offset front
    away = beside-away c.offset (c.offset + c.size) c.offset front (omega arith) (omega (arith, here.some)) here.beside

    first : Relinked now ad.mid layout
    first = relinked now ad.mid layout (free_size front) t.tiled (λ p g. subst (λ (cs : List Cell). 0 < free_size cs p) (sym t.split) (size-front front (c ∷ rest) p g)) ad.relinks

    middle : HasField (word ad.mid c.offset) c.size c.allocated
    middle = let st = stands ad.mid layout front c rest first.tiled t.split in field-says (word ad.mid c.offset) c.size c.allocated st.cell.size st.cell.allocated

    now-listed : IsListed new (free_size (front ++ c ∷ [])) lists'
    now-listed = subst (λ (f : ℕ → ℕ). IsListed new f lists') (free-last c free some front away) ad.listed

    last-size : free_size (front ++ c ∷ []) c.offset ≡ c.size
    last-size = size-after c.offset front (c ∷ []) away ∙ size-here c c.offset free refl []

    field : word new c.offset ≡ word ad.mid c.offset
    field = now-listed.fields c.offset (omega (arith, last-size, some)) ∙ last-size ∙ sym (middle.free free)

    all : Relinked now new layout
    all = relinked-trans now ad.mid new layout first (relinked-within ad.mid new layout front c rest first.tiled t.split free ad.region field)

    pub taken-free : AreTaken old new layout (front ++ c ∷ []) rest lists'
    taken-free = record {
      split = t.split ∙ one-more;
      long = all.long ∙ t.long;
      tiled = all.tiled;
      blank = λ h. all.blank (t.blank h);
      contents = λ offset. all.contents offset ∙ t.contents offset;
      listed = now-listed;
    }

-- ---- the cells of a bin

-- what was taken at first, and what is taken now, up to a place
pub record HasGone (old b : List ℕ) (layout : List Bin) (front cells after : List Cell) (lists : FreeLists) (at stop : ℕ) : Type 0 where
  pub done : List Cell
  pub rest : List Cell
  pub cells_are : cells ≡ done ++ rest
  pub fill : Fill at stop rest
  pub taken : AreTaken old b layout (front ++ done) (rest ++ after) lists

abbrev pub Goes : List ℕ → FreeLists → List ℕ → FreeLists → ℕ → ℕ → ℕ → Type 0
Goes b0 l0 b l from at stop =
    (old : List ℕ) → (layout : List Bin) → (front cells after : List Cell) → AreTaken old b0 layout front (cells ++ after) l0 → Fill from stop cells →
    HasGone old b layout front cells after l at stop

pub goes-none : (b : List ℕ) (l : FreeLists) (from stop : ℕ) → Goes b l b l from from stop
goes-none b l from stop old layout front cells after t f = record {
  done = [];
  rest = cells;
  cells_are = refl;
  fill = f;
  taken = subst (λ (cs : List Cell). AreTaken old b layout cs (cells ++ after) l) (sym (append-nil front)) t;
}

pub goes-on : (b0 b : List ℕ) (l0 l : FreeLists) (from at stop : ℕ) → Goes b0 l0 b l from at stop → IsTaking b0 from stop l0 → IsTaking b at stop l
goes-on b0 b l0 l from at stop g k =
    let h = g k.old k.layout k.front k.cells k.after k.taken k.fill in
    record { old = k.old; layout = k.layout; front = k.front ++ h.done; cells = h.rest; after = k.after; taken = h.taken; fill = h.fill }

pub goes-long : (b0 b : List ℕ) (l0 l : FreeLists) (from at stop : ℕ) → Goes b0 l0 b l from at stop → IsTaking b0 from stop l0 → length b ≡ length b0
goes-long b0 b l0 l from at stop g k =
    let h = g k.old k.layout k.front k.cells k.after k.taken k.fill in h.taken.long ∙ sym k.taken.long

fill-le : (at stop : ℕ) (cells : List Cell) → Fill at stop cells → at ≤ stop
fill-le at stop [] f = omega arith
fill-le at stop (c ∷ cells) f = let l = fill-le (at + c.size) stop cells f.1 in omega arith

-- what is known of the cell at hand
pub record IsAtCell (b : List ℕ) (lists : FreeLists) (at stop : ℕ) : Type 0 where
  pub eight : 8 ≤ size_in (word b at)
  pub within : at + size_in (word b at) ≤ stop
  pub inside : at + size_in (word b at) ≤ length b
  pub free : word b at < 2147483648 → HasPlace b lists at (word b at)

at-by : (old b : List ℕ) (layout : List Bin) (front rest after : List Cell) (lists : FreeLists) (at stop : ℕ) → at < stop → Fill at stop rest →
    AreTaken old b layout front (rest ++ after) lists → IsAtCell b lists at stop
at-by old b layout front [] after lists at stop l f t = absurd (omega (arith, f, l))
at-by old b layout front (c ∷ rest) after lists at stop l f t =
    let h = here old b layout front c (rest ++ after) lists t in
    let e = field-is old b layout front c (rest ++ after) lists t in
    let size : size_in (word b at) ≡ c.size = ap (λ (k : ℕ). size_in (word b k)) (sym f.0) ∙ h.stands_is.cell.size in
    let end = fill-le (at + c.size) stop rest f.1 in
    record {
      eight = omega (arith, size, h.some);
      within = omega (arith, size, end);
      inside = omega (arith, size, f.0, h.stands_is.cell.within);
      free = λ g.
          let g' : word b c.offset < 2147483648 = subst (λ (k : ℕ). word b k < 2147483648) (sym f.0) g in
          let same : c.size ≡ word b at = (e.low g').0 ∙ ap (word b) f.0 in
          subst (λ (k : ℕ). HasPlace b lists k (word b at)) f.0 (subst (HasPlace b lists c.offset) same (place-for old b layout front c (rest ++ after) lists t));
    }

pub at-cell : (b : List ℕ) (lists : FreeLists) (at stop : ℕ) → at < stop → IsTaking b at stop lists → IsAtCell b lists at stop
at-cell b lists at stop l k = at-by k.old b k.layout k.front k.cells k.after lists at stop l k.fill k.taken

-- one cell more of a bin is taken
gone-more : (old b b' : List ℕ) (layout : List Bin) (front cells after done rest : List Cell) (c : Cell) (lists : FreeLists) (at stop : ℕ) → cells ≡ done ++ c ∷ rest → Fill (at + c.size) stop rest →
    AreTaken old b' layout ((front ++ done) ++ c ∷ []) (rest ++ after) lists → HasGone old b' layout front cells after lists (at + c.size) stop
gone-more old b b' layout front cells after done rest c lists at stop e f t = record {
  done = done ++ c ∷ [];
  rest = rest;
  cells_are = e ∙ sym (append_assoc done (c ∷ []) rest);
  fill = f;
  taken = subst (λ (cs : List Cell). AreTaken old b' layout cs (rest ++ after) lists) (append_assoc front done (c ∷ [])) t;
}

used-by : (old b : List ℕ) (layout : List Bin) (front cells after done rest : List Cell) (lists : FreeLists) (at stop : ℕ) → at < stop → 2147483648 ≤ word b at →
    cells ≡ done ++ rest → Fill at stop rest → AreTaken old b layout (front ++ done) (rest ++ after) lists →
    HasGone old b layout front cells after lists (at + size_in (word b at)) stop
used-by old b layout front cells after done [] lists at stop l g e f t = absurd (omega (arith, f, l))
used-by old b layout front cells after done (c ∷ rest) lists at stop l g e f t =
    let h = here old b layout (front ++ done) c (rest ++ after) lists t in
    let k = field-is old b layout (front ++ done) c (rest ++ after) lists t in
    let size : c.size ≡ size_in (word b at) = sym (ap (λ (n : ℕ). size_in (word b n)) (sym f.0) ∙ h.stands_is.cell.size) in
    let used = k.high (subst (λ (n : ℕ). 2147483648 ≤ word b n) (sym f.0) g) in
    subst (λ (n : ℕ). HasGone old b layout front cells after lists (at + n) stop) size
    (gone-more old b b layout front cells after done rest c lists at stop e f.1 (taken-used old b layout (front ++ done) c (rest ++ after) lists t used))

pub goes-used : (b0 b : List ℕ) (l0 l : FreeLists) (from at stop : ℕ) → at < stop → 2147483648 ≤ word b at → Goes b0 l0 b l from at stop →
    Goes b0 l0 b l from (at + size_in (word b at)) stop
goes-used b0 b l0 l from at stop less high g old layout front cells after t f =
    let h = g old layout front cells after t f in
    used-by old b layout front cells after h.done h.rest l at stop less high h.cells_are h.fill h.taken

-- what an insert of the cell at hand makes
abbrev pub Inserts : List ℕ → List ℕ → FreeLists → FreeLists → ℕ → ℕ → Type 0
Inserts b b' l l' at size = (sizes : ℕ → ℕ) → IsListed b sizes l → IsFreeOf sizes at size → Adds sizes at size b b' l'

free-by : (old b b' : List ℕ) (layout : List Bin) (front cells after done rest : List Cell) (lists lists' : FreeLists) (at stop : ℕ) → at < stop → word b at < 2147483648 →
    Inserts b b' lists lists' at (word b at) → cells ≡ done ++ rest → Fill at stop rest → AreTaken old b layout (front ++ done) (rest ++ after) lists →
    HasGone old b' layout front cells after lists' (at + size_in (word b at)) stop
free-by old b b' layout front cells after done [] lists lists' at stop l g ins e f t = absurd (omega (arith, f, l))
free-by old b b' layout front cells after done (c ∷ rest) lists lists' at stop l g ins e f t =
    let h = here old b layout (front ++ done) c (rest ++ after) lists t in
    let k = field-is old b layout (front ++ done) c (rest ++ after) lists t in
    let size : c.size ≡ size_in (word b at) = sym (ap (λ (n : ℕ). size_in (word b n)) (sym f.0) ∙ h.stands_is.cell.size) in
    let low = k.low (subst (λ (n : ℕ). word b n < 2147483648) (sym f.0) g) in
    let same : word b at ≡ c.size = sym (low.0 ∙ ap (word b) f.0) in
    let ins' : Inserts b b' lists lists' c.offset c.size = subst (λ (n : ℕ). Inserts b b' lists lists' n c.size) (sym f.0) (subst (Inserts b b' lists lists' at) same ins) in
    let ad = ins' (free_size (front ++ done)) t.listed (beside-free c.offset (c.offset + c.size) (front ++ done) h.beside) in
    subst (λ (n : ℕ). HasGone old b' layout front cells after lists' (at + n) stop) size
    (gone-more old b b' layout front cells after done rest c lists' at stop e f.1 (taken-free old b layout (front ++ done) c (rest ++ after) lists t b' lists' low.1 ad))

pub goes-free : (b0 b b' : List ℕ) (l0 l l' : FreeLists) (from at stop : ℕ) → at < stop → word b at < 2147483648 → Inserts b b' l l' at (word b at) →
    Goes b0 l0 b l from at stop → Goes b0 l0 b' l' from (at + size_in (word b at)) stop
goes-free b0 b b' l0 l l' from at stop less low ins g old layout front cells after t f =
    let h = g old layout front cells after t f in
    free-by old b b' layout front cells after h.done h.rest l l' at stop less low ins h.cells_are h.fill h.taken

all-by : (old b : List ℕ) (layout : List Bin) (front cells after done rest : List Cell) (lists : FreeLists) (at stop : ℕ) → stop ≤ at → cells ≡ done ++ rest → Fill at stop rest →
    ((c : Cell) → (cs : List Cell) → rest ≡ c ∷ cs → 0 < c.size) → AreTaken old b layout (front ++ done) (rest ++ after) lists → AreTaken old b layout (front ++ cells) after lists
all-by old b layout front cells after done [] lists at stop l e f some t =
    subst (λ (cs : List Cell). AreTaken old b layout (front ++ cs) after lists) (sym (e ∙ append-nil done)) t
all-by old b layout front cells after done (c ∷ rest) lists at stop l e f some t =
    absurd (let q = fill-le (at + c.size) stop rest f.1 in let s = some c rest refl in omega arith)

pub goes-all : (b0 b : List ℕ) (l0 l : FreeLists) (from at stop : ℕ) → stop ≤ at → Goes b0 l0 b l from at stop → Takes b0 l0 b l from stop
goes-all b0 b l0 l from at stop less g old layout front cells after t f =
    let h = g old layout front cells after t f in
    all-by old b layout front cells after h.done h.rest l at stop less h.cells_are h.fill
    (λ c cs e.
    let k : AreTaken old b layout (front ++ h.done) (c ∷ (cs ++ after)) l = subst (λ (ds : List Cell). AreTaken old b layout (front ++ h.done) (ds ++ after) l) e h.taken in
    omega (arith, (here old b layout (front ++ h.done) c (cs ++ after) l k).some)) h.taken
