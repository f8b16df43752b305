-- The whole of a carve.
use Rattle.std.proofs.Common.{◌≡◌, ℕ, zero, suc, ◌+◌, ◌-◌, ◌<◌, ◌≤◌, ◌%◌, Bool, true, false, ◌⊎◌, inl, inr, List, [], ◌∷◌, ◌++◌, length, refl, sym, ap, ◌∙◌, subst, arith, eqb, Option, Some, None}
use Rattle.std.proofs.Common.{is_some}
use Rattle.std.proofs.lemmas.Bool.{eqb-true, eq-eqb, lt-ltb, lt-leb}
use Rattle.std.proofs.lemmas.Option.{same_Some}
use lib.Dec.{ltb}
use Rattle.std.specs.List.{AllByRecursion}
use Rattle.reg_heap.specs.ByteWords.{word, SameOutside}
use Rattle.reg_arena.specs.declared.Cell.{Cell}
use Rattle.reg_arena.specs.declared.free_lists.FreeLists.{FreeLists}
use Rattle.reg_arena.specs.Cells.{Bin, IsCell, Tiles, AreBins, bins_of, cells_in, content_in, cell_at, size_in, is_allocated_in}
use Rattle.reg_arena.specs.Free.{AreApart}
use Rattle.reg_arena.specs.Arena.{IsArena, AreBlank}
use Rattle.reg_arena.specs.NewCells.{total_of, AreSizes, carved, offsets_of, zeroed, unused}
use Rattle.reg_arena.specs.Carves.{rest_of, or_else, IsInNoFree, Carves}
use Rattle.reg_arena.specs.Internal.ListedCells.{free_size, sized, added, IsPiece, IsFreeOf, IsListed, IsIndexed, LacksCell, Adds, Drops}
use Rattle.reg_arena.proofs.Contents.ByteSplices.{same-trans}
use Rattle.reg_arena.proofs.Tiling.Tilings.{with_cells, AreBins-edit, cells_of-AreBins, cell_at-AreBins, Tiles-append, Tiles-same_above}
use Rattle.reg_arena.proofs.Tiling.BinPlaces.{places-edited}
use Rattle.reg_arena.proofs.Tiling.CellPositions.{stands}
use Rattle.reg_arena.proofs.Tiling.BlankHeaders.{blank-edit}
use Rattle.reg_arena.proofs.Tiling.ArenaInvariant.{AreBins-eights}
use Rattle.reg_arena.proofs.Contents.CellContents.{IsBeside, content_in-append, content_in-beside, AreOrdered, AreOrdered-AreBins, besides-before, besides-after}
use Rattle.reg_arena.proofs.Contents.CellWrites.{content_in-none, all-at}
use Rattle.reg_arena.proofs.FreeList.ListedSpots.{sized-here, sized-other}
use Rattle.reg_arena.proofs.FreeList.ListedFrames.{beside-free as listed-beside}
use Rattle.reg_arena.proofs.FreeList.FreeSizes.{free_at, size-outside, beside-free, carved-sizes}
use Rattle.reg_arena.proofs.FreeList.RelinkedCells.{Relinked, relinked, same-beside, free-content}
use Rattle.reg_arena.proofs.Carving.CarveCuts.{CutTo, wider, lower}
use Rattle.reg_arena.proofs.Carving.CarveFromCell.{cells_in-edit, content_in-rest, apart-edit}

zeroed-within-by : (at s : ℕ) (ss : List ℕ) (offset : ℕ) (b : Bool) → 0 < s → eqb at offset ≡ b → is_some (zeroed at (s ∷ ss) offset) ≡ true →
    (is_some (zeroed (at + s) ss offset) ≡ true → (at + s ≤ offset) × (offset < (at + s) + total_of ss)) →
    (at ≤ offset) × (offset < at + total_of (s ∷ ss))
zeroed-within-by at s ss offset true p e h rest = let same = eqb-true at offset e in (omega arith, omega arith)
zeroed-within-by at s ss offset false p e h rest = let r = rest (rw e at h) in (omega arith, omega arith)

pub zeroed-within : (at : ℕ) (ss : List ℕ) (offset : ℕ) → AreSizes ss → is_some (zeroed at ss offset) ≡ true → (at ≤ offset) × (offset < at + total_of ss)
zeroed-within at [] offset a h = absurd (cc)
zeroed-within at (s ∷ ss) offset a h = zeroed-within-by at s ss offset (eqb at offset) a.0.0 refl h (λ e. zeroed-within (at + s) ss offset a.1 e)

-- the answer for a new cell comes first, since nothing else is there
mixed : (x z y : Option (List ℕ)) → (is_some z ≡ true → x ≡ None) → or_else x (or_else (or_else z None) y) ≡ or_else z (or_else x y)
mixed x None y h = refl
mixed None (Some z) y h = refl
mixed (Some x) (Some z) y h = absurd (cc (h refl))

pub as_unused : (c : Cell) → c.allocated ≡ false → c ≡ unused c.offset c.size
as_unused c e = rw (← e) refl

pub free-size : (size : ℕ) → size ≤ 268435456 → size_in size ≡ size
free-size size a = let e = lt-ltb size 2147483648 (omega arith) in rw e refl

pub free-flag : (size : ℕ) → size ≤ 268435456 → is_allocated_in size ≡ false
free-flag size a = lt-leb 2147483648 size (omega arith)

pub total-eights : (ss : List ℕ) → AreSizes ss → total_of ss % 8 ≡ 0
total-eights [] a = omega arith
total-eights (s ∷ ss) a = let r = total-eights ss a.1 in omega (arith, a.0.1, r)

-- ---- one free cell among the others

-- a free cell of an arena, where it stands
pub record Place (bytes : List ℕ) (layout : List Bin) (cell size : ℕ) : Type 0 where
  pub xs : List Cell
  pub ys : List Cell
  pub cells_are : cells_in layout ≡ xs ++ unused cell size ∷ ys
  pub eights : cell % 8 ≡ 0
  pub some : 32 ≤ cell
  pub size_eights : size % 8 ≡ 0
  pub within : cell + size ≤ length bytes
  pub before : AllByRecursion (IsBeside cell (cell + size)) xs
  pub after : AllByRecursion (IsBeside cell (cell + size)) ys

pub place : (bytes : List ℕ) (layout : List Bin) (cell size : ℕ) → AreBins bytes 0 layout → free_size (cells_in layout) cell ≡ size → 0 < size → Place bytes layout cell size
place bytes layout cell size tiled there some =
    let f = free_at (cells_in layout) cell (omega (arith, there)) in
    let same : f.c ≡ unused cell size = as_unused f.c f.free ∙ ap (λ k. unused k f.c.size) f.offset_is ∙ ap (unused cell) (f.size_is ∙ there) in
    by f.xs f.c f.ys same f.cells_are
  where
    by : (xs : List Cell) (c : Cell) (ys : List Cell) → c ≡ unused cell size → cells_in layout ≡ xs ++ c ∷ ys → Place bytes layout cell size
    by xs c ys same e =
        let e' : cells_in layout ≡ xs ++ unused cell size ∷ ys = e ∙ ap (λ (d : Cell). xs ++ d ∷ ys) same in
        let st = stands bytes layout xs (unused cell size) ys tiled e' in
        let ordered : AreOrdered 0 (xs ++ unused cell size ∷ ys) = subst (AreOrdered 0) e' (AreOrdered-AreBins bytes 0 layout tiled) in
        record {
          xs = xs;
          ys = ys;
          cells_are = e';
          eights = (let h = AreBins-eights bytes 0 layout (omega arith) tiled in all-at (λ (d : Cell). d.offset % 8 ≡ 0) xs (unused cell size) ys
              (subst (AllByRecursion (λ (d : Cell). d.offset % 8 ≡ 0)) e' h));
          some = (let l = st.header in omega arith);
          size_eights = st.cell.eights;
          within = st.cell.within;
          before = besides-before 0 cell (cell + size) xs (unused cell size) ys refl ordered;
          after = besides-after 0 cell (cell + size) xs (unused cell size) ys (omega arith) ordered;
        }

both-beside : (lo hi : ℕ) (xs ys : List Cell) → AllByRecursion (IsBeside lo hi) xs → AllByRecursion (IsBeside lo hi) ys → AllByRecursion (IsBeside lo hi) (xs ++ ys)
both-beside lo hi [] ys a b = b
both-beside lo hi (x ∷ xs) ys a b = (a.0, both-beside lo hi xs ys a.1 b)

-- the others leave its bytes alone
pub others-free : (bytes : List ℕ) (layout : List Bin) (cell size : ℕ) → Place bytes layout cell size → IsFreeOf (sized cell 0 (free_size (cells_in layout))) cell size
others-free bytes layout cell size p x h =
    let o : x ≡ cell → ⊥ = λ e. (let z = sized-here cell 0 (free_size (cells_in layout)) x e in omega arith) in
    let q : sized cell 0 (free_size (cells_in layout)) x ≡ free_size (p.xs ++ p.ys) x = sized-other cell 0 (free_size (cells_in layout)) x o ∙
    ap (λ cs. free_size cs x) p.cells_are ∙ size-outside x p.xs (unused cell size ∷ []) p.ys ((λ e. o (sym e)), tt) in
    subst (λ n. (x + n ≤ cell) ⊎ (cell + size ≤ x)) (sym q) (beside-free cell (cell + size) (p.xs ++ p.ys) (both-beside cell (cell + size) p.xs p.ys p.before p.after) x (omega arith))

-- ---- the cells

-- what a carve leaves of the cells
pub record Carving (old new : List ℕ) (cell size : ℕ) (ss : List ℕ) (xs ys : List Cell) : Type 0 where
  pub arena : IsArena new
  pub cells_are : cells_in arena.layout ≡ xs ++ ((carved cell ss ++ rest_of (cell + total_of ss) (size - total_of ss)) ++ ys)
  pub carves : Carves old new ss (offsets_of cell ss)
  pub bins : bins_of new ≡ bins_of old

rest-tiles : (bytes : List ℕ) (at n hi : ℕ) → at + n ≡ hi → n % 8 ≡ 0 → n ≤ 268435456 → (0 < n → word bytes at ≡ n) → Tiles bytes at hi (rest_of at n)
rest-tiles bytes at zero hi e f l w = omega arith
rest-tiles bytes at (suc m) hi e f l w =
    let q = w (omega arith) in
    let cell : IsCell bytes hi (unused at (suc m)) = record {
      size = rw q (free-size (suc m) l);
      allocated = rw q (free-flag (suc m) l);
      positive = omega arith;
      eights = f;
      within = omega arith;
    } in
    (refl, cell, e)

pub carving : (old s1 s2 s3 : List ℕ) (a : IsArena old) (cell size : ℕ) (ss : List ℕ) (p : Place old a.layout cell size) → AreSizes ss → 0 < total_of ss →
    total_of ss ≤ size → Relinked old s1 a.layout → SameOutside (cell + total_of ss) (cell + size) s1 s2 →
    (0 < size - total_of ss → word s2 (cell + total_of ss) ≡ size - total_of ss) → CutTo s2 s3 cell ss → Carving old s3 cell size ss p.xs p.ys
carving old s1 s2 s3 a cell size ss p oks positive fits r region field cut =
    let layout = a.layout in
    let xs = p.xs in
    let ys = p.ys in
    let c : Cell = unused cell size in
    let n : ℕ = size - total_of ss in
    let st = stands old layout xs c ys a.tiled p.cells_are in
    let within = st.cell.within in
    let small = a.small in
    let s : SameOutside cell (cell + size) s1 s3 = same-trans (lower (omega arith) region) (wider (omega arith) cut.region) in
    let ordered : AreOrdered 0 (xs ++ c ∷ ys) = subst (AreOrdered 0) p.cells_are (AreOrdered-AreBins old 0 layout a.tiled) in
    let before = p.before in
    let after = p.after in
    let mid : List Cell = carved cell ss ++ rest_of (cell + total_of ss) n in
    let whole = total-eights ss oks in
    let eights : n % 8 ≡ 0 = omega (arith, whole, p.size_eights) in
    let rested : Tiles s2 (cell + total_of ss) (cell + size) (rest_of (cell + total_of ss) n) = rest-tiles s2 (cell + total_of ss) n (cell + size) (omega arith) eights (omega arith) field in
    let tiles : Tiles s3 cell (cell + size) mid = Tiles-append s3 cell (cell + total_of ss) (cell + size) (carved cell ss)
    (rest_of (cell + total_of ss) n) cut.tiles (Tiles-same_above cut.region (cell + total_of ss) (cell + size) _ (omega arith) rested) in
    let q = st.place in
    let was : AreBins s1 0 (q.ps ++ q.b ∷ q.qs) = subst (AreBins s1 0) q.bins r.tiled in
    let layout' : List Bin = q.ps ++ with_cells q.b (q.us ++ (mid ++ q.vs)) ∷ q.qs in
    let tiled' : AreBins s3 0 layout' = AreBins-edit s 0 q.ps q.b q.qs q.us (c ∷ []) mid q.vs q.cells st.start (omega arith) was tiles in
    let blank' : AreBlank s3 layout' = blank-edit s 0 q.ps q.b q.qs q.us (c ∷ []) q.vs (q.us ++ (mid ++ q.vs)) q.cells st.start
    (omega arith) was (subst (AreBlank s1) q.bins (r.blank a.blank)) in
    let cells' : cells_in layout' ≡ xs ++ (mid ++ ys) = cells_in-edit layout xs c ys mid q in
    let apart_old : AreApart (xs ++ c ∷ ys) = subst AreApart p.cells_are a.apart in
    let apart_mid : AreApart (xs ++ (mid ++ ys)) = apart-edit 0 xs c ys ss n ordered refl positive (omega arith) apart_old in
    record {
      arena = record { layout = layout'; tiled = tiled'; blank = blank'; apart = subst AreApart (sym cells') apart_mid; small = omega (arith, s.long, r.long) };
      cells_are = cells';
      carves = record {
        before = xs;
        at = cell;
        size = size;
        after = ys;
        fits = fits;
        was = cells_of-AreBins old layout a.tiled ∙ ap Some p.cells_are;
        now = cells_of-AreBins s3 layout' tiled' ∙ ap Some cells';
        offsets_are = refl;
        contents = λ offset.
            let none : is_some (zeroed cell ss offset) ≡ true → content_in s1 xs offset ≡ None = λ h. (let w = zeroed-within cell ss offset oks h in
            content_in-none cell (cell + size) s1 xs offset before w.0 (omega arith)) in
            cell_at-AreBins s3 layout' offset tiled' ∙ ap (λ cs. content_in s3 cs offset) cells' ∙ content_in-append s3 xs (mid ++ ys) offset
            ∙ ap (or_else (content_in s3 xs offset)) (content_in-append s3 mid ys offset ∙ ap (λ o. or_else o (content_in s3 ys offset))
            (content_in-append s3 (carved cell ss) (rest_of (cell + total_of ss) n) offset ∙
            ap (λ o. or_else o (content_in s3 (rest_of (cell + total_of ss) n) offset)) (cut.zero offset) ∙ ap (or_else (zeroed cell ss offset))
            (content_in-rest s3 (cell + total_of ss) n offset)))
            ∙ ap (λ o. or_else o (or_else (or_else (zeroed cell ss offset) None) (content_in s3 ys offset))) (content_in-beside s xs offset before)
            ∙ ap (λ o. or_else (content_in s1 xs offset) (or_else (or_else (zeroed cell ss offset) None) o)) (content_in-beside s ys offset after)
            ∙ mixed (content_in s1 xs offset) (zeroed cell ss offset) (content_in s1 ys offset) none
            ∙ ap (or_else (zeroed cell ss offset)) (sym (ap (λ cs. content_in s1 cs offset) p.cells_are ∙
            content_in-append s1 xs (c ∷ ys) offset ∙ ap (or_else (content_in s1 xs offset)) (free-content s1 c ys offset refl)) ∙
            r.contents offset ∙ sym (cell_at-AreBins old layout offset a.tiled));
        fresh = λ offset h.
            let w = zeroed-within cell ss offset oks h in
            cell_at-AreBins old layout offset a.tiled ∙ ap (λ cs. content_in old cs offset) p.cells_are ∙ content_in-append old xs (c ∷ ys) offset
            ∙ ap (or_else (content_in old xs offset)) (free-content old c ys offset refl ∙ content_in-none cell (cell + size) old ys offset after w.0 (omega arith))
            ∙ ap (λ o. or_else o None) (content_in-none cell (cell + size) old xs offset before w.0 (omega arith));
        long = s.long ∙ r.long;
        kept = λ k h.
            let at = all-at (λ (d : Cell). d.allocated ≡ false → (k < d.offset) ⊎ (d.offset + d.size ≤ k)) xs c ys h in
            same-beside s k (at refl) ∙ r.kept k (subst (IsInNoFree k) (sym p.cells_are) h);
      };
      bins = places-edited old s3 layout q.ps q.b q.qs (q.us ++ (mid ++ q.vs)) q.bins a.tiled tiled';
    }

-- ---- with the lists

abbrev others : List Bin → ℕ → ℕ → ℕ
others layout cell = sized cell 0 (free_size (cells_in layout))

-- the others are free cells of the arena
sub-free : (layout : List Bin) (cell x : ℕ) → 0 < others layout cell x → 0 < free_size (cells_in layout) x
sub-free layout cell x h =
    let o : x ≡ cell → ⊥ = λ e. (let z = sized-here cell 0 (free_size (cells_in layout)) x e in omega arith) in
    let q = sized-other cell 0 (free_size (cells_in layout)) x o in omega arith

-- what the code's steps ask for
pub rest-place : (old : List ℕ) (lists : FreeLists) (cell size total : ℕ) (ss : List ℕ) (l : LacksCell old lists cell size) → AreSizes ss → total ≡ total_of ss → total ≤ size →
    (cell + size ≤ length old) × (length old ≤ 268435456) × IsPiece old (cell + total) (size - total) × IsFreeOf (others l.arena.layout cell) (cell + total) (size - total)
rest-place old lists cell size total ss l oks e fits =
    let p = place old l.arena.layout cell size l.arena.tiled l.there l.some in
    let whole = total-eights ss oks in
    let free = others-free old l.arena.layout cell size p in (
      p.within,
      l.arena.small,
      record {
        eights = omega (arith, p.eights, e, whole);
        some = omega (arith, p.some);
        size_eights = omega (arith, p.size_eights, e, whole);
        within = omega (arith, p.within);
      },
      (λ x h. elim (free x h) [ inl q ↦ inl (omega arith) | inr q ↦ inr (omega arith) ]),
    )

-- the sizes after the cut
carved-at : (old : List ℕ) (layout : List Bin) (cell size : ℕ) (ss : List ℕ) (p : Place old layout cell size) (n : ℕ) (cells : List Cell) →
    cells ≡ p.xs ++ ((carved cell ss ++ rest_of (cell + total_of ss) n) ++ p.ys) → 0 < total_of ss → total_of ss + n ≡ size →
    (x : ℕ) → added (cell + total_of ss) n (others layout cell) x ≡ free_size cells x
carved-at old layout cell size ss p n cells e some f x =
    ap (λ cs. added (cell + total_of ss) n (sized cell 0 (free_size cs)) x) p.cells_are ∙ carved-sizes p.xs cell size p.ys ss n some f p.before p.after x ∙
    ap (λ cs. free_size cs x) (sym e)

added-here : (r n : ℕ) (S : ℕ → ℕ) → 0 < n → added r n S r ≡ n
added-here r n S h = (let q : eqb r r ≡ true = eq-eqb r r refl in let l : ltb 0 n ≡ true = lt-ltb 0 n h in rw (q, l) refl)

-- no free cell stands in what is cut from the front
front-free : (S : ℕ → ℕ) (cell size total n x : ℕ) → 0 < added (cell + total) n S x → IsFreeOf S cell size → total ≤ size →
    (x + added (cell + total) n S x ≤ cell) ⊎ (cell + total ≤ x)
front-free S cell size total n x h free l = by (eqb x (cell + total)) refl
  where
    by : (b : Bool) → eqb x (cell + total) ≡ b → (x + added (cell + total) n S x ≤ cell) ⊎ (cell + total ≤ x)
    by true q = (let z = eqb-true x (cell + total) q in inr (omega arith))
    by false q = (let z : added (cell + total) n S x ≡ S x = rw q refl in elim (free x (omega arith)) [ inl k ↦ inl (omega arith) | inr k ↦ inr (omega arith) ])

-- the arena after the cut, its free cells in lists
cut-listed : (old s2 s3 : List ℕ) (lists : FreeLists) (layout : List Bin) (cell size n : ℕ) (ss : List ℕ) (p : Place old layout cell size) → 0 < total_of ss →
    total_of ss + n ≡ size → IsListed s2 (added (cell + total_of ss) n (others layout cell)) lists → SameOutside cell (cell + total_of ss) s2 s3 →
    (a : IsArena s3) → cells_in a.layout ≡ p.xs ++ ((carved cell ss ++ rest_of (cell + total_of ss) n) ++ p.ys) → IsIndexed s3 lists
cut-listed old s2 s3 lists layout cell size n ss p some f listed region a e =
    let others-are = others-free old layout cell size p in
    let after = listed-beside s2 s3 (added (cell + total_of ss) n (others layout cell)) lists cell (total_of ss) listed region
    (λ x h. front-free (others layout cell) cell size (total_of ss) n x h others-are (omega (arith, f))) in
    record {
      arena = a;
      listed = subst (λ S. IsListed s3 S lists) (λ i x. carved-at old layout cell size ss p n (cells_in a.layout) e some f x i) after;
    }

-- the rest's size field, as its list has it
rest-field : (s2 : List ℕ) (S : ℕ → ℕ) (lists : FreeLists) (at n : ℕ) → IsListed s2 (added at n S) lists → 0 < n → word s2 at ≡ n
rest-field s2 S lists at n listed h = let z = added-here at n S h in listed.fields at (omega arith) ∙ z

-- the cut of a cell that has its place
cut-placed : (old s2 s3 : List ℕ) (lists : FreeLists) (cell size : ℕ) (ss : List ℕ) (a : IsArena old) (p : Place old a.layout cell size) → AreSizes ss →
    0 < total_of ss → total_of ss ≤ size → (adds : Adds (others a.layout cell) (cell + total_of ss) (size - total_of ss) old s2 lists) →
    Relinked old adds.mid a.layout → CutTo s2 s3 cell ss →
    IsIndexed s3 lists × Carves old s3 ss (offsets_of cell ss) × (bins_of s3 ≡ bins_of old)
cut-placed old s2 s3 lists cell size ss a p oks positive fits adds r cut =
    by (carving old adds.mid s2 s3 a cell size ss p oks positive fits r region field cut)
  where
    end : cell + total_of ss + (size - total_of ss) ≡ cell + size
    end = omega arith

    region : SameOutside (cell + total_of ss) (cell + size) adds.mid s2
    region = subst (λ k. SameOutside (cell + total_of ss) k adds.mid s2) end adds.region

    field : 0 < size - total_of ss → word s2 (cell + total_of ss) ≡ size - total_of ss
    field = rest-field s2 (others a.layout cell) lists (cell + total_of ss) (size - total_of ss) adds.listed

    by : Carving old s3 cell size ss p.xs p.ys → IsIndexed s3 lists × Carves old s3 ss (offsets_of cell ss) × (bins_of s3 ≡ bins_of old)
    by c = (cut-listed old s2 s3 lists a.layout cell size (size - total_of ss) ss p positive (omega arith) adds.listed cut.region c.arena c.cells_are, c.carves, c.bins)

pub cut-whole : (old s2 s3 : List ℕ) (lists lists' : FreeLists) (cell size total : ℕ) (ss : List ℕ) (l : LacksCell old lists cell size) → AreSizes ss → total ≡ total_of ss →
    0 < total → total ≤ size → Adds (others l.arena.layout cell) (cell + total) (size - total) old s2 lists' → CutTo s2 s3 cell ss →
    IsIndexed s3 lists' × Carves old s3 ss (offsets_of cell ss) × (bins_of s3 ≡ bins_of old)
cut-whole old s2 s3 lists lists' cell size total ss l oks e positive fits adds cut =
    by (place old l.arena.layout cell size l.arena.tiled l.there l.some) (subst (λ k. Adds (others l.arena.layout cell) (cell + k) (size - k) old s2 lists') e adds)
  where
    by : Place old l.arena.layout cell size → Adds (others l.arena.layout cell) (cell + total_of ss) (size - total_of ss) old s2 lists' →
        IsIndexed s3 lists' × Carves old s3 ss (offsets_of cell ss) × (bins_of s3 ≡ bins_of old)
    by p adds' =
        let r = relinked old adds'.mid l.arena.layout (others l.arena.layout cell) l.arena.tiled (sub-free l.arena.layout cell) adds'.relinks in
        cut-placed old s2 s3 lists' cell size ss l.arena p oks (omega (arith, e)) (omega (arith, e)) adds' r cut

-- ---- a cell that left its list

pub lacking : (old new : List ℕ) (lists lists' : FreeLists) (cell size : ℕ) (i : IsIndexed old lists) → free_size (cells_in i.arena.layout) cell ≡ size → 0 < size →
    Drops (free_size (cells_in i.arena.layout)) cell old new lists' → Relinked old new i.arena.layout × LacksCell new lists' cell size
lacking old new lists lists' cell size i there some drops =
    let a = i.arena in
    let r = relinked old new a.layout (free_size (cells_in a.layout)) a.tiled (λ p h. h) drops.relinks in (
      r,
      record {
        arena = record { layout = a.layout; tiled = r.tiled; blank = r.blank a.blank; apart = a.apart; small = omega (arith, r.long, a.small) };
        there = there;
        some = some;
        listed = drops.listed;
      },
    )

-- a carve after such a step is one of the bytes before it
pub carves-before : (old mid new : List ℕ) (a : IsArena old) (ss offsets : List ℕ) → Relinked old mid a.layout → Carves mid new ss offsets → Carves old new ss offsets
carves-before old mid new a ss offsets r c =
    let same = cells_of-AreBins mid a.layout r.tiled ∙ sym (cells_of-AreBins old a.layout a.tiled) in
    let content : (offset : ℕ) → cell_at mid offset ≡ cell_at old offset = λ offset. cell_at-AreBins mid a.layout offset r.tiled ∙ r.contents offset ∙
    sym (cell_at-AreBins old a.layout offset a.tiled) in
    let cells : c.before ++ unused c.at c.size ∷ c.after ≡ cells_in a.layout = same_Some _ _ (sym c.was ∙ cells_of-AreBins mid a.layout r.tiled) in
    record {
      before = c.before;
      at = c.at;
      size = c.size;
      after = c.after;
      fits = c.fits;
      was = sym same ∙ c.was;
      now = c.now;
      offsets_are = c.offsets_are;
      contents = λ offset. c.contents offset ∙ ap (or_else (zeroed c.at ss offset)) (content offset);
      fresh = λ offset h. sym (content offset) ∙ c.fresh offset h;
      long = c.long ∙ r.long;
      kept = λ k h. c.kept k h ∙ r.kept k (subst (IsInNoFree k) cells h);
    }

pub adds-long : (old s2 : List ℕ) (lists lists' : FreeLists) (cell size at n : ℕ) (l : LacksCell old lists cell size) → Adds (others l.arena.layout cell) at n old s2 lists' → length s2 ≡ length old
adds-long old s2 lists lists' cell size at n l adds = adds.region.long ∙ (relinked old adds.mid l.arena.layout (others l.arena.layout cell) l.arena.tiled
    (sub-free l.arena.layout cell) adds.relinks).long
