-- The whole of freeing a cell.
use Rattle.std.proofs.Common.{◌≡◌, ℕ, ◌+◌, ◌-◌, ◌<◌, ◌≤◌, true, false, cond, inl, inr, List, [], ◌∷◌, ◌++◌, length, refl, sym, ap, ◌∙◌, subst}
use Rattle.std.proofs.Common.{arith, eqb, Some, None}
use Rattle.std.proofs.lemmas.Bool.{eq-eqb, ne_eqb, lt-ltb}
use Rattle.std.specs.List.{AllByRecursion}
use lib.Dec.{ltb}
use Rattle.reg_heap.specs.ByteWords.{word, SameOutside}
use Rattle.reg_arena.specs.declared.Cell.{Cell}
use Rattle.reg_arena.specs.declared.free_lists.FreeLists.{FreeLists}
use Rattle.reg_arena.specs.Cells.{Bin, bins_of, cells_in, cell_at, content_in, cells_of}
use Rattle.reg_arena.specs.Arena.{IsArena}
use Rattle.reg_arena.specs.NewCells.{used, unused}
use Rattle.reg_arena.specs.Carves.{or_else}
use Rattle.reg_arena.specs.Frees.{IsFreePiece, Frees, IsRight, start_of}
use Rattle.reg_arena.specs.Internal.SizeTables.{start_in}
use Rattle.reg_arena.specs.Internal.ListedCells.{free_size, sized, added, IsPiece, IsFreeOf, IsListed, IsIndexed, Drops, Adds}
use Rattle.reg_arena.proofs.Tiling.Tilings.{sizes, cells_of-AreBins}
use Rattle.reg_arena.proofs.Contents.CellContents.{content_in-append, IsBeside}
use Rattle.reg_arena.proofs.FreeList.ListedSpots.{sized-here, sized-other}
use Rattle.reg_arena.proofs.FreeList.FreeSizes.{size-outside, beside-free, freed-sizes, AreAway, both-away, piece-away}
use Rattle.reg_arena.proofs.FreeList.RelinkedCells.{Relinked, relinked, relinked-trans}
use Rattle.reg_arena.proofs.Freeing.MergedCells.{PlacedRow, EndsFree, freeing}
use Rattle.reg_arena.proofs.Freeing.FreedSite.{Site, Around, around, Merging, merging, left-size, right-size, piece-sizes, piece-content}

only-of : (s : List ℕ) (ls rs : List Cell) (cell size lo hi offset : ℕ) → IsFreePiece lo cell ls → IsFreePiece (cell + size) hi rs →
    (offset ≡ cell → ⊥) → content_in s (ls ++ used cell size ∷ rs) offset ≡ None
only-of s ls rs cell size lo hi offset p q ne =
    let e : eqb cell offset ≡ false = ne_eqb cell offset (λ x. ne (sym x)) in
    let one : content_in s (used cell size ∷ rs) offset ≡ content_in s rs offset = rw e refl in
    content_in-append s ls (used cell size ∷ rs) offset ∙ ap (λ o. or_else o (content_in s (used cell size ∷ rs) offset))
    (piece-content s lo cell ls offset p) ∙ one ∙ piece-content s (cell + size) hi rs offset q

-- what is left of the bytes and the cells
record FreedRow (old new : List ℕ) (lo n cell : ℕ) (xs ys : List Cell) : Type 0 where
  arena : IsArena new
  cells_are : cells_in arena.layout ≡ xs ++ unused lo n ∷ ys
  long : length new ≡ length old
  now : cells_of new ≡ Some (xs ++ unused lo n ∷ ys)
  contents : (offset : ℕ) → cell_at new offset ≡ cond (eqb offset cell) None (cell_at old offset)
  bins : bins_of new ≡ bins_of old

-- what is there before the last step
record Before (old s new : List ℕ) (a : IsArena old) (xs mid ys : List Cell) (cell lo hi : ℕ) : Type 0 where
  relinked_is : Relinked old s a.layout
  cells_are : cells_in a.layout ≡ xs ++ (mid ++ ys)
  row : PlacedRow a.layout xs mid ys
  ends : EndsFree xs ys lo hi
  in_lo : lo ≤ cell
  in_hi : cell < hi
  only : (offset : ℕ) → (offset ≡ cell → ⊥) → content_in s mid offset ≡ None
  region : SameOutside lo hi s new
  field : word new lo ≡ hi - lo

freed-core : (old s new : List ℕ) (a : IsArena old) (xs : List Cell) (m : Cell) (ms ys : List Cell) (cell lo hi : ℕ) → Before old s new a xs (m ∷ ms) ys cell lo hi →
    m.offset ≡ lo → m.offset + sizes (m ∷ ms) ≡ hi → FreedRow old new lo (hi - lo) cell xs ys
freed-core old s new a xs m ms ys cell lo hi b start total =
    let r = b.relinked_is in
    let size : sizes (m ∷ ms) ≡ hi - lo = omega arith in
    let ends : EndsFree xs ys m.offset (m.offset + sizes (m ∷ ms)) = subst (λ (k : ℕ). EndsFree xs ys k (m.offset + sizes (m ∷ ms))) (sym start)
    (subst (λ (k : ℕ). EndsFree xs ys lo k) (sym total) b.ends) in
    let region : SameOutside m.offset (m.offset + sizes (m ∷ ms)) s new = subst (λ (k : ℕ). SameOutside k (m.offset + sizes (m ∷ ms)) s new) (sym start)
    (subst (λ (k : ℕ). SameOutside lo k s new) (sym total) b.region) in
    let field : word new m.offset ≡ sizes (m ∷ ms) = ap (word new) start ∙ b.field ∙ sym size in
    let f = freeing old s new a.layout xs m ms ys cell a.tiled r.tiled (r.blank a.blank) (omega (arith, r.long, a.small)) r.long r.contents a.apart
    b.cells_are b.row ends (omega (arith, b.in_lo)) (omega (arith, b.in_hi, total)) b.only region field in
    subst (λ k. FreedRow old new lo k cell xs ys) size (subst (λ k. FreedRow old new k (sizes (m ∷ ms)) cell xs ys) start
    (record { arena = f.arena; cells_are = f.cells_are; long = f.long; now = f.now; contents = f.contents; bins = f.bins }))

freed-row : (old s new : List ℕ) (a : IsArena old) (xs ls rs ys : List Cell) (cell size lo hi : ℕ) →
    IsFreePiece lo cell ls → IsFreePiece (cell + size) hi rs → Before old s new a xs (ls ++ used cell size ∷ rs) ys cell lo hi → FreedRow old new lo (hi - lo) cell xs ys
freed-row old s new a xs [] rs ys cell size lo hi p q b =
    let r = piece-sizes (cell + size) hi rs q in
    freed-core old s new a xs (used cell size) rs ys cell lo hi b (sym p) (omega arith)
freed-row old s new a xs (d ∷ []) rs ys cell size lo hi p q b =
    let r = piece-sizes (cell + size) hi rs q in
    let place : d.offset ≡ lo = ap (λ (c : Cell). c.offset) p.0 in
    let long : d.size ≡ cell - lo = ap (λ (c : Cell). c.size) p.0 in
    let less = p.1 in
    freed-core old s new a xs d (used cell size ∷ rs) ys cell lo hi b place (omega arith)
freed-row old s new a xs (d ∷ (e ∷ ls)) rs ys cell size lo hi p q b = absurd p

-- the free cells but those beside it
abbrev gone : List Bin → ℕ → ℕ → ℕ → ℕ
gone layout lo end = sized lo 0 (sized end 0 (free_size (cells_in layout)))

gone-other : (layout : List Bin) (lo end x : ℕ) → 0 < gone layout lo end x → (x ≡ lo → ⊥) × (x ≡ end → ⊥) × (gone layout lo end x ≡ free_size (cells_in layout) x)
gone-other layout lo end x h =
    let o : x ≡ lo → ⊥ = λ e. (let z = sized-here lo 0 (sized end 0 (free_size (cells_in layout))) x e in omega arith) in
    let q = sized-other lo 0 (sized end 0 (free_size (cells_in layout))) x o in
    let p : x ≡ end → ⊥ = λ e. (let z = sized-here end 0 (free_size (cells_in layout)) x e in omega arith) in
    (o, p, q ∙ sized-other end 0 (free_size (cells_in layout)) x p)

both-beside : (lo hi : ℕ) (xs ys : List Cell) → AllByRecursion (IsBeside lo hi) xs → AllByRecursion (IsBeside lo hi) ys → AllByRecursion (IsBeside lo hi) (xs ++ ys)
both-beside lo hi [] ys a b = b
both-beside lo hi (x ∷ xs) ys a b = (a.0, both-beside lo hi xs ys a.1 b)

-- what the code's last step asks for
pub merged-place : (old : List ℕ) (lists : FreeLists) (cell size left right : ℕ) (i : IsIndexed old lists) (s : Site old i.arena.layout cell size lists.marks) →
    left ≡ start_in lists.marks (cell - 8) → IsRight old (cell + size) right →
    (start_of left cell < cell + size + right) × (cell + size + right ≤ length old) × (length old ≤ 268435456) ×
    IsPiece old (start_of left cell) (cell + size + right - start_of left cell) ×
    IsFreeOf (gone i.arena.layout (start_of left cell) (cell + size)) (start_of left cell) (cell + size + right - start_of left cell)
merged-place old lists cell size left right i s e h =
    let w = around old lists cell size left right i s e h in
    let l = left-size old lists cell size left i s e in
    let m = merging old i.arena.layout cell size (start_of left cell) (cell + size + right) w.l.xs w.l.lefts w.r.rights w.r.ys i.arena.tiled w.l.lefts_are w.r.rights_are w.r.cells_are w.r.row
    s.cell_eights s.size_eights s.within in (
      omega (arith, l.0, s.eight),
      m.within,
      i.arena.small,
      record { eights = l.2; some = omega (arith, l.3); size_eights = omega (arith, m.hi_eights, l.2, l.0, s.eight); within = omega (arith, m.within, l.0, s.eight) },
      (λ x g. free w m (omega (arith, l.0, s.eight)) x g),
    )
  where
    free : (w : Around i.arena.layout cell size left right) → Merging old i.arena.layout cell size (start_of left cell) (cell + size + right) w.l.xs w.l.lefts w.r.rights w.r.ys →
        start_of left cell ≤ cell + size + right → IsFreeOf (gone i.arena.layout (start_of left cell) (cell + size)) (start_of left cell) (cell + size + right - start_of left cell)
    free w m le x g =
        let o = gone-other i.arena.layout (start_of left cell) (cell + size) x g in
        let own : x ≡ cell → ⊥ = λ q. elim (s.free x (omega (arith, o.2))) [ inl k ↦ omega (arith, o.2) | inr k ↦ omega (arith, s.eight) ] in
        let away : AreAway x (w.l.lefts ++ used cell size ∷ w.r.rights) = both-away x w.l.lefts (used cell size ∷ w.r.rights) (piece-away (start_of left cell) cell x w.l.lefts w.l.lefts_are o.0)
        ((λ q. own (sym q)), piece-away (cell + size) (cell + size + right) x w.r.rights w.r.rights_are o.1) in
        let q : gone i.arena.layout (start_of left cell) (cell + size) x ≡ free_size (w.l.xs ++ w.r.ys) x = o.2 ∙ ap (λ cs. free_size cs x) w.r.cells_are ∙
        size-outside x w.l.xs (w.l.lefts ++ used cell size ∷ w.r.rights) w.r.ys away in
        let b = beside-free (start_of left cell) (cell + size + right) (w.l.xs ++ w.r.ys) (both-beside (start_of left cell) (cell + size + right) w.l.xs w.r.ys m.before m.after) x (omega arith) in
        elim b [ inl k ↦ inl (omega arith) | inr k ↦ inr (omega arith) ]

pub free-whole : (old s1 s2 s3 : List ℕ) (lists l1 l2 l3 : FreeLists) (cell size left right : ℕ) (i : IsIndexed old lists) (s : Site old i.arena.layout cell size lists.marks) →
    left ≡ start_in lists.marks (cell - 8) → IsRight old (cell + size) right → Drops (free_size (cells_in i.arena.layout)) (cell + size) old s1 l1 →
    Drops (sized (cell + size) 0 (free_size (cells_in i.arena.layout))) (start_of left cell) s1 s2 l2 →
    Adds (gone i.arena.layout (start_of left cell) (cell + size)) (start_of left cell) (cell + size + right - start_of left cell) s2 s3 l3 →
    IsIndexed s3 l3 × Frees old s3 cell × ((offset : ℕ) → cell_at s3 offset ≡ cond (eqb offset cell) None (cell_at old offset)) × (bins_of s3 ≡ bins_of old)
free-whole old s1 s2 s3 lists l1 l2 l3 cell size left right i s e h d1 d2 ad =
    let a = i.arena in
    let layout = a.layout in
    let lo : ℕ = start_of left cell in
    let hi : ℕ = cell + size + right in
    let w = around old lists cell size left right i s e h in
    let l = left-size old lists cell size left i s e in
    let xs = w.l.xs in
    let ls = w.l.lefts in
    let rs = w.r.rights in
    let ys = w.r.ys in
    let m = merging old layout cell size lo hi xs ls rs ys a.tiled w.l.lefts_are w.r.rights_are w.r.cells_are w.r.row s.cell_eights s.size_eights s.within in
    let sub1 : (p : ℕ) → 0 < sized (cell + size) 0 (free_size (cells_in layout)) p → 0 < free_size (cells_in layout) p = λ p g. sub-one layout (cell + size) p g in
    let sub2 : (p : ℕ) → 0 < gone layout lo (cell + size) p → 0 < free_size (cells_in layout) p = λ p g. (let z = gone-other layout lo (cell + size) p g in omega (arith, z.2)) in
    let r1 = relinked old s1 layout (free_size (cells_in layout)) a.tiled (λ p g. g) d1.relinks in
    let r2 = relinked s1 s2 layout (sized (cell + size) 0 (free_size (cells_in layout))) r1.tiled sub1 d2.relinks in
    let r3 = relinked s2 ad.mid layout (gone layout lo (cell + size)) r2.tiled sub2 ad.relinks in
    let r = relinked-trans old s2 ad.mid layout (relinked-trans old s1 s2 layout r1 r2) r3 in
    let less : lo < hi = omega (arith, l.0, s.eight) in
    let top : lo + (hi - lo) ≡ hi = omega arith in
    let here : added lo (hi - lo) (gone layout lo (cell + size)) lo ≡ hi - lo = added-here lo (hi - lo) (gone layout lo (cell + size)) (omega arith) in
    let field : word s3 lo ≡ hi - lo = ad.listed.fields lo (omega arith) ∙ here in
    let before : Before old ad.mid s3 a xs (ls ++ used cell size ∷ rs) ys cell lo hi = record {
      relinked_is = r;
      cells_are = w.r.cells_are;
      row = w.r.row;
      ends = record { before = w.l.before; after = w.r.after };
      in_lo = l.0;
      in_hi = omega (arith, s.eight);
      only = λ offset ne. only-of ad.mid ls rs cell size lo hi offset w.l.lefts_are w.r.rights_are ne;
      region = subst (λ k. SameOutside lo k ad.mid s3) top ad.region;
      field = field;
    } in
    let f = freed-row old ad.mid s3 a xs ls rs ys cell size lo hi w.l.lefts_are w.r.rights_are before in
    let right_is : free_size (xs ++ ((ls ++ used cell size ∷ rs) ++ ys)) (cell + size) ≡ hi - (cell + size) =
    ap (λ cs. free_size cs (cell + size)) (sym w.r.cells_are) ∙ right-size old lists cell size left right i w h ∙ omega arith in
    let sizes_at : (x : ℕ) → added lo (hi - lo) (gone layout lo (cell + size)) x ≡ free_size (cells_in f.arena.layout) x = λ x.
    ap (λ cs. added lo (hi - lo) (sized lo 0 (sized (cell + size) 0 (free_size cs))) x) w.r.cells_are ∙
    freed-sizes xs ls cell size rs ys lo hi w.l.lefts_are w.r.rights_are less l.0 m.in_hi (omega (arith, s.eight)) m.before m.after right_is x ∙
    ap (λ cs. free_size cs x) (sym f.cells_are) in (
      record { arena = f.arena; listed = subst (λ g. IsListed s3 g l3) (λ j x. sizes_at x j) ad.listed },
      record {
        before = xs;
        left = ls;
        size = size;
        right = rs;
        after = ys;
        lo = lo;
        hi = hi;
        left_is = w.l.lefts_are;
        right_is = w.r.rights_are;
        was = cells_of-AreBins old layout a.tiled ∙ ap Some w.r.cells_are;
        now = f.now;
        long = f.long;
      },
      f.contents,
      f.bins,
    )
  where
    added-here : (r n : ℕ) (S : ℕ → ℕ) → 0 < n → added r n S r ≡ n
    added-here r n S g = (let q : eqb r r ≡ true = eq-eqb r r refl in let k : ltb 0 n ≡ true = lt-ltb 0 n g in rw (q, k) refl)

    sub-one : (layout : List Bin) (end p : ℕ) → 0 < sized end 0 (free_size (cells_in layout)) p → 0 < free_size (cells_in layout) p
    sub-one layout end p g =
        let o : p ≡ end → ⊥ = λ q. (let z = sized-here end 0 (free_size (cells_in layout)) p q in omega arith) in
        let q = sized-other end 0 (free_size (cells_in layout)) p o in omega arith

-- what the code's second and third steps ask for
pub left-there : (old : List ℕ) (lists : FreeLists) (cell size left : ℕ) (i : IsIndexed old lists) → Site old i.arena.layout cell size lists.marks →
    left ≡ start_in lists.marks (cell - 8) → sized (cell + size) 0 (free_size (cells_in i.arena.layout)) (start_of left cell) ≡ cell - start_of left cell
left-there old lists cell size left i s e =
    let l = left-size old lists cell size left i s e in
    sized-other (cell + size) 0 (free_size (cells_in i.arena.layout)) (start_of left cell) (λ q. omega (arith, l.0, s.eight)) ∙ l.1

pub merged-piece : (old s1 s2 : List ℕ) (lists l1 l2 : FreeLists) (cell size left right : ℕ) (i : IsIndexed old lists) (s : Site old i.arena.layout cell size lists.marks) →
    left ≡ start_in lists.marks (cell - 8) → IsRight old (cell + size) right → Drops (free_size (cells_in i.arena.layout)) (cell + size) old s1 l1 →
    Drops (sized (cell + size) 0 (free_size (cells_in i.arena.layout))) (start_of left cell) s1 s2 l2 → IsPiece s2 (start_of left cell) (cell + size + right - start_of left cell)
merged-piece old s1 s2 lists l1 l2 cell size left right i s e h d1 d2 =
    let layout = i.arena.layout in
    let r1 = relinked old s1 layout (free_size (cells_in layout)) i.arena.tiled (λ p g. g) d1.relinks in
    let r2 = relinked s1 s2 layout (sized (cell + size) 0 (free_size (cells_in layout))) r1.tiled (λ p g. sub-of (cell + size) p g) d2.relinks in
    let m = (merged-place old lists cell size left right i s e h).3 in
    record { eights = m.eights; some = m.some; size_eights = m.size_eights; within = omega (arith, m.within, r1.long, r2.long) }
  where
    sub-of : (end p : ℕ) → 0 < sized end 0 (free_size (cells_in i.arena.layout)) p → 0 < free_size (cells_in i.arena.layout) p
    sub-of end p g =
        let o : p ≡ end → ⊥ = λ q. (let z = sized-here end 0 (free_size (cells_in i.arena.layout)) p q in omega arith) in
        let q = sized-other end 0 (free_size (cells_in i.arena.layout)) p o in omega arith
