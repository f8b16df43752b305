-- A free cell gives way to allocated ones and a rest.
use Rattle.std.proofs.Common.{◌≡◌, ℕ, zero, suc, ◌+◌, ◌<◌, ◌≤◌, true, false, List, [], ◌∷◌, ◌++◌, refl, sym, ap, ◌∙◌, arith, append_assoc, None}
use Rattle.std.specs.List.{AllByRecursion}
use Rattle.reg_arena.specs.declared.Cell.{Cell}
use Rattle.reg_arena.specs.Cells.{Bin, cells_in, content_in}
use Rattle.reg_arena.specs.Free.{Touch, AreApart}
use Rattle.reg_arena.specs.NewCells.{total_of, used, carved}
use Rattle.reg_arena.specs.NewCells.{unused}
use Rattle.reg_arena.specs.Carves.{rest_of}
use Rattle.reg_arena.proofs.Tiling.Tilings.{with_cells}
use Rattle.reg_arena.proofs.Tiling.CellPositions.{Placed}
use Rattle.reg_arena.proofs.Contents.CellContents.{AreOrdered}
use Rattle.reg_arena.proofs.FreeList.RelinkedCells.{free-content}

-- ---- the cells

pub cells_in-middle : (ps : List Bin) (b : Bin) (qs : List Bin) → cells_in (ps ++ b ∷ qs) ≡ cells_in ps ++ (b.cells ++ cells_in qs)
cells_in-middle [] b qs = refl
cells_in-middle (p ∷ ps) b qs = ap (λ t. p.cells ++ t) (cells_in-middle ps b qs) ∙ sym (append_assoc p.cells (cells_in ps) (b.cells ++ cells_in qs))

regroup : (a u m v q : List Cell) → a ++ ((u ++ (m ++ v)) ++ q) ≡ (a ++ u) ++ (m ++ (v ++ q))
regroup a u m v q = simp append_assoc

pub cells_in-edit : (layout : List Bin) (xs : List Cell) (c : Cell) (ys mid : List Cell) (p : Placed layout xs c ys) →
    cells_in (p.ps ++ with_cells p.b (p.us ++ (mid ++ p.vs)) ∷ p.qs) ≡ xs ++ (mid ++ ys)
cells_in-edit layout xs c ys mid p =
    cells_in-middle p.ps (with_cells p.b (p.us ++ (mid ++ p.vs))) p.qs ∙ regroup (cells_in p.ps) p.us mid p.vs (cells_in p.qs)
    ∙ ap (λ (t : List Cell). t ++ (mid ++ (p.vs ++ cells_in p.qs))) (sym p.before) ∙ ap (λ (t : List Cell). xs ++ (mid ++ t)) (sym p.after)

pub content_in-rest : (bytes : List ℕ) (at n offset : ℕ) → content_in bytes (rest_of at n) offset ≡ None
content_in-rest bytes at zero offset = refl
content_in-rest bytes at (suc n) offset = free-content bytes (unused at (suc n)) [] offset refl

-- ---- no two free cells touch

AreOrdered-reach : (at : ℕ) (xs : List Cell) (c : Cell) (ys : List Cell) → AreOrdered at (xs ++ c ∷ ys) → at ≤ c.offset
AreOrdered-reach at [] c ys h = h.0
AreOrdered-reach at (x ∷ xs) c ys h = let l = AreOrdered-reach (x.offset + x.size) xs c ys h.2 in omega arith

no_touch-carved : (x : Cell) (at : ℕ) (ss : List ℕ) → AllByRecursion (λ y. Touch x y → ⊥) (carved at ss)
no_touch-carved x at [] = tt
no_touch-carved x at (s ∷ ss) = ((λ (t : Touch x (used at s)). cc (t.second)), no_touch-carved x (at + s) ss)

no_touch-rest : (x : Cell) (at n : ℕ) → x.offset + x.size < at → AllByRecursion (λ y. Touch x y → ⊥) (rest_of at n)
no_touch-rest x at zero l = tt
no_touch-rest x at (suc n) l = ((λ (t : Touch x (unused at (suc n))). omega (arith, t.ends)), tt)

apart-carved : (at : ℕ) (ss : List ℕ) (cells : List Cell) → AreApart cells → AreApart (carved at ss ++ cells)
apart-carved at [] cells h = h
apart-carved at (s ∷ ss) cells h = (used-all (used at s) refl (carved (at + s) ss ++ cells), apart-carved (at + s) ss cells h)
  where
    used-all : (x : Cell) → x.allocated ≡ true → (cells : List Cell) → AllByRecursion (λ y. Touch x y → ⊥) cells
    used-all x e [] = tt
    used-all x e (y ∷ cells) = ((λ (t : Touch x y). cc (e, t.first)), used-all x e cells)

apart-rest : (at n : ℕ) (c : Cell) (ys : List Cell) → c.allocated ≡ false → at + n ≡ c.offset + c.size → AreApart (c ∷ ys) → AreApart (rest_of at n ++ ys)
apart-rest at zero c ys u e h = h.1
apart-rest at (suc n) c ys u e h = (same-end ys h.0, h.1)
  where
    same-end : (zs : List Cell) → AllByRecursion (λ y. Touch c y → ⊥) zs → AllByRecursion (λ y. Touch (unused at (suc n)) y → ⊥) zs
    same-end [] a = tt
    same-end (z ∷ zs) a = ((λ (t : Touch (unused at (suc n)) z). a.0 (record { first = u; second = t.second; ends = sym e ∙ t.ends })), same-end zs a.1)

pub apart-edit : (from : ℕ) (xs : List Cell) (c : Cell) (ys : List Cell) (ss : List ℕ) (n : ℕ) → AreOrdered from (xs ++ c ∷ ys) →
    c.allocated ≡ false → 0 < total_of ss → (c.offset + total_of ss) + n ≡ c.offset + c.size → AreApart (xs ++ c ∷ ys) →
    AreApart (xs ++ ((carved c.offset ss ++ rest_of (c.offset + total_of ss) n) ++ ys))
apart-edit from [] c ys ss n o u l e h =
    rw append_assoc (apart-carved c.offset ss _ (apart-rest (c.offset + total_of ss) n c ys u e h))
apart-edit from (x ∷ xs) c ys ss n o u l e h =
    let reach = AreOrdered-reach (x.offset + x.size) xs c ys o.2 in
    (swap-all xs h.0 (no_touch-carved x c.offset ss) (no_touch-rest x (c.offset + total_of ss) n (omega arith)), apart-edit (x.offset + x.size) xs c ys ss n o.2 u l e h.1)
  where
    join : (P : Cell → Type 0) (ms bs : List Cell) → AllByRecursion P ms → AllByRecursion P bs → AllByRecursion P (ms ++ bs)
    join P [] bs a b = b
    join P (z ∷ ms) bs a b = (a.0, join P ms bs a.1 b)

    swap-all : (zs : List Cell) → AllByRecursion (λ y. Touch x y → ⊥) (zs ++ c ∷ ys) → AllByRecursion (λ y. Touch x y → ⊥) (carved c.offset ss) →
        AllByRecursion (λ y. Touch x y → ⊥) (rest_of (c.offset + total_of ss) n) →
        AllByRecursion (λ y. Touch x y → ⊥) (zs ++ ((carved c.offset ss ++ rest_of (c.offset + total_of ss) n) ++ ys))
    swap-all [] a p q = join _ (carved c.offset ss ++ rest_of (c.offset + total_of ss) n) ys (join _ (carved c.offset ss) _ p q) a.1
    swap-all (z ∷ zs) a p q = (a.0, swap-all zs a.1 p q)
