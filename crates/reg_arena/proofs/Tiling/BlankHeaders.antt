-- Bins' headers that end with 20 zeros.
use Rattle.std.proofs.Common.{◌≡◌, ℕ, ◌+◌, ◌≤◌, List, [], ◌∷◌, ◌++◌, take, drop, replicate, sym, ◌∙◌, arith}
use Rattle.reg_heap.specs.ByteWords.{SameOutside}
use Rattle.reg_arena.specs.declared.Cell.{Cell}
use Rattle.reg_arena.specs.Cells.{Bin, AreBins}
use Rattle.reg_arena.specs.Arena.{AreBlank}
use Rattle.reg_arena.proofs.Tiling.Tilings.{sizes, with_cells, Tiles-back, Tiles-le, AreBins-start}
use Rattle.reg_arena.proofs.Tiling.CellPositions.{Stands}
use Rattle.reg_arena.proofs.Contents.CellContents.{piece-same}

one-below : {lo hi : ℕ} {old new : List ℕ} → SameOutside lo hi old new → (start : ℕ) → start + 32 ≤ lo →
    take 20 (drop (start + 12) old) ≡ replicate 20 0 → take 20 (drop (start + 12) new) ≡ replicate 20 0
one-below {old = old} {new = new} s start l h = piece-same 20 (start + 12) new old s.long (λ k m n. s.below k (omega arith)) ∙ h

one-above : {lo hi : ℕ} {old new : List ℕ} → SameOutside lo hi old new → (start : ℕ) → hi ≤ start →
    take 20 (drop (start + 12) old) ≡ replicate 20 0 → take 20 (drop (start + 12) new) ≡ replicate 20 0
one-above {old = old} {new = new} s start l h = piece-same 20 (start + 12) new old s.long (λ k m n. s.above k (omega arith)) ∙ h

blank-above : {lo hi : ℕ} {old new : List ℕ} → SameOutside lo hi old new → (at : ℕ) (bs : List Bin) → hi ≤ at → AreBins old at bs → AreBlank old bs → AreBlank new bs
blank-above s at [] l t h = tt
blank-above s at (b ∷ bs) l t h = (one-above s b.start (omega (arith, t.0)) h.0, blank-above s (at + b.size) bs (omega arith) t.3 h.1)

-- after an edit in one bin's cells
pub blank-edit : {lo hi : ℕ} {old new : List ℕ} → SameOutside lo hi old new →
    (at : ℕ) (ps : List Bin) (b : Bin) (qs : List Bin) (xs mid ys cells : List Cell) → b.cells ≡ xs ++ (mid ++ ys) → b.start + 32 + sizes xs ≡ lo →
    lo + sizes mid ≡ hi → AreBins old at (ps ++ b ∷ qs) → AreBlank old (ps ++ b ∷ qs) → AreBlank new (ps ++ with_cells b cells ∷ qs)
blank-edit {lo = lo} {hi = hi} {old = old} {new = new} s at [] b qs xs mid ys cells e a l t h =
    let was = rw e at t.2 in
    let rest = Tiles-back old (at + 32) (at + b.size) xs (mid ++ ys) was in
    let back = Tiles-back old (at + 32 + sizes xs) (at + b.size) mid ys rest in
    let top = Tiles-le old (at + 32 + sizes xs + sizes mid) (at + b.size) ys back in
    (one-below s b.start (omega arith) h.0, blank-above s (at + b.size) qs (omega (arith, t.0)) t.3 h.1)
blank-edit {lo = lo} {old = old} s at (p ∷ ps) b qs xs mid ys cells e a l t h =
    let first = AreBins-start old (at + p.size) ps b qs t.3 in
    let under = Tiles-le old (at + 32) (at + p.size) p.cells t.2 in
    (one-below s p.start (omega (arith, t.0)) h.0, blank-edit s (at + p.size) ps b qs xs mid ys cells e a l t.3 h.1)

-- after an edit in one cell
pub blank-same : {lo hi : ℕ} {old new : List ℕ} → SameOutside lo hi old new → (layout : List Bin) (xs : List Cell) (c : Cell) (ys : List Cell) →
    Stands old layout xs c ys → lo ≡ c.offset → hi ≡ c.offset + c.size → AreBins old 0 layout → AreBlank old layout → AreBlank new layout
blank-same {new = new} s layout xs c ys st e f t h =
    let p = st.place in
    let now = blank-edit s 0 p.ps p.b p.qs p.us (c ∷ []) p.vs p.b.cells p.cells (st.start ∙ sym e) (omega arith) (rw p.bins at t) (rw p.bins at h) in
    rw p.bins now
