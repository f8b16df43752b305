-- Cells that touch stand side by side in one bin.
use Rattle.std.proofs.Common.{◌≡◌, ℕ, ◌+◌, ◌≤◌, List, [], ◌∷◌, ◌++◌, refl, sym, ap, ◌∙◌, subst, arith, append_assoc}
use Rattle.reg_arena.specs.declared.Cell.{Cell}
use Rattle.reg_arena.specs.Cells.{Bin, AreBins, cells_in}
use Rattle.reg_arena.proofs.Tiling.Tilings.{Tiles-back}
use Rattle.reg_arena.proofs.Tiling.CellPositions.{Falls, first, second, falls, Placed, placed, AreBins-at}
use Rattle.reg_arena.proofs.Contents.CellContents.{AreOrdered, AreOrdered-AreBins, AreOrdered-back, AreOrdered-Tiles}
use Rattle.reg_arena.proofs.Freeing.MergedCells.{PlacedRow}

-- a cell after another begins at its end or later
ordered-after : (at : ℕ) (xs : List Cell) (c : Cell) (zs : List Cell) (d : Cell) (ys : List Cell) → AreOrdered at (xs ++ c ∷ (zs ++ d ∷ ys)) → c.offset + c.size ≤ d.offset
ordered-after at xs c zs d ys h =
    let r = AreOrdered-back at xs (c ∷ (zs ++ d ∷ ys)) h in
    let s = AreOrdered-back (c.offset + c.size) zs (d ∷ ys) r.2 in
    s.0

before-by : (at : ℕ) (ds : List Cell) (d : Cell) (bs xs : List Cell) (c : Cell) (ys : List Cell) → AreOrdered at (ds ++ d ∷ bs) → 8 ≤ d.size →
    d.offset + d.size ≡ c.offset → (zs : List Cell) → xs ≡ ds ++ zs → d ∷ bs ≡ zs ++ c ∷ ys → (xs ≡ ds ++ d ∷ []) × (bs ≡ c ∷ ys)
before-by at ds d bs xs c ys o e t [] a b = let same : d ≡ c = cc in let f = ap (λ (x : Cell). x.offset) same in absurd (omega arith)
before-by at ds d bs xs c ys o e t (z ∷ []) a b = let same : z ≡ d = cc in let rest : bs ≡ c ∷ ys = cc in (a ∙ ap (λ (x : Cell). ds ++ x ∷ []) same, rest)
before-by at ds d bs xs c ys o e t (z ∷ (w ∷ zs)) a b =
    let rest : bs ≡ w ∷ (zs ++ c ∷ ys) = cc in
    let o' : AreOrdered at (ds ++ d ∷ (w ∷ (zs ++ c ∷ ys))) = subst (λ (l : List Cell). AreOrdered at (ds ++ d ∷ l)) rest o in
    let x : d.offset + d.size ≤ w.offset = ordered-after at ds d [] w (zs ++ c ∷ ys) o' in
    let r = AreOrdered-back at ds _ o' in
    let y : w.offset + w.size ≤ c.offset = ordered-after (d.offset + d.size) [] w zs c ys r.2 in
    absurd (omega (arith, r.2.1))

before-falls : (at : ℕ) (ds : List Cell) (d : Cell) (bs xs : List Cell) (c : Cell) (ys : List Cell) → AreOrdered at (ds ++ d ∷ bs) → 8 ≤ d.size →
    d.offset + d.size ≡ c.offset → Falls ds (d ∷ bs) xs c ys → (xs ≡ ds ++ d ∷ []) × (bs ≡ c ∷ ys)
before-falls at ds d bs xs c ys o e t (first zs a b) =
    let o' : AreOrdered at (xs ++ c ∷ (zs ++ d ∷ bs)) = subst (AreOrdered at) (ap (λ (l : List Cell). l ++ d ∷ bs) a ∙ append_assoc xs (c ∷ zs) (d ∷ bs)) o in
    let l = ordered-after at xs c zs d bs o' in
    absurd (omega arith)
before-falls at ds d bs xs c ys o e t (second zs a b) = before-by at ds d bs xs c ys o e t zs a b

-- the cell that ends where another begins stands right before it
pub neighbour : (at : ℕ) (ds : List Cell) (d : Cell) (bs xs : List Cell) (c : Cell) (ys : List Cell) → AreOrdered at (ds ++ d ∷ bs) →
    ds ++ d ∷ bs ≡ xs ++ c ∷ ys → d.offset + d.size ≡ c.offset → (xs ≡ ds ++ d ∷ []) × (bs ≡ c ∷ ys)
neighbour at ds d bs xs c ys o e t =
    let r = AreOrdered-back at ds (d ∷ bs) o in
    before-falls at ds d bs xs c ys o r.1 t (falls ds (d ∷ bs) xs c ys e)

bins-after : (bytes : List ℕ) (at : ℕ) (qs : List Bin) (c : Cell) (ys : List Cell) → AreBins bytes at qs → c ∷ ys ≡ cells_in qs → at + 32 ≤ c.offset
bins-after bytes at [] c ys h e = absurd (cc)
bins-after bytes at (q ∷ qs) c ys h e =
    let o : AreOrdered (at + 32) (cells_in (q ∷ qs)) = AreOrdered-Tiles bytes (at + 32) (at + q.size) q.cells (cells_in qs) h.2 (AreOrdered-AreBins bytes (at + q.size) qs h.3) in
    let p : AreOrdered (at + 32) (c ∷ ys) = subst (AreOrdered (at + 32)) (sym e) o in
    p.0

pub AreBins-rest : (bytes : List ℕ) (at : ℕ) (ps : List Bin) (b : Bin) (qs : List Bin) → AreBins bytes at (ps ++ b ∷ qs) → AreBins bytes (b.start + b.size) qs
AreBins-rest bytes at [] b qs h = rw h.0 h.3
AreBins-rest bytes at (p ∷ ps) b qs h = AreBins-rest bytes (at + p.size) ps b qs h.3

row-by : (bytes : List ℕ) (layout : List Bin) (ds : List Cell) (d c : Cell) (ys : List Cell) (p : Placed layout ds d (c ∷ ys)) →
    AreBins bytes 0 layout → d.offset + d.size ≡ c.offset → (vs : List Cell) → p.vs ≡ vs → c ∷ ys ≡ vs ++ cells_in p.qs →
    PlacedRow layout ds (d ∷ (c ∷ [])) ys
row-by bytes layout ds d c ys p h t [] e f =
    let laid = subst (AreBins bytes 0) p.bins h in
    let here = AreBins-at bytes 0 p.ps p.b p.qs laid in
    let tiles = Tiles-back bytes (p.b.start + 32) (p.b.start + p.b.size) p.us (d ∷ p.vs) (rw p.cells at here.1) in
    let l = bins-after bytes (p.b.start + p.b.size) p.qs c ys (AreBins-rest bytes 0 p.ps p.b p.qs laid) f in
    absurd (omega (arith, tiles.1.within))
row-by bytes layout ds d c ys p h t (v ∷ vs) e f =
    let same : c ≡ v = cc in
    let rest : ys ≡ vs ++ cells_in p.qs = cc in
    record {
      ps = p.ps;
      b = p.b;
      qs = p.qs;
      us = p.us;
      vs = vs;
      bins = p.bins;
      cells = p.cells ∙ ap (λ (l : List Cell). p.us ++ d ∷ l)
          (e ∙ ap (λ (x : Cell). x ∷ vs) (sym same));
      before = p.before;
      after = rest;
    }

-- two cells that touch are a row of one bin
pub row-of-two : (bytes : List ℕ) (layout : List Bin) (ds : List Cell) (d c : Cell) (ys : List Cell) → AreBins bytes 0 layout →
    cells_in layout ≡ ds ++ d ∷ (c ∷ ys) → d.offset + d.size ≡ c.offset → PlacedRow layout ds (d ∷ (c ∷ [])) ys
row-of-two bytes layout ds d c ys h e t =
    let p = placed layout ds d (c ∷ ys) e in
    row-by bytes layout ds d c ys p h t p.vs refl p.after
