-- Cells that tile a piece of the bins, and what an edit between two places leaves.
use Rattle.std.proofs.Common.{◌≡◌, ℕ, zero, suc, ◌+◌, ◌%◌, ◌<◌, ◌≤◌, true, List, [], ◌∷◌, ◌++◌, length, refl, sym, ap, ◌∙◌, subst, arith, Option, Some, ◌&&◌, eqb, ltb, leb, add_assoc}
use Rattle.std.proofs.lemmas.Bool.{and_from, eq-eqb, lt-ltb, le-leb, ne_eqb}
use Rattle.reg_heap.specs.ByteWords.{word, SameOutside}
use Rattle.reg_arena.specs.declared.Cell.{Cell}
use Rattle.std.specs.Option.{option_and_then}
use Rattle.reg_arena.specs.Cells.{Bin, BinPlace, IsCell, IsHeader, Tiles, AreBins, cells_in, cells_from, bins_from, bins_of, cells_of_bins}
use Rattle.reg_arena.specs.Cells.{cells_of, content_in, content_of, cell_at, size_in, is_allocated_in}
use Rattle.reg_arena.proofs.Contents.ByteSplices.{word-same_below, word-same_above}

-- the bytes of some cells
abbrev pub sizes : List Cell → ℕ
sizes [] = 0
sizes (c ∷ cs) = c.size + sizes cs

-- a cell has room for its size field
pub IsCell-eight : {bins : List ℕ} {stop : ℕ} {c : Cell} → IsCell bins stop c → 8 ≤ c.size
IsCell-eight h = omega (arith, h.positive, h.eights)

pub IsCell-within : {bins : List ℕ} {stop : ℕ} {c : Cell} (end : ℕ) → IsCell bins stop c → c.offset + c.size ≤ end → IsCell bins end c
IsCell-within end h l = record { size = h.size; allocated = h.allocated; positive = h.positive; eights = h.eights; within = l }

pub IsCell-same : {old new : List ℕ} {stop : ℕ} {c : Cell} → word new c.offset ≡ word old c.offset → IsCell old stop c → IsCell new stop c
IsCell-same e h = record { size = rw e h.size; allocated = rw e h.allocated; positive = h.positive; eights = h.eights; within = h.within }

pub Tiles-le : (bins : List ℕ) (at stop : ℕ) (cs : List Cell) → Tiles bins at stop cs → at ≤ stop
Tiles-le bins at stop [] h = omega arith
Tiles-le bins at stop (c ∷ cs) h = let l = Tiles-le bins (at + c.size) stop cs h.2 in omega arith

pub Tiles-append : (bins : List ℕ) (at mid stop : ℕ) (xs ys : List Cell) → Tiles bins at mid xs → Tiles bins mid stop ys → Tiles bins at stop (xs ++ ys)
Tiles-append bins at mid stop [] ys a b = subst (λ (k : ℕ). Tiles bins k stop ys) (sym a) b
Tiles-append bins at mid stop (c ∷ xs) ys a b =
    let l = Tiles-le bins mid stop ys b in
    (a.0, IsCell-within stop a.1 (omega (arith, a.1.within)), Tiles-append bins (at + c.size) mid stop xs ys a.2 b)

pub Tiles-back : (bins : List ℕ) (at stop : ℕ) (xs ys : List Cell) → Tiles bins at stop (xs ++ ys) → Tiles bins (at + sizes xs) stop ys
Tiles-back bins at stop [] ys h = let e : at + 0 ≡ at = omega arith in rw e h
Tiles-back bins at stop (c ∷ xs) ys h =
    rw (← add_assoc at c.size (sizes xs)) (Tiles-back bins (at + c.size) stop xs ys h.2)

pub Tiles-front : (bins : List ℕ) (at stop : ℕ) (xs ys : List Cell) → Tiles bins at stop (xs ++ ys) → Tiles bins at (at + sizes xs) xs
Tiles-front bins at stop [] ys h = omega arith
Tiles-front bins at stop (c ∷ xs) ys h =
    (h.0, IsCell-within _ h.1 (omega arith), rw (← add_assoc at c.size (sizes xs)) (Tiles-front bins (at + c.size) stop xs ys h.2))

pub Tiles-same_below : {lo hi : ℕ} {old new : List ℕ} → SameOutside lo hi old new → (at stop : ℕ) (cs : List Cell) → stop ≤ lo → Tiles old at stop cs → Tiles new at stop cs
Tiles-same_below s at stop [] l h = h
Tiles-same_below s at stop (c ∷ cs) l h =
    let e = IsCell-eight h.1 in
    (h.0, IsCell-same (word-same_below s c.offset (omega (arith, h.1.within))) h.1, Tiles-same_below s (at + c.size) stop cs l h.2)

pub Tiles-same_above : {lo hi : ℕ} {old new : List ℕ} → SameOutside lo hi old new → (at stop : ℕ) (cs : List Cell) → hi ≤ at → Tiles old at stop cs → Tiles new at stop cs
Tiles-same_above s at stop [] l h = h
Tiles-same_above s at stop (c ∷ cs) l h =
    (h.0, IsCell-same (word-same_above s c.offset (omega arith)) h.1, Tiles-same_above s (at + c.size) stop cs (omega arith) h.2)

-- some cells in the middle give way to others over the same bytes
pub Tiles-edit : {lo hi : ℕ} {old new : List ℕ} → SameOutside lo hi old new → (at stop : ℕ) (xs mid mid' ys : List Cell) → at + sizes xs ≡ lo →
    lo + sizes mid ≡ hi → Tiles old at stop (xs ++ (mid ++ ys)) → Tiles new lo hi mid' → Tiles new at stop (xs ++ (mid' ++ ys))
Tiles-edit {lo = lo} {hi = hi} {old = old} {new = new} s at stop xs mid mid' ys a b h t =
    let front : Tiles old at lo xs = rw (← a) (Tiles-front old at stop xs (mid ++ ys) h) in
    let rest : Tiles old lo stop (mid ++ ys) = rw (← a) (Tiles-back old at stop xs (mid ++ ys) h) in
    let back : Tiles old hi stop ys = rw (← b) (Tiles-back old lo stop mid ys rest) in
    Tiles-append new at lo stop xs (mid' ++ ys) (Tiles-same_below s at lo xs (omega arith) front)
    (Tiles-append new lo hi stop mid' ys t (Tiles-same_above s hi stop ys (omega arith) back))

pub IsHeader-same_below : {lo hi : ℕ} {old new : List ℕ} → SameOutside lo hi old new → (b : Bin) → b.start + 32 ≤ lo → IsHeader old b → IsHeader new b
IsHeader-same_below s b l h = record {
  signature = rw (word-same_below s b.start (omega arith)) h.signature;
  place = rw (word-same_below s (b.start + 4) (omega arith)) h.place;
  size = rw (word-same_below s (b.start + 8) (omega arith)) h.size;
  positive = h.positive;
  pages = h.pages;
  within = rw s.long h.within;
}

pub IsHeader-same_above : {lo hi : ℕ} {old new : List ℕ} → SameOutside lo hi old new → (b : Bin) → hi ≤ b.start → IsHeader old b → IsHeader new b
IsHeader-same_above s b l h = record {
  signature = rw (word-same_above s b.start (omega arith)) h.signature;
  place = rw (word-same_above s (b.start + 4) (omega arith)) h.place;
  size = rw (word-same_above s (b.start + 8) (omega arith)) h.size;
  positive = h.positive;
  pages = h.pages;
  within = rw s.long h.within;
}

pub AreBins-same_above : {lo hi : ℕ} {old new : List ℕ} → SameOutside lo hi old new → (at : ℕ) (bs : List Bin) → hi ≤ at → AreBins old at bs → AreBins new at bs
AreBins-same_above s at [] l h = rw s.long h
AreBins-same_above s at (b ∷ bs) l h =
    (h.0, IsHeader-same_above s b (omega arith) h.1, Tiles-same_above s (at + 32) (at + b.size) b.cells (omega arith) h.2, AreBins-same_above s (at + b.size) bs (omega arith) h.3)

-- a bin with other cells
abbrev pub with_cells : Bin → List Cell → Bin
with_cells b cs = record { start = b.start; size = b.size; cells = cs }

pub IsHeader-cells : {bins : List ℕ} {b : Bin} (cs : List Cell) → IsHeader bins b → IsHeader bins (with_cells b cs)
IsHeader-cells cs h = record { signature = h.signature; place = h.place; size = h.size; positive = h.positive; pages = h.pages; within = h.within }

pub AreBins-start : (bins : List ℕ) (at : ℕ) (ps : List Bin) (b : Bin) (qs : List Bin) → AreBins bins at (ps ++ b ∷ qs) → at ≤ b.start
AreBins-start bins at [] b qs h = omega arith
AreBins-start bins at (p ∷ ps) b qs h = let l = AreBins-start bins (at + p.size) ps b qs h.3 in omega arith

-- an edit in one bin
pub AreBins-edit : {lo hi : ℕ} {old new : List ℕ} → SameOutside lo hi old new →
    (at : ℕ) (ps : List Bin) (b : Bin) (qs : List Bin) (xs mid mid' ys : List Cell) → b.cells ≡ xs ++ (mid ++ ys) → b.start + 32 + sizes xs ≡ lo →
    lo + sizes mid ≡ hi → AreBins old at (ps ++ b ∷ qs) → Tiles new lo hi mid' → AreBins new at (ps ++ with_cells b (xs ++ (mid' ++ ys)) ∷ qs)
AreBins-edit {lo = lo} {hi = hi} {old = old} {new = new} s at [] b qs xs mid mid' ys e a l h t =
    let was : Tiles old (at + 32) (at + b.size) (xs ++ (mid ++ ys)) = rw (← e) h.2 in
    let start : at + 32 + sizes xs ≡ lo = omega arith in
    let rest : Tiles old lo (at + b.size) (mid ++ ys) = rw (← start) (Tiles-back old (at + 32) (at + b.size) xs (mid ++ ys) was) in
    let back : Tiles old hi (at + b.size) ys = rw (← l) (Tiles-back old lo (at + b.size) mid ys rest) in
    let top = Tiles-le old hi (at + b.size) ys back in
    (h.0, IsHeader-cells _ (IsHeader-same_below s b (omega arith) h.1), Tiles-edit s (at + 32) (at + b.size) xs mid mid' ys start l was t, AreBins-same_above s (at + b.size) qs top h.3)
AreBins-edit {lo = lo} {old = old} s at (p ∷ ps) b qs xs mid mid' ys e a l h t =
    let first = AreBins-start old (at + p.size) ps b qs h.3 in
    let under = Tiles-le old (at + 32) (at + p.size) p.cells h.2 in
    (h.0, IsHeader-same_below s p (omega arith) h.1, Tiles-same_below s (at + 32) (at + p.size) p.cells (omega arith) h.2, AreBins-edit s (at + p.size) ps b qs xs mid mid' ys e a l h.3 t)

-- ---- the function of the bytes agrees

good_size : (at stop size : ℕ) → 0 < size → size % 8 ≡ 0 → at + size ≤ stop → (ltb 0 size && eqb (size % 8) 0 && leb (at + size) stop) ≡ true
good_size at stop size a b c = and_from _ _ (and_from _ _ (lt-ltb 0 size a) (eq-eqb (size % 8) 0 b)) (le-leb (at + size) stop c)

cells_from-step : (steps : ℕ) (bins : List ℕ) (at stop size : ℕ) (cs : List Cell) → (at ≡ stop → ⊥) → size_in (word bins at) ≡ size → 0 < size →
    size % 8 ≡ 0 → at + size ≤ stop → cells_from steps bins (at + size) stop ≡ Some cs →
    cells_from (suc steps) bins at stop ≡ Some (record { offset = at; size = size; allocated = is_allocated_in (word bins at) } ∷ cs)
cells_from-step steps bins at stop size cs ne e a b c r = rw (ne_eqb at stop ne, e, good_size at stop size a b c, r) refl

pub cells_from-Tiles : (steps : ℕ) (bins : List ℕ) (at stop : ℕ) (cs : List Cell) → stop < steps + at → Tiles bins at stop cs → cells_from steps bins at stop ≡ Some cs
cells_from-Tiles zero bins at stop cs l h = let m = Tiles-le bins at stop cs h in absurd (omega arith)
cells_from-Tiles (suc steps) bins at stop [] l h = rw (eq-eqb at stop h) refl
cells_from-Tiles (suc steps) bins at stop (c ∷ cs) l h =
    let o : c.offset ≡ at = h.0 in
    let size : size_in (word bins at) ≡ c.size = subst (λ (k : ℕ). size_in (word bins k) ≡ c.size) o h.1.size in
    let allocated : is_allocated_in (word bins at) ≡ c.allocated = subst (λ (k : ℕ). is_allocated_in (word bins k) ≡ c.allocated) o h.1.allocated in
    let below : at + c.size ≤ stop = omega (arith, h.1.within) in
    let rest = cells_from-Tiles steps bins (at + c.size) stop cs (omega (arith, h.1.positive)) h.2 in
    let same : record { offset = at; size = c.size; allocated = is_allocated_in (word bins at) } ≡ c = rw (allocated, ← o) refl in
    cells_from-step steps bins at stop c.size cs (λ e. omega (arith, h.1.positive)) size h.1.positive h.1.eights below rest ∙ ap (λ (x : Cell). Some (x ∷ cs)) same

good_header : (bins : List ℕ) (at size : ℕ) → word bins at ≡ 1852400232 → word bins (at + 4) ≡ at → 0 < size → size % 4096 ≡ 0 →
    at + size ≤ length bins → (eqb (word bins at) 1852400232 && eqb (word bins (at + 4)) at && ltb 0 size && eqb (size % 4096) 0 && leb (at + size)
    (length bins)) ≡ true
good_header bins at size a b c d e = and_from _ _ (and_from _ _ (and_from _ _ (and_from _ _ (eq-eqb _ _ a) (eq-eqb _ _ b)) (lt-ltb 0 size c)) (eq-eqb _ _ d)) (le-leb _ _ e)

-- the bins of a layout, as their headers say
abbrev pub places : List Bin → List BinPlace
places [] = []
places (b ∷ bs) = record { start = b.start; size = b.size } ∷ places bs

bins_from-step : (steps : ℕ) (bins : List ℕ) (at size : ℕ) (rest : List BinPlace) → (at ≡ length bins → ⊥) → word bins at ≡ 1852400232 →
    word bins (at + 4) ≡ at → word bins (at + 8) ≡ size → 0 < size → size % 4096 ≡ 0 → at + size ≤ length bins →
    bins_from steps bins (at + size) ≡ Some rest → bins_from (suc steps) bins at ≡ Some (record { start = at; size = size } ∷ rest)
bins_from-step steps bins at size rest ne s p z a b c r = rw (ne_eqb at (length bins) ne, z, good_header bins at size s p a b c, r) refl

pub bins_from-AreBins : (steps : ℕ) (bins : List ℕ) (at : ℕ) (bs : List Bin) → length bins < steps + at → at ≤ length bins → AreBins bins at bs → bins_from steps bins at ≡ Some (places bs)
bins_from-AreBins zero bins at bs l m h = absurd (omega arith)
bins_from-AreBins (suc steps) bins at [] l m h = rw (eq-eqb at (length bins) h) refl
bins_from-AreBins (suc steps) bins at (b ∷ bs) l m h =
    let o : b.start ≡ at = h.0 in
    let signature : word bins at ≡ 1852400232 = subst (λ (k : ℕ). word bins k ≡ 1852400232) o h.1.signature in
    let place : word bins (at + 4) ≡ at = subst (λ (k : ℕ). word bins (k + 4) ≡ k) o h.1.place in
    let size : word bins (at + 8) ≡ b.size = subst (λ (k : ℕ). word bins (k + 8) ≡ b.size) o h.1.size in
    let below : at + b.size ≤ length bins = omega (arith, h.1.within) in
    let same : Some (record { start = at; size = b.size } ∷ places bs) ≡ Some (places (b ∷ bs)) = ap (λ (k : ℕ). Some (record { start = k; size = b.size } ∷ places bs)) (sym o) in
    bins_from-step steps bins at b.size (places bs) (λ e. omega (arith, h.1.positive)) signature place size h.1.positive h.1.pages below
    (bins_from-AreBins steps bins (at + b.size) bs (omega (arith, h.1.positive)) below h.3) ∙ same

-- the bins that are laid out so
pub bins_of-AreBins : (bins : List ℕ) (bs : List Bin) → AreBins bins 0 bs → bins_of bins ≡ Some (places bs)
bins_of-AreBins bins bs h = bins_from-AreBins (suc (length bins)) bins 0 bs (omega arith) (omega arith) h

cells_of_bins-AreBins : (bins : List ℕ) (at : ℕ) (bs : List Bin) → AreBins bins at bs → cells_of_bins bins (places bs) ≡ Some (cells_in bs)
cells_of_bins-AreBins bins at [] h = refl
cells_of_bins-AreBins bins at (b ∷ bs) h =
    let tiles : Tiles bins (b.start + 32) (b.start + b.size) b.cells = rw h.0 h.2 in
    let front = cells_from-Tiles (suc b.size) bins (b.start + 32) (b.start + b.size) b.cells (omega arith) tiles in
    rw (front, cells_of_bins-AreBins bins (at + b.size) bs h.3) refl

-- the cells of bins that are laid out so
pub cells_of-AreBins : (bins : List ℕ) (bs : List Bin) → AreBins bins 0 bs → cells_of bins ≡ Some (cells_in bs)
unfolding cells_of
cells_of-AreBins bins bs h = ap (λ (o : Option (List BinPlace)). option_and_then (cells_of_bins bins) o) (bins_of-AreBins bins bs h) ∙ cells_of_bins-AreBins bins 0 bs h

pub cell_at-AreBins : (bins : List ℕ) (bs : List Bin) (offset : ℕ) → AreBins bins 0 bs → cell_at bins offset ≡ content_in bins (cells_in bs) offset
unfolding cell_at
cell_at-AreBins bins bs offset h = ap (λ (o : Option (List Cell)). content_of bins o offset) (cells_of-AreBins bins bs h)
