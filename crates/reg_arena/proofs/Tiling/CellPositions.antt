-- Where a cell stands among the bins.
use Rattle.std.proofs.Common.{◌≡◌, ℕ, ◌+◌, ◌-◌, ◌≤◌, Bool, true, false, List, [], ◌∷◌, ◌++◌, length, take, drop, refl, sym, ap, ◌∙◌, arith, append_assoc, Some, ◌&&◌, eqb, is_some}
use Rattle.std.proofs.lemmas.Bool.{and_parts, eqb-true}
use Rattle.reg_arena.specs.declared.Cell.{Cell}
use Rattle.reg_arena.specs.Cells.{Bin, IsCell, IsHeader, Tiles, AreBins, cells_in, content_in}
use Rattle.reg_arena.proofs.Tiling.Tilings.{sizes, Tiles-back}

-- where the head of the second part of a list falls, when the list is also cut elsewhere
pub data Falls {A : Type 0} (us vs xs : List A) (c : A) (ys : List A) : Type 0 where
  first : (zs : List A) → us ≡ xs ++ c ∷ zs → ys ≡ zs ++ vs → Falls us vs xs c ys
  second : (zs : List A) → xs ≡ us ++ zs → vs ≡ zs ++ c ∷ ys → Falls us vs xs c ys

falls-cons : {A : Type 0} (u : A) (us vs xs : List A) (c : A) (ys : List A) → Falls us vs xs c ys → Falls (u ∷ us) vs (u ∷ xs) c ys
falls-cons u us vs xs c ys (first zs a b) = first zs (ap (λ t. u ∷ t) a) b
falls-cons u us vs xs c ys (second zs a b) = second zs (ap (λ t. u ∷ t) a) b

pub falls : {A : Type 0} (us vs xs : List A) (c : A) (ys : List A) → us ++ vs ≡ xs ++ c ∷ ys → Falls us vs xs c ys
falls [] vs xs c ys h = second xs refl h
falls (u ∷ us) vs [] c ys h =
    let a : u ≡ c = cc in
    let b : us ++ vs ≡ ys = cc in
    first us (ap (λ t. t ∷ us) a) (sym b)
falls (u ∷ us) vs (x ∷ xs) c ys h =
    let a : u ≡ x = cc in
    let b : us ++ vs ≡ xs ++ c ∷ ys = cc in
    rw a (falls-cons x us vs xs c ys (falls us vs xs c ys b))

-- a cell of the list stands in one bin
pub record Placed (layout : List Bin) (xs : List Cell) (c : Cell) (ys : List Cell) : Type 0 where
  pub ps : List Bin
  pub b : Bin
  pub qs : List Bin
  pub us : List Cell
  pub vs : List Cell
  pub bins : layout ≡ ps ++ b ∷ qs
  pub cells : b.cells ≡ us ++ c ∷ vs
  pub before : xs ≡ cells_in ps ++ us
  pub after : ys ≡ vs ++ cells_in qs

placed-from : (p : Bin) (layout : List Bin) (xs : List Cell) (c : Cell) (ys : List Cell) → ((zs : List Cell) → cells_in layout ≡ zs ++ c ∷ ys →
    Placed layout zs c ys) → Falls p.cells (cells_in layout) xs c ys → Placed (p ∷ layout) xs c ys
placed-from p layout xs c ys rest (first zs a b) = record { ps = []; b = p; qs = layout; us = xs; vs = zs; bins = refl; cells = a; before = refl; after = b }
placed-from p layout xs c ys rest (second zs a b) =
    let r = rest zs b in
    record {
      ps = p ∷ r.ps;
      b = r.b;
      qs = r.qs;
      us = r.us;
      vs = r.vs;
      bins = ap (λ t. p ∷ t) r.bins;
      cells = r.cells;
      before = a ∙
          ap (λ t. p.cells ++ t) r.before ∙ sym (append_assoc p.cells (cells_in r.ps) r.us);
      after = r.after;
    }

pub placed : (layout : List Bin) (xs : List Cell) (c : Cell) (ys : List Cell) → cells_in layout ≡ xs ++ c ∷ ys → Placed layout xs c ys
placed [] [] c ys h = absurd (cc)
placed [] (x ∷ xs) c ys h = absurd (cc)
placed (p ∷ layout) xs c ys h = placed-from p layout xs c ys (λ zs e. placed layout zs c ys e) (falls p.cells (cells_in layout) xs c ys h)

-- the cell that a lookup finds
pub record Looked (bytes : List ℕ) (cells : List Cell) (offset : ℕ) : Type 0 where
  pub xs : List Cell
  pub c : Cell
  pub ys : List Cell
  pub cells_are : cells ≡ xs ++ c ∷ ys
  pub offset_is : c.offset ≡ offset
  pub allocated : c.allocated ≡ true
  pub content : content_in bytes cells offset ≡ Some (take (c.size - 4) (drop (c.offset + 4) bytes))

looked-cons : (bytes : List ℕ) (c : Cell) (cells : List Cell) (offset : ℕ) (b : Bool) → eqb c.offset offset && c.allocated ≡ b →
    is_some (content_in bytes (c ∷ cells) offset) ≡ true → (is_some (content_in bytes cells offset) ≡ true → Looked bytes cells offset) →
    Looked bytes (c ∷ cells) offset
looked-cons bytes c cells offset true e h rest =
    let parts = and_parts (eqb c.offset offset) c.allocated e in
    record { xs = []; c = c; ys = cells; cells_are = refl; offset_is = eqb-true _ _ parts.0; allocated = parts.1; content = rw e refl }
looked-cons bytes c cells offset false e h rest =
    let r = rest (rw e at h) in
    record { xs = c ∷ r.xs; c = r.c; ys = r.ys; cells_are = ap (λ t. c ∷ t) r.cells_are; offset_is = r.offset_is; allocated = r.allocated; content = rw e r.content }

pub looked : (bytes : List ℕ) (cells : List Cell) (offset : ℕ) → is_some (content_in bytes cells offset) ≡ true → Looked bytes cells offset
looked bytes [] offset h = absurd (cc)
looked bytes (c ∷ cells) offset h = looked-cons bytes c cells offset (eqb c.offset offset && c.allocated) refl h (λ e. looked bytes cells offset e)

-- a cell of a bin stands after the header and within the bytes
pub record Stands (bytes : List ℕ) (layout : List Bin) (xs : List Cell) (c : Cell) (ys : List Cell) : Type 0 where
  pub place : Placed layout xs c ys
  pub cell : IsCell bytes (length bytes) c
  pub start : place.b.start + 32 + sizes place.us ≡ c.offset
  pub header : place.b.start + 32 ≤ c.offset
  pub bin : c.offset + c.size ≤ place.b.start + place.b.size
  pub within : place.b.start + place.b.size ≤ length bytes

pub AreBins-at : (bytes : List ℕ) (at : ℕ) (ps : List Bin) (b : Bin) (qs : List Bin) → AreBins bytes at (ps ++ b ∷ qs) → IsHeader bytes b × Tiles bytes (b.start + 32) (b.start + b.size) b.cells
AreBins-at bytes at [] b qs h = (h.1, rw h.0 h.2)
AreBins-at bytes at (p ∷ ps) b qs h = AreBins-at bytes (at + p.size) ps b qs h.3

pub stands : (bytes : List ℕ) (layout : List Bin) (xs : List Cell) (c : Cell) (ys : List Cell) → AreBins bytes 0 layout → cells_in layout ≡ xs ++ c ∷ ys → Stands bytes layout xs c ys
stands bytes layout xs c ys h e =
    let p = placed layout xs c ys e in
    let at = AreBins-at bytes 0 p.ps p.b p.qs (rw p.bins at h) in
    let tiles = Tiles-back bytes (p.b.start + 32) (p.b.start + p.b.size) p.us (c ∷ p.vs) (rw p.cells at at.1) in
    record {
      place = p;
      cell = record { size = tiles.1.size; allocated = tiles.1.allocated; positive = tiles.1.positive; eights = tiles.1.eights; within = omega (arith, at.0.within, tiles.1.within) };
      start = omega (arith, tiles.0);
      header = omega (arith, tiles.0);
      bin = tiles.1.within;
      within = at.0.within;
    }
