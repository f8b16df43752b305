-- A walk over the cells, under way.
use Rattle.std.proofs.Common.{◌≡◌, ℕ, suc, ◌+◌, ◌<◌, ◌≤◌, List, [], ◌∷◌, ◌++◌, length, refl, sym, ap, ◌∙◌, subst, arith, append_assoc, Some}
use Rattle.std.proofs.lemmas.List.{append-nil}
use Rattle.std.proofs.lemmas.Option.{same_Some}
use Rattle.reg_heap.specs.ByteWords.{word}
use Rattle.reg_arena.specs.declared.Cell.{Cell}
use Rattle.reg_arena.specs.Cells.{Bin, Tiles, AreBins, cells_in, cells_of, size_in, is_allocated_in}
use Rattle.reg_arena.specs.Internal.CellWalks.{IsTiled, IsRowOfBins, PushesCells}
use Rattle.reg_arena.proofs.Tiling.Tilings.{Tiles-le, Tiles-append, cells_from-Tiles, cells_of-AreBins, IsCell-eight, IsCell-within}
use Rattle.reg_arena.proofs.Carving.BinAppend.{cells_in-append}

-- the cells up to at were met
pub record Walked (bins : List ℕ) (from at stop : ℕ) (old now : List Cell) : Type 0 where
  pub done : List Cell
  pub rest : List Cell
  pub front : Tiles bins from at done
  pub back : Tiles bins at stop rest
  pub items : now ≡ old ++ done

pub walked-none : (bins : List ℕ) (from stop : ℕ) (old : List Cell) → IsTiled bins from stop → Walked bins from from stop old old
walked-none bins from stop old t = record { done = []; rest = t.cells; front = refl; back = t.tiles; items = sym (append-nil old) }

-- what is known of the cell at hand
pub record AtCell (bins : List ℕ) (at stop : ℕ) : Type 0 where
  pub eight : 8 ≤ size_in (word bins at)
  pub within : at + size_in (word bins at) ≤ stop

at_cell-by : (bins : List ℕ) (at stop : ℕ) (rest : List Cell) → at < stop → Tiles bins at stop rest → AtCell bins at stop
at_cell-by bins at stop [] l h = absurd (omega arith)
at_cell-by bins at stop (c ∷ rest) l h =
    let size : size_in (word bins at) ≡ c.size = subst (λ (k : ℕ). size_in (word bins k) ≡ c.size) h.0 h.1.size in
    let eight = IsCell-eight h.1 in
    record { eight = omega arith; within = omega (arith, h.1.within) }

pub at_cell : (bins : List ℕ) (from at stop : ℕ) (old now : List Cell) → at < stop → Walked bins from at stop old now → AtCell bins at stop
at_cell bins from at stop old now l w = at_cell-by bins at stop w.rest l w.back

more-by : (bins : List ℕ) (from at stop : ℕ) (old now done rest : List Cell) → at < stop → Tiles bins from at done → Tiles bins at stop rest →
    now ≡ old ++ done → Walked bins from (at + size_in (word bins at)) stop old (now ++ record {
      offset = at;
      size = size_in (word bins at);
      allocated = is_allocated_in (word bins at);
    } ∷ [])
more-by bins from at stop old now done [] l f b e = absurd (omega arith)
more-by bins from at stop old now done (c ∷ rest) l f b e =
    let size : size_in (word bins at) ≡ c.size = subst (λ (k : ℕ). size_in (word bins k) ≡ c.size) b.0 b.1.size in
    let allocated : is_allocated_in (word bins at) ≡ c.allocated = subst (λ (k : ℕ). is_allocated_in (word bins k) ≡ c.allocated) b.0 b.1.allocated in
    let same : record { offset = at; size = c.size; allocated = c.allocated } ≡ c = rw (← b.0) refl in
    let one : Tiles bins at (at + c.size) (c ∷ []) = (b.0, IsCell-within (at + c.size) b.1 (omega arith), refl) in
    rw (size, allocated) (record {
      done = done ++ c ∷ [];
      rest = rest;
      front = Tiles-append bins from at (at + c.size) done (c ∷ []) f one;
      back = b.2;
      items = ap (λ (d : Cell). now ++ d ∷ []) same ∙ ap (λ (t : List Cell). t ++ c ∷ []) e ∙ append_assoc old done (c ∷ []);
    })

pub walked-more : (bins : List ℕ) (from at stop : ℕ) (old now : List Cell) → at < stop → Walked bins from at stop old now →
    Walked bins from (at + size_in (word bins at)) stop old (now ++ record {
      offset = at;
      size = size_in (word bins at);
      allocated =
          is_allocated_in (word bins at);
    } ∷ [])
walked-more bins from at stop old now l w = more-by bins from at stop old now w.done w.rest l w.front w.back w.items

pub walked-all : (bins : List ℕ) (from at stop : ℕ) (old now : List Cell) → stop ≤ at → Walked bins from at stop old now → PushesCells bins from stop old now
walked-all bins from at stop old now l w =
    let below = Tiles-le bins at stop w.rest w.back in
    let e : at ≡ stop = omega arith in
    record { cells = w.done; tiles = subst (λ (k : ℕ). Tiles bins from k w.done) e w.front; items = w.items }

-- ---- the bins

-- the bins up to at were met
pub record WalkedBins (bins : List ℕ) (at : ℕ) (now : List Cell) : Type 0 where
  pub done : List Bin
  pub rest : List Bin
  pub layout : AreBins bins 0 (done ++ rest)
  pub here : AreBins bins at rest
  pub items : now ≡ cells_in done

pub walked_bins-none : (bins : List ℕ) → IsRowOfBins bins → WalkedBins bins 0 []
walked_bins-none bins r = record { done = []; rest = r.layout; layout = r.tiled; here = r.tiled; items = refl }

-- what is known of the bin at hand
pub record AtBin (bins : List ℕ) (at size : ℕ) : Type 0 where
  pub tiled : IsTiled bins (at + 32) (at + size)
  pub page : 4096 ≤ size
  pub within : at + size ≤ length bins

pub at_bin-by : (bins : List ℕ) (at : ℕ) (rest : List Bin) → at < length bins → AreBins bins at rest → AtBin bins at (word bins (at + 8))
at_bin-by bins at [] l h = absurd (omega arith)
at_bin-by bins at (b ∷ rest) l h =
    let size : word bins (at + 8) ≡ b.size = subst (λ (k : ℕ). word bins (k + 8) ≡ b.size) h.0 h.1.size in
    subst (AtBin bins at) (sym size) (record { tiled = record { cells = b.cells; tiles = h.2 }; page = omega (arith, h.1.positive, h.1.pages); within = omega (arith, h.1.within) })

pub at_bin : (bins : List ℕ) (at : ℕ) (now : List Cell) → at < length bins → WalkedBins bins at now → AtBin bins at (word bins (at + 8))
at_bin bins at now l w = at_bin-by bins at w.rest l w.here

Tiles-same : (bins : List ℕ) (at stop : ℕ) (xs ys : List Cell) → Tiles bins at stop xs → Tiles bins at stop ys → xs ≡ ys
Tiles-same bins at stop xs ys a b =
    same_Some xs ys (sym (cells_from-Tiles (suc stop) bins at stop xs (omega arith) a) ∙ cells_from-Tiles (suc stop) bins at stop ys (omega arith) b)

more_bins-by : (bins : List ℕ) (at : ℕ) (now new : List Cell) (done rest : List Bin) → at < length bins → AreBins bins 0 (done ++ rest) →
    AreBins bins at rest → now ≡ cells_in done → PushesCells bins (at + 32) (at + word bins (at + 8)) now new →
    WalkedBins bins (at + word bins (at + 8)) new
more_bins-by bins at now new done [] l f h e p = absurd (omega arith)
more_bins-by bins at now new done (b ∷ rest) l f h e p =
    let size : word bins (at + 8) ≡ b.size = subst (λ (k : ℕ). word bins (k + 8) ≡ b.size) h.0 h.1.size in
    let tiles : Tiles bins (at + 32) (at + b.size) p.cells = rw size at p.tiles in
    let same : p.cells ≡ b.cells = Tiles-same bins (at + 32) (at + b.size) p.cells b.cells tiles h.2 in
    subst (λ (k : ℕ). WalkedBins bins (at + k) new) (sym size) (record {
      done = done ++ b ∷ [];
      rest = rest;
      layout = subst (AreBins bins 0) (sym (append_assoc done (b ∷ []) rest)) f;
      here = h.3;
      items = p.items ∙ ap (λ (t : List Cell). t ++ p.cells) e ∙ ap (λ (t : List Cell). cells_in done ++ t) (same ∙ sym (append-nil b.cells)) ∙ sym (cells_in-append done (b ∷ []));
    })

pub walked_bins-more : (bins : List ℕ) (at : ℕ) (now new : List Cell) → at < length bins → WalkedBins bins at now →
    PushesCells bins (at + 32) (at + word bins (at + 8)) now new → WalkedBins bins (at + word bins (at + 8)) new
walked_bins-more bins at now new l w p = more_bins-by bins at now new w.done w.rest l w.layout w.here w.items p

all-by : (bins : List ℕ) (at : ℕ) (now : List Cell) (done rest : List Bin) → length bins ≤ at → AreBins bins 0 (done ++ rest) → AreBins bins at rest → now ≡ cells_in done → cells_of bins ≡ Some now
all-by bins at now done [] l f h e = cells_of-AreBins bins (done ++ []) f ∙ ap (λ bs. Some (cells_in bs)) (append-nil done) ∙ ap Some (sym e)
all-by bins at now done (b ∷ rest) l f h e = absurd (omega (arith, h.1.within, h.1.positive))

pub walked_bins-all : (bins : List ℕ) (at : ℕ) (now : List Cell) → length bins ≤ at → WalkedBins bins at now → cells_of bins ≡ Some now
walked_bins-all bins at now l w = all-by bins at now w.done w.rest l w.layout w.here w.items
