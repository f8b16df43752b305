-- Bins that are taken as they stand, one after the other.
use Rattle.std.proofs.Common.{◌≡◌, ℕ, ◌+◌, ◌*◌, ◌<◌, ◌≤◌, List, [], ◌∷◌, ◌++◌, length, refl, sym, ap, ◌∙◌, subst, arith, append_assoc}
use Rattle.std.proofs.lemmas.List.{append-nil}
use Rattle.reg_heap.specs.ByteWords.{word}
use Rattle.reg_arena.specs.declared.Cell.{Cell}
use Rattle.reg_arena.specs.declared.free_lists.FreeLists.{FreeLists}
use Rattle.reg_arena.specs.Arena.{IsArena}
use Rattle.reg_arena.specs.Cells.{Bin, Tiles, AreBins, cells_in, cell_at, cells_of}
use Rattle.reg_arena.specs.Internal.BinParts.{IsSplit}
use Rattle.reg_arena.specs.Internal.ListedCells.{free_size, HasRoom, IsIndexed, IsListed}
use Rattle.reg_arena.specs.Internal.TakenBins.{Fill, AreTaken, IsTaking, Takes}
use Rattle.reg_arena.proofs.Carving.BinAppend.{cells_in-append}
use Rattle.reg_arena.proofs.FreeList.ListedFrames.{framed}
use Rattle.reg_arena.proofs.Tiling.BinParts.{split-whole}
use Rattle.reg_arena.proofs.Tiling.Tilings.{cell_at-AreBins, cells_of-AreBins}

-- the bytes of some bins
abbrev pub end_of : List Bin → ℕ
end_of [] = 0
end_of (b ∷ bins) = b.size + end_of bins

end-more : (bins : List Bin) (b : Bin) → end_of (bins ++ b ∷ []) ≡ end_of bins + b.size
end-more [] b = omega arith
end-more (d ∷ bins) b = let e = end-more bins b in omega arith

bins-behind : (bytes : List ℕ) (at : ℕ) (done rest : List Bin) → AreBins bytes at (done ++ rest) → AreBins bytes (at + end_of done) rest
bins-behind bytes at [] rest h = let e : at + 0 ≡ at = omega arith in rw e h
bins-behind bytes at (b ∷ done) rest h =
    let e : at + (b.size + end_of done) ≡ (at + b.size) + end_of done = omega arith in
    rw e (bins-behind bytes (at + b.size) done rest h.3)

tiles-fill : (bytes : List ℕ) (at stop : ℕ) (cells : List Cell) → Tiles bytes at stop cells → Fill at stop cells
tiles-fill bytes at stop [] h = h
tiles-fill bytes at stop (c ∷ cells) h = (h.0, tiles-fill bytes (at + c.size) stop cells h.2)

-- the bins up to a place were taken
pub record HasGoneBins (b0 b : List ℕ) (layout : List Bin) (lists : FreeLists) (at : ℕ) : Type 0 where
  pub done : List Bin
  pub rest : List Bin
  pub layout_is : layout ≡ done ++ rest
  pub at_is : at ≡ end_of done
  pub taken : AreTaken b0 b layout (cells_in done) (cells_in rest) lists

abbrev pub GoesBins : List ℕ → FreeLists → List ℕ → FreeLists → ℕ → Type 0
GoesBins b0 l0 b l at = (layout : List Bin) → AreTaken b0 b0 layout [] (cells_in layout) l0 → HasGoneBins b0 b layout l at

pub bins-none : (b : List ℕ) (l : FreeLists) → GoesBins b l b l 0
bins-none b l layout t = record { done = []; rest = layout; layout_is = refl; at_is = refl; taken = t }

-- what is known of the bin at hand
pub record IsAtBin (b : List ℕ) (l : FreeLists) (at size : ℕ) : Type 0 where
  pub page : 4096 ≤ size
  pub within : at + size ≤ length b
  pub taking : IsTaking b (at + 32) (at + size) l

behind-is : (b0 b : List ℕ) (layout done rest : List Bin) (l : FreeLists) (at : ℕ) → layout ≡ done ++ rest → at ≡ end_of done →
    AreTaken b0 b layout (cells_in done) (cells_in rest) l → AreBins b at rest
behind-is b0 b layout done rest l at e p t =
    subst (λ (k : ℕ). AreBins b k rest) (omega (arith, p)) (bins-behind b 0 done rest (subst (AreBins b 0) e t.tiled))

bin-by : (b0 b : List ℕ) (layout done rest : List Bin) (l : FreeLists) (at : ℕ) → at < length b → layout ≡ done ++ rest → at ≡ end_of done →
    AreTaken b0 b layout (cells_in done) (cells_in rest) l → AreBins b at rest → IsAtBin b l at (word b (at + 8))
bin-by b0 b layout done [] l at less e p t h = absurd (omega (arith, h, less))
bin-by b0 b layout done (bin ∷ rest) l at less e p t h =
    let size : word b (at + 8) ≡ bin.size = subst (λ (k : ℕ). word b (k + 8) ≡ bin.size) h.0 h.1.size in
    subst (IsAtBin b l at) (sym size) (record {
      page = omega (arith, h.1.positive, h.1.pages);
      within = omega (arith, h.0, h.1.within);
      taking = record { old = b0; layout = layout; front = cells_in done; cells = bin.cells; after = cells_in rest; taken = t; fill = tiles-fill b (at + 32) (at + bin.size) bin.cells h.2 };
    })

pub at-bin : (b0 b : List ℕ) (l0 l : FreeLists) (at : ℕ) → at < length b → GoesBins b0 l0 b l at →
    (layout : List Bin) × AreTaken b0 b0 layout [] (cells_in layout) l0 → IsAtBin b l at (word b (at + 8))
at-bin b0 b l0 l at less g k =
    let h = g k.0 k.1 in
    bin-by b0 b k.0 h.done h.rest l at less h.layout_is h.at_is h.taken (behind-is b0 b k.0 h.done h.rest l at h.layout_is h.at_is h.taken)

more-by : (b0 b b' : List ℕ) (layout done rest : List Bin) (l l' : FreeLists) (at : ℕ) → at < length b → layout ≡ done ++ rest → at ≡ end_of done →
    AreTaken b0 b layout (cells_in done) (cells_in rest) l → AreBins b at rest → Takes b l b' l' (at + 32) (at + word b (at + 8)) →
    HasGoneBins b0 b' layout l' (at + word b (at + 8))
more-by b0 b b' layout done [] l l' at less e p t h takes = absurd (omega (arith, h, less))
more-by b0 b b' layout done (bin ∷ rest) l l' at less e p t h takes =
    let size : word b (at + 8) ≡ bin.size = subst (λ (k : ℕ). word b (k + 8) ≡ bin.size) h.0 h.1.size in
    let takes' : Takes b l b' l' (at + 32) (at + bin.size) = subst (λ (k : ℕ). Takes b l b' l' (at + 32) (at + k)) size takes in
    let t' = takes' b0 layout (cells_in done) bin.cells (cells_in rest) t (tiles-fill b (at + 32) (at + bin.size) bin.cells h.2) in
    let front : cells_in done ++ bin.cells ≡ cells_in (done ++ bin ∷ []) =
    ap (λ (cs : List Cell). cells_in done ++ cs) (sym (append-nil bin.cells)) ∙ sym (cells_in-append done (bin ∷ [])) in
    subst (λ (k : ℕ). HasGoneBins b0 b' layout l' (at + k)) (sym size) (record {
      done = done ++ bin ∷ [];
      rest = rest;
      layout_is = e ∙ sym (append_assoc done (bin ∷ []) rest);
      at_is = omega (arith, p, end-more done bin);
      taken = subst (λ (cs : List Cell). AreTaken b0 b' layout cs (cells_in rest) l') front t';
    })

pub bins-more : (b0 b b' : List ℕ) (l0 l l' : FreeLists) (at : ℕ) → at < length b → GoesBins b0 l0 b l at → Takes b l b' l' (at + 32) (at + word b (at + 8)) →
    GoesBins b0 l0 b' l' (at + word b (at + 8))
bins-more b0 b b' l0 l l' at less g takes layout k =
    let h = g layout k in
    more-by b0 b b' layout h.done h.rest l l' at less h.layout_is h.at_is h.taken (behind-is b0 b layout h.done h.rest l at h.layout_is h.at_is h.taken) takes

all-by : (b0 b : List ℕ) (layout done rest : List Bin) (l : FreeLists) (at : ℕ) → length b ≤ at → layout ≡ done ++ rest →
    AreTaken b0 b layout (cells_in done) (cells_in rest) l → AreBins b at rest → AreTaken b0 b layout (cells_in layout) [] l
all-by b0 b layout done [] l at less e t h =
    subst (λ (bs : List Bin). AreTaken b0 b layout (cells_in bs) [] l) (sym (e ∙ append-nil done)) t
all-by b0 b layout done (bin ∷ rest) l at less e t h = absurd (omega (arith, h.0, h.1.positive, h.1.within, less))

pub bins-all : (b0 b : List ℕ) (l0 l : FreeLists) (at : ℕ) → length b ≤ at → GoesBins b0 l0 b l at →
    (layout : List Bin) → AreTaken b0 b0 layout [] (cells_in layout) l0 → AreTaken b0 b layout (cells_in layout) [] l
bins-all b0 b l0 l at less g layout k =
    let h = g layout k in
    all-by b0 b layout h.done h.rest l at less h.layout_is h.taken (behind-is b0 b layout h.done h.rest l at h.layout_is h.at_is h.taken)

-- ---- the arena

-- before any cell is taken
pub taken-none : (bytes : List ℕ) (a : IsArena bytes) (lists : FreeLists) → IsListed [] (λ x. 0) lists → (units : ℕ) → HasRoom units lists → length bytes ≤ 8 * units →
    AreTaken bytes bytes a.layout [] (cells_in a.layout) lists
taken-none bytes a lists none units room enough = record {
  split = refl;
  long = refl;
  tiled = a.tiled;
  blank = λ h. h;
  contents = λ offset. refl;
  listed = framed [] bytes (free_size []) lists (subst (λ (f : ℕ → ℕ). IsListed [] f lists) (λ i x. 0) none) (omega arith) (omega (arith, room.marks, enough))
      (λ h. room.words) (λ h. room.firsts) a.small (λ x h. absurd (omega arith)) (λ x h. absurd (omega arith));
}

-- all are taken: an arena
pub record IsAdopted (old bytes parts : List ℕ) (lists : FreeLists) : Type 0 where
  pub indexed : IsIndexed bytes lists
  pub split : IsSplit bytes parts
  pub cells : cells_of bytes ≡ cells_of old
  pub contents : (offset : ℕ) → cell_at bytes offset ≡ cell_at old offset
  pub long : length bytes ≡ length old

pub adopted : (old bytes parts : List ℕ) (a : IsArena old) (lists : FreeLists) → AreTaken old bytes a.layout (cells_in a.layout) [] lists → parts ≡ length old ∷ [] →
    IsAdopted old bytes parts lists
adopted old bytes parts a lists t p = record {
  indexed = record {
    arena = record { layout = a.layout; tiled = t.tiled; blank = t.blank a.blank; apart = a.apart; small = omega (arith, t.long, a.small) };
    listed = t.listed;
  };
  split = subst (IsSplit bytes) (ap (λ (n : ℕ). n ∷ []) t.long ∙ sym p) (split-whole bytes a.layout t.tiled);
  cells = cells_of-AreBins bytes a.layout t.tiled ∙ sym (cells_of-AreBins old a.layout a.tiled);
  contents = λ offset. cell_at-AreBins bytes a.layout offset t.tiled ∙ t.contents offset ∙ sym (cell_at-AreBins old a.layout offset a.tiled);
  long = t.long;
}
