-- Bins that pass the tests are as an arena has them, and those that are pass.
use Rattle.std.proofs.Common.{◌≡◌, ℕ, suc, ◌+◌, ◌<◌, ◌≤◌, ◌==◌, ◌&&◌, Bool, true, false, List, [], ◌∷◌, length, take, drop, replicate, refl, sym, ap, ◌∙◌, subst, arith, IsTrue}
use Rattle.std.specs.Prelude.{◌↔◌}
use Rattle.std.specs.List.{list_all}
use Rattle.std.proofs.lemmas.Bool.{false≢true}
use Rattle.std.proofs.lemmas.List.{length-take, length-drop}
use Rattle.reg_heap.specs.declared.limits.TheConstants.{BINS_LIMIT}
use Rattle.reg_heap.specs.ByteWords.{word}
use Rattle.reg_arena.specs.declared.Cell.{Cell}
use Rattle.reg_arena.specs.Cells.{Bin, Tiles, AreBins, cells_in}
use Rattle.reg_arena.specs.Free.{AreApart}
use Rattle.reg_arena.specs.Arena.{AreBlank, IsArena}
use Rattle.reg_arena.specs.Internal.CellWalks.{IsTiled}
use Rattle.reg_arena.proofs.Contents.CellContents.{AreOrdered, AreOrdered-AreBins, AreOrdered-weaker, AreOrdered-Tiles}
use Rattle.reg_arena.proofs.Freeing.MergedCells.{apart-back}
use Rattle.reg_written.specs.Internal.ArenaTests.{is_blank_at, is_good_bin, are_good_bins}
use Rattle.reg_written.proofs.CellsRead.{both, and-made}
use Rattle.reg_written.proofs.ValuesWritten.{all-zero, zero-all}
use Rattle.reg_written.proofs.CellsApart.{same-cells, apart-made, apart-open}

-- ---- headers

blank-open : (bytes : List ℕ) (at : ℕ) → at + 32 ≤ length bytes → is_blank_at bytes at ≡ true → take 20 (drop (at + 12) bytes) ≡ replicate 20 0
blank-open bytes at l e =
    let long : length (take 20 (drop (at + 12) bytes)) ≡ 20 = simp (length-take, length-drop) (omega arith) in
    all-zero (take 20 (drop (at + 12) bytes)) e ∙ ap (λ (n : ℕ). replicate n 0) long

blank-made : (bytes : List ℕ) (at : ℕ) → take 20 (drop (at + 12) bytes) ≡ replicate 20 0 → is_blank_at bytes at ≡ true
blank-made bytes at e = ap (list_all (λ b. b == 0)) e ∙ zero-all 20

-- ---- bins

abbrev bin-of : ℕ → ℕ → List Cell → Bin
bin-of start size cells = record { start = start; size = size; cells = cells }

-- a bin's header and its cells are determined
same-bin : (bytes : List ℕ) (at : ℕ) (a b : Bin) → a.start ≡ at → b.start ≡ at → word bytes (a.start + 8) ≡ a.size → word bytes (b.start + 8) ≡ b.size →
    Tiles bytes (at + 32) (at + a.size) a.cells → Tiles bytes (at + 32) (at + b.size) b.cells → a ≡ b
same-bin bytes at a b p q m n t u =
    let size : a.size ≡ b.size = sym m ∙ (ap (λ (k : ℕ). word bytes (k + 8)) (p ∙ sym q) ∙ n) in
    let cells : a.cells ≡ b.cells = same-cells bytes (at + 32) (at + b.size) a.cells b.cells (subst (λ (k : ℕ). Tiles bytes (at + 32) (at + k) a.cells) size t) u in
    ap (λ (k : ℕ). bin-of k a.size a.cells) (p ∙ sym q) ∙ (ap (λ (k : ℕ). bin-of b.start k a.cells) size ∙ ap (bin-of b.start b.size) cells)

-- so are all bins
same-bins : (bytes : List ℕ) (at : ℕ) (cs bs : List Bin) → AreBins bytes at cs → AreBins bytes at bs → cs ≡ bs
same-bins bytes at [] [] t u = refl
same-bins bytes at [] (b ∷ bs) t u = absurd (omega (arith, t, u.0, u.1.positive, u.1.within))
same-bins bytes at (a ∷ cs) [] t u = absurd (omega (arith, u, t.0, t.1.positive, t.1.within))
same-bins bytes at (a ∷ cs) (b ∷ bs) t u =
    let e = same-bin bytes at a b t.0 u.0 t.1.size u.1.size t.2 u.2 in
    let rest : AreBins bytes (at + b.size) cs = subst (λ (x : Bin). AreBins bytes (at + x.size) cs) e t.3 in
    ap (λ (x : Bin). x ∷ cs) e ∙ ap (λ (xs : List Bin). b ∷ xs) (same-bins bytes (at + b.size) cs bs rest u.3)

-- behind a bin's cells the next cell comes after a header
ordered-behind : (bytes : List ℕ) (at : ℕ) (bins : List Bin) → AreBins bytes at bins → AreOrdered (suc at) (cells_in bins)
ordered-behind bytes at [] h = tt
ordered-behind bytes at (b ∷ bins) h =
    AreOrdered-weaker (at + 32) (suc at) _ (omega arith) (AreOrdered-Tiles bytes (at + 32) (at + b.size) b.cells (cells_in bins) h.2 (AreOrdered-AreBins bytes (at + b.size) bins h.3))

-- ---- all of them

pub good-open : (bytes : List ℕ) (at : ℕ) (bins : List Bin) → AreBins bytes at bins → are_good_bins bytes bins ≡ true → AreBlank bytes bins × AreApart (cells_in bins)
good-open bytes at [] h e = (tt, tt)
good-open bytes at (b ∷ bins) h e =
    let two = both (is_good_bin bytes b.start b.cells) _ e in
    let one = both (is_blank_at bytes b.start) _ two.0 in
    let rest = good-open bytes (at + b.size) bins h.3 two.1 in (
      (blank-open bytes b.start (omega (arith, h.1.within, h.1.positive, h.1.pages)) one.0, rest.0),
      apart-made bytes false (at + 32) (at + b.size) b.cells (cells_in bins) h.2 (ordered-behind bytes (at + b.size) bins h.3) one.1 rest.1,
    )

pub good-made : (bytes : List ℕ) (at : ℕ) (bins : List Bin) → AreBins bytes at bins → AreBlank bytes bins → AreApart (cells_in bins) → are_good_bins bytes bins ≡ true
good-made bytes at [] h k p = refl
good-made bytes at (b ∷ bins) h k p =
    and-made (is_good_bin bytes b.start b.cells) _
    (and-made (is_blank_at bytes b.start) _ (blank-made bytes b.start k.0) (apart-open bytes false (at + 32) (at + b.size) b.cells (cells_in bins) h.2 (λ e. absurd (false≢true e)) p))
    (good-made bytes (at + b.size) bins h.3 k.1 (apart-back b.cells (cells_in bins) p))

pub arena-iff : (bytes : List ℕ) (bins : List Bin) → AreBins bytes 0 bins → length bytes ≤ BINS_LIMIT → IsTrue (are_good_bins bytes bins) ↔ IsArena bytes
arena-iff bytes bins h small = (
  (λ e. let g = good-open bytes 0 bins h e in record { layout = bins; tiled = h; blank = g.0; apart = g.1; small = small }),
  (λ a. let same = same-bins bytes 0 a.layout bins a.tiled h in
      good-made bytes 0 bins h (subst (AreBlank bytes) same a.blank) (subst (λ (bs : List Bin). AreApart (cells_in bs)) same a.apart)),
)

-- ---- one after another

-- what is left of the bins decides as all of them do
pub record OnBins (bytes : List ℕ) (at : ℕ) : Type 0 where
  pub rest : List Bin
  pub here : AreBins bytes at rest
  pub same : IsTrue (are_good_bins bytes rest) ↔ IsArena bytes

pub bins-start : (bytes : List ℕ) → (layout : List Bin) × AreBins bytes 0 layout → length bytes ≤ BINS_LIMIT → OnBins bytes 0
bins-start bytes t small = record { rest = t.0; here = t.1; same = arena-iff bytes t.0 t.1 small }

-- what is known of the bin at hand
pub record AtBin (bytes : List ℕ) (at : ℕ) : Type 0 where
  pub tiled : IsTiled bytes (at + 32) (at + word bytes (at + 8))
  pub page : 4096 ≤ word bytes (at + 8)
  pub within : at + word bytes (at + 8) ≤ length bytes

-- the bin at hand, and those behind it
record NextBin (bytes : List ℕ) (at : ℕ) (rest : List Bin) : Type 0 where
  cells : List Cell
  more : List Bin
  known : AtBin bytes at
  tiles : Tiles bytes (at + 32) (at + word bytes (at + 8)) cells
  here : AreBins bytes (at + word bytes (at + 8)) more
  same : are_good_bins bytes rest ≡ (is_good_bin bytes at cells && are_good_bins bytes more)

next-bin : (bytes : List ℕ) (at : ℕ) (rest : List Bin) → at < length bytes → AreBins bytes at rest → NextBin bytes at rest
next-bin bytes at [] l h = absurd (omega arith)
next-bin bytes at (b ∷ rest) l h =
    let size : word bytes (at + 8) ≡ b.size = subst (λ (k : ℕ). word bytes (k + 8) ≡ b.size) h.0 h.1.size in
    let tiles : Tiles bytes (at + 32) (at + word bytes (at + 8)) b.cells = subst (λ (k : ℕ). Tiles bytes (at + 32) (at + k) b.cells) (sym size) h.2 in
    record {
      cells = b.cells;
      more = rest;
      known = record {
        tiled = record { cells = b.cells; tiles = tiles };
        page = omega (arith, size, h.1.positive, h.1.pages);
        within = omega (arith, size, h.0, h.1.within);
      };
      tiles = tiles;
      here = subst (λ (k : ℕ). AreBins bytes (at + k) rest) (sym size) h.3;
      same = ap (λ (k : ℕ). is_good_bin bytes k b.cells && are_good_bins bytes rest) h.0;
    }

module _ (bytes : List ℕ) (at : ℕ) (o : OnBins bytes at) where
  next : at < length bytes → NextBin bytes at o.rest
  next l = next-bin bytes at o.rest l o.here

  pub at-bin : at < length bytes → AtBin bytes at
  at-bin l = (next l).known

  -- the test of the bin at hand
  tested : (good : Bool) (l : at < length bytes) → ((cells : List Cell) → Tiles bytes (at + 32) (at + word bytes (at + 8)) cells → good ≡ is_good_bin bytes at cells) →
      IsTrue (good && are_good_bins bytes (next l).more) ↔ IsArena bytes
  tested good l f =
      let n = next l in
      subst (λ (b : Bool). IsTrue b ↔ IsArena bytes) (n.same ∙ ap (λ (b : Bool). b && are_good_bins bytes n.more) (sym (f n.cells n.tiles))) o.same

  pub bins-bad : (good : Bool) → at < length bytes → ((cells : List Cell) → Tiles bytes (at + 32) (at + word bytes (at + 8)) cells → good ≡ is_good_bin bytes at cells) →
      good ≡ false → IsTrue false ↔ IsArena bytes
  bins-bad good l f e = subst (λ (b : Bool). IsTrue (b && are_good_bins bytes (next l).more) ↔ IsArena bytes) e (tested good l f)

  pub bins-more : (good : Bool) → at < length bytes → ((cells : List Cell) → Tiles bytes (at + 32) (at + word bytes (at + 8)) cells → good ≡ is_good_bin bytes at cells) →
      good ≡ true → OnBins bytes (at + word bytes (at + 8))
  bins-more good l f e = record {
    rest = (next l).more;
    here = (next l).here;
    same = subst (λ (b : Bool). IsTrue (b && are_good_bins bytes (next l).more) ↔ IsArena bytes) e (tested good l f);
  }

  -- all were met
  pub bins-end : length bytes ≤ at → IsTrue true ↔ IsArena bytes
  bins-end l = by o.rest refl
    where
      by : (rest : List Bin) → o.rest ≡ rest → IsTrue true ↔ IsArena bytes
      by [] e = subst (λ (bs : List Bin). IsTrue (are_good_bins bytes bs) ↔ IsArena bytes) e o.same
      by (b ∷ rest) e = (let h = subst (AreBins bytes at) e o.here in absurd (omega (arith, h.0, h.1.within, h.1.positive, l)))
