-- Cells after the link of a free cell was set: they stay, and so does what they hold.
use Rattle.std.proofs.Common.{◌≡◌, ℕ, ◌+◌, ◌-◌, ◌<◌, ◌≤◌, Bool, true, false, cond, ◌&&◌, ◌⊎◌, inl, inr, List, ◌∷◌, ◌++◌, length, get_or, take, drop, refl, sym, ap, ◌∙◌, subst, arith, eqb, Some}
use Rattle.byteorder.specs.Endian.{little_bytes}
use Rattle.reg_heap.specs.ByteWords.{word, splice, SameOutside}
use Rattle.reg_arena.specs.declared.Cell.{Cell}
use Rattle.reg_arena.specs.Cells.{Bin, AreBins, cells_in, content_in}
use Rattle.reg_arena.specs.Carves.{or_else, IsInNoFree}
use Rattle.reg_arena.specs.Arena.{AreBlank}
use Rattle.reg_arena.specs.Internal.ListedCells.{free_size, Relinks}
use Rattle.reg_arena.proofs.Contents.ByteSplices.{same-splice, word-same_below}
use Rattle.reg_arena.proofs.Tiling.CellPositions.{stands}
use Rattle.reg_arena.proofs.Tiling.BlankHeaders.{blank-same}
use Rattle.reg_arena.proofs.Contents.CellContents.{content_in-append, content_in-beside, AreOrdered, AreOrdered-AreBins, besides-before, besides-after}
use Rattle.reg_arena.proofs.Contents.CellWrites.{layout-same, all-at}
use Rattle.reg_arena.proofs.FreeList.FreeSizes.{free_at}

pub record Relinked (old new : List ℕ) (layout : List Bin) : Type 0 where
  pub long : length new ≡ length old
  pub tiled : AreBins new 0 layout
  pub blank : AreBlank old layout → AreBlank new layout
  pub contents : (offset : ℕ) → content_in new (cells_in layout) offset ≡ content_in old (cells_in layout) offset
  pub kept : (k : ℕ) → IsInNoFree k (cells_in layout) → get_or new k 0 ≡ get_or old k 0

pub same-beside : {lo hi : ℕ} {old new : List ℕ} → SameOutside lo hi old new → (k : ℕ) → (k < lo) ⊎ (hi ≤ k) → get_or new k 0 ≡ get_or old k 0
same-beside s k (inl l) = s.below k l
same-beside s k (inr l) = s.above k l

-- a free cell shows no content
pub free-content : (bytes : List ℕ) (c : Cell) (ys : List Cell) (offset : ℕ) → c.allocated ≡ false → content_in bytes (c ∷ ys) offset ≡ content_in bytes ys offset
free-content bytes c ys offset unused = by (eqb c.offset offset) c.allocated unused
  where
    by : (b d : Bool) → d ≡ false → cond (b && d) (Some (take (c.size - 4) (drop (c.offset + 4) bytes))) (content_in bytes ys offset) ≡ content_in bytes ys offset
    by true true e = absurd (cc)
    by true false e = refl
    by false d e = refl

relinked-none : (old : List ℕ) (layout : List Bin) → AreBins old 0 layout → Relinked old old layout
relinked-none old layout tiled = record { long = refl; tiled = tiled; blank = λ h. h; contents = λ offset. refl; kept = λ k h. refl }

-- bytes of a free cell were changed, and its size field stays
pub relinked-within : (old new : List ℕ) (layout : List Bin) (xs : List Cell) (c : Cell) (ys : List Cell) → AreBins old 0 layout → cells_in layout ≡ xs ++ c ∷ ys → c.allocated ≡ false →
    SameOutside c.offset (c.offset + c.size) old new → word new c.offset ≡ word old c.offset → Relinked old new layout
relinked-within old new layout xs c ys tiled e free s field =
    let st = stands old layout xs c ys tiled e in
    let eight : 8 ≤ c.size = omega (arith, st.cell.positive, st.cell.eights) in
    let ordered : AreOrdered 0 (xs ++ c ∷ ys) = subst (AreOrdered 0) e (AreOrdered-AreBins old 0 layout tiled) in
    let before = besides-before 0 c.offset (c.offset + c.size) xs c ys refl ordered in
    let after = besides-after 0 c.offset (c.offset + c.size) xs c ys (omega arith) ordered in
    record {
      long = s.long;
      tiled = layout-same s layout xs c ys st refl refl field tiled;
      blank = blank-same s layout xs c ys st refl refl tiled;
      contents = λ offset.
          ap (λ cs. content_in new cs offset) e ∙ content_in-append new xs (c ∷ ys) offset
          ∙ ap (or_else (content_in new xs offset)) (free-content new c ys offset free)
          ∙ ap (λ o. or_else o (content_in new ys offset)) (content_in-beside s xs offset before)
          ∙ ap (or_else (content_in old xs offset)) (content_in-beside s ys offset after)
          ∙ sym (ap (λ cs. content_in old cs offset) e ∙ content_in-append old xs (c ∷ ys) offset ∙
          ap (or_else (content_in old xs offset)) (free-content old c ys offset free));
      kept = λ k h.
          let at = all-at (λ (d : Cell). d.allocated ≡ false → (k < d.offset) ⊎ (d.offset + d.size ≤ k)) xs c ys (subst (IsInNoFree k) e h) in
          same-beside s k (at free);
    }

relinked-one : (old : List ℕ) (layout : List Bin) (p v : ℕ) → AreBins old 0 layout → 0 < free_size (cells_in layout) p → Relinked old (splice (p + 4) (little_bytes 4 v) old) layout
relinked-one old layout p v tiled some =
    let f = free_at (cells_in layout) p some in
    let c = f.c in
    let st = stands old layout f.xs c f.ys tiled f.cells_are in
    let eight : 8 ≤ c.size = omega (arith, st.cell.positive, st.cell.eights) in
    let place : c.offset ≡ p = f.offset_is in
    let within = st.cell.within in
    let new : List ℕ = splice (p + 4) (little_bytes 4 v) old in
    let s : SameOutside c.offset (c.offset + c.size) old new = same-splice (p + 4) c.offset (c.offset + c.size) (little_bytes 4 v) old (omega arith) (omega arith) within in
    let s' : SameOutside (p + 4) (c.offset + c.size) old new = same-splice (p + 4) (p + 4) (c.offset + c.size) (little_bytes 4 v) old (omega arith) (omega arith) within in
    relinked-within old new layout f.xs c f.ys tiled f.cells_are f.free s (word-same_below s' c.offset (omega arith))

-- some of the free cells' links were set
pub relinked : (old new : List ℕ) (layout : List Bin) (sizes : ℕ → ℕ) → AreBins old 0 layout → ((p : ℕ) → 0 < sizes p → 0 < free_size (cells_in layout) p) →
    Relinks sizes old new → Relinked old new layout
relinked old new layout sizes tiled sub (inl e) = rw e (relinked-none old layout tiled)
relinked old new layout sizes tiled sub (inr (p, v, some, e)) = rw e (relinked-one old layout p v tiled (sub p some))

pub relinked-trans : (a b c : List ℕ) (layout : List Bin) → Relinked a b layout → Relinked b c layout → Relinked a c layout
relinked-trans a b c layout x y = record {
  long = y.long ∙ x.long;
  tiled = y.tiled;
  blank = λ h. y.blank (x.blank h);
  contents = λ offset. y.contents offset ∙ x.contents offset;
  kept = λ k h. y.kept k h ∙ x.kept k h;
}
