-- The table of all cells, made bin by bin.
use Rattle.std.proofs.Common.{◌≡◌, ℕ, zero, suc, ◌+◌, ◌*◌, ◌/◌, ◌%◌, ◌<◌, ◌≤◌, ◌==◌, Bool, true, false, cond, is_some, Option, Some, None, List, [], ◌∷◌, ◌++◌, append_assoc, length, replicate, take}
use Rattle.std.proofs.Common.{◌-◌, get_or, refl, sym, ap, ◌∙◌, arith}
use Rattle.std.proofs.lemmas.Option.{none-some, same_Some}
use Rattle.std.proofs.lemmas.List.{append-nil, length-replicate}
use Rattle.reg_heap.specs.ByteWords.{word}
use Rattle.reg_arena.specs.declared.Cell.{Cell}
use Rattle.reg_arena.specs.Cells.{BinPlace, bins_from, bins_of, cells_of_bins, cells_from, content_in, joined}
use Rattle.reg_tree_image.specs.declared.table.CellState.{CellState}
use Rattle.reg_tree_image.specs.declared.table.CellState.TheVariants.{Unallocated, Unnamed}
use Rattle.reg_tree_image.specs.Internal.CellStates.{state_in, state_by}
use Rattle.reg_tree_image.specs.Internal.CellScans.{Marks, IsScanned}
use Rattle.reg_tree_image.proofs.NamedCells.BinScans.{IsNext, first-of, none-left}
use Rattle.reg_tree_image.proofs.NamedCells.CellMarks.{no-marks, join-marks}

-- ---- the cells of bins

cells-more : (bins : List ℕ) (xs : List BinPlace) (p : BinPlace) (done cells : List Cell) → cells_of_bins bins xs ≡ Some done →
    cells_from (suc p.size) bins (p.start + 32) (p.start + p.size) ≡ Some cells → cells_of_bins bins (xs ++ p ∷ []) ≡ Some (done ++ cells)
cells-more bins [] p done cells d c = ap (λ o. joined o (Some [])) c ∙ (ap Some (append-nil cells) ∙ ap (λ x. Some (x ++ cells)) (same_Some _ _ d))
cells-more bins (x ∷ xs) p done cells d c =
    by (cells_from (suc x.size) bins (x.start + 32) (x.start + x.size)) (cells_of_bins bins xs) refl d (λ front e. cells-more bins xs p front cells e c)
  where
    by : (a b : Option (List Cell)) → cells_of_bins bins xs ≡ b → joined a b ≡ Some done →
        ((front : List Cell) → cells_of_bins bins xs ≡ Some front → cells_of_bins bins (xs ++ p ∷ []) ≡ Some (front ++ cells)) →
        joined a (cells_of_bins bins (xs ++ p ∷ [])) ≡ Some (done ++ cells)
    by None b q e h = absurd (none-some _ e)
    by (Some y) None q e h = absurd (none-some _ e)
    by (Some y) (Some front) q e h = ap (joined (Some y)) (h front q) ∙ ap Some (sym (append_assoc y front cells) ∙ ap (λ z. z ++ cells) (same_Some _ _ e))

cells-none : (bins : List ℕ) (xs : List BinPlace) (p : BinPlace) (rest : List BinPlace) → cells_from (suc p.size) bins (p.start + 32) (p.start + p.size) ≡ None →
    cells_of_bins bins (xs ++ p ∷ rest) ≡ None
cells-none bins [] p rest c = ap (λ o. joined o (cells_of_bins bins rest)) c
cells-none bins (x ∷ xs) p rest c =
    ap (joined (cells_from (suc x.size) bins (x.start + 32) (x.start + x.size))) (cells-none bins xs p rest c) ∙ by (cells_from (suc x.size) bins (x.start + 32) (x.start + x.size))
  where
    by : (o : Option (List Cell)) → joined o None ≡ None
    by None = refl
    by (Some y) = refl

-- ---- the loop

-- the bins up to here were scanned
pub record OnScan (bins : List ℕ) (at : ℕ) (empty now : List CellState) : Type 0 where
  pub front : List BinPlace
  pub back : List BinPlace
  pub steps : ℕ
  pub all : bins_of bins ≡ Some (front ++ back)
  pub rest : bins_from steps bins at ≡ Some back
  pub done : List Cell
  pub done_is : cells_of_bins bins front ≡ Some done
  pub marks : Marks bins done empty now
  pub page : at % 4096 ≡ 0
  pub within : at ≤ length bins
  pub long : length now ≡ length empty

pub scan-none : (bins : List ℕ) (places : List BinPlace) (empty : List CellState) → bins_of bins ≡ Some places → OnScan bins 0 empty empty
scan-none bins places empty e = record {
  front = [];
  back = places;
  steps = suc (length bins);
  all = e;
  rest = e;
  done = [];
  done_is = refl;
  marks = no-marks bins empty;
  page = refl;
  within = omega arith;
  long = refl;
}

-- the bin that is next
pub scan-next : (bins : List ℕ) (at : ℕ) (empty now : List CellState) (s : OnScan bins at empty now) → at < length bins → IsNext bins s.steps at s.back
scan-next bins at empty now s l = first-of bins s.steps at s.back l s.rest

-- what is known of the bin that is next
pub record IsPlace (bins : List ℕ) (at : ℕ) (now : List CellState) : Type 0 where
  pub page : 4096 ≤ word bins (at + 8)
  pub within : at + word bins (at + 8) ≤ length bins
  pub eight : at % 8 ≡ 0
  pub eights : word bins (at + 8) % 8 ≡ 0
  pub room : length bins ≤ 8 * length now

pub scan-place : (bins : List ℕ) (at n : ℕ) (now : List CellState) → OnScan bins at (replicate n Unallocated) now → n ≡ length bins / 8 → length bins % 4096 ≡ 0 → at < length bins →
    IsPlace bins at now
scan-place bins at n now s e p l =
    let g = (scan-next bins at (replicate n Unallocated) now s l).good in
    let some = g.some in
    let pages = g.pages in
    let page = s.page in
    let long : length now ≡ n = s.long ∙ length-replicate n Unallocated in
    record {
      page = omega (arith, some, pages);
      within = g.within;
      eight = omega (arith, page);
      eights = omega (arith, pages);
      room = omega (arith, long, p, e);
    }

pub scan-more : (bins : List ℕ) (at : ℕ) (empty now new : List CellState) (s : OnScan bins at empty now) → at < length bins → (cells : List Cell) →
    cells_from (suc (word bins (at + 8))) bins (at + 32) (at + word bins (at + 8)) ≡ Some cells → Marks bins cells now new → length new ≡ length now →
    OnScan bins (at + word bins (at + 8)) empty new
scan-more bins at empty now new s l cells c m long =
    let n = scan-next bins at empty now s l in
    let p : BinPlace = record { start = at; size = word bins (at + 8) } in
    record {
      front = s.front ++ p ∷ [];
      back = n.rest;
      steps = n.fewer;
      all = s.all ∙ ap Some (ap (λ back. s.front ++ back) n.back_is ∙ sym (append_assoc s.front (p ∷ []) n.rest));
      rest = n.rest_is;
      done = s.done ++ cells;
      done_is = cells-more bins s.front p s.done cells s.done_is c;
      marks = join-marks bins s.done cells empty now new s.marks m;
      page = (let a = s.page in let b = n.good.pages in omega (arith, a, b));
      within = n.good.within;
      long = long ∙ s.long;
    }

pub scan-bad : (bins : List ℕ) (at : ℕ) (empty now : List CellState) (s : OnScan bins at empty now) → at < length bins →
    cells_from (suc (word bins (at + 8))) bins (at + 32) (at + word bins (at + 8)) ≡ None → (places : List BinPlace) × (bins_of bins ≡ Some places) × (cells_of_bins bins places ≡ None)
scan-bad bins at empty now s l c =
    let n = scan-next bins at empty now s l in
    let p : BinPlace = record { start = at; size = word bins (at + 8) } in
    (s.front ++ s.back, s.all, ap (λ back. cells_of_bins bins (s.front ++ back)) n.back_is ∙ cells-none bins s.front p n.rest c)

empty-state : (n offset : ℕ) → state_in (replicate n Unallocated) offset ≡ Unallocated
empty-state n offset = by (offset % 8 == 0)
  where
    none : (n i : ℕ) → get_or (replicate n Unallocated) i Unallocated ≡ Unallocated
    none zero i = refl
    none (suc n) zero = refl
    none (suc n) (suc i) = none n i

    by : (b : Bool) → cond b (get_or (replicate n Unallocated) (offset / 8) Unallocated) Unallocated ≡ Unallocated
    by true = none n (offset / 8)
    by false = refl

pub scan-all : (bins : List ℕ) (at n : ℕ) (now : List CellState) → OnScan bins at (replicate n Unallocated) now → length bins ≤ at → IsScanned bins now
scan-all bins at n now s l =
    let none = none-left bins s.steps at s.back (let w = s.within in omega (arith, l, w)) s.rest in
    record {
      places = s.front;
      cells = s.done;
      places_are = s.all ∙ ap Some (ap (λ back. s.front ++ back) none ∙ append-nil s.front);
      cells_are = s.done_is;
      table = record {
        each = λ offset. s.marks offset ∙ (ap (λ state. cond (is_some (content_in bins s.done offset)) Unnamed state) (empty-state n offset) ∙ by (is_some (content_in bins s.done offset)));
        once = λ offset. omega arith;
        keys = λ offset. omega arith;
        real = λ offset h. absurd (omega (arith, h));
      };
    }
  where
    by : (b : Bool) → cond b Unnamed Unallocated ≡ state_by b true true true
    by true = refl
    by false = refl

-- the table before the first bin
pub emptied : (ok : Bool) (old new : List CellState) (n k : ℕ) → ok ≡ true → old ≡ [] → k ≡ 0 → new ≡ cond ok (take n old ++ replicate (n - k) Unallocated) old → new ≡ replicate n Unallocated
emptied ok old new n k o e z is =
    is ∙ (ap (λ b. cond b (take n old ++ replicate (n - k) Unallocated) old) o
    ∙ (ap (λ xs. take n xs ++ replicate (n - k) Unallocated) e
    ∙ (ap (λ xs. xs ++ replicate (n - k) Unallocated) (none n) ∙ ap (λ m. replicate m Unallocated) (let m : n - k ≡ n = omega (arith, z) in m))))
  where
    none : (n : ℕ) → ◌≡◌ {A = List CellState} (take n []) []
    none zero = refl
    none (suc n) = refl
