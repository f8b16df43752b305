-- Where an allocated cell's content stands.
use Rattle.std.proofs.Common.{◌≡◌, ℕ, ◌+◌, ◌-◌, ◌≤◌, Some, List, length, take, drop, is_some, sym, ap, ◌∙◌, subst, arith, true}
use Rattle.std.proofs.lemmas.Option.{same_Some}
use Rattle.reg_heap.specs.ByteWords.{word}
use Rattle.reg_arena.specs.Cells.{cells_in, content_in, cell_at, size_in}
use Rattle.reg_arena.proofs.Tiling.Tilings.{cell_at-AreBins}
use Rattle.reg_arena.proofs.Tiling.CellPositions.{looked, stands}
use Rattle.reg_arena.proofs.Tiling.CellLayout.{has_cells, in_bins}

pub record IsHeld (bytes : List ℕ) (offset : ℕ) (held : List ℕ) : Type 0 where
  pub eight : 8 ≤ size_in (word bytes offset)
  pub within : offset + size_in (word bytes offset) ≤ length bytes
  pub content : take (size_in (word bytes offset) - 4) (drop (offset + 4) bytes) ≡ held

pub content-is : (bytes : List ℕ) (offset : ℕ) (held : List ℕ) → cell_at bytes offset ≡ Some held → IsHeld bytes offset held
content-is bytes offset held e =
    let h = has_cells bytes offset held e in
    let l = in_bins bytes h.0 h.1 in
    let at = cell_at-AreBins bytes l.0 offset l.1 in
    let some : is_some (content_in bytes (cells_in l.0) offset) ≡ true = ap is_some (sym at ∙ e) in
    let k = looked bytes (cells_in l.0) offset some in
    let s = stands bytes l.0 k.xs k.c k.ys l.1 k.cells_are in
    let size : size_in (word bytes offset) ≡ k.c.size = subst (λ (k' : ℕ). size_in (word bytes k') ≡ k.c.size) k.offset_is s.cell.size in
    record {
      eight = omega (arith, size, s.cell.positive, s.cell.eights);
      within = omega (arith, size, s.cell.within, k.offset_is);
      content = ap (λ (n : ℕ). take (n - 4) (drop (offset + 4) bytes)) size
          ∙ ap (λ (n : ℕ). take (k.c.size - 4) (drop (n + 4) bytes)) (sym k.offset_is)
          ∙ same_Some _ _ (sym k.content ∙ (sym at ∙ e));
    }
