-- What a cell has room for is no more than all bins have.
use Rattle.std.proofs.Common.{◌≡◌, ℕ, ◌+◌, ◌-◌, ◌≤◌, List, [], length, take, drop, sym, ap, ◌∙◌, subst, refl, arith, Option, Some, None, unwrap_or, length-take, length-drop}
use Rattle.reg_arena.specs.declared.Cell.{Cell}
use Rattle.reg_arena.specs.Cells.{cells_of, cell_at, cells_in}
use Rattle.reg_arena.specs.Arena.{IsSound}
use Rattle.reg_arena.proofs.Tiling.CellLayout.{holder-is, allocated-some}
use Rattle.reg_records.specs.RecordCells.{HasRoom}

-- a content is a piece of the bytes
content-short : (bytes : List ℕ) (cells : List Cell) (offset : ℕ) (content : List ℕ) → cells_of bytes ≡ Some cells → cell_at bytes offset ≡ Some content → length content ≤ length bytes
content-short bytes cells offset content e f =
    let h = holder-is bytes cells offset content e f in
    let c : Cell = h.0 in
    let have : cell_at bytes offset ≡ Some (take (c.size - 4) (drop (c.offset + 4) bytes)) =
    subst (λ (k : ℕ). cell_at bytes k ≡ Some (take (c.size - 4) (drop (c.offset + 4) bytes))) h.2 (allocated-some bytes cells c e h.1 h.3) in
    let same : length content ≡ length (take (c.size - 4) (drop (c.offset + 4) bytes)) = ap (λ (o : Option (List ℕ)). length (unwrap_or o [])) (sym f ∙ have) in
    let long : length (take (c.size - 4) (drop (c.offset + 4) bytes)) ≤ length bytes = simp (length-take, length-drop) (omega arith) in
    omega (arith, same, long)

pub room-short : (bytes heads : List ℕ) → IsSound bytes heads → (cell size : ℕ) → HasRoom (cell_at bytes) cell size → size ≤ 268435456
room-short bytes heads s cell size r = by (cell_at bytes cell) refl r.enough
  where
    by : (o : Option (List ℕ)) → cell_at bytes cell ≡ o → size ≤ length (unwrap_or o []) → size ≤ 268435456
    by None e l = omega (arith, l)
    by (Some content) e l = (let m = content-short bytes (cells_in s.bins) cell content s.cells_are e in omega (arith, l, m, s.small))
