use Rattle.std.proofs.Common.{◌≡◌, ◌<◌, ℕ, true, List, length, get_or, Some, refl, subst}
use Rattle.std.specs.Prelude.{IsSome}
use Rattle.std.proofs.lemmas.List.Elements.{Contains-get_or}
use Rattle.reg_arena.specs.declared.Cell.{Cell}
use Rattle.reg_arena.specs.Cells.{cells_of, cell_at}
use Rattle.reg_arena.proofs.Tiling.CellLayout.{allocated-some}
use Rattle.reg_tests.proofs.cells.is_among.Goals as goal

-- an allocated cell of the list stands where it says
listed-stands : (bytes : List ℕ) (cells : List Cell) (i : ℕ) (d : Cell) (offset : ℕ) → cells_of bytes ≡ Some cells →
    i < length cells → (get_or cells i d).offset ≡ offset → (get_or cells i d).allocated ≡ true → IsSome (cell_at bytes offset)
listed-stands bytes cells i d offset e l o a =
    let have = allocated-some bytes cells (get_or cells i d) e (Contains-get_or cells i d l) a in
    subst (λ n. IsSome (cell_at bytes n)) o (rw have refl)

pub returns-then-cell : goal.returns-then-cell
returns-then-cell c =
    λ bytes e _. listed-stands bytes c.args.cells.now c.loop-cell.cell-index _ _ e c.loop-cell-test.true c.if-cell-offset.true c.if-cell.true
