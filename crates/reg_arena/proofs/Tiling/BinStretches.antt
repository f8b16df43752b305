-- Stretches of bins, in which cells are read without a look-up of the bin.
use Rattle.std.proofs.Common.{◌≡◌, ℕ, ◌+◌, ◌-◌, ◌<◌, ◌≤◌, List, length, take, drop, length-take, length-drop, sym, ap, ◌∙◌, subst, arith}
use Rattle.std.specs.Prelude.{◌%◌, ◌*◌, ◌/◌, IsSome}
use Rattle.reg_heap.specs.Heaps.{Heap}
use Rattle.std.proofs.lemmas.List.{drop-drop, drop-take, take_rest}
use Rattle.reg_bins.specs.Rows.{end_from}
use Rattle.reg_arena.specs.Cells.{cell_at}
use Rattle.reg_arena.specs.Stretches.{BeginsWithCell, IsStretch}
use Rattle.reg_arena.specs.Arena.{IsArena}
use Rattle.reg_arena.specs.Internal.BinParts.{IsSplit}
use Rattle.reg_arena.proofs.Tiling.BinPieces.{page-in_bin}
use Rattle.reg_arena.proofs.Tiling.BinParts.{end-same, piece-part, rest-cell}

-- bytes of a vector to its end, from a place on, and from a later place on
later-rest : (bytes : List ℕ) (from end cell : ℕ) → from ≤ cell → cell ≤ end →
    drop (cell - from) (take (end - from) (drop from bytes)) ≡ take (end - cell) (drop cell bytes)
later-rest bytes from end cell l m =
    let parts : end - from ≡ (cell - from) + (end - cell) = omega arith in
    let place : from + (cell - from) ≡ cell = omega arith in
    ap (λ n. drop (cell - from) (take n (drop from bytes))) parts
    ∙ (drop-take (cell - from) (end - cell) (drop from bytes)
    ∙ ap (take (end - cell)) (drop-drop (cell - from) from bytes ∙ ap (λ n. drop n bytes) place))

-- the bytes from a place to the end of its vector
pub rest-stretch : (bytes parts : List ℕ) (from : ℕ) (a : IsArena bytes) → IsSplit bytes parts → end_from 0 parts from ≤ length bytes →
    IsStretch (cell_at bytes) from (take (end_from 0 parts from - from) (drop from bytes))
unfolding IsStretch
rest-stretch bytes parts from a split top = λ cell some low high.
    let end : ℕ = end_from 0 parts from in
    let long : length (take (end - from) (drop from bytes)) ≡ end - from = simp (length-take, length-drop) (omega (arith, top)) in
    let under : cell < end = omega (arith, high, long, low) in
    let same : end_from 0 parts cell ≡ end = end-same 0 parts from cell low under in
    let r = rest-cell bytes parts cell a split some (omega (arith, same, top)) in
    let here : drop (cell - from) (take (end - from) (drop from bytes)) ≡ take (end_from 0 parts cell - cell) (drop cell bytes) =
    later-rest bytes from end cell low (omega (arith, under)) ∙ ap (λ e. take (e - cell) (drop cell bytes)) (sym same) in
    subst (BeginsWithCell (cell_at bytes) cell) (sym here) (record { eight = r.eight; within = r.within; content = r.content })

-- a page's bin has all of the page
pub page-reaches : (bytes parts : List ℕ) (page : ℕ) (a : IsArena bytes) → IsSplit bytes parts → page % 4096 ≡ 0 → page < length bytes →
    page + 4096 ≤ end_from 0 parts page
page-reaches bytes parts page a split p m =
    piece-part bytes parts page 4096 split (page-in_bin bytes a.layout a.tiled page page 4096 p m (omega arith) (omega arith)) (omega arith)

-- from the beginning of a cell's page to the end of its vector there is the cell
pub page-has : (bytes parts rest : List ℕ) (cell : ℕ) (a : IsArena bytes) → IsSplit bytes parts → cell < length bytes → end_from 0 parts (cell / 4096 * 4096) ≤ length bytes →
    rest ≡ take (end_from 0 parts (cell / 4096 * 4096) - cell / 4096 * 4096) (drop (cell / 4096 * 4096) bytes) → cell < cell / 4096 * 4096 + length rest
page-has bytes parts rest cell a split within top is =
    let page : ℕ = cell / 4096 * 4096 in
    let reach = page-reaches bytes parts page a split (omega arith) (omega (arith, within)) in
    let long : length rest ≡ end_from 0 parts page - page = ap length is ∙ simp (length-take, length-drop) (omega (arith, top)) in
    omega (arith, long, reach)

-- a cell in a stretch
pub stretched : (heap : Heap) (from cell : ℕ) (bytes : List ℕ) → IsStretch heap from bytes → IsSome (heap cell) → from ≤ cell → cell < from + length bytes →
    BeginsWithCell heap cell (take (length bytes - (cell - from)) (drop (cell - from) bytes))
unfolding IsStretch
stretched heap from cell bytes is some l m = subst (BeginsWithCell heap cell) (sym (take_rest bytes (cell - from))) (is cell some l m)
