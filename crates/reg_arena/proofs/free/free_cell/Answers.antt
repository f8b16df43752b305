use Rattle.std.proofs.Common.{arith, ◌∙◌}
use Rattle.reg_arena.proofs.Contents.CellWrites.{found}
use Rattle.reg_arena.proofs.Freeing.FreedSite.{site, around, left-size, right-size}
use Rattle.reg_arena.proofs.Freeing.FreeWhole.{merged-place, merged-piece, left-there, free-whole}
use Rattle.reg_arena.proofs.Tiling.BinPlaces.{split-kept}
use Rattle.reg_arena.proofs.free.free_cell.Goals as goal

pub size_at-requires : goal.size_at-requires
size_at-requires c =
    let f = found _ c.args.cell c.requires.arena.arena c.requires.exists in
    omega (arith, f.eight, f.within)

pub overflow_add-end : goal.overflow_add-end
overflow_add-end c =
    let sz = c.size_at.ensures in
    let st = site _ _ c.args.cell c.size_at.result c.requires.arena c.requires.exists sz in
    record { fits = omega (arith, st.within, c.requires.arena.arena.small) }

pub free_size_at-right-requires : goal.free_size_at-right-requires
free_size_at-right-requires c =
    let sz = c.size_at.ensures in
    let st = site _ _ c.args.cell c.size_at.result c.requires.arena c.requires.exists sz in
    record { inside = λ l. omega (arith, st.pages, st.cell_eights, st.size_eights) }

pub ending_at-requires-clause-some : goal.ending_at-requires-clause-some
ending_at-requires-clause-some c =
    let sz = c.size_at.ensures in
    let st = site _ _ c.args.cell c.size_at.result c.requires.arena c.requires.exists sz in
    omega (arith, st.header)

pub ending_at-requires-clause-inside : goal.ending_at-requires-clause-inside
ending_at-requires-clause-inside c =
    let sz = c.size_at.ensures in
    let st = site _ _ c.args.cell c.size_at.result c.requires.arena c.requires.exists sz in
    st.unit_in

pub remove-requires : goal.remove-requires
remove-requires c =
    let sz = c.size_at.ensures in
    let st = site _ _ c.args.cell c.size_at.result c.requires.arena c.requires.exists sz in
    let w = around _ _ c.args.cell c.size_at.result c.ending_at.result c.free_size_at-right.result c.requires.arena st c.ending_at.ensures c.free_size_at-right.ensures in
    record { sizes = _; listed = c.requires.arena.listed; there = right-size _ _ _ _ _ _ c.requires.arena w c.free_size_at-right.ensures }

pub overflow_sub-cell : goal.overflow_sub-cell
overflow_sub-cell c =
    let sz = c.size_at.ensures in
    let st = site _ _ c.args.cell c.size_at.result c.requires.arena c.requires.exists sz in
    let l = left-size _ _ _ _ _ c.requires.arena st c.ending_at.ensures in
    omega (arith, l.0, c.start-lo.ensures)

pub remove-requires-2 : goal.remove-requires-2
remove-requires-2 c =
    let sz = c.size_at.ensures in
    let st = site _ _ c.args.cell c.size_at.result c.requires.arena c.requires.exists sz in
    let i = c.requires.arena in
    let e = c.start-lo.ensures in
    let w = around _ _ c.args.cell c.size_at.result c.ending_at.result c.free_size_at-right.result i st c.ending_at.ensures c.free_size_at-right.ensures in
    let d1 = c.remove.ensures.drops _ i.listed (right-size _ _ _ _ _ _ i w c.free_size_at-right.ensures) in
    record { sizes = _; listed = d1.listed; there = rw e (left-there _ _ _ _ _ i st c.ending_at.ensures) }

pub overflow_add-end-2 : goal.overflow_add-end-2
overflow_add-end-2 c =
    let sz = c.size_at.ensures in
    let st = site _ _ c.args.cell c.size_at.result c.requires.arena c.requires.exists sz in
    let m = merged-place _ _ _ _ _ _ c.requires.arena st c.ending_at.ensures c.free_size_at-right.ensures in
    record { fits = omega (arith, m.1, m.2) }

pub overflow_sub-end : goal.overflow_sub-end
overflow_sub-end c =
    let sz = c.size_at.ensures in
    let st = site _ _ c.args.cell c.size_at.result c.requires.arena c.requires.exists sz in
    let m = merged-place _ _ _ _ _ _ c.requires.arena st c.ending_at.ensures c.free_size_at-right.ensures in
    omega (arith, m.0, c.start-lo.ensures)

pub insert-requires : goal.insert-requires
insert-requires c =
    let sz = c.size_at.ensures in
    let st = site _ _ c.args.cell c.size_at.result c.requires.arena c.requires.exists sz in
    let i = c.requires.arena in
    let e = c.start-lo.ensures in
    let w = around _ _ c.args.cell c.size_at.result c.ending_at.result c.free_size_at-right.result i st c.ending_at.ensures c.free_size_at-right.ensures in
    let d1 = c.remove.ensures.drops _ i.listed (right-size _ _ _ _ _ _ i w c.free_size_at-right.ensures) in
    let m = merged-place _ _ _ _ _ _ i st c.ending_at.ensures c.free_size_at-right.ensures in
    let d2 = c.remove-2.ensures.drops _ d1.listed (rw e (left-there _ _ _ _ _ i st c.ending_at.ensures)) in
    let d2' = rw e at d2 in
    rw e (record { sizes = _; listed = d2'.listed; piece = merged-piece _ _ _ _ _ _ _ _ _ _ i st c.ending_at.ensures c.free_size_at-right.ensures d1 d2'; free = m.4 })

pub returns-clause-arena : goal.returns-clause-arena
returns-clause-arena c =
    let sz = c.size_at.ensures in
    let st = site _ _ c.args.cell c.size_at.result c.requires.arena c.requires.exists sz in
    let i = c.requires.arena in
    let e = c.start-lo.ensures in
    let w = around _ _ c.args.cell c.size_at.result c.ending_at.result c.free_size_at-right.result i st c.ending_at.ensures c.free_size_at-right.ensures in
    let d1 = c.remove.ensures.drops _ i.listed (right-size _ _ _ _ _ _ i w c.free_size_at-right.ensures) in
    let m = merged-place _ _ _ _ _ _ i st c.ending_at.ensures c.free_size_at-right.ensures in
    let d2 = c.remove-2.ensures.drops _ d1.listed (rw e (left-there _ _ _ _ _ i st c.ending_at.ensures)) in
    let d2' = rw e at d2 in
    let ad = c.insert.ensures.adds _ d2'.listed (rw e m.4) in
    (free-whole _ _ _ _ _ _ _ _ _ _ _ _ i st c.ending_at.ensures c.free_size_at-right.ensures d1 d2' (rw e at ad)).0

pub returns-clause-frees : goal.returns-clause-frees
returns-clause-frees c =
    let sz = c.size_at.ensures in
    let st = site _ _ c.args.cell c.size_at.result c.requires.arena c.requires.exists sz in
    let i = c.requires.arena in
    let e = c.start-lo.ensures in
    let w = around _ _ c.args.cell c.size_at.result c.ending_at.result c.free_size_at-right.result i st c.ending_at.ensures c.free_size_at-right.ensures in
    let d1 = c.remove.ensures.drops _ i.listed (right-size _ _ _ _ _ _ i w c.free_size_at-right.ensures) in
    let m = merged-place _ _ _ _ _ _ i st c.ending_at.ensures c.free_size_at-right.ensures in
    let d2 = c.remove-2.ensures.drops _ d1.listed (rw e (left-there _ _ _ _ _ i st c.ending_at.ensures)) in
    let d2' = rw e at d2 in
    let ad = c.insert.ensures.adds _ d2'.listed (rw e m.4) in
    (free-whole _ _ _ _ _ _ _ _ _ _ _ _ i st c.ending_at.ensures c.free_size_at-right.ensures d1 d2' (rw e at ad)).1

pub returns-clause-contents : goal.returns-clause-contents
returns-clause-contents c =
    let sz = c.size_at.ensures in
    let st = site _ _ c.args.cell c.size_at.result c.requires.arena c.requires.exists sz in
    let i = c.requires.arena in
    let e = c.start-lo.ensures in
    let w = around _ _ c.args.cell c.size_at.result c.ending_at.result c.free_size_at-right.result i st c.ending_at.ensures c.free_size_at-right.ensures in
    let d1 = c.remove.ensures.drops _ i.listed (right-size _ _ _ _ _ _ i w c.free_size_at-right.ensures) in
    let m = merged-place _ _ _ _ _ _ i st c.ending_at.ensures c.free_size_at-right.ensures in
    let d2 = c.remove-2.ensures.drops _ d1.listed (rw e (left-there _ _ _ _ _ i st c.ending_at.ensures)) in
    let d2' = rw e at d2 in
    let ad = c.insert.ensures.adds _ d2'.listed (rw e m.4) in
    (free-whole _ _ _ _ _ _ _ _ _ _ _ _ i st c.ending_at.ensures c.free_size_at-right.ensures d1 d2' (rw e at ad)).2

pub returns-clause-split : goal.returns-clause-split
returns-clause-split c =
    let sz = c.size_at.ensures in
    let st = site _ _ c.args.cell c.size_at.result c.requires.arena c.requires.exists sz in
    let i = c.requires.arena in
    let e = c.start-lo.ensures in
    let w = around _ _ c.args.cell c.size_at.result c.ending_at.result c.free_size_at-right.result i st c.ending_at.ensures c.free_size_at-right.ensures in
    let d1 = c.remove.ensures.drops _ i.listed (right-size _ _ _ _ _ _ i w c.free_size_at-right.ensures) in
    let m = merged-place _ _ _ _ _ _ i st c.ending_at.ensures c.free_size_at-right.ensures in
    let d2 = c.remove-2.ensures.drops _ d1.listed (rw e (left-there _ _ _ _ _ i st c.ending_at.ensures)) in
    let d2' = rw e at d2 in
    let ad = c.insert.ensures.adds _ d2'.listed (rw e m.4) in
    let whole = free-whole _ _ _ _ _ _ _ _ _ _ _ _ i st c.ending_at.ensures c.free_size_at-right.ensures d1 d2' (rw e at ad) in
    split-kept _ _ _ _ whole.3 (c.insert.ensures.parts ∙ c.remove-2.ensures.parts ∙ c.remove.ensures.parts) c.requires.split
