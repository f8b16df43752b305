use Rattle.std.proofs.Common.{◌≤◌, ℕ, List, subst, sym, ◌∙◌}
use Rattle.reg_heap.specs.Heaps.{allocated}
use Rattle.reg_heap.specs.Kinds.{Found, owned}
use Rattle.reg_arena.specs.Arena.{heap_of}
use Rattle.reg_shape.specs.Nodes.{member_at}
use Rattle.reg_shape.specs.Written.{AreWritten}
use Rattle.reg_values.specs.Internal.ValueListParts.{Owns, GivesUpRead}
use Rattle.reg_values.proofs.ValueListing.FoundValues.{stands, same-read}
use Rattle.reg_values.proofs.ValueChanges.ValueRemoved.{at-index, list-owns, item-owns, removed}
use Rattle.reg_values.proofs.removing.remove_at.Goals as goal

pub cell_of-cell-requires-clause-list : goal.cell_of-cell-requires-clause-list
cell_of-cell-requires-clause-list c =
    let v = c.requires.values in
    (stands (heap_of c.args.arena.now) c.args.list.count c.args.list.offset v.members v.met c.args.index v.reads v.written.each c.requires.index).list_here

pub cell_of-cell-requires-clause-index : goal.cell_of-cell-requires-clause-index
cell_of-cell-requires-clause-index c =
    let v = c.requires.values in
    (stands (heap_of c.args.arena.now) c.args.list.count c.args.list.offset v.members v.met c.args.index v.reads v.written.each c.requires.index).long

pub take_out-after-requires-clause-list : goal.take_out-after-requires-clause-list
take_out-after-requires-clause-list c =
    let v = c.requires.values in
    let h = heap_of c.args.arena.now in
    let a = at-index h c.args.list.count c.args.list.offset v.members v.met c.args.index v.reads v.written c.requires.index in
    list-owns h c.args.list.count c.args.list.offset v.members v.met c.args.index v.reads v.once v.written a

pub free_value-requires : goal.free_value-requires
free_value-requires c =
    let v = c.requires.values in
    let h = heap_of c.args.arena.now in
    let n = c.args.list.count in
    let p = c.args.list.offset in
    let h1 = heap_of c.take_out-after.new.arena in
    let a = at-index h n p v.members v.met c.args.index v.reads v.written c.requires.index in
    let i = item-owns h n p v.members v.met c.args.index v.reads v.once v.written a h1 _ _ (c.take_out-after.ensures.list a.row a.list_met a.list_is) in
    subst (λ o. Owns (member_at o) h1) (a.cell_is ∙ sym c.cell_of-cell.ensures) i

pub returns-clause-list : goal.returns-clause-list
returns-clause-list c = λ members met e.
    let v = c.requires.values in
    let h = heap_of c.args.arena.now in
    let n = c.args.list.count in
    let p = c.args.list.offset in
    let h1 = heap_of c.take_out-after.new.arena in
    let h2 = heap_of c.free_value.new.arena in
    let same = same-read h n p v members met e in
    let written = subst (AreWritten h n p) same.0 v.written in
    let once = subst (λ (zs : List Found). (z : ℕ) → owned z zs ≤ allocated h z) same.1 v.once in
    let a = at-index h n p members met c.args.index e written c.requires.index in
    let g = subst (λ o. GivesUpRead (member_at o) h1 h2) (c.cell_of-cell.ensures ∙ sym a.cell_is) c.free_value.ensures.gone in
    removed h n p members met c.args.index e once written a h1 _ _ (c.take_out-after.ensures.list a.row a.list_met a.list_is) h2 g
    c.take_out-after.ensures.count c.take_out-after.ensures.none
