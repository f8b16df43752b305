use Rattle.std.proofs.Common.{arith}
use Rattle.reg_arena.proofs.FreeList.ListedSteps.{inserted-none, inserted}
use Rattle.reg_arena.proofs.FreeList.ListedSpots.{few, counted-most}
use Rattle.reg_arena.proofs.FreeList.ListedPut.{put-previous, put-next, put-room}
use Rattle.reg_arena.specs.contracts.free_lists.FreeLists.{the_view}
use Rattle.reg_arena.proofs.free_lists.FreeLists.insert.Goals as goal

pub returns-then-size-eq0-clause-adds : goal.returns-then-size-eq0-clause-adds
returns-then-size-eq0-clause-adds c = λ sizes w free. inserted-none _ _ _ _ _ w c.if-size-eq0.true

pub link_in-requires-clause-class : goal.link_in-requires-clause-class
link_in-requires-clause-class c =
    let h = rw (← c.self.view_is) at c.requires in
    let r = put-room _ _ _ _ _ _ _ _ h.listed _ _ _ h.piece (omega arith) h.free c.first_of-previous.ensures.low c.first_of-previous.ensures.high in omega (arith, r.4)

pub link_in-requires-clause-previous : goal.link_in-requires-clause-previous
link_in-requires-clause-previous c =
    let h = rw (← c.self.view_is) at c.requires in
    put-previous _ _ _ _ _ _ _ _ h.listed _ _ _ h.piece
    (omega arith) h.free c.first_of-previous.ensures.low c.first_of-previous.ensures.high

pub link_in-requires-clause-next : goal.link_in-requires-clause-next
link_in-requires-clause-next c =
    let h = rw (← c.self.view_is) at c.requires in
    put-next _ _ _ _ _ _ _ _ h.listed _ _ _ h.piece
    (omega arith) h.free c.first_of-previous.ensures.low c.first_of-previous.ensures.high _ c.list_of-class.ensures

pub overflow_add-self : goal.overflow_add-self
overflow_add-self c =
    let h = rw (← c.self.view_is) at c.requires in
    omega (arith, few _ _ _ _ _ _ _ _ h.listed, c.one_if_large.ensures, counted-most c.args.size)

pub returns-clause-adds : goal.returns-clause-adds
returns-clause-adds c =
    rw (← c.self.view_is) (λ sizes w free. inserted _ sizes (the_view c.self.inside) _ _ _ _ _ _ w c.requires.piece free (omega arith) c.first_of-previous.ensures.low
    c.first_of-previous.ensures.high c.list_of-class.ensures
    c.link_in.ensures.bytes c.link_in.ensures.heads c.note_put.ensures.firsts c.note_put.ensures.long
    _ c.mark_last.ensures.table c.link_in.ensures.marks c.link_in.ensures.short
    (omega (arith, c.one_if_large.ensures)) c.larger-self-inside.ensures.one (let z = c.larger-self-inside.ensures.other in omega arith))
