use Rattle.std.proofs.Common.{arith, refl}
use Rattle.reg_arena.proofs.FreeList.ListedTake.{piece-of, take-previous, take-next, take-room, take-next-size, last-some}
use Rattle.reg_arena.proofs.FreeList.ListedSteps.{removed-none, removed}
use Rattle.reg_arena.specs.contracts.free_lists.FreeLists.{the_view}
use Rattle.reg_arena.proofs.free_lists.FreeLists.remove.Goals as goal

pub returns-then-size-eq0-clause-drops : goal.returns-then-size-eq0-clause-drops
returns-then-size-eq0-clause-drops c = λ sizes w there. removed-none _ _ _ _ _ w there c.if-size-eq0.true

pub list_of-class-requires-clause-eights : goal.list_of-class-requires-clause-eights
list_of-class-requires-clause-eights c = (piece-of _ _ _ _ _ _ _ _ c.requires.listed _ _ _ _ (omega arith) c.requires.there refl refl).size_eights

pub unlink-next-requires-clause-class : goal.unlink-next-requires-clause-class
unlink-next-requires-clause-class c =
    let h = rw (← c.self.view_is) at c.requires in
    (let r = take-room _ _ _ _ _ _ _ _ h.listed _ _ _ _ (omega arith) h.there refl refl in omega (arith, r.4))

pub unlink-next-requires-clause-cell : goal.unlink-next-requires-clause-cell
unlink-next-requires-clause-cell c =
    let h = rw (← c.self.view_is) at c.requires in
    (take-room _ _ _ _ _ _ _ _ h.listed _ _ _ _ (omega arith) h.there refl refl).0

pub unlink-next-requires-clause-cell_mark : goal.unlink-next-requires-clause-cell_mark
unlink-next-requires-clause-cell_mark c =
    let h = rw (← c.self.view_is) at c.requires in
    (take-room _ _ _ _ _ _ _ _ h.listed _ _ _ _ (omega arith) h.there refl refl).1

pub unlink-next-requires-clause-previous : goal.unlink-next-requires-clause-previous
unlink-next-requires-clause-previous c =
    let h = rw (← c.self.view_is) at c.requires in
    take-previous _ _ _ _ _ _ _ _ h.listed _ _ _ _ (omega arith) h.there refl refl

pub unlink-next-requires-clause-next : goal.unlink-next-requires-clause-next
unlink-next-requires-clause-next c =
    let h = rw (← c.self.view_is) at c.requires in
    take-next _ _ _ _ _ _ _ _ h.listed _ _ _ _ (omega arith) h.there refl refl

pub note_taken-requires-clause-firsts : goal.note_taken-requires-clause-firsts
note_taken-requires-clause-firsts c =
    let h = rw (← c.self.view_is) at c.requires in
    (let r = take-room _ _ _ _ _ _ _ _ h.listed _ _ _ _ (omega arith) h.there refl refl in h.listed.firsts_long (omega (arith, r.0)))

pub note_taken-requires-clause-words : goal.note_taken-requires-clause-words
note_taken-requires-clause-words c =
    let h = rw (← c.self.view_is) at c.requires in
    (let r = take-room _ _ _ _ _ _ _ _ h.listed _ _ _ _ (omega arith) h.there refl refl in h.listed.words_long (omega (arith, r.0)))

pub note_taken-requires-clause-next : goal.note_taken-requires-clause-next
note_taken-requires-clause-next c =
    let h = rw (← c.self.view_is) at c.requires in
    let z = take-next-size _ _ _ _ _ _ _ _ h.listed _ _ _ _ (omega arith) h.there refl c.unlink-next.ensures.next in
    rw (c.unlink-next.ensures.bytes, ← c.unlink-next.ensures.next) z

pub mark_last-requires : goal.mark_last-requires
mark_last-requires c =
    let h = rw (← c.self.view_is) at c.requires in
    λ l. (let r = take-room _ _ _ _ _ _ _ _ h.listed _ _ _ _ (omega arith) h.there refl refl in omega (arith, r.2, c.unlink-next.ensures.long))

pub overflow_sub-self : goal.overflow_sub-self
overflow_sub-self c =
    let h = rw (← c.self.view_is) at c.requires in
    (let z = last-some _ _ _ _ _ _ _ _ h.listed _ _ _ _ (omega arith) h.there refl c.unlink-next.ensures.next (omega arith) in omega
    (arith, c.one_if_large.ensures))

pub returns-clause-drops : goal.returns-clause-drops
returns-clause-drops c =
    rw (← c.self.view_is) (let e = c.unlink-next.ensures.next in
    λ sizes w there. removed _ sizes (the_view c.self.inside) _ _ _ _ _ _ _ w there (omega arith) refl refl (omega arith) c.list_of-class.ensures
    c.unlink-next.ensures.bytes c.unlink-next.ensures.heads (rw e at c.note_taken.ensures.firsts) c.note_taken.ensures.long
    _ c.mark_last.ensures.table c.unlink-next.ensures.marks
    (let z = last-some _ _ _ _ _ _ _ _ w _ _ _ _ (omega arith) there refl e (omega arith) in omega (arith, c.one_if_large.ensures)) refl)
