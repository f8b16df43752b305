use Rattle.std.proofs.Common.{arith, ◌+◌, length}
use Rattle.reg_arena.specs.EachCell.{fresh_of}
use Rattle.reg_arena.specs.Internal.ListedCells.{IsIndexed}
use Rattle.reg_arena.specs.Internal.Reserved.{AreReserved}
use Rattle.reg_arena.proofs.FreeList.ListedArenas.{total-positive, fit-some}
use Rattle.reg_arena.proofs.Carving.CarveWhole.{total-eights}
use Rattle.reg_arena.proofs.Carving.SpareBins.{fresh-pages, total-fresh, spares-ok}
use Rattle.reg_arena.proofs.each.spares_for.Goals as goal

pub sum_of-requires : goal.sum_of-requires
sum_of-requires c = omega (arith, total-fresh c.args.sizes.now, c.requires.fresh, c.requires.limit)

pub best_fit-requires-clause-some : goal.best_fit-requires-clause-some
best_fit-requires-clause-some c = rw c.sum_of.ensures (total-positive c.args.sizes.now c.requires.sizes c.requires.some)

pub best_fit-requires-clause-eights : goal.best_fit-requires-clause-eights
best_fit-requires-clause-eights c = rw c.sum_of.ensures (total-eights c.args.sizes.now c.requires.sizes)

pub best_fit-requires-clause-lists : goal.best_fit-requires-clause-lists
best_fit-requires-clause-lists c = record { sizes = _; listed = c.requires.arena.listed }

pub returns-in-Some-clause-arena : goal.returns-in-Some-clause-arena
returns-in-Some-clause-arena c = record { arena = c.requires.arena.arena; listed = c.best_fit.ensures.listed _ c.requires.arena.listed }

pub returns-in-Some-clause-ok : goal.returns-in-Some-clause-ok
returns-in-Some-clause-ok c = λ none.
    let f = c.in-Some.ensures.fit _ c.requires.arena.listed in
    absurd (fit-some _ _ _ _ _ c.requires.arena f.free (rw c.sum_of.ensures at f.fits) (total-positive c.args.sizes.now c.requires.sizes c.requires.some) none)

pub returns-in_err-make_room-clause-arena : goal.returns-in_err-make_room-clause-arena
returns-in_err-make_room-clause-arena c =
    record { arena = c.requires.arena.arena; listed = c.make_room.ensures.listed _ _ (c.best_fit.ensures.listed _ c.requires.arena.listed) }

pub returns-in_err-reserve-clause-arena : goal.returns-in_err-reserve-clause-arena
returns-in_err-reserve-clause-arena c =
    let now : IsIndexed c.args.bins.now.items c.make_room.new.self =
    record { arena = c.requires.arena.arena; listed = c.make_room.ensures.listed _ _ (c.best_fit.ensures.listed _ c.requires.arena.listed) } in
    rw c.reserve.ensures.items now

pub returns-in_err-make_kept_room-clause-arena : goal.returns-in_err-make_kept_room-clause-arena
returns-in_err-make_kept_room-clause-arena c =
    let now : IsIndexed c.args.bins.now.items c.make_room.new.self =
    record { arena = c.requires.arena.arena; listed = c.make_room.ensures.listed _ _ (c.best_fit.ensures.listed _ c.requires.arena.listed) } in
    rw c.reserve.ensures.items now

pub returns-clause-arena : goal.returns-clause-arena
returns-clause-arena c =
    let now : IsIndexed c.args.bins.now.items c.make_room.new.self =
    record { arena = c.requires.arena.arena; listed = c.make_room.ensures.listed _ _ (c.best_fit.ensures.listed _ c.requires.arena.listed) } in
    rw c.reserve.ensures.items now

pub returns-clause-ok : goal.returns-clause-ok
returns-clause-ok c =
    let long = c.len.ensures.long in
    let room = c.in_ok-make_room.ensures.ok in
    let fresh = c.requires.fresh in
    let reserved : AreReserved (length c.args.bins.now.items + fresh_of c.args.sizes.now) c.reserve.new.self.room c.make_room.new.self = record {
      bytes = omega (arith, c.in_ok-reserve.ensures.ok, fresh, fresh-pages c.args.sizes.now);
      marks_long = omega (arith, room.marks, long, fresh);
      firsts_long = room.firsts;
      words_long = room.words;
    } in
    spares-ok _ _ c.make_spares.result reserved c.make_spares.ensures.spares
