use Rattle.std.proofs.Common.{arith, vec_capacity}
use Rattle.reg_heap.specs.declared.limits.TheConstants.{NONE}
use Rattle.reg_arena.specs.Internal.Reserved.{IsRoomFor}
use Rattle.reg_arena.proofs.FreeList.ListedArenas.{no-fit}
use Rattle.reg_arena.proofs.Carving.FreshBins.{fresh-is}
use Rattle.reg_arena.proofs.Carving.ReservedRoom.{reserved-then, tables-first}
use Rattle.reg_arena.proofs.Carving.SpareBins.{blank-some, spare-skip}
use Rattle.reg_arena.proofs.each.carve_one.Goals as goal

pub best_fit-requires-clause-lists : goal.best_fit-requires-clause-lists
best_fit-requires-clause-lists c = record { sizes = _; listed = c.requires.arena.listed }

pub carve_found-requires-clause-fit : goal.carve_found-requires-clause-fit
carve_found-requires-clause-fit c = record {
  indexed = record { arena = c.requires.arena.arena; listed = c.best_fit.ensures.listed _ c.requires.arena.listed };
  fit_is = c.in-Some.ensures.fit _ c.requires.arena.listed;
}

pub returns-clause-keeps : goal.returns-clause-keeps
returns-clause-keeps c = tables-first _ _ _ _ _ c.best_fit.ensures.keeps c.carve_found.ensures.keeps

pub returns-in_default-take_spare-clause-arena : goal.returns-in_default-take_spare-clause-arena
returns-in_default-take_spare-clause-arena c = record { arena = c.requires.arena.arena; listed = c.best_fit.ensures.listed _ c.requires.arena.listed }

pub returns-in_default-take_spare-clause-carves : goal.returns-in_default-take_spare-clause-carves
returns-in_default-take_spare-clause-carves c =
    let none = no-fit _ _ _ c.requires.arena (c.in_default.ensures.fit _ c.requires.arena.listed) in
    absurd (rw c.in_default-take_spare.is at (c.take_spare.ensures.taken _ (c.requires.spare none)))

pub carve_blank-requires-clause-arena : goal.carve_blank-requires-clause-arena
carve_blank-requires-clause-arena c = record { arena = c.requires.arena.arena; listed = c.best_fit.ensures.listed _ c.requires.arena.listed }

pub carve_blank-requires-clause-none : goal.carve_blank-requires-clause-none
carve_blank-requires-clause-none c = no-fit _ _ _ c.requires.arena (c.in_default.ensures.fit _ c.requires.arena.listed)

pub blank_in-blank-requires-clause-none : goal.blank_in-blank-requires-clause-none
blank_in-blank-requires-clause-none c =
    let none = no-fit _ _ _ c.requires.arena (c.in_default.ensures.fit _ c.requires.arena.listed) in
    let room : IsRoomFor c.in-Some-take_spare.memory.items (vec_capacity c.in-Some-take_spare.memory) c.args.size =
    rw c.in-Some-take_spare.is at (c.take_spare.ensures.taken _ (c.requires.spare none)) in
    room.none

pub blank_in-blank-requires-clause-room : goal.blank_in-blank-requires-clause-room
blank_in-blank-requires-clause-room c =
    let none = no-fit _ _ _ c.requires.arena (c.in_default.ensures.fit _ c.requires.arena.listed) in
    let room : IsRoomFor c.in-Some-take_spare.memory.items (vec_capacity c.in-Some-take_spare.memory) c.args.size =
    rw c.in-Some-take_spare.is at (c.take_spare.ensures.taken _ (c.requires.spare none)) in
    omega (arith, room.fits _ c.bin_size.ensures.least)

pub carve_blank-requires-clause-blank : goal.carve_blank-requires-clause-blank
carve_blank-requires-clause-blank c = blank-some _ _ _ c.blank_in-blank.ensures c.bin_size.ensures.least

pub carve_blank-requires-clause-limit : goal.carve_blank-requires-clause-limit
carve_blank-requires-clause-limit c =
    let blank = blank-some _ _ _ c.blank_in-blank.ensures c.bin_size.ensures.least in
    omega (arith, fresh-is _ _ blank.least, c.requires.limit)

pub carve_blank-requires-clause-reserved : goal.carve_blank-requires-clause-reserved
carve_blank-requires-clause-reserved c =
    let none = no-fit _ _ _ c.requires.arena (c.in_default.ensures.fit _ c.requires.arena.listed) in
    let blank = blank-some _ _ _ c.blank_in-blank.ensures c.bin_size.ensures.least in
    rw (fresh-is _ _ blank.least) (reserved-then _ _ _ _ c.best_fit.ensures.keeps (c.requires.reserved none))

pub returns-clause-left : goal.returns-clause-left
returns-clause-left c = λ sizes offsets offset spares differs. spare-skip NONE sizes offsets _ c.args.place offset spares differs
