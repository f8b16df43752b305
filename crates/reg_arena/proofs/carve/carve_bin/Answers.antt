use Rattle.reg_arena.specs.Carves.{NoFit}
use Rattle.reg_arena.specs.Internal.ListedCells.{IsIndexed}
use Rattle.reg_arena.proofs.carve.carve_bin.Goals as goal

pub returns-in_default-clause-arena : goal.returns-in_default-clause-arena
returns-in_default-clause-arena c =
    let i = c.requires.arena in
    let now : IsIndexed c.args.bins.now.items c.blank_bin.new.lists = record { arena = i.arena; listed = c.blank_bin.ensures.listed _ i.listed } in
    rw c.blank_bin.ensures.items now

pub carve_blank-requires-clause-arena : goal.carve_blank-requires-clause-arena
carve_blank-requires-clause-arena c =
    let i = c.requires.arena in
    let now : IsIndexed c.args.bins.now.items c.blank_bin.new.lists = record { arena = i.arena; listed = c.blank_bin.ensures.listed _ i.listed } in
    rw c.blank_bin.ensures.items now

pub carve_blank-requires-clause-none : goal.carve_blank-requires-clause-none
carve_blank-requires-clause-none c =
    let none : NoFit c.args.bins.now.items c.args.total = c.requires.none in
    rw c.blank_bin.ensures.items none
