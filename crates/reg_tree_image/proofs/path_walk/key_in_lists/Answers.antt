use Rattle.reg_arena.specs.Cells.{cell_at}
use Rattle.reg_records.specs.SubkeyLists.{Entry}
use Rattle.reg_tree_image.specs.Internal.ListParts.{entries_in}
use Rattle.reg_tree_image.proofs.Readers.PathSteps.{search-found, search-passed, no-list-left}
use Rattle.reg_tree_image.proofs.path_walk.key_in_lists.Goals as goal

pub returns-in-Some-2-clause-follows : goal.returns-in-Some-2-clause-follows
returns-in-Some-2-clause-follows c path =
    let entry : Entry = record { offset = c.in-Some.offset; hint = c.in-Some.ensures.next.0 } in
    search-found (cell_at c.args.bins.now) path c.args.name.now (entries_in c.args.root_list) _ (entries_in c.loop-offset.lists) _
    (c.loop-offset.invariant path) entry
    (entries_in c.take.new.self) c.in-Some.ensures.next.1 _ c.in_ok-list.list (c.in_ok-list.ensures.follows path) _ c.in_ok-found.field-0
    (c.in_ok-found.ensures.follows path)
    c.in-Some-2.found c.in-Some-2.is

pub loop-offset-preserved : goal.loop-offset-preserved
loop-offset-preserved c path =
    let entry : Entry = record { offset = c.in-Some.offset; hint = c.in-Some.ensures.next.0 } in
    search-passed (cell_at c.args.bins.now) path c.args.name.now (entries_in c.args.root_list) _ (entries_in c.loop-offset.lists) _
    (c.loop-offset.invariant path) entry
    (entries_in c.take.new.self) c.in-Some.ensures.next.1 _ c.in_ok-list.list (c.in_ok-list.ensures.follows path) _ c.in_ok-found.field-0
    (c.in_ok-found.ensures.follows path)
    c.in_default-2.is

pub returns-clause-follows : goal.returns-clause-follows
returns-clause-follows c path =
    no-list-left (cell_at c.args.bins.now) path c.args.name.now (entries_in c.args.root_list) _ (entries_in c.loop-offset.lists) _
    (c.loop-offset.invariant path)
    c.in_default.ensures.next
