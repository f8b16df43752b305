use Rattle.reg_arena.specs.Cells.{cell_at}
use Rattle.reg_records.specs.SubkeyLists.{Entry}
use Rattle.reg_tree_image.specs.KeysAtPaths.{names_in}
use Rattle.reg_tree_image.specs.Internal.ListParts.{entries_in}
use Rattle.reg_tree_image.proofs.Readers.NamesListed.{list-exit, names-exit, list-listed, no-list-left}
use Rattle.reg_tree_image.proofs.path_listing.append_in_lists.Goals as goal

pub returns-in_err-list : goal.returns-in_err-list
returns-in_err-list c path =
    let entry : Entry = record { offset = c.in-Some.offset; hint = c.in-Some.ensures.next.0 } in
    list-exit (cell_at c.args.bins.now) path (names_in c.args.names.now.items) (entries_in c.args.root_list) _ (names_in c.loop-offset.names.items)
    (entries_in c.loop-offset.lists) _ (c.loop-offset.invariant path) entry
    (entries_in c.take.new.self) c.in-Some.ensures.next.1 _ _ _ _ c.from_residual.ensures.1 (c.in_err-list.ensures.follows path)

pub returns-in_err-append_names : goal.returns-in_err-append_names
returns-in_err-append_names c path =
    let entry : Entry = record { offset = c.in-Some.offset; hint = c.in-Some.ensures.next.0 } in
    names-exit (cell_at c.args.bins.now) path (names_in c.args.names.now.items) (entries_in c.args.root_list) _ (names_in c.loop-offset.names.items)
    (entries_in c.loop-offset.lists) _ (c.loop-offset.invariant path) entry
    (entries_in c.take.new.self) c.in-Some.ensures.next.1 _ c.in_ok-list.list (c.in_ok-list.ensures.follows path) (names_in c.append_names.new.names.items) _ _ _ _
    c.from_residual-in_err-append_names.ensures.1 (c.in_err-append_names.ensures.follows path)

pub loop-offset-preserved : goal.loop-offset-preserved
loop-offset-preserved c path =
    let entry : Entry = record { offset = c.in-Some.offset; hint = c.in-Some.ensures.next.0 } in
    list-listed (cell_at c.args.bins.now) path (names_in c.args.names.now.items) (entries_in c.args.root_list) _ (names_in c.loop-offset.names.items)
    (entries_in c.loop-offset.lists) _ (c.loop-offset.invariant path) entry
    (entries_in c.take.new.self) c.in-Some.ensures.next.1 _ c.in_ok-list.list (c.in_ok-list.ensures.follows path) (names_in c.append_names.new.names.items) _
    (c.in_ok-append_names.ensures.follows path)

pub returns : goal.returns
returns c path =
    no-list-left (cell_at c.args.bins.now) path (names_in c.args.names.now.items) (entries_in c.args.root_list) _ (names_in c.loop-offset.names.items)
    (entries_in c.loop-offset.lists) _ (c.loop-offset.invariant path)
    c.in_default.ensures.next
