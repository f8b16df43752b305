use Rattle.std.proofs.Common.{◌≡◌, ◌∙◌, Err, ap, subst, length, arith}
use Rattle.reg_arena.specs.EachCell.{GrowsFor}
use Rattle.reg_heap.specs.Members.{index_named}
use Rattle.reg_tree.specs.CellSizes.{LacksRoom}
use Rattle.reg_tree.proofs.Invariant.KeyOfTree.{key_there, list_values, list_reads, list_length}
use Rattle.reg_tree.proofs.ValueChange.TreeAfterValueChange.{key_mid, set_changed, set_lengths}
use Rattle.reg_tree.proofs.KeyAnswers.RefinementOfValues.{to_members, if_err}
use Rattle.reg_tree.proofs.InsertKey.CreatePathMade.{growth-then}
use Rattle.reg_tree.proofs.InsertKey.MadeCells.{makes_after, set_of_key, sizes_of_key}
use Rattle.reg_tree.proofs.ValueChange.ValueCells.{stay_after}
use Rattle.reg_tree.proofs.values.set_at.Goals as goal

pub values_list-old-requires : goal.values_list-old-requires
values_list-old-requires c = key_there _ _ c.requires.place.0

pub set_at-requires-clause-values : goal.set_at-requires-clause-values
set_at-requires-clause-values c = list_values _ _ c.requires.place.0 _ _ c.values_list-old.ensures

pub set_at-requires-clause-place : goal.set_at-requires-clause-place
set_at-requires-clause-place c =
    to_members _ _ c.requires.place.0 _ _ c.values_list-old.ensures c.args.name.now (λ ms. c.args.place ≡ index_named c.args.name.now ms) c.requires.place.1

pub set_at-requires-clause-room : goal.set_at-requires-clause-room
set_at-requires-clause-room c = λ none.
    let few = c.requires.room.1 none in
    let many = list_length _ _ c.requires.room.0 _ _ c.values_list-old.ensures in
    omega (arith, few, many)

pub note_values-requires-clause-exists : goal.note_values-requires-clause-exists
note_values-requires-clause-exists c =
    key_mid _ _ _ c.requires.place.0 _ _ _ (c.in_ok-list.ensures.ok _ _ (list_reads _ _ c.requires.place.0 _ _ c.values_list-old.ensures))

pub returns-clause-ok : goal.returns-clause-ok
returns-clause-ok c =
    λ t. set_changed _ _ _ _ _ _ c.args.name.now c.args.kind c.args.bytes.now c.args.moment c.in_ok-list.list.count c.in_ok-list.list.offset t c.values_list-old.ensures
    c.in_ok-list.ensures.ok c.note_values.ensures.notes

pub returns-clause-lengths : goal.returns-clause-lengths
returns-clause-lengths c =
    λ t. set_lengths _ _ _ _ _ _ c.args.name.now c.args.kind c.args.bytes.now c.args.moment c.in_ok-list.list.count c.in_ok-list.list.offset t c.values_list-old.ensures
    c.in_ok-list.ensures.ok c.note_values.ensures.notes

pub returns-clause-cells : goal.returns-clause-cells
returns-clause-cells c =
    set_of_key _ _ c.args.key _ _ c.args.name.now _ (key_there _ _ c.requires.place.0) c.values_list-old.ensures
    (makes_after _ _ _ _ c.in_ok-list.ensures.cells c.note_values.ensures.sizes)

pub returns-in_err-list-clause-space : goal.returns-in_err-list-clause-space
returns-in_err-list-clause-space c = if_err _ c.from_residual.result _ c.from_residual.ensures.1 (λ full.
    let e = c.in_err-list.was ∙ ap (λ f. Err f) full in
    subst (LacksRoom c.args.arena.now) (sizes_of_key _ c.args.key _ _ c.args.name.now (length c.args.bytes.now) (key_there _ _ c.requires.place.0) c.values_list-old.ensures)
    (c.set_at.ensures.some e, c.set_at.ensures.full e, c.set_at.ensures.limit e))

pub returns-clause-growth : goal.returns-clause-growth
returns-clause-growth c =
    growth-then _ _ _ _ c.note_values.ensures.long
    (subst (GrowsFor c.args.arena.now.bytes c.set_at.new.arena.bytes)
    (sizes_of_key _ c.args.key _ _ c.args.name.now (length c.args.bytes.now) (key_there _ _ c.requires.place.0) c.values_list-old.ensures) c.in_ok-list.ensures.growth)

pub returns-clause-stay : goal.returns-clause-stay
returns-clause-stay c = stay_after _ _ _ c.in_ok-list.ensures.stay c.note_values.ensures.sizes
