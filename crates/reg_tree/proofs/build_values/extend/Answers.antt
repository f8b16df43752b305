use Rattle.std.proofs.Common.{◌*◌, List, [], sym, subst, arith, refl}
use Rattle.reg_heap.specs.Paths.{Member}
use Rattle.reg_arena.specs.Arena.{heap_of}
use Rattle.reg_records.specs.RecordCells.{HasRoom}
use Rattle.reg_values.specs.NewValues.{all_told, MayFollow}
use Rattle.reg_values.proofs.ValueChanges.ValuesPlanned.{small-each, told-length}
use Rattle.reg_tree.proofs.Invariant.KeyOfTree.{key_there, list_values, list_reads, list_length}
use Rattle.reg_tree.proofs.ValueChange.TreeAfterValueChange.{key_mid}
use Rattle.reg_tree.proofs.KeyAnswers.RefinementOfValues.{to_members}
use Rattle.reg_tree.proofs.InsertKey.CreatePathMade.{growth-then}
use Rattle.reg_tree.proofs.InsertKey.MadeCells.{makes_after}
use Rattle.reg_tree.proofs.ValueChange.ValueCells.{stay_after}
use Rattle.reg_tree.proofs.ValueChange.ValuesMore.{list_room, noted_room, more_room, extended, extended_lengths}
use Rattle.reg_tree.proofs.build_values.extend.Goals as goal

pub values_list-old-requires : goal.values_list-old-requires
values_list-old-requires c = key_there _ _ c.requires.more.0

pub extend-requires-clause-values : goal.extend-requires-clause-values
extend-requires-clause-values c = list_values _ _ c.requires.more.0 _ _ c.values_list-old.ensures

pub extend-requires-clause-there : goal.extend-requires-clause-there
extend-requires-clause-there c =
    let n = list_length _ _ c.requires.more.0 _ _ c.values_list-old.ensures in
    let some = c.requires.more.1.some in
    omega (arith, n, some)

pub extend-requires-clause-room : goal.extend-requires-clause-room
extend-requires-clause-room c = more_room _ _ c.requires.more.0 c.args.values.now c.requires.more.1 _ _ c.values_list-old.ensures

pub extend-requires-clause-few : goal.extend-requires-clause-few
extend-requires-clause-few c =
    let n = list_length _ _ c.requires.more.0 _ _ c.values_list-old.ensures in
    let few = c.requires.more.1.few in
    let t = told-length c.args.values.now in
    omega (arith, n, few, t)

pub extend-requires-clause-new : goal.extend-requires-clause-new
extend-requires-clause-new c =
    to_members _ _ c.requires.more.0 _ _ c.values_list-old.ensures [] (λ (ms : List Member). MayFollow ms (all_told c.args.values.now)) c.requires.more.1.new

pub note-requires-clause-small : goal.note-requires-clause-small
note-requires-clause-small c = small-each (all_told c.args.values.now) _ c.requires.more.1.new

pub note-requires-clause-exists : goal.note-requires-clause-exists
note-requires-clause-exists c =
    key_mid _ _ _ c.requires.more.0 _ _ _ (c.in_ok-list.ensures.ok _ _ (list_reads _ _ c.requires.more.0 _ _ c.values_list-old.ensures))

pub returns-clause-ok : goal.returns-clause-ok
returns-clause-ok c =
    λ t. extended _ _ _ _ t _ _ c.values_list-old.ensures c.in_ok-list.list.count c.in_ok-list.list.offset (all_told c.args.values.now)
    c.in_ok-list.ensures.ok _ _ c.args.moment refl refl c.note.ensures.notes

pub returns-clause-lengths : goal.returns-clause-lengths
returns-clause-lengths c =
    λ t. extended_lengths _ _ _ _ t _ _ c.values_list-old.ensures c.in_ok-list.list.count c.in_ok-list.list.offset (all_told c.args.values.now)
    c.in_ok-list.ensures.ok _ _ c.args.moment refl refl c.note.ensures.notes

pub returns-clause-room : goal.returns-clause-room
returns-clause-room c = λ room r.
    noted_room _ _ c.args.key _ _ _ _ c.args.moment room
    (key_mid _ _ _ c.requires.more.0 _ _ _ (c.in_ok-list.ensures.ok _ _ (list_reads _ _ c.requires.more.0 _ _ c.values_list-old.ensures)))
    c.note.ensures.notes c.note.ensures.sizes
    (subst (λ o. HasRoom (heap_of c.extend.new.arena) o (4 * room)) (sym c.in_ok-list.ensures.same) (c.in_ok-list.ensures.room (4 * room) (list_room _ c.args.key _ _ room r c.values_list-old.ensures)))

pub returns-clause-cells : goal.returns-clause-cells
returns-clause-cells c = makes_after _ _ _ _ c.in_ok-list.ensures.cells c.note.ensures.sizes

pub returns-clause-stay : goal.returns-clause-stay
returns-clause-stay c = stay_after _ _ _ c.in_ok-list.ensures.stay c.note.ensures.sizes

pub returns-clause-growth : goal.returns-clause-growth
returns-clause-growth c = growth-then _ _ _ _ c.note.ensures.long c.in_ok-list.ensures.growth
