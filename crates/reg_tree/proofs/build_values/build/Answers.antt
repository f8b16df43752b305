use Rattle.std.proofs.Common.{◌≡◌, [], length, refl, arith}
use Rattle.reg_values.specs.NewValues.{all_told}
use Rattle.reg_values.proofs.ValueListing.ValueListOpening.{members-length}
use Rattle.reg_values.proofs.ValueChanges.ValuesPlanned.{small-each, told-length}
use Rattle.reg_tree.proofs.InsertKey.CreatePathMade.{growth-then}
use Rattle.reg_tree.proofs.InsertKey.MadeCells.{makes_after}
use Rattle.reg_tree.proofs.ValueChange.ValueCells.{stay_after}
use Rattle.reg_tree.proofs.ValueChange.ValuesBuilt.{key_there, built, built_lengths}
use Rattle.reg_tree.proofs.ValueChange.ValuesMore.{noted_room}
use Rattle.reg_tree.proofs.build_values.build.Goals as goal

pub note-requires-clause-exists : goal.note-requires-clause-exists
note-requires-clause-exists c = key_there _ _ c.requires.bare _ _ _ _ c.in_ok-list.ensures.ok

pub returns-clause-ok : goal.returns-clause-ok
returns-clause-ok c =
    λ t. built _ _ c.requires.bare _ _ _ _ c.in_ok-list.ensures.ok _ _ _ c.args.moment refl refl
    c.note.ensures.notes t

pub returns-clause-lengths : goal.returns-clause-lengths
returns-clause-lengths c =
    λ t. built_lengths _ _ c.requires.bare _ _ _ _ c.in_ok-list.ensures.ok _ _ _ c.args.moment refl
    refl c.note.ensures.notes t

pub returns-clause-cells : goal.returns-clause-cells
returns-clause-cells c = makes_after _ _ _ _ c.in_ok-list.ensures.cells c.note.ensures.sizes

pub returns-clause-stay : goal.returns-clause-stay
returns-clause-stay c = stay_after _ _ _ c.in_ok-list.ensures.stay c.note.ensures.sizes

pub returns-clause-growth : goal.returns-clause-growth
returns-clause-growth c = growth-then _ _ _ _ c.note.ensures.long c.in_ok-list.ensures.growth

pub note-requires-clause-small : goal.note-requires-clause-small
note-requires-clause-small c = small-each (all_told c.args.values.now) [] c.requires.new

pub returns-clause-room : goal.returns-clause-room
returns-clause-room c = λ some.
    let n : length (all_told c.args.values.now) ≡ c.in_ok-list.list.count = members-length _ _ _ _ _ c.in_ok-list.ensures.ok.reads in
    let t = told-length c.args.values.now in
    noted_room _ _ c.args.key _ _ _ _ c.args.moment c.args.room (key_there _ _ c.requires.bare _ _ _ _ c.in_ok-list.ensures.ok)
    c.note.ensures.notes c.note.ensures.sizes (c.in_ok-list.ensures.room (omega (arith, n, t, some)))
