use Rattle.std.proofs.Common.{subst, ap, ◌∙◌, ◌++◌}
use Rattle.reg_arena.specs.Arena.{heap_of}
use Rattle.reg_arena.specs.EachCell.{GrowsFor}
use Rattle.reg_index.specs.Subkeys.{taken}
use Rattle.reg_names.specs.Names.{path_of}
use Rattle.reg_values.specs.ValueLists.{Makes}
use Rattle.reg_tree.specs.CellSizes.{LacksRoom}
use Rattle.reg_tree.specs.Internal.KeyCreation.{IsGrownAll}
use Rattle.reg_tree.proofs.InsertKey.CarvedCells.{none-left}
use Rattle.reg_tree.proofs.InsertKey.CreatePathMade.{created, sizes_alone}
use Rattle.reg_tree.proofs.make.make_sharing.Goals as goal

pub returns-in-Ok-clause-ok : goal.returns-in-Ok-clause-ok
returns-in-Ok-clause-ok c = λ from path l.
    let made = c.in-Ok.made in
    let room = c.in-Ok.ensures.room in
    created _ _ from l.here _ c.args.moment made.node
    (subst (λ cells. IsGrownAll c.args.arena.now.bytes c.make_keys.new.arena.bytes l.here.root l.here.path (path_of path) c.args.moment l.here.holds.ring cells from made.node)
    (ap (λ cells. cells ++ taken made.security) (none-left (heap_of c.make_keys.new.arena) made.class room.0) ∙ none-left (heap_of c.make_keys.new.arena) made.security room.1)
    (c.in-Ok.ensures.ok from path l))

pub returns-in-Ok-clause-cells : goal.returns-in-Ok-clause-cells
returns-in-Ok-clause-cells c = λ from path l.
    subst (Makes (heap_of c.args.arena.now) (heap_of c.make_keys.new.arena)) (sizes_alone c.args.arena.now from l.here path _ _ l.reaches c.args.moment c.args.reached.place)
    (c.in-Ok.ensures.cells from path l)

pub returns-in-Ok-clause-growth : goal.returns-in-Ok-clause-growth
returns-in-Ok-clause-growth c = λ from path l.
    subst (GrowsFor c.args.arena.now.bytes c.make_keys.new.arena.bytes) (sizes_alone c.args.arena.now from l.here path _ _ l.reaches c.args.moment c.args.reached.place)
    (c.in-Ok.ensures.growth from path l)

pub returns-in-Err-clause-space : goal.returns-in-Err-clause-space
returns-in-Err-clause-space c = λ from path l full.
    subst (LacksRoom c.args.arena.now) (sizes_alone c.args.arena.now from l.here path _ _ l.reaches c.args.moment c.args.reached.place) (c.in-Err.ensures.space from path l full)
