use Rattle.std.proofs.Common.{sym, subst}
use Rattle.reg_arena.specs.Arena.{heap_of}
use Rattle.reg_names.specs.Names.{path_of}
use Rattle.reg_tree.specs.Internal.DescriptorChange.{IsExpected}
use Rattle.reg_tree.proofs.PathWalk.ReachedSeen.{named}
use Rattle.reg_tree.proofs.InsertKey.DescribedLast.{security-size, describable, created_described, none_at_end, some_names, room_with, cells_with, growth_with}
use Rattle.reg_tree.proofs.InsertKey.MadeCells.{stay-keeping}
use Rattle.reg_tree.proofs.make.make_described.Goals as goal

pub make_keys-requires-clause-reached : goal.make_keys-requires-clause-reached
make_keys-requires-clause-reached c =
    let r = c.requires.reached in (r.0, r.1, r.2, r.4)

pub make_keys-requires-clause-more : goal.make_keys-requires-clause-more
make_keys-requires-clause-more c = security-size _ _ _ c.in-Ok.size c.requires.descriptor.1 c.in-Ok.ensures.ok

pub returns-in-Err-clause-space : goal.returns-in-Err-clause-space
returns-in-Err-clause-space c = λ from path l same full.
    let x = subst (λ t. IsExpected t c.expect.new.securities c.args.descriptor.now c.in-Ok.size) (sym same) c.in-Ok.ensures.ok in
    room_with c.args.arena.now from l.here path _ _ l.reaches 0 (named _ c.requires.missing) _ c.args.descriptor.now c.in-Ok.size x c.args.reached.place
    (c.in-Err.ensures.space from path l full)

pub describe-requires-clause-here : goal.describe-requires-clause-here
describe-requires-clause-here c =
    let l = c.requires.reached.2 in
    let x = subst (λ t. IsExpected t c.expect.new.securities c.args.descriptor.now c.in-Ok.size) (sym c.requires.reached.3) c.in-Ok.ensures.ok in
    let made = c.in-Ok-make_keys.made in
    let room = c.in-Ok-make_keys.ensures.room in
    describable _ _ _ l.here _ c.args.moment c.in-Ok.size made.class made.security made.node (c.in-Ok-make_keys.ensures.ok _ _ l) room.0 room.1 _ c.args.descriptor.now x

pub returns-clause-ok : goal.returns-clause-ok
returns-clause-ok c = λ from path l same.
    let some = named _ c.requires.missing in
    let x = subst (λ t. IsExpected t c.expect.new.securities c.args.descriptor.now c.in-Ok.size) (sym same) c.in-Ok.ensures.ok in
    let made = c.in-Ok-make_keys.made in
    let room = c.in-Ok-make_keys.ensures.room in
    let g = c.in-Ok-make_keys.ensures.ok from path l in
    created_described _ _ from l.here (path_of path) c.args.moment c.in-Ok.size made.class made.security made.node g room.0 room.1 _ c.args.descriptor.now x
    _ _ (some_names c.args.arena.now from l.here path _ _ l.reaches 0 some) (none_at_end c.args.arena.now from l.here path _ _ l.reaches 0 some)
    (c.describe.ensures.described
    (describable _ _ from l.here (path_of path) c.args.moment c.in-Ok.size made.class made.security made.node g room.0 room.1 _ c.args.descriptor.now x))

pub returns-clause-cells : goal.returns-clause-cells
returns-clause-cells c = λ from path l same.
    let some = named _ c.requires.missing in
    let x = subst (λ t. IsExpected t c.expect.new.securities c.args.descriptor.now c.in-Ok.size) (sym same) c.in-Ok.ensures.ok in
    let made = c.in-Ok-make_keys.made in
    let room = c.in-Ok-make_keys.ensures.room in
    let d = c.describe.ensures.described
    (describable _ _ from l.here (path_of path) c.args.moment c.in-Ok.size made.class made.security made.node (c.in-Ok-make_keys.ensures.ok from path l) room.0 room.1 _
    c.args.descriptor.now x) in
    cells_with c.args.arena.now from l.here path _ _ l.reaches 0 some _ c.args.descriptor.now c.in-Ok.size x (heap_of c.make_keys.new.arena) (heap_of c.describe.new.arena) _
    (c.in-Ok-make_keys.ensures.cells from path l) d.keeps d.leaves

pub returns-clause-stay : goal.returns-clause-stay
returns-clause-stay c =
    let l = c.requires.reached.2 in
    let x = subst (λ t. IsExpected t c.expect.new.securities c.args.descriptor.now c.in-Ok.size) (sym c.requires.reached.3) c.in-Ok.ensures.ok in
    let made = c.in-Ok-make_keys.made in
    let room = c.in-Ok-make_keys.ensures.room in
    let d = c.describe.ensures.described
    (describable _ _ _ l.here _ c.args.moment c.in-Ok.size made.class made.security made.node (c.in-Ok-make_keys.ensures.ok _ _ l) room.0 room.1 _ c.args.descriptor.now x) in
    stay-keeping _ (heap_of c.make_keys.new.arena) _ c.in-Ok-make_keys.ensures.stay d.keeps

pub returns-clause-growth : goal.returns-clause-growth
returns-clause-growth c = λ from path l same.
    let x = subst (λ t. IsExpected t c.expect.new.securities c.args.descriptor.now c.in-Ok.size) (sym same) c.in-Ok.ensures.ok in
    growth_with c.args.arena.now from l.here path _ _ l.reaches 0 (named _ c.requires.missing) _ c.args.descriptor.now c.in-Ok.size x c.args.reached.place
    _ _ c.describe.ensures.long (c.in-Ok-make_keys.ensures.growth from path l)
