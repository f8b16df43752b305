use Rattle.std.proofs.Common.{sym, arith}
use Rattle.reg_arena.specs.Arena.{heap_of}
use Rattle.reg_shape.specs.Nodes.{lists_of}
use Rattle.reg_index.specs.Lengthening.{last_of}
use Rattle.reg_index.proofs.LongerSizes.{last-few, last-leaf, longer-is, some-lists}
use Rattle.reg_index.proofs.SubkeysOpening.{lists-has}
use Rattle.reg_index.proofs.lengthening.plan_longer.Goals as goal

pub last_leaf-leaf-requires : goal.last_leaf-leaf-requires
last_leaf-leaf-requires c =
    let s = c.requires.subkeys.1 in
    (lists_of s.index, lists-has _ _ _ _ s, some-lists (heap_of c.args.arena.now) c.args.list.count c.args.list.offset c.requires.some c.requires.subkeys.0 s)

pub count_entries-requires : goal.count_entries-requires
count_entries-requires c =
    let s = c.requires.subkeys.1 in
    let l = some-lists (heap_of c.args.arena.now) c.args.list.count c.args.list.offset c.requires.some c.requires.subkeys.0 s in (
      _,
      last-leaf (heap_of c.args.arena.now) c.args.list.count c.args.list.offset c.requires.some c.requires.subkeys.0 s c.last_leaf-leaf.result
          (c.last_leaf-leaf.ensures (lists_of s.index) (lists-has _ _ _ _ s) l),
    )

pub plan_longer_leaf-requires-clause-leaf : goal.plan_longer_leaf-requires-clause-leaf
plan_longer_leaf-requires-clause-leaf c =
    let s = c.requires.subkeys.1 in
    let l = some-lists (heap_of c.args.arena.now) c.args.list.count c.args.list.offset c.requires.some c.requires.subkeys.0 s in
    let leaf = last-leaf (heap_of c.args.arena.now) c.args.list.count c.args.list.offset c.requires.some c.requires.subkeys.0 s c.last_leaf-leaf.result
    (c.last_leaf-leaf.ensures (lists_of s.index) (lists-has _ _ _ _ s) l) in
    (_, leaf, sym (c.count_entries.ensures _ leaf))

pub plan_longer_leaf-requires-clause-few : goal.plan_longer_leaf-requires-clause-few
plan_longer_leaf-requires-clause-few c =
    let s = c.requires.subkeys.1 in
    let l = some-lists (heap_of c.args.arena.now) c.args.list.count c.args.list.offset c.requires.some c.requires.subkeys.0 s in
    let leaf = last-leaf (heap_of c.args.arena.now) c.args.list.count c.args.list.offset c.requires.some c.requires.subkeys.0 s c.last_leaf-leaf.result
    (c.last_leaf-leaf.ensures (lists_of s.index) (lists-has _ _ _ _ s) l) in
    let few = last-few (heap_of c.args.arena.now) c.args.list.count c.args.list.offset c.requires.some c.requires.subkeys.0 s in
    omega (arith, c.count_entries.ensures _ leaf, few)

pub returns : goal.returns
returns c =
    let s = c.requires.subkeys.1 in
    let l = some-lists (heap_of c.args.arena.now) c.args.list.count c.args.list.offset c.requires.some c.requires.subkeys.0 s in
    let is = c.last_leaf-leaf.ensures (lists_of s.index) (lists-has _ _ _ _ s) l in
    let leaf = last-leaf (heap_of c.args.arena.now) c.args.list.count c.args.list.offset c.requires.some c.requires.subkeys.0 s c.last_leaf-leaf.result is in
    longer-is (heap_of c.args.arena.now) c.args.list.count c.args.list.offset c.requires.some c.requires.subkeys.0 s c.args.more c.plan_longer_leaf.result
    (c.plan_longer_leaf.ensures (last_of (lists_of s.index)) is (sym (c.count_entries.ensures _ leaf)))
