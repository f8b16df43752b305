use Rattle.std.proofs.Common.{arith, sym, ◌∙◌}
use Rattle.reg_arena.specs.Arena.{heap_of}
use Rattle.reg_shape.specs.Nodes.{lists_of}
use Rattle.reg_index.specs.Subkeys.{numbered}
use Rattle.reg_index.proofs.ListPlaces.{leaf-of, count-of, list-stands}
use Rattle.reg_index.proofs.SubkeysOpening.{lists-has}
use Rattle.reg_index.proofs.FoundPlaces.{lists-some}
use Rattle.reg_index.proofs.InsertSizes.{first-sizes, planned-two, planned-one, place-there}
use Rattle.reg_index.proofs.plan.plan_insert.Goals as goal

pub returns-then-list-eq0 : goal.returns-then-list-eq0
returns-then-list-eq0 c = first-sizes (heap_of c.args.arena.now) c.args.list.count c.args.list.offset c.args.place c.if-list-eq0.true

pub leaf_at-leaf-requires : goal.leaf_at-leaf-requires
leaf_at-leaf-requires c =
    let s = c.requires.subkeys.1 in
    (lists_of s.index, lists-has _ _ _ _ s, (place-there _ _ _ c.args.place _ s c.if-list-eq0.false c.requires.place).0)

pub count_entries-count-requires : goal.count_entries-count-requires
count_entries-count-requires c =
    let s = c.requires.subkeys.1 in
    let h = lists-has _ _ _ _ s in
    let l = (place-there _ _ _ c.args.place _ s c.if-list-eq0.false c.requires.place).0 in
    (_, leaf-of (heap_of c.args.arena.now) c.args.list.offset (lists_of s.index) c.args.place.list c.leaf_at-leaf.result h l (c.leaf_at-leaf.ensures (lists_of s.index) h l))

pub plan_root-requires : goal.plan_root-requires
plan_root-requires c =
    let s = c.requires.subkeys.1 in
    (lists_of s.index, lists-has _ _ _ _ s, lists-some _ _ _ _ s c.if-list-eq0.false)

pub returns-then-count-eq-LEAF_LIMIT : goal.returns-then-count-eq-LEAF_LIMIT
returns-then-count-eq-LEAF_LIMIT c =
    let s = c.requires.subkeys.1 in
    let h = lists-has _ _ _ _ s in
    let l = (place-there _ _ _ c.args.place _ s c.if-list-eq0.false c.requires.place).0 in
    let count = count-of (heap_of c.args.arena.now) c.args.list.offset (lists_of s.index) c.args.place.list c.leaf_at-leaf.result c.count_entries-count.result h l
    (c.leaf_at-leaf.ensures (lists_of s.index) h l) c.count_entries-count.ensures in
    planned-two (heap_of c.args.arena.now) c.args.list.count c.args.list.offset c.args.place c.requires.subkeys.0 s c.if-list-eq0.false c.plan_root.result
    (sym count ∙ c.if-count-eq-LEAF_LIMIT.true) (c.plan_root.ensures (lists_of s.index) h (lists-some _ _ _ _ s c.if-list-eq0.false))

pub plan_leaf-requires-clause-leaf : goal.plan_leaf-requires-clause-leaf
plan_leaf-requires-clause-leaf c =
    let s = c.requires.subkeys.1 in
    let h = lists-has _ _ _ _ s in
    let l = (place-there _ _ _ c.args.place _ s c.if-list-eq0.false c.requires.place).0 in
    let leaf = leaf-of (heap_of c.args.arena.now) c.args.list.offset (lists_of s.index) c.args.place.list c.leaf_at-leaf.result h l (c.leaf_at-leaf.ensures (lists_of s.index) h l) in
    (_, leaf, sym (c.count_entries-count.ensures _ leaf))

pub plan_leaf-requires-clause-few : goal.plan_leaf-requires-clause-few
plan_leaf-requires-clause-few c =
    let s = c.requires.subkeys.1 in
    let h = lists-has _ _ _ _ s in
    let l = (place-there _ _ _ c.args.place _ s c.if-list-eq0.false c.requires.place).0 in
    let count = count-of (heap_of c.args.arena.now) c.args.list.offset (lists_of s.index) c.args.place.list c.leaf_at-leaf.result c.count_entries-count.result h l
    (c.leaf_at-leaf.ensures (lists_of s.index) h l) c.count_entries-count.ensures in
    omega (arith, count, (list-stands (heap_of c.args.arena.now) c.args.list.offset (lists_of s.index) c.args.place.list h l).written.few)

pub returns : goal.returns
returns c =
    let s = c.requires.subkeys.1 in
    let h = lists-has _ _ _ _ s in
    let l = (place-there _ _ _ c.args.place _ s c.if-list-eq0.false c.requires.place).0 in
    let is = c.leaf_at-leaf.ensures (lists_of s.index) h l in
    let count = count-of (heap_of c.args.arena.now) c.args.list.offset (lists_of s.index) c.args.place.list c.leaf_at-leaf.result c.count_entries-count.result h l
    is c.count_entries-count.ensures in
    planned-one (heap_of c.args.arena.now) c.args.list.count c.args.list.offset c.args.place c.requires.subkeys.0 s c.if-list-eq0.false c.plan_leaf.result
    (λ e. c.if-count-eq-LEAF_LIMIT.false (count ∙ e)) (c.plan_leaf.ensures (numbered c.args.place.list (lists_of s.index)) is (sym count))
