use Rattle.std.proofs.Common.{◌-◌, [], length, ap, sym, subst, arith}
use Rattle.reg_arena.specs.Arena.{heap_of}
use Rattle.reg_index.specs.Internal.IndexLists.{AreExchanged}
use Rattle.reg_index.specs.Subkeys.{exchanged, numbered}
use Rattle.reg_index.proofs.ListPlaces.{leaf-of, count-of, list-stands}
use Rattle.reg_index.proofs.EntryTaken.{none-left, none-over, one-fewer}
use Rattle.reg_index.proofs.ListsExchanged.{length-exchanged}
use Rattle.reg_index.proofs.removing.remove_entry.Goals as goal

pub count_entries-left-requires : goal.count_entries-left-requires
count_entries-left-requires c =
    let s = c.requires in
    (_, leaf-of (heap_of c.args.arena.now) c.args.offset s.0 c.args.place.list c.leaf_at-leaf.result s.1 s.2.0 (c.leaf_at-leaf.ensures s.0 s.1 s.2.0))

pub overflow_sub-left : goal.overflow_sub-left
overflow_sub-left c =
    let s = c.requires in
    let count = count-of (heap_of c.args.arena.now) c.args.offset s.0 c.args.place.list c.leaf_at-leaf.result c.count_entries-left.result s.1 s.2.0
    (c.leaf_at-leaf.ensures s.0 s.1 s.2.0) c.count_entries-left.ensures in
    omega (arith, count, s.2.1)

pub returns-then-left-eq0-clause-lists : goal.returns-then-left-eq0-clause-lists
returns-then-left-eq0-clause-lists c = λ lists h stands once.
    let is = c.leaf_at-leaf.ensures lists h stands.0 in
    let count = count-of (heap_of c.args.arena.now) c.args.offset lists c.args.place.list c.leaf_at-leaf.result c.count_entries-left.result h stands.0 is c.count_entries-left.ensures in
    let none = none-left (heap_of c.args.arena.now) (heap_of c.drop_list.new.arena) c.args.offset c.leaf_at-leaf.result (c.count_entries-left.result - 1) c.args.place lists h stands
    once is (omega (arith, count, stands.1)) c.if-left-eq0.true in
    subst (λ others. AreExchanged (heap_of c.args.arena.now) (heap_of c.drop_list.new.arena) c.args.offset lists c.drop_list.result (exchanged c.args.place.list others lists) [])
    (sym none) (c.drop_list.ensures.lists lists h stands.0 once)

pub returns-then-left-eq0-clause-place : goal.returns-then-left-eq0-clause-place
returns-then-left-eq0-clause-place c = λ lists h stands several.
    let list = numbered c.args.place.list lists in
    let is = c.leaf_at-leaf.ensures lists h stands.0 in
    let count = count-of (heap_of c.args.arena.now) c.args.offset lists c.args.place.list c.leaf_at-leaf.result c.count_entries-left.result h stands.0 is c.count_entries-left.ensures in
    let none = none-over list.offset c.args.place.index list.list.entries stands.1 (omega (arith, count, stands.1, c.if-left-eq0.true)) in
    let left = ap (λ others. length (exchanged c.args.place.list others lists)) none in
    c.drop_list.ensures.place lists h stands.0 (omega (arith, several, left, length-exchanged c.args.place.list [] lists stands.0))

pub close-requires-clause-leaf : goal.close-requires-clause-leaf
close-requires-clause-leaf c =
    let s = c.requires in
    let is = c.leaf_at-leaf.ensures s.0 s.1 s.2.0 in
    let count = count-of (heap_of c.args.arena.now) c.args.offset s.0 c.args.place.list c.leaf_at-leaf.result c.count_entries-left.result s.1 s.2.0 is c.count_entries-left.ensures in
    (_, leaf-of (heap_of c.args.arena.now) c.args.offset s.0 c.args.place.list c.leaf_at-leaf.result s.1 s.2.0 is, omega (arith, count, s.2.1))

pub close-requires-clause-few : goal.close-requires-clause-few
close-requires-clause-few c =
    let s = c.requires in
    let count = count-of (heap_of c.args.arena.now) c.args.offset s.0 c.args.place.list c.leaf_at-leaf.result c.count_entries-left.result s.1 s.2.0
    (c.leaf_at-leaf.ensures s.0 s.1 s.2.0) c.count_entries-left.ensures in
    omega (arith, count, (list-stands (heap_of c.args.arena.now) c.args.offset s.0 c.args.place.list s.1 s.2.0).written.few)

pub close-requires-clause-index : goal.close-requires-clause-index
close-requires-clause-index c =
    let s = c.requires in
    let count = count-of (heap_of c.args.arena.now) c.args.offset s.0 c.args.place.list c.leaf_at-leaf.result c.count_entries-left.result s.1 s.2.0
    (c.leaf_at-leaf.ensures s.0 s.1 s.2.0) c.count_entries-left.ensures in
    omega (arith, count, s.2.1)

pub returns-clause-lists : goal.returns-clause-lists
returns-clause-lists c = λ lists h stands once.
    let is = c.leaf_at-leaf.ensures lists h stands.0 in
    let count = count-of (heap_of c.args.arena.now) c.args.offset lists c.args.place.list c.leaf_at-leaf.result c.count_entries-left.result h stands.0 is c.count_entries-left.ensures in
    one-fewer (heap_of c.args.arena.now) (heap_of c.close.new.arena) c.args.offset c.leaf_at-leaf.result (c.count_entries-left.result - 1) c.args.place lists h stands
    once is (omega (arith, count, stands.1)) (omega (arith, c.if-left-eq0.false)) c.close.ensures.writes
    (c.close.ensures.leaf _ (leaf-of (heap_of c.args.arena.now) c.args.offset lists c.args.place.list c.leaf_at-leaf.result h stands.0 is) (omega (arith, count, stands.1)))
