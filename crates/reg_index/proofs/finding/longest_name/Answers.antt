use Rattle.std.proofs.Common.{◌<◌, ap, sym, ◌∙◌, length, arith}
use Rattle.std.specs.List.{fold}
use Rattle.reg_arena.specs.Arena.{heap_of}
use Rattle.reg_shape.specs.Nodes.{lists_of}
use Rattle.reg_index.proofs.FoundPlaces.{lists-some, lists-keys, keys-part}
use Rattle.reg_index.proofs.ListPlaces.{list-stands}
use Rattle.reg_index.proofs.ListsRead.{list-there, lists-head}
use Rattle.reg_index.proofs.LongestNames.{list-more, lists-passed, longer, no-names}
use Rattle.reg_index.proofs.SubkeysOpening.{lists-has}
use Rattle.reg_index.proofs.finding.longest_name.Goals as goal

pub returns-then-list-eq0 : goal.returns-then-list-eq0
returns-then-list-eq0 c = λ entries s. sym (no-names (heap_of c.args.arena.now) entries (s.number ∙ c.if-list-eq0.true))

pub content-root-requires : goal.content-root-requires
content-root-requires c =
    let s = c.requires.1 in
    let l = lists-head (heap_of c.args.arena.now) c.args.list.offset (lists_of s.index) (lists-has _ _ _ _ s) (lists-some _ _ _ _ s c.if-list-eq0.false) in
    list-there (heap_of c.args.arena.now) c.args.list.offset l.0 l.1

pub lists_in-number-end-requires : goal.lists_in-number-end-requires
lists_in-number-end-requires c =
    let s = c.requires.1 in
    (heap_of c.args.arena.now, c.args.list.offset, lists_of s.index, lists-has _ _ _ _ s, c.content-root.ensures, lists-some _ _ _ _ s c.if-list-eq0.false)

pub loop-number-init : goal.loop-number-init
loop-number-init c = λ entries s. ap (fold (longer (heap_of c.args.arena.now)) 0) s.entries_are

pub leaf_under-requires : goal.leaf_under-requires
leaf_under-requires c =
    let s = c.requires.1 in
    let h = lists-has _ _ _ _ s in
    let n = c.lists_in-number-end.ensures.count (heap_of c.args.arena.now) c.args.list.offset (lists_of s.index) h c.content-root.ensures (lists-some _ _ _ _ s c.if-list-eq0.false) in
    (c.args.list.offset, lists_of s.index, h, c.content-root.ensures, omega (arith, n, c.loop-number-test.true))

pub longest_in-longest-requires : goal.longest_in-longest-requires
longest_in-longest-requires c =
    let s = c.requires.1 in
    let h = lists-has _ _ _ _ s in
    let n = c.lists_in-number-end.ensures.count (heap_of c.args.arena.now) c.args.list.offset (lists_of s.index) h c.content-root.ensures (lists-some _ _ _ _ s c.if-list-eq0.false) in
    let l : c.loop-number.number < length (lists_of s.index) = omega (arith, n, c.loop-number-test.true) in
    let stands = list-stands (heap_of c.args.arena.now) c.args.list.offset (lists_of s.index) c.loop-number.number h l in (
      _,
      _,
      stands.leaf,
      c.leaf_under.ensures c.args.list.offset (lists_of s.index) h c.content-root.ensures l,
      keys-part (heap_of c.args.arena.now) (lists_of s.index) c.loop-number.number l (lists-keys _ _ _ _ s),
      stands.written.few,
    )

pub loop-number-preserved : goal.loop-number-preserved
loop-number-preserved c = λ entries s.
    let h = lists-has _ _ _ _ s in
    let n = c.lists_in-number-end.ensures.count (heap_of c.args.arena.now) c.args.list.offset (lists_of s.index) h c.content-root.ensures (lists-some _ _ _ _ s c.if-list-eq0.false) in
    let l : c.loop-number.number < length (lists_of s.index) = omega (arith, n, c.loop-number-test.true) in
    list-more (heap_of c.args.arena.now) (lists_of s.index) c.loop-number.number c.loop-number.longest c.longest_in-longest.result l
    (c.longest_in-longest.ensures _ _ (list-stands (heap_of c.args.arena.now) c.args.list.offset (lists_of s.index) c.loop-number.number h l).leaf
    (c.leaf_under.ensures c.args.list.offset (lists_of s.index) h c.content-root.ensures l)
    (keys-part (heap_of c.args.arena.now) (lists_of s.index) c.loop-number.number l (lists-keys _ _ _ _ s)))
    ∙ c.loop-number.invariant entries s

pub returns : goal.returns
returns c = λ entries s.
    let h = lists-has _ _ _ _ s in
    let n = c.lists_in-number-end.ensures.count (heap_of c.args.arena.now) c.args.list.offset (lists_of s.index) h c.content-root.ensures (lists-some _ _ _ _ s c.if-list-eq0.false) in
    sym (lists-passed (heap_of c.args.arena.now) (lists_of s.index) c.loop-number.number c.loop-number.longest (omega (arith, n, c.loop-number-test.false)))
    ∙ c.loop-number.invariant entries s
