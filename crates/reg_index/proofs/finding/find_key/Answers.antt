use Rattle.std.proofs.Common.{arith}
use Rattle.reg_names.specs.Names.{folded}
use Rattle.reg_arena.specs.Arena.{heap_of}
use Rattle.reg_shape.specs.Nodes.{lists_of}
use Rattle.reg_index.proofs.FoundPlaces.{lists-some, lists-keys, keys-part}
use Rattle.reg_index.proofs.KeysByHash.{key-among}
use Rattle.reg_index.proofs.ListPlaces.{list-stands}
use Rattle.reg_index.proofs.ListsRead.{list-there, lists-head}
use Rattle.reg_index.proofs.NameSearch.{length-names}
use Rattle.reg_index.proofs.SubkeysOpening.{lists-has}
use Rattle.reg_index.proofs.finding.find_key.Goals as goal

pub returns-then-list-eq0 : goal.returns-then-list-eq0
returns-then-list-eq0 c = λ entries s. (
  0,
  (
    omega arith,
    (λ k l. absurd (omega (arith, l))),
    (λ k l m. absurd (omega (arith, m, length-names (heap_of c.args.arena.now) entries, s.number, c.if-list-eq0.true))),
  ),
)

pub content-root-requires : goal.content-root-requires
content-root-requires c =
    let s = c.requires.1 in
    let l = lists-head (heap_of c.args.arena.now) c.args.list.offset (lists_of s.index) (lists-has _ _ _ _ s) (lists-some _ _ _ _ s c.if-list-eq0.false) in
    list-there (heap_of c.args.arena.now) c.args.list.offset l.0 l.1

pub list_for-number-requires : goal.list_for-number-requires
list_for-number-requires c =
    let s = c.requires.1 in
    (c.args.list.offset, lists_of s.index, lists-has _ _ _ _ s, c.content-root.ensures, lists-some _ _ _ _ s c.if-list-eq0.false, lists-keys _ _ _ _ s)

pub leaf_under-requires : goal.leaf_under-requires
leaf_under-requires c =
    let s = c.requires.1 in
    let h = lists-has _ _ _ _ s in
    let b = c.list_for-number.ensures c.args.list.offset (lists_of s.index) h c.content-root.ensures
    (lists-some _ _ _ _ s c.if-list-eq0.false) (lists-keys _ _ _ _ s) in
    (c.args.list.offset, lists_of s.index, h, c.content-root.ensures, b.within)

pub find_by_hash-requires : goal.find_by_hash-requires
find_by_hash-requires c =
    let s = c.requires.1 in
    let h = lists-has _ _ _ _ s in
    let l = (c.list_for-number.ensures c.args.list.offset (lists_of s.index) h c.content-root.ensures
    (lists-some _ _ _ _ s c.if-list-eq0.false) (lists-keys _ _ _ _ s)).within in
    let stands = list-stands (heap_of c.args.arena.now) c.args.list.offset (lists_of s.index) c.list_for-number.result h l in (
      _,
      _,
      stands.leaf,
      c.leaf_under.ensures c.args.list.offset (lists_of s.index) h c.content-root.ensures l,
      keys-part (heap_of c.args.arena.now) (lists_of s.index) c.list_for-number.result l (lists-keys _ _ _ _ s),
      stands.written.few,
    )

pub returns : goal.returns
returns c = λ entries s.
    let heap = heap_of c.args.arena.now in
    let h = lists-has _ _ _ _ s in
    let b = c.list_for-number.ensures c.args.list.offset (lists_of s.index) h c.content-root.ensures
    (lists-some _ _ _ _ s c.if-list-eq0.false) (lists-keys _ _ _ _ s) in
    key-among heap c.args.list.count c.args.list.offset (folded c.args.name.now) c.list_for-number.result entries s b c.find_by_hash.result
    (c.find_by_hash.ensures _ _ (list-stands heap c.args.list.offset (lists_of s.index) c.list_for-number.result h b.within).leaf
    (c.leaf_under.ensures c.args.list.offset (lists_of s.index) h c.content-root.ensures b.within)
    (keys-part heap (lists_of s.index) c.list_for-number.result b.within (lists-keys _ _ _ _ s)))
