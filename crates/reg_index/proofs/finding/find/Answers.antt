use Rattle.reg_names.specs.Names.{folded}
use Rattle.reg_arena.specs.Arena.{heap_of}
use Rattle.reg_shape.specs.Nodes.{lists_of}
use Rattle.reg_index.proofs.ListPlaces.{list-stands}
use Rattle.reg_index.proofs.ListsRead.{list-there, lists-head}
use Rattle.reg_index.proofs.SubkeysOpening.{lists-has}
use Rattle.reg_index.proofs.FoundPlaces.{lists-some, lists-keys, keys-part, found-stands, found-belongs, stands-there, belongs-there}
use Rattle.reg_index.proofs.finding.find.Goals as goal

pub content-root-requires : goal.content-root-requires
content-root-requires c =
    let s = c.requires.1 in
    let l = lists-head (heap_of c.args.arena.now) c.args.list.offset (lists_of s.index) (lists-has _ _ _ _ s) (lists-some _ _ _ _ s c.if-list-eq0.false) in
    list-there (heap_of c.args.arena.now) c.args.list.offset l.0 l.1

pub place_behind_all-requires : goal.place_behind_all-requires
place_behind_all-requires c =
    let s = c.requires.1 in
    (c.args.list.offset, lists_of s.index, lists-has _ _ _ _ s, c.content-root.ensures, lists-some _ _ _ _ s c.if-list-eq0.false, lists-keys _ _ _ _ s)

pub returns-in-Some-clause-index : goal.returns-in-Some-clause-index
returns-in-Some-clause-index c = λ entries s.
    let b = c.in-Some.ensures c.args.list.offset (lists_of s.index) (lists-has _ _ _ _ s) c.content-root.ensures (lists-some _ _ _ _ s c.if-list-eq0.false) (lists-keys _ _ _ _ s) in
    found-belongs (heap_of c.args.arena.now) c.args.list.count c.args.list.offset (folded c.args.name.now) c.in-Some.place.list c.in-Some.place.index entries s b.0 b.1

pub returns-in-Some-clause-place : goal.returns-in-Some-clause-place
returns-in-Some-clause-place c =
    let s = c.requires.1 in
    let b = c.in-Some.ensures c.args.list.offset (lists_of s.index) (lists-has _ _ _ _ s) c.content-root.ensures (lists-some _ _ _ _ s c.if-list-eq0.false) (lists-keys _ _ _ _ s) in
    belongs-there (heap_of c.args.arena.now) c.args.list.count c.args.list.offset (folded c.args.name.now) c.in-Some.place.list c.in-Some.place.index c.requires.0 s b.0 b.1

pub list_for-number-requires : goal.list_for-number-requires
list_for-number-requires c =
    let s = c.requires.1 in
    (c.args.list.offset, lists_of s.index, lists-has _ _ _ _ s, c.content-root.ensures, lists-some _ _ _ _ s c.if-list-eq0.false, lists-keys _ _ _ _ s)

pub leaf_under-requires : goal.leaf_under-requires
leaf_under-requires c =
    let s = c.requires.1 in
    let h = lists-has _ _ _ _ s in
    let b = c.list_for-number.ensures c.args.list.offset (lists_of s.index) h c.content-root.ensures (lists-some _ _ _ _ s c.if-list-eq0.false) (lists-keys _ _ _ _ s) in
    (c.args.list.offset, lists_of s.index, h, c.content-root.ensures, b.within)

pub find_in-requires : goal.find_in-requires
find_in-requires c =
    let s = c.requires.1 in
    let h = lists-has _ _ _ _ s in
    let l = (c.list_for-number.ensures c.args.list.offset (lists_of s.index) h c.content-root.ensures (lists-some _ _ _ _ s c.if-list-eq0.false) (lists-keys _ _ _ _ s)).within in (
      _,
      _,
      (list-stands (heap_of c.args.arena.now) c.args.list.offset (lists_of s.index) c.list_for-number.result h l).leaf,
      c.leaf_under.ensures c.args.list.offset (lists_of s.index) h c.content-root.ensures l,
      keys-part (heap_of c.args.arena.now) (lists_of s.index) c.list_for-number.result l (lists-keys _ _ _ _ s),
      (list-stands (heap_of c.args.arena.now) c.args.list.offset (lists_of s.index) c.list_for-number.result h l).written.few,
    )

pub returns-in-Ok-clause-index : goal.returns-in-Ok-clause-index
returns-in-Ok-clause-index c = λ entries s.
    let h = lists-has _ _ _ _ s in
    let b = c.list_for-number.ensures c.args.list.offset (lists_of s.index) h c.content-root.ensures (lists-some _ _ _ _ s c.if-list-eq0.false) (lists-keys _ _ _ _ s) in
    found-stands (heap_of c.args.arena.now) c.args.list.count c.args.list.offset (folded c.args.name.now) c.list_for-number.result c.in-Ok.index entries s b
    (c.in-Ok.ensures _ _ (list-stands (heap_of c.args.arena.now) c.args.list.offset (lists_of s.index) c.list_for-number.result h b.within).leaf
    (c.leaf_under.ensures c.args.list.offset (lists_of s.index) h c.content-root.ensures b.within)
    (keys-part (heap_of c.args.arena.now) (lists_of s.index) c.list_for-number.result b.within (lists-keys _ _ _ _ s)))

pub returns-in-Ok-clause-place : goal.returns-in-Ok-clause-place
returns-in-Ok-clause-place c =
    let s = c.requires.1 in
    let h = lists-has _ _ _ _ s in
    let b = c.list_for-number.ensures c.args.list.offset (lists_of s.index) h c.content-root.ensures (lists-some _ _ _ _ s c.if-list-eq0.false) (lists-keys _ _ _ _ s) in
    stands-there (heap_of c.args.arena.now) c.args.list.count c.args.list.offset (folded c.args.name.now) c.list_for-number.result c.in-Ok.index c.requires.0 s b
    (c.in-Ok.ensures _ _ (list-stands (heap_of c.args.arena.now) c.args.list.offset (lists_of s.index) c.list_for-number.result h b.within).leaf
    (c.leaf_under.ensures c.args.list.offset (lists_of s.index) h c.content-root.ensures b.within)
    (keys-part (heap_of c.args.arena.now) (lists_of s.index) c.list_for-number.result b.within (lists-keys _ _ _ _ s)))

pub returns-in-Err-clause-index : goal.returns-in-Err-clause-index
returns-in-Err-clause-index c = λ entries s.
    let h = lists-has _ _ _ _ s in
    let b = c.list_for-number.ensures c.args.list.offset (lists_of s.index) h c.content-root.ensures (lists-some _ _ _ _ s c.if-list-eq0.false) (lists-keys _ _ _ _ s) in
    found-belongs (heap_of c.args.arena.now) c.args.list.count c.args.list.offset (folded c.args.name.now) c.list_for-number.result c.in-Err.index entries s b
    (c.in-Err.ensures _ _ (list-stands (heap_of c.args.arena.now) c.args.list.offset (lists_of s.index) c.list_for-number.result h b.within).leaf
    (c.leaf_under.ensures c.args.list.offset (lists_of s.index) h c.content-root.ensures b.within)
    (keys-part (heap_of c.args.arena.now) (lists_of s.index) c.list_for-number.result b.within (lists-keys _ _ _ _ s)))

pub returns-in-Err-clause-place : goal.returns-in-Err-clause-place
returns-in-Err-clause-place c =
    let s = c.requires.1 in
    let h = lists-has _ _ _ _ s in
    let b = c.list_for-number.ensures c.args.list.offset (lists_of s.index) h c.content-root.ensures (lists-some _ _ _ _ s c.if-list-eq0.false) (lists-keys _ _ _ _ s) in
    belongs-there (heap_of c.args.arena.now) c.args.list.count c.args.list.offset (folded c.args.name.now) c.list_for-number.result c.in-Err.index c.requires.0 s b
    (c.in-Err.ensures _ _ (list-stands (heap_of c.args.arena.now) c.args.list.offset (lists_of s.index) c.list_for-number.result h b.within).leaf
    (c.leaf_under.ensures c.args.list.offset (lists_of s.index) h c.content-root.ensures b.within)
    (keys-part (heap_of c.args.arena.now) (lists_of s.index) c.list_for-number.result b.within (lists-keys _ _ _ _ s)))
