use Rattle.std.proofs.Common.{◌-◌, take, drop, refl, sym, subst, arith, length-drop}
use Rattle.std.proofs.lemmas.List.{length-take-le}
use Rattle.reg_arena.specs.Arena.{heap_of}
use Rattle.reg_index.specs.Internal.HashLeaves.{IsLeaf}
use Rattle.reg_index.proofs.SplitEntries.{first-with, second-without, first-without, second-with, half-room, leaf-beside}
use Rattle.reg_index.specs.Subkeys.{with_one}
use Rattle.reg_index.proofs.CellCounts.{once-first, once-second}
use Rattle.reg_index.proofs.splitting.split.Goals as goal

pub put_in_leaf-requires : goal.put_in_leaf-requires
put_in_leaf-requires c =
    let s = c.requires.leaf in
    half-room (heap_of c.args.arena.now) (heap_of c.split_at.new.arena) c.args.first 249 c.args.index 250 (take 249 s.0) c.requires.first c.split_at.ensures.first_room
    (c.split_at.ensures.first s.0 s.1 s.2) (length-take-le 249 s.0 (omega (arith, s.2))) refl (omega arith) (omega (arith, c.if-index-lt-FIRST_HALF.true))

pub returns-then-index-lt-FIRST_HALF-clause-first : goal.returns-then-index-lt-FIRST_HALF-clause-first
returns-then-index-lt-FIRST_HALF-clause-first c = λ entries is full.
    let l = c.if-index-lt-FIRST_HALF.true in
    subst (IsLeaf (heap_of c.put_in_leaf.new.arena) c.args.first) (sym (first-with 250 c.args.index c.args.entry entries l (omega (arith, l, full))))
    (subst (λ o. IsLeaf (heap_of c.put_in_leaf.new.arena) o (with_one c.args.index c.args.entry (take 249 entries))) c.put_in_leaf.ensures.place
    (c.put_in_leaf.ensures.leaf (take 249 entries) (c.split_at.ensures.first entries is full) (omega (arith, l, length-take-le 249 entries (omega (arith, full))))))

pub returns-then-index-lt-FIRST_HALF-clause-second : goal.returns-then-index-lt-FIRST_HALF-clause-second
returns-then-index-lt-FIRST_HALF-clause-second c = λ entries is full.
    let l = c.if-index-lt-FIRST_HALF.true in
    subst (IsLeaf (heap_of c.put_in_leaf.new.arena) c.args.second) (sym (second-without 250 c.args.index c.args.entry entries l (omega (arith, l, full))))
    (leaf-beside (heap_of c.split_at.new.arena) (heap_of c.put_in_leaf.new.arena) c.args.first c.put_in_leaf.result c.args.second (drop 249 entries) c.put_in_leaf.ensures.moves
    c.put_in_leaf.ensures.place (once-first c.args.cell c.args.first c.args.second c.requires.once) (c.split_at.ensures.second entries is full))

pub put_in_leaf-requires-2 : goal.put_in_leaf-requires-2
put_in_leaf-requires-2 c =
    let s = c.requires.leaf in
    half-room (heap_of c.args.arena.now) (heap_of c.split_at-2.new.arena) c.args.second 250 (c.args.index - 250) 251 (drop 250 s.0) c.requires.second c.split_at-2.ensures.second_room
    (c.split_at-2.ensures.second s.0 s.1 s.2) (omega (arith, length-drop 250 s.0, s.2)) refl (omega arith) (omega (arith, c.requires.index))

pub returns-clause-first : goal.returns-clause-first
returns-clause-first c = λ entries is full.
    let l = c.if-index-lt-FIRST_HALF.false in
    subst (IsLeaf (heap_of c.put_in_leaf-2.new.arena) c.args.first) (sym (first-without 250 c.args.index c.args.entry entries (omega (arith, l)) (omega (arith, full, c.requires.index))))
    (leaf-beside (heap_of c.split_at-2.new.arena) (heap_of c.put_in_leaf-2.new.arena) c.args.second c.put_in_leaf-2.result c.args.first (take 250 entries) c.put_in_leaf-2.ensures.moves
    c.put_in_leaf-2.ensures.place (once-second c.args.cell c.args.first c.args.second c.requires.once) (c.split_at-2.ensures.first entries is full))

pub returns-clause-second : goal.returns-clause-second
returns-clause-second c = λ entries is full.
    let l = c.if-index-lt-FIRST_HALF.false in
    subst (IsLeaf (heap_of c.put_in_leaf-2.new.arena) c.args.second) (sym (second-with 250 c.args.index c.args.entry entries (omega (arith, l)) (omega (arith, full, c.requires.index))))
    (subst (λ o. IsLeaf (heap_of c.put_in_leaf-2.new.arena) o (with_one (c.args.index - 250) c.args.entry (drop 250 entries))) c.put_in_leaf-2.ensures.place
    (c.put_in_leaf-2.ensures.leaf (drop 250 entries) (c.split_at-2.ensures.second entries is full) (omega (arith, length-drop 250 entries, full, c.requires.index))))
