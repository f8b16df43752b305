use Rattle.std.proofs.Common.{◌<◌, IsSome, length, arith, max, subst, sym, ap, ◌∙◌, refl}
use Rattle.reg_arena.specs.Arena.{heap_of}
use Rattle.reg_records.specs.KeyNodes.{key_at}
use Rattle.reg_records.specs.SubkeyLists.{Entry}
use Rattle.reg_index.proofs.NameSearch.{all-at}
use Rattle.reg_index.proofs.LongestNames.{one-more, all-passed}
use Rattle.reg_index.proofs.finding.longest_in.Goals as goal

pub loop-index-init : goal.loop-index-init
loop-index-init c = λ offset entries is here. refl

pub offset_in-requires-clause-leaf : goal.offset_in-requires-clause-leaf
offset_in-requires-clause-leaf c =
    let s = c.requires in
    let n = c.count_in-index-end.ensures (heap_of c.args.arena.now) s.0 s.1 s.2 s.3 in
    (heap_of c.args.arena.now, s.0, s.1, s.2, s.3, omega (arith, n, c.loop-index-test.true))

pub offset_in-requires-clause-few : goal.offset_in-requires-clause-few
offset_in-requires-clause-few c =
    let s = c.requires in
    let n = c.count_in-index-end.ensures (heap_of c.args.arena.now) s.0 s.1 s.2 s.3 in
    omega (arith, n, c.loop-index-test.true, s.5)

pub name_length-requires : goal.name_length-requires
name_length-requires c =
    let s = c.requires in
    let n = c.count_in-index-end.ensures (heap_of c.args.arena.now) s.0 s.1 s.2 s.3 in
    let l : c.loop-index.index < length s.1 = omega (arith, n, c.loop-index-test.true) in
    subst (λ key. IsSome (key_at (heap_of c.args.arena.now) key)) (c.offset_in.ensures (heap_of c.args.arena.now) s.0 s.1 s.2 s.3 l)
    (all-at (λ (e : Entry). IsSome (key_at (heap_of c.args.arena.now) e.offset)) s.1 s.4.keys c.loop-index.index (record { offset = 0; hint = 0 }) l)

pub loop-index-preserved : goal.loop-index-preserved
loop-index-preserved c = λ offset entries is here.
    let n = c.count_in-index-end.ensures (heap_of c.args.arena.now) offset entries is here in
    let l : c.loop-index.index < length entries = omega (arith, n, c.loop-index-test.true) in
    one-more (heap_of c.args.arena.now) entries c.loop-index.index c.loop-index.longest _ c.offset_in.result (record { offset = 0; hint = 0 }) l
    (c.offset_in.ensures (heap_of c.args.arena.now) offset entries is here l) (c.max-longest.ensures ∙ ap (max c.loop-index.longest) c.name_length.ensures)
    ∙ c.loop-index.invariant offset entries is here

pub returns : goal.returns
returns c = λ offset entries is here keys.
    let n = c.count_in-index-end.ensures (heap_of c.args.arena.now) offset entries is here in
    sym (all-passed (heap_of c.args.arena.now) entries c.loop-index.index c.loop-index.longest (omega (arith, n, c.loop-index-test.false)))
    ∙ c.loop-index.invariant offset entries is here
