use Rattle.std.proofs.Common.{sym, ◌∙◌, arith}
use Rattle.std.proofs.lemmas.Bool.{false≢true}
use Rattle.reg_arena.specs.Arena.{heap_of}
use Rattle.reg_index.proofs.KeysByHash.{all-passed, entry-hint, entry-key, key-found, one-passed}
use Rattle.reg_index.proofs.finding.find_between.Goals as goal

pub is_of-requires-clause-key : goal.is_of-requires-clause-key
is_of-requires-clause-key c =
    let s = c.requires in
    entry-key (heap_of c.args.arena.now) s.1 s.4 c.args.name.now c.args.low c.args.high s.6 c.loop-index.index c.loop-index.auto.index c.loop-index-test.true
    c.entry_in-entry.result (c.entry_in-entry.ensures (heap_of c.args.arena.now) s.0 s.1 s.2 s.3)

pub is_of-requires-clause-hint : goal.is_of-requires-clause-hint
is_of-requires-clause-hint c =
    let s = c.requires in
    entry-hint (heap_of c.args.arena.now) s.1 s.4 c.args.name.now c.args.low c.args.high s.6 c.loop-index.index c.loop-index.auto.index c.loop-index-test.true
    c.entry_in-entry.result (c.entry_in-entry.ensures (heap_of c.args.arena.now) s.0 s.1 s.2 s.3)

pub returns-then-is_of : goal.returns-then-is_of
returns-then-is_of c = λ offset entries is here keys b.
    key-found (heap_of c.args.arena.now) entries keys c.args.name.now c.args.low c.args.high b c.loop-index.index c.loop-index.auto.index c.loop-index-test.true
    c.entry_in-entry.result (c.entry_in-entry.ensures (heap_of c.args.arena.now) offset entries is here) (c.is_of.ensures.0 c.if-is_of.true)

pub loop-index-preserved : goal.loop-index-preserved
loop-index-preserved c = λ offset entries is here keys b.
    one-passed (heap_of c.args.arena.now) entries keys c.args.name.now c.args.low c.args.high b c.loop-index.index c.loop-index.auto.index c.loop-index-test.true
    c.entry_in-entry.result (c.entry_in-entry.ensures (heap_of c.args.arena.now) offset entries is here) (c.loop-index.invariant offset entries is here keys b)
    (λ e. false≢true (sym c.if-is_of.false ∙ c.is_of.ensures.1 e))

pub returns : goal.returns
returns c = λ offset entries is here keys b.
    all-passed (heap_of c.args.arena.now) entries keys c.args.name.now c.args.low c.args.high b c.loop-index.index (omega (arith, c.loop-index-test.false))
    (c.loop-index.invariant offset entries is here keys b)
