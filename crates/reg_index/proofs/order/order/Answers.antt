use Rattle.std.proofs.Common.{refl, sym, ◌∙◌, arith}
use Rattle.reg_index.proofs.NameWords.{goes-on, same-words}
use Rattle.reg_index.proofs.order.order.Goals as goal

pub loop-first-init : goal.loop-first-init
loop-first-init c = refl

pub returns-in_default-split_first_chunk : goal.returns-in_default-split_first_chunk
returns-in_default-split_first_chunk c = c.order_by_bytes.ensures ∙ sym c.loop-first.invariant

pub returns-then-word_of : goal.returns-then-word_of
returns-then-word_of c = c.order_by_bytes-then-word_of.ensures ∙ sym c.loop-first.invariant

pub loop-first-smaller : goal.loop-first-smaller
loop-first-smaller c = let l = c.in-Some.ensures.cases.2 in omega (arith, l)

pub loop-first-preserved : goal.loop-first-preserved
loop-first-preserved c =
    let f = c.in-Some.ensures.cases in
    let s = c.in-Some-split_first_chunk.ensures.cases in
    c.loop-first.invariant
    ∙ goes-on 8 c.loop-first.one.now c.loop-first.other.now _ _ _ _ f.0 f.1 f.2 s.0 s.1 s.2
    (sym (same-words _ _ _ _ c.word_of.ensures c.word_of-in-Some.ensures c.if-word_of.false))

pub returns : goal.returns
returns c = c.order_by_bytes-2.ensures ∙ sym c.loop-first.invariant
