use Rattle.std.proofs.Common.{arith, ◌≡◌, ◌/◌, ◌%◌, ◌∙◌, get_or}
use Rattle.std.proofs.lemmas.List.{get_or_default}
use Rattle.reg_arena.proofs.FreeList.SizeBits.{masked, whole, found, passed, past}
use Rattle.reg_arena.proofs.bitmap.least_bit.Goals as goal

pub returns-then-rest-ne0 : goal.returns-then-rest-ne0
returns-then-rest-ne0 c =
    let e : c.index.result.now ≡ get_or c.args.words.now.items (c.args.from / 64) 0 = c.index.ensures ∙ get_or_default c.args.words.now.items (c.args.from / 64) _ 0 (omega arith) in
    let r = masked c.args.words.now.items (c.args.from / 64) (c.args.from % 64) c.index.result.now e (omega arith) (rw e (c.type_inv.words (c.args.from / 64) 0 (omega arith))) in
    found c.args.words.now.items c.args.from (c.args.from / 64) (c.args.from % 64) _ r c.if-rest-ne0.true (omega arith) (λ j g l. absurd (omega arith))

pub loop-i-init : goal.loop-i-init
loop-i-init c =
    let e : c.index.result.now ≡ get_or c.args.words.now.items (c.args.from / 64) 0 = c.index.ensures ∙ get_or_default c.args.words.now.items (c.args.from / 64) _ 0 (omega arith) in
    let r = masked c.args.words.now.items (c.args.from / 64) (c.args.from % 64) c.index.result.now e (omega arith) (rw e (c.type_inv.words (c.args.from / 64) 0 (omega arith))) in
    passed c.args.words.now.items c.args.from (c.args.from / 64) (c.args.from % 64) _ r c.if-rest-ne0.false (λ j g l. absurd (omega arith))

pub returns-then-bits-ne0 : goal.returns-then-bits-ne0
returns-then-bits-ne0 c =
    let e : c.index-bits.result.now ≡ get_or c.args.words.now.items c.loop-i.i 0 = c.index-bits.ensures ∙ get_or_default c.args.words.now.items c.loop-i.i _ 0 (omega arith) in
    let r = whole c.args.words.now.items c.loop-i.i c.index-bits.result.now e (rw e (c.type_inv.words c.loop-i.i 0 (omega arith))) in
    found c.args.words.now.items c.args.from c.loop-i.i 0 _ r c.if-bits-ne0.true (omega arith) (λ j g l. c.loop-i.invariant j g (omega arith))

pub loop-i-preserved : goal.loop-i-preserved
loop-i-preserved c =
    let e : c.index-bits.result.now ≡ get_or c.args.words.now.items c.loop-i.i 0 = c.index-bits.ensures ∙ get_or_default c.args.words.now.items c.loop-i.i _ 0 (omega arith) in
    let r = whole c.args.words.now.items c.loop-i.i c.index-bits.result.now e (rw e (c.type_inv.words c.loop-i.i 0 (omega arith))) in
    passed c.args.words.now.items c.args.from c.loop-i.i 0 _ r c.if-bits-ne0.false (λ j g l. c.loop-i.invariant j g (omega arith))

pub returns : goal.returns
returns c = past c.args.words.now.items c.args.from c.loop-i.i (omega arith) c.loop-i.invariant

pub returns-then-word-len : goal.returns-then-word-len
returns-then-word-len c = past c.args.words.now.items c.args.from (c.args.from / 64) (omega arith) (λ j g l. absurd (omega arith))
