use Rattle.std.proofs.Common.{◌∙◌, arith}
use Rattle.reg_tree_image.proofs.Readers.BlockWords.{none-counted, more-counted, counted-four, all-counted}
use Rattle.reg_tree_image.proofs.block.head_checksum.Goals as goal

pub loop-at-init : goal.loop-at-init
loop-at-init c = none-counted c.args.block.now

pub overflow_sub-at : goal.overflow_sub-at
overflow_sub-at c = (counted-four _ _ _ c.loop-at.invariant c.loop-at-test.true).0

pub word_at-sum-requires : goal.word_at-sum-requires
word_at-sum-requires c = let f = counted-four _ _ _ c.loop-at.invariant c.loop-at-test.true in omega (arith, f.0, f.1, c.requires)

pub loop-at-preserved : goal.loop-at-preserved
loop-at-preserved c = more-counted c.args.block.now _ _ _ _ c.loop-at.invariant (let f = counted-four _ _ _ c.loop-at.invariant c.loop-at-test.true in omega (arith, f.0)) c.word_at-sum.ensures

pub returns : goal.returns
returns c = c.stored.ensures ∙ all-counted c.args.block.now _ _ c.loop-at.invariant (omega (arith, c.loop-at-test.false))
