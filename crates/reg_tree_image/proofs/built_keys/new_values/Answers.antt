use Rattle.std.proofs.Common.{◌∙◌, refl}
use Rattle.reg_tree_image.proofs.Readers.AllValues.{turn, one-told, all-read}
use Rattle.reg_tree_image.proofs.built_keys.new_values.Goals as goal

pub loop-value-preserved : goal.loop-value-preserved
loop-value-preserved c =
    one-told c.loop-value.told.items _ c.args.values.now c.loop-value.value-index c.value-item.result _
    (turn _ _ _ _ c.loop-value-test.true c.value-item.is) refl c.as_slice.ensures.value c.as_slice-in-loop-value.ensures.value c.loop-value.invariant c.in_ok-push.ensures.items

pub returns : goal.returns
returns c = let l = c.loop-value-test.false in c.loop-value.invariant ∙ all-read c.args.values.now c.loop-value.value-index l
