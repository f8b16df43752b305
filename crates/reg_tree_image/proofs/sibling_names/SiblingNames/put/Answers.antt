use Rattle.std.proofs.Common.{◌||◌, not, ap, ◌∙◌, subst}
use Rattle.std.specs.Cow.{cow_slice_items}
use Rattle.reg_tree_image.specs.declared.LoadFault.TheVariants.{Twice}
use Rattle.reg_tree_image.specs.WalkSteps.{check}
use Rattle.reg_tree_image.specs.Internal.NamesMet.{is_met, IsBehind}
use Rattle.reg_tree_image.specs.Internal.CheckedStacks.{has_met}
use Rattle.reg_tree_image.specs.Internal.ReaderOutcomes.{Gives}
use Rattle.reg_tree_image.proofs.Readers.RisingNames.{behind-other, one-kept}
use Rattle.reg_tree_image.proofs.sibling_names.SiblingNames.put.Goals as goal

pub returns-then-is_behind-clause-new : goal.returns-then-is_behind-clause-new
returns-then-is_behind-clause-new c =
    let names = c.args.self.now in
    let name = cow_slice_items c.args.name in
    one-kept (has_met names name) c.keep.result
    (ap (λ b. b || is_met names.met.folded.keys name)
    (behind-other names.rising.items name (subst (IsBehind names.rising.items) c.as_slice.ensures.value (c.is_behind.ensures c.if-is_behind.true)))
    ∙ ap (λ met. is_met met name) (c.is_empty.ensures c.if-is_empty.true))
    c.keep.ensures.err

pub returns-clause-new : goal.returns-clause-new
returns-clause-new c =
    subst (λ name. Gives {X = Unit {0}} (λ _. tt) (check Twice (not (has_met c.args.self.now name))) c.put_in_set.result) c.as_slice-2.ensures.value
    c.put_in_set.ensures.new
