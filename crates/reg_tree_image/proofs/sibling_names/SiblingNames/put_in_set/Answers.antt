use Rattle.std.proofs.Common.{◌||◌, not, ap, ◌∙◌, subst}
use Rattle.reg_heap.specs.Members.{same_name}
use Rattle.reg_tree_image.specs.declared.LoadFault.TheVariants.{Twice}
use Rattle.reg_tree_image.specs.WalkSteps.{check}
use Rattle.reg_tree_image.specs.Internal.NamesMet.{is_met, is_one_of}
use Rattle.reg_tree_image.specs.Internal.ReaderOutcomes.{Gives}
use Rattle.reg_tree_image.proofs.Readers.FewNames.{weaker}
use Rattle.reg_tree_image.proofs.Readers.RisingNames.{all-put}
use Rattle.reg_tree_image.proofs.sibling_names.SiblingNames.put_in_set.Goals as goal

pub returns-clause-new : goal.returns-clause-new
returns-clause-new c =
    subst (λ b. Gives {X = Unit {0}} (λ _. tt) (check Twice (not b)) c.put.result)
    (all-put c.args.self.now.rising.items c.as_slice.result.now (is_met c.args.self.now.met.folded.keys) (is_met c.put_all.new.self.folded.keys)
    (c.as_slice.ensures.value ∙ ap (λ v. v.items) c.replace-rising.ensures.value) c.in_ok-put_all.ensures.met c.args.name.now)
    c.put.ensures.new

pub returns-clause-met : goal.returns-clause-met
returns-clause-met c =
    weaker c.put.result
    (λ met other.
    ap (λ ns. is_one_of other ns || is_met c.put.new.self.folded.keys other) (ap (λ v. v.items) c.replace-rising.ensures.after ∙ c.new.ensures.items)
    ∙ (met other
    ∙ ap (λ b. b || same_name c.args.name.now other)
    (all-put c.args.self.now.rising.items c.as_slice.result.now (is_met c.args.self.now.met.folded.keys) (is_met c.put_all.new.self.folded.keys)
    (c.as_slice.ensures.value ∙ ap (λ v. v.items) c.replace-rising.ensures.value) c.in_ok-put_all.ensures.met other)))
    c.put.ensures.met
