use Rattle.std.proofs.Common.{ap, ◌∙◌, subst}
use Rattle.reg_names.specs.Names.{path_of}
use Rattle.reg_heap.specs.Edits.{above}
use Rattle.reg_calls.specs.declared.delete_tree.Target.{Target}
use Rattle.reg_calls.specs.Internal.DeletedTrees.{IsTreeFound, IsBranchFound, AreContentsFound}
use Rattle.reg_calls.proofs.AnnouncedChanges.{branch-announced, contents-announced}
use Rattle.reg_calls.proofs.delete_tree.DeleteTree.announce.Goals as goal

pub returns-in_ok-above-in-Branch : goal.returns-in_ok-above-in-Branch
returns-in_ok-above-in-Branch c = λ end session handle path a.
    let found : IsBranchFound c.args.store.now.tree a.from path c.in-Branch.field-0 = subst (λ (x : Target). IsTreeFound c.args.store.now.tree a.from path x) c.in-Branch.is a.target in
    let text = c.as_slice-text.ensures.value in
    let key = c.in_ok-key-in-Branch.ensures ∙ ap path_of text ∙ a.text.names in
    let front = c.in_ok-above-in-Branch.ensures ∙ c.without_last.ensures.names ∙ ap (λ t. above (path_of t)) text ∙ ap above a.text.names in
    branch-announced end c.args.store.now session handle path found.below c.in_ok-above-in-Branch.above c.in_ok-key-in-Branch.key front key c.one_event.result
    c.one_event.ensures.kinds c.one_event.ensures.ends

pub returns-in-Contents : goal.returns-in-Contents
returns-in-Contents c = λ end session handle path a.
    let found : AreContentsFound c.args.store.now.tree a.from path c.in-Contents.node = subst (λ (x : Target). IsTreeFound c.args.store.now.tree a.from path x) c.in-Contents.is a.target in
    contents-announced end c.args.store.now session handle path found.empty (path_of c.as_slice-text.result.now) (ap path_of c.as_slice-text.ensures.value ∙ a.text.names)
    c.announce_contents.result c.announce_contents.ensures.kinds c.announce_contents.ensures.ends
