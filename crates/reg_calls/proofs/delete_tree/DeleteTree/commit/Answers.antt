use Rattle.std.proofs.Common.{◌≡◌, false, ap, sym, subst, ◌∙◌}
use Rattle.reg_names.specs.Names.{path_of}
use Rattle.reg_heap.specs.Paths.{Path}
use Rattle.reg_heap.specs.Edits.{is_within, is_under}
use Rattle.reg_model.specs.Worlds.{path_at}
use Rattle.reg_tree.specs.TreeKeys.{IsAt}
use Rattle.reg_tree.specs.declared.node.Node.{Node}
use Rattle.reg_calls.specs.declared.delete_tree.Target.{Target}
use Rattle.reg_calls.specs.Internal.DeletedTrees.{IsTreeFound, IsBranchFound, AreContentsFound}
use Rattle.reg_calls.proofs.FoundTrees.{from-nowhere}
use Rattle.reg_calls.proofs.KnownKeys.{past_known}
use Rattle.reg_calls.proofs.StoreAfterChange.{branch-done, contents-done}
use Rattle.reg_calls.proofs.delete_tree.DeleteTree.commit.Goals as goal

pub returns-in-Branch : goal.returns-in-Branch
returns-in-Branch c = λ session handle path a.
    let found : IsBranchFound c.args.store.now.tree a.from path c.in-Branch.reached = subst (λ (x : Target). IsTreeFound c.args.store.now.tree a.from path x) c.in-Branch.is a.target in
    let text = c.args.self.text.items in
    let at = found.node _ a.at in
    let keeps : (q : Path) (other : Node) → IsAt c.args.store.now.tree q other → is_within (path_of text) q ≡ false → IsAt c.delete_tree_at.new.self q other =
    λ q other here apart. c.delete_tree_at.ensures.nodes _ at q other here (ap (λ (p : Path). is_within p q) (sym a.text.names) ∙ apart) in
    branch-done c.args.end c.args.store.now session c.requires.ready handle path a.clear c.args.moment
    c.delete_tree_at.new.self c.mark_deleted_within.new.self text found.below a.text.names
    (c.delete_tree_at.ensures.tree _ at) c.mark_deleted_within.ensures.handles c.accepted.result c.accepted.ensures c.delete_tree_at.ensures.long
    (past_known c.args.store.now c.requires.ready.known c.delete_tree_at.new.self c.mark_deleted_within.new.self (is_within (path_of text)) keeps c.mark_deleted_within.ensures.payloads)

pub returns-in-Contents : goal.returns-in-Contents
returns-in-Contents c = λ session handle path a.
    let found : AreContentsFound c.args.store.now.tree a.from path c.in-Contents.node = subst (λ (x : Target). IsTreeFound c.args.store.now.tree a.from path x) c.in-Contents.is a.target in
    let text = c.args.self.text.items in
    let here : Path = path_at session handle c.args.store.now.handles.handles in
    let at = subst (λ (node : Node). IsAt c.args.store.now.tree here node) (sym found.own) a.at in
    let names : path_of text ≡ here = a.text.names ∙ from-nowhere here path found.empty in
    let keeps : (q : Path) (other : Node) → IsAt c.args.store.now.tree q other → is_under (path_of text) q ≡ false → IsAt c.empty.new.self q other =
    λ q other there apart. c.empty.ensures.nodes _ at q other there (ap (λ (p : Path). is_under p q) (sym names) ∙ apart) in
    contents-done c.args.end c.args.store.now session c.requires.ready handle path a.clear c.args.moment
    c.empty.new.self c.mark_deleted_under.new.self text found.empty a.text.names
    (c.empty.ensures.tree _ at) c.mark_deleted_under.ensures.handles c.accepted-in-Contents.result c.accepted-in-Contents.ensures c.empty.ensures.long
    (past_known c.args.store.now c.requires.ready.known c.empty.new.self c.mark_deleted_under.new.self (is_under (path_of text)) keeps c.mark_deleted_under.ensures.payloads)
