use Rattle.std.proofs.Common.{◌≡◌, ◌≢◌, None, cond, ap, sym, subst, ◌∙◌, List, ℕ}
use Rattle.std.specs.Prelude.{bytes_eq}
use Rattle.reg_names.specs.Names.{path_of}
use Rattle.reg_heap.specs.Paths.{Path}
use Rattle.reg_model.specs.Worlds.{turned}
use Rattle.reg_tree.specs.TreeKeys.{IsAt}
use Rattle.reg_tree.specs.declared.node.Node.{Node}
use Rattle.reg_handles.specs.HandleTables.{payload_on}
use Rattle.reg_calls.proofs.KnownKeys.{deleted_known}
use Rattle.reg_calls.proofs.StoreAfterChange.{delete-done}
use Rattle.reg_calls.proofs.delete_key.DeleteKey.commit.Goals as goal

pub delete_at-requires-clause-reached : goal.delete_at-requires-clause-reached
delete_at-requires-clause-reached c = let a = c.requires.admitted in (a.3.from, a.2, a.3.reached, (_, a.3.at), a.3.below)

pub delete_at-requires-clause-there : goal.delete_at-requires-clause-there
delete_at-requires-clause-there c = c.requires.admitted.3.there

pub delete_at-requires-clause-goes : goal.delete_at-requires-clause-goes
delete_at-requires-clause-goes c = c.requires.admitted.3.goes

pub returns : goal.returns
returns c = λ session handle path a.
    let text = c.args.self.text.items in
    let keeps : (q : Path) (other : Node) → IsAt c.args.store.now.tree q other → q ≢ path_of text → IsAt c.delete_at.new.self q other =
    λ q other at apart. c.delete_at.ensures.nodes _ a.node q other at (λ same. apart (same ∙ sym a.text.names)) in
    let marked : (t : List ℕ) → payload_on c.mark_deleted.new.self t ≡ cond (bytes_eq text t) None (payload_on c.args.store.now.handles t) =
    subst (λ (p : List ℕ). (t : List ℕ) → payload_on c.mark_deleted.new.self t ≡ cond (bytes_eq p t) None (payload_on c.args.store.now.handles t))
    c.as_slice.ensures.value c.mark_deleted.ensures.payloads in
    let handles = c.mark_deleted.ensures.handles ∙ ap (λ (t : List ℕ). turned (path_of t) c.args.store.now.handles.handles) c.as_slice.ensures.value in
    delete-done c.args.end c.args.store.now session c.requires.ready handle path a.clear c.args.moment
    c.delete_at.new.self c.mark_deleted.new.self text a.text.names
    (c.delete_at.ensures.tree _ a.node) handles c.accepted.result c.accepted.ensures c.delete_at.ensures.long
    (deleted_known c.args.store.now c.requires.ready.known c.delete_at.new.self c.mark_deleted.new.self text keeps marked)
