use Rattle.std.proofs.Common.{◌∙◌}
use Rattle.reg_tree.proofs.ValueChange.ValueAtPlace.{index_within, removed_at}
use Rattle.reg_calls.proofs.KnownKeys.{kept_known}
use Rattle.reg_calls.proofs.StoreAfterChange.{drop-done}
use Rattle.reg_calls.proofs.delete_value.DeleteValue.commit.Goals as goal

pub remove_at-requires : goal.remove_at-requires
remove_at-requires c = let a = c.requires.admitted in (_, a.3.node, index_within a.2 _ c.args.self.index a.3.place)

pub returns : goal.returns
returns c = λ session handle name a.
    drop-done c.args.end c.args.store.now session c.requires.ready handle name a.clear c.args.moment
    c.remove_at.new.self (c.remove_at.ensures.tree _ a.node ∙ removed_at _ _ name c.args.self.index c.args.moment a.place) c.accepted.result c.accepted.ensures c.remove_at.ensures.long
    (kept_known c.args.store.now c.requires.ready.known c.remove_at.new.self c.remove_at.ensures.nodes)
