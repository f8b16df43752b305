use Rattle.std.proofs.Common.{refl, ◌∙◌}
use Rattle.std.proofs.lemmas.Result.{on_ok_weaker}
use Rattle.reg_tree_text.proofs.CountedKeys.{amid_start}
use Rattle.reg_tables.proofs.TimelineTexts.{within_all}
use Rattle.reg_tables.proofs.timeline.gather_keys.Goals as goal

pub gather_key-requires : goal.gather_key-requires
gather_key-requires c =
    let a = (amid_start c.args.tree.now c.new-walk.result (record { keys = 0; values = 0 }) c.root.result c.root.ensures.at c.root.ensures.tree c.new-walk.ensures.node c.new-walk.ensures.path
    c.new-walk.ensures.pending refl refl).0 in
    (_, a.stands.at)

pub gather_more-requires : goal.gather_more-requires
gather_more-requires c =
    let a = (amid_start c.args.tree.now c.new-walk.result (record { keys = 0; values = 0 }) c.root.result c.root.ensures.at c.root.ensures.tree c.new-walk.ensures.node c.new-walk.ensures.path
    c.new-walk.ensures.pending refl refl).0 in
    (_, _, a.stands)

pub returns : goal.returns
returns c =
    let v = amid_start c.args.tree.now c.new-walk.result (record { keys = 0; values = 0 }) c.root.result c.root.ensures.at c.root.ensures.tree c.new-walk.ensures.node c.new-walk.ensures.path
    c.new-walk.ensures.pending refl refl in
    let a = v.0 in
    on_ok_weaker c.gather_more.result
    (λ others.
    within_all _ _ _ _ _ _ a.here a.rest _ v.1
    (c.in_ok-gather_key.ensures a.stands.path a.stands.at a.here a.stands.key (c.deref.ensures.value ∙ a.stands.text)) others)
    (c.gather_more.ensures a.here a.rest a.stands)
