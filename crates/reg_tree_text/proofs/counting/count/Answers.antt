use Rattle.reg_tree_text.proofs.CountedKeys.{amid_start, amid_next, all_counted, fewer, went, ended}
use Rattle.reg_tree_text.proofs.counting.count.Goals as goal

pub loop-walk-init : goal.loop-walk-init
loop-walk-init c =
    (amid_start _ _ _ _ c.root.ensures.at c.root.ensures.tree c.new-walk.ensures.node c.new-walk.ensures.path c.new-walk.ensures.pending c.none-counts.ensures.keys c.none-counts.ensures.values).0

pub returns-then-not-branch : goal.returns-then-not-branch
returns-then-not-branch c =
    let a = c.loop-walk.invariant in
    all_counted _ _ _ a _ (c.in_ok-counts.ensures a.here a.rest a.stands)
    (ended _ _ _ _ c.if-not-branch.true (c.in_ok-advance.ensures a.here a.rest a.stands))

pub loop-walk-smaller : goal.loop-walk-smaller
loop-walk-smaller c = let a = c.loop-walk.invariant in fewer _ _ _ a _ (c.in_ok-counts.ensures a.here a.rest a.stands)

pub loop-walk-preserved : goal.loop-walk-preserved
loop-walk-preserved c =
    let a = c.loop-walk.invariant in
    (amid_next _ _ _ a _ (c.in_ok-counts.ensures a.here a.rest a.stands) _
    (went _ _ _ _ c.if-not-branch.false (c.in_ok-advance.ensures a.here a.rest a.stands))).0
