use Rattle.std.proofs.Common.{sym, ap, ◌∙◌, List}
use Rattle.reg_tree_text.proofs.CountedKeys.{went, ended}
use Rattle.reg_tree_text.specs.DumpTexts.{Told}
use Rattle.reg_dotreg_writer.specs.Changes.{rooted}
use Rattle.reg_dotreg_writer.proofs.ToldChanges.{going-start, going-path, all_changes, first_bad, looked-bad, looks-on, looked-none}
use Rattle.reg_dotreg_writer.proofs.unwritable.find_in_side.Goals as goal

pub loop-key-init : goal.loop-key-init
loop-key-init c =
    let a = going-start _ _ _ c.root.ensures.at c.root.ensures.tree c.root.ensures.limits c.new-walk.ensures.node
    c.new-walk.ensures.path c.new-walk.ensures.pending in
    record {
      going = a.0;
      same = ap (λ (x : List Told). first_bad c.args.root.now (all_changes c.args.side c.args.other.now.tree x)) a.1;
    }

pub can_write_change-requires-clause-node : goal.can_write_change-requires-clause-node
can_write_change-requires-clause-node c = let n = c.loop-key.invariant.going.goes in (n.stands.path, n.stands.at)

pub can_write_change-requires-clause-path : goal.can_write_change-requires-clause-path
can_write_change-requires-clause-path c =
    let w = c.loop-key.invariant.going in going-path _ _ w _ (c.deref.ensures.value ∙ w.goes.stands.text)

pub returns-then-not-branch : goal.returns-then-not-branch
returns-then-not-branch c =
    let l = c.loop-key.invariant in
    let n = l.going.goes in
    looked-bad _ _ c.args.root.now c.args.side c.args.other.now.tree l _ (c.deref.ensures.value ∙ n.stands.text) _
    (c.in_ok-can_write_change.ensures n.stands.path n.stands.at n.told.key n.stands.key) c.if-not-branch.true _
    (c.in_ok-rooted_text.ensures ∙ ap (rooted c.args.root.now) (c.deref-then-not-branch.ensures.value ∙ sym c.deref.ensures.value))

pub advance-requires : goal.advance-requires
advance-requires c = let n = c.loop-key.invariant.going.goes in (n.told, n.rest, n.stands)

pub returns-then-not-branch-2 : goal.returns-then-not-branch-2
returns-then-not-branch-2 c =
    let l = c.loop-key.invariant in
    let n = l.going.goes in
    looked-none _ _ c.args.root.now c.args.side c.args.other.now.tree l _ (c.deref.ensures.value ∙ n.stands.text) _
    (c.in_ok-can_write_change.ensures n.stands.path n.stands.at n.told.key n.stands.key) c.if-not-branch.false
    (ended _ _ _ _ c.if-not-branch-2.true (c.in_ok-advance.ensures n.told n.rest n.stands))

pub loop-key-preserved : goal.loop-key-preserved
loop-key-preserved c =
    let l = c.loop-key.invariant in
    let n = l.going.goes in
    looks-on _ _ c.args.root.now c.args.side c.args.other.now.tree l _ (c.deref.ensures.value ∙ n.stands.text) _
    (c.in_ok-can_write_change.ensures n.stands.path n.stands.at n.told.key n.stands.key) c.if-not-branch.false _
    (went _ _ _ _ c.if-not-branch-2.false (c.in_ok-advance.ensures n.told n.rest n.stands))
