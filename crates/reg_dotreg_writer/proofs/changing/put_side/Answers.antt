use Rattle.std.proofs.Common.{ap, ◌∙◌}
use Rattle.std.specs.Prelude.{flat_map}
use Rattle.reg_tree_text.proofs.SentTexts.{swapped, ends, stops_full, exits}
use Rattle.reg_tree_text.proofs.CountedKeys.{went, ended}
use Rattle.reg_tree_text.specs.DumpTexts.{Told}
use Rattle.std.specs.Prelude.{List}
use Rattle.reg_dotreg_writer.specs.Internal.ChangePieces.{change_pieces}
use Rattle.reg_dotreg_writer.proofs.ToldChanges.{all_changes, going-start, going-path, going-on, change-next}
use Rattle.reg_dotreg_writer.proofs.changing.put_side.Goals as goal

pub loop-key-init : goal.loop-key-init
loop-key-init g c =
    let a = going-start _ _ _ c.root.ensures.at c.root.ensures.tree c.root.ensures.limits c.new-walk.ensures.node c.new-walk.ensures.path
    c.new-walk.ensures.pending in (
      a.0,
      λ begin whole left s.
          swapped begin _ whole _ _ left _ _ s
          (ap (λ (x : List Told). flat_map (change_pieces c.args.is_utf8 c.args.root.now) (all_changes c.args.side c.args.other.now.tree x)) a.1),
    )

pub put_change-requires-clause-node : goal.put_change-requires-clause-node
put_change-requires-clause-node g c = let n = c.loop-key.invariant.0.goes in (n.stands.path, n.stands.at)

pub put_change-requires-clause-path : goal.put_change-requires-clause-path
put_change-requires-clause-path g c =
    let w = c.loop-key.invariant.0 in going-path _ _ w _ (c.deref.ensures.value ∙ w.goes.stands.text)

pub returns-in_err-put_change : goal.returns-in_err-put_change
returns-in_err-put_change g c =
    λ begin whole left s.
    (let w = c.loop-key.invariant.0 in
    let n = w.goes in
    exits _ _ _ _ c.from_residual.ensures.1
    (c.in_err-put_change.ensures n.stands.path n.stands.at n.told.key n.stands.key begin whole _
    (change-next _ _ w c.args.is_utf8 c.args.root.now c.args.side c.args.other.now.tree begin _ whole _ left _ _
    (c.deref.ensures.value ∙ n.stands.text) (c.loop-key.invariant.1 begin whole left s))))

pub advance-requires : goal.advance-requires
advance-requires g c = let n = c.loop-key.invariant.0.goes in (n.told, n.rest, n.stands)

pub returns-in_err-advance : goal.returns-in_err-advance
returns-in_err-advance g c =
    λ begin whole left s.
    (let w = c.loop-key.invariant.0 in
    let n = w.goes in
    exits _ _ _ _ c.from_residual-in_err-advance.ensures.1
    (stops_full begin _ whole _ _ _
    (c.in_ok-put_change.ensures n.stands.path n.stands.at n.told.key n.stands.key begin whole _
    (change-next _ _ w c.args.is_utf8 c.args.root.now c.args.side c.args.other.now.tree begin _ whole _ left _ _
    (c.deref.ensures.value ∙ n.stands.text) (c.loop-key.invariant.1 begin whole left s)))))

pub returns-then-not-branch : goal.returns-then-not-branch
returns-then-not-branch g c =
    λ begin whole left s.
    (let w = c.loop-key.invariant.0 in
    let n = w.goes in
    ends begin _ whole _ left _ _
    (c.in_ok-put_change.ensures n.stands.path n.stands.at n.told.key n.stands.key begin whole _
    (change-next _ _ w c.args.is_utf8 c.args.root.now c.args.side c.args.other.now.tree begin _ whole _ left _ _
    (c.deref.ensures.value ∙ n.stands.text) (c.loop-key.invariant.1 begin whole left s)))
    (ap (λ (x : List Told). flat_map (change_pieces c.args.is_utf8 c.args.root.now) (all_changes c.args.side c.args.other.now.tree x))
    (ended _ _ _ _ c.if-not-branch.true (c.in_ok-advance.ensures n.told n.rest n.stands))))

pub loop-key-preserved : goal.loop-key-preserved
loop-key-preserved g c =
    let w = c.loop-key.invariant.0 in
    let n = w.goes in (
      going-on _ _ w _ (went _ _ _ _ c.if-not-branch.false (c.in_ok-advance.ensures n.told n.rest n.stands)),
      λ begin whole left s.
          c.in_ok-put_change.ensures n.stands.path n.stands.at n.told.key n.stands.key begin whole _
          (change-next _ _ w c.args.is_utf8 c.args.root.now c.args.side c.args.other.now.tree begin _ whole _ left _ _
          (c.deref.ensures.value ∙ n.stands.text) (c.loop-key.invariant.1 begin whole left s)),
    )

pub returns : goal.returns
returns g c = λ begin whole left s. stops_full begin _ whole _ _ _ (c.loop-key.invariant.1 begin whole left s)
