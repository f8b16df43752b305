use Rattle.std.proofs.Common.{ap, ◌∙◌}
use Rattle.std.specs.Prelude.{flat_map}
use Rattle.reg_tree_text.proofs.SentTexts.{ends, stops_full, exits}
use Rattle.reg_tree_text.proofs.CountedKeys.{went, ended}
use Rattle.reg_diff.specs.Branches.{keys_from}
use Rattle.reg_diff.specs.Differences.{told_changes}
use Rattle.reg_diff.proofs.ToldKeys.{keys-there}
use Rattle.reg_diff.proofs.BranchNames.{there_at}
use Rattle.reg_diff.proofs.ToldPaths.{text-path, first-told, key-next}
use Rattle.reg_diff.proofs.diffing.put_side.Goals as goal

pub returns-in_err-walk : goal.returns-in_err-walk
returns-in_err-walk g c = λ p key begin whole left s. exits _ _ _ _ c.from_residual.ensures.1 (stops_full begin _ whole _ _ _ s)

pub loop-key-init : goal.loop-key-init
loop-key-init g c =
    λ p key. (
      record {
        now = keys_from c.args.tree.now.tree p;
        goes = c.in_ok-walk.ensures p key;
        told = keys-there c.args.tree.now.tree c.root-root.ensures.tree c.root-root.ensures.limits p (there_at c.args.tree.now.tree c.args.path.now p key);
      },
      λ begin whole left s. s,
    )

pub put_key-requires-clause-node : goal.put_key-requires-clause-node
put_key-requires-clause-node g c =
    let n = (c.loop-key.invariant c.requires.0 c.requires.1).0.goes in (n.stands.path, n.stands.at)

pub put_key-requires-clause-path : goal.put_key-requires-clause-path
put_key-requires-clause-path g c =
    let v = (c.loop-key.invariant c.requires.0 c.requires.1).0 in
    let n = v.goes in
    text-path n.told.names _ (c.deref.ensures.value ∙ n.stands.text) (first-told _ c.requires.0 _ n.rest n.told n.all_is v.told).0.names

pub returns-in_err-put_key : goal.returns-in_err-put_key
returns-in_err-put_key g c =
    λ p key begin whole left s.
    (let v = c.loop-key.invariant p key in
    let n = v.0.goes in
    exits _ _ _ _ c.from_residual-in_err-put_key.ensures.1
    (c.in_err-put_key.ensures n.stands.path n.stands.at n.told.key n.stands.key begin whole _
    (key-next c.args.ignored c.args.side c.args.other.now.tree begin _ whole v.0.now n.told n.rest _ left _ _ n.all_is
    (c.deref.ensures.value ∙ n.stands.text) (first-told _ p _ n.rest n.told n.all_is v.0.told).0.names (v.1 begin whole left s))))

pub advance-requires : goal.advance-requires
advance-requires g c = let n = (c.loop-key.invariant c.requires.0 c.requires.1).0.goes in (n.told, n.rest, n.stands)

pub returns-in_err-advance : goal.returns-in_err-advance
returns-in_err-advance g c =
    λ p key begin whole left s.
    (let v = c.loop-key.invariant p key in
    let n = v.0.goes in
    exits _ _ _ _ c.from_residual-in_err-advance.ensures.1
    (stops_full begin _ whole _ _ _
    (c.in_ok-put_key.ensures n.stands.path n.stands.at n.told.key n.stands.key begin whole _
    (key-next c.args.ignored c.args.side c.args.other.now.tree begin _ whole v.0.now n.told n.rest _ left _ _ n.all_is
    (c.deref.ensures.value ∙ n.stands.text) (first-told _ p _ n.rest n.told n.all_is v.0.told).0.names (v.1 begin whole left s)))))

pub returns-then-not-branch : goal.returns-then-not-branch
returns-then-not-branch g c =
    λ p key begin whole left s.
    (let v = c.loop-key.invariant p key in
    let n = v.0.goes in
    ends begin _ whole _ left _ _
    (c.in_ok-put_key.ensures n.stands.path n.stands.at n.told.key n.stands.key begin whole _
    (key-next c.args.ignored c.args.side c.args.other.now.tree begin _ whole v.0.now n.told n.rest _ left _ _ n.all_is
    (c.deref.ensures.value ∙ n.stands.text) (first-told _ p _ n.rest n.told n.all_is v.0.told).0.names (v.1 begin whole left s)))
    (ap (flat_map (told_changes c.args.ignored c.args.side c.args.other.now.tree))
    (ended _ _ _ _ c.if-not-branch.true (c.in_ok-advance.ensures n.told n.rest n.stands))))

pub loop-key-preserved : goal.loop-key-preserved
loop-key-preserved g c =
    λ p key.
    (let v = c.loop-key.invariant p key in
    let n = v.0.goes in (
      record {
        now = n.rest;
        goes = went _ _ _ _ c.if-not-branch.false (c.in_ok-advance.ensures n.told n.rest n.stands);
        told = (first-told _ p _ n.rest n.told n.all_is v.0.told).1;
      },
      λ begin whole left s. c.in_ok-put_key.ensures n.stands.path n.stands.at n.told.key n.stands.key begin whole _
          (key-next c.args.ignored c.args.side c.args.other.now.tree begin _ whole v.0.now n.told n.rest _ left _ _ n.all_is
          (c.deref.ensures.value ∙ n.stands.text) (first-told _ p _ n.rest n.told n.all_is v.0.told).0.names (v.1 begin whole left s)),
    ))

pub returns : goal.returns
returns g c = λ p key begin whole left s. stops_full begin _ whole _ _ _ ((c.loop-key.invariant p key).1 begin whole left s)
