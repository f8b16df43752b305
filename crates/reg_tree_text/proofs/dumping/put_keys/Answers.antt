use Rattle.std.proofs.Common.{ap, sym, ◌∙◌}
use Rattle.std.specs.Prelude.{flat_map}
use Rattle.reg_tree_text.specs.DumpTexts.{key_lines}
use Rattle.reg_tree_text.proofs.SentTexts.{swapped, opened, ends, stops_full, exits}
use Rattle.reg_tree_text.proofs.CountedKeys.{amid_start, amid_next, all_counted, fewer, went, ended}
use Rattle.reg_tree_text.proofs.dumping.put_keys.Goals as goal

pub loop-walk-init : goal.loop-walk-init
loop-walk-init g c =
    let a = amid_start _ _ _ _ c.root.ensures.at c.root.ensures.tree c.new-walk.ensures.node c.new-walk.ensures.path c.new-walk.ensures.pending
    c.none-counts.ensures.keys c.none-counts.ensures.values in
    (a.0, λ begin whole left s. swapped begin _ whole _ _ left _ _ s (ap (flat_map key_lines) (sym a.1)))

pub returns-in_err-put_key-clause-puts : goal.returns-in_err-put_key-clause-puts
returns-in_err-put_key-clause-puts g c =
    λ begin whole left s.
    (let a = c.loop-walk.invariant.0 in
    exits _ _ _ _ c.from_residual.ensures.1
    (c.in_err-put_key.ensures a.stands.path a.stands.at a.here a.stands.key (c.deref.ensures.value ∙ a.stands.text) begin whole _
    (opened begin _ whole (key_lines a.here) (flat_map key_lines a.rest) left _ _ (c.loop-walk.invariant.1 begin whole left s))))

pub returns-in_err-counts-clause-puts : goal.returns-in_err-counts-clause-puts
returns-in_err-counts-clause-puts g c =
    λ begin whole left s.
    (let a = c.loop-walk.invariant.0 in
    exits _ _ _ _ c.from_residual-in_err-counts.ensures.1
    (stops_full begin _ whole _ _ _
    (c.in_ok-put_key.ensures a.stands.path a.stands.at a.here a.stands.key (c.deref.ensures.value ∙ a.stands.text) begin whole _
    (opened begin _ whole (key_lines a.here) (flat_map key_lines a.rest) left _ _ (c.loop-walk.invariant.1 begin whole left s)))))

pub returns-in_err-advance-clause-puts : goal.returns-in_err-advance-clause-puts
returns-in_err-advance-clause-puts g c =
    λ begin whole left s.
    (let a = c.loop-walk.invariant.0 in
    exits _ _ _ _ c.from_residual-in_err-advance.ensures.1
    (stops_full begin _ whole _ _ _
    (c.in_ok-put_key.ensures a.stands.path a.stands.at a.here a.stands.key (c.deref.ensures.value ∙ a.stands.text) begin whole _
    (opened begin _ whole (key_lines a.here) (flat_map key_lines a.rest) left _ _ (c.loop-walk.invariant.1 begin whole left s)))))

pub returns-then-not-branch-clause-puts : goal.returns-then-not-branch-clause-puts
returns-then-not-branch-clause-puts g c =
    λ begin whole left s.
    (let a = c.loop-walk.invariant.0 in
    ends begin _ whole _ left _ _
    (c.in_ok-put_key.ensures a.stands.path a.stands.at a.here a.stands.key (c.deref.ensures.value ∙ a.stands.text) begin whole _
    (opened begin _ whole (key_lines a.here) (flat_map key_lines a.rest) left _ _ (c.loop-walk.invariant.1 begin whole left s)))
    (ap (flat_map key_lines) (ended _ _ _ _ c.if-not-branch.true (c.in_ok-advance.ensures a.here a.rest a.stands))))

pub returns-then-not-branch-clause-counts : goal.returns-then-not-branch-clause-counts
returns-then-not-branch-clause-counts g c =
    let a = c.loop-walk.invariant.0 in
    all_counted _ _ _ a _ (c.in_ok-counts.ensures a.here a.rest a.stands)
    (ended _ _ _ _ c.if-not-branch.true (c.in_ok-advance.ensures a.here a.rest a.stands))

pub loop-walk-smaller : goal.loop-walk-smaller
loop-walk-smaller g c = let a = c.loop-walk.invariant.0 in fewer _ _ _ a _ (c.in_ok-counts.ensures a.here a.rest a.stands)

pub loop-walk-preserved : goal.loop-walk-preserved
loop-walk-preserved g c =
    let a = c.loop-walk.invariant.0 in
    let b = amid_next _ _ _ a _ (c.in_ok-counts.ensures a.here a.rest a.stands) _
    (went _ _ _ _ c.if-not-branch.false (c.in_ok-advance.ensures a.here a.rest a.stands)) in (
      b.0,
      λ begin whole left s.
          swapped begin _ whole _ _ left _ _
          (c.in_ok-put_key.ensures a.stands.path a.stands.at a.here a.stands.key (c.deref.ensures.value ∙ a.stands.text) begin whole _
          (opened begin _ whole (key_lines a.here) (flat_map key_lines a.rest) left _ _ (c.loop-walk.invariant.1 begin whole left s)))
          (ap (flat_map key_lines) (sym b.1)),
    )
