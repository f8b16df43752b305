use Rattle.std.proofs.Common.{refl, ap, sym, ◌∙◌}
use Rattle.std.specs.Prelude.{flat_map}
use Rattle.reg_tree_text.proofs.SentTexts.{swapped, ends, stops_full, exits}
use Rattle.reg_tree_text.proofs.CountedKeys.{went, ended}
use Rattle.reg_find.specs.Findings.{found_lines, found_text}
use Rattle.reg_find.proofs.FoundKeys.{amid_root, key_next}
use Rattle.reg_find.proofs.finding.put_tree.Goals as goal

pub loop-key-init : goal.loop-key-init
unfolding found_text
loop-key-init g c =
    let a = amid_root _ _ _ c.root.ensures.at c.root.ensures.tree c.new-walk.ensures.node c.new-walk.ensures.path c.new-walk.ensures.pending in
    let matches = g.P.Pattern.matches c.args.pattern.now in
    (a.0, refl, λ begin whole left s. swapped begin _ whole _ _ left _ _ s (ap (flat_map (found_lines matches c.args.scope)) (sym a.1)))

pub put_key-requires : goal.put_key-requires
put_key-requires g c = let a = c.loop-key.invariant.0 in (_, a.stands.at)

pub returns-in_err-put_key : goal.returns-in_err-put_key
returns-in_err-put_key g c =
    λ begin whole left s.
    (let v = c.loop-key.invariant in
    let a = v.0 in
    exits _ _ _ _ c.from_residual.ensures.1
    (c.in_err-put_key.ensures.puts a.stands.path a.stands.at a.here a.stands.key a.stands.text begin whole _
    (key_next begin _ whole left _ _ (g.P.Pattern.matches c.args.pattern.now) _ c.args.scope a.here a.rest v.1 (v.2 begin whole left s))))

pub advance-requires : goal.advance-requires
advance-requires g c = let a = c.loop-key.invariant.0 in (a.here, a.rest, a.stands)

pub returns-in_err-advance : goal.returns-in_err-advance
returns-in_err-advance g c =
    λ begin whole left s.
    (let v = c.loop-key.invariant in
    let a = v.0 in
    exits _ _ _ _ c.from_residual-in_err-advance.ensures.1
    (stops_full begin _ whole _ _ _
    (c.in_ok-put_key.ensures.puts a.stands.path a.stands.at a.here a.stands.key a.stands.text begin whole _
    (key_next begin _ whole left _ _ (g.P.Pattern.matches c.args.pattern.now) _ c.args.scope a.here a.rest v.1 (v.2 begin whole left s)))))

pub returns-then-not-branch : goal.returns-then-not-branch
returns-then-not-branch g c =
    λ begin whole left s.
    (let v = c.loop-key.invariant in
    let a = v.0 in
    ends begin _ whole _ left _ _
    (c.in_ok-put_key.ensures.puts a.stands.path a.stands.at a.here a.stands.key a.stands.text begin whole _
    (key_next begin _ whole left _ _ (g.P.Pattern.matches c.args.pattern.now) _ c.args.scope a.here a.rest v.1 (v.2 begin whole left s)))
    (ap (flat_map (found_lines (g.P.Pattern.matches c.args.pattern.now) c.args.scope))
    (ended _ _ _ _ c.if-not-branch.true (c.in_ok-advance.ensures a.here a.rest a.stands))))

pub loop-key-preserved : goal.loop-key-preserved
loop-key-preserved g c =
    let v = c.loop-key.invariant in
    let a = v.0 in
    let n = went _ _ _ _ c.if-not-branch.false (c.in_ok-advance.ensures a.here a.rest a.stands) in
    let matches = g.P.Pattern.matches c.args.pattern.now in (
      record { here = n.told; rest = n.rest; stands = n.stands },
      c.in_ok-put_key.ensures.same ∙ v.1,
      λ begin whole left s.
          swapped begin _ whole _ _ left _ _
          (c.in_ok-put_key.ensures.puts a.stands.path a.stands.at a.here a.stands.key a.stands.text begin whole _
          (key_next begin _ whole left _ _ (g.P.Pattern.matches c.args.pattern.now) _ c.args.scope a.here a.rest v.1 (v.2 begin whole left s)))
          (ap (flat_map (found_lines matches c.args.scope)) (sym n.all_is)),
    )

pub returns : goal.returns
returns g c = λ begin whole left s. stops_full begin _ whole _ _ _ (c.loop-key.invariant.2 begin whole left s)
