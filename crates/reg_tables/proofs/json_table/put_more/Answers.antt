use Rattle.std.proofs.Common.{ap, sym, ◌∙◌}
use Rattle.std.specs.Prelude.{flat_map}
use Rattle.reg_tree_text.proofs.SentTexts.{opened, swapped, ends, stops_full, exits}
use Rattle.reg_tree_text.proofs.CountedKeys.{went, ended}
use Rattle.reg_tables.specs.Internal.Layouts.{more_laid}
use Rattle.reg_tables.proofs.json_table.put_more.Goals as goal

pub loop-key-init : goal.loop-key-init
loop-key-init g c = λ here rest stands. (record { here = here; rest = rest; stands = stands }, λ begin whole left s. s)

pub advance-requires : goal.advance-requires
advance-requires g c = let a = (c.loop-key.invariant c.requires.0 c.requires.1 c.requires.2).0 in (a.here, a.rest, a.stands)

pub returns-in_err-advance : goal.returns-in_err-advance
returns-in_err-advance g c =
    λ here rest stands begin whole left s.
    exits _ _ _ _ c.from_residual.ensures.1 (stops_full begin _ whole _ _ _ ((c.loop-key.invariant here rest stands).1 begin whole left s))

pub returns-then-not-branch : goal.returns-then-not-branch
returns-then-not-branch g c =
    λ here rest stands begin whole left s.
    (let v = c.loop-key.invariant here rest stands in
    let a = v.0 in
    ends begin _ whole _ left _ _ (v.1 begin whole left s)
    (ap (flat_map (more_laid c.args.layout)) (ended _ _ _ _ c.if-not-branch.true (c.in_ok-advance.ensures a.here a.rest a.stands))))

pub put_next-requires : goal.put_next-requires
put_next-requires g c =
    let a = (c.loop-key.invariant c.requires.0 c.requires.1 c.requires.2).0 in
    let n = went _ _ _ _ c.if-not-branch.false (c.in_ok-advance.ensures a.here a.rest a.stands) in
    (_, n.stands.at)

pub returns-in_err-put_next : goal.returns-in_err-put_next
returns-in_err-put_next g c =
    λ here rest stands begin whole left s.
    (let v = c.loop-key.invariant here rest stands in
    let a = v.0 in
    let n = went _ _ _ _ c.if-not-branch.false (c.in_ok-advance.ensures a.here a.rest a.stands) in
    exits _ _ _ _ c.from_residual-in_err-put_next.ensures.1
    (c.in_err-put_next.ensures n.stands.path n.stands.at n.told n.stands.key (c.deref.ensures.value ∙ n.stands.text) begin whole _
    (opened begin _ whole (more_laid c.args.layout n.told) (flat_map (more_laid c.args.layout) n.rest) left _ _
    (swapped begin _ whole _ _ left _ _ (v.1 begin whole left s) (sym (ap (flat_map (more_laid c.args.layout)) n.all_is))))))

pub loop-key-preserved : goal.loop-key-preserved
loop-key-preserved g c =
    λ here rest stands.
    (let v = c.loop-key.invariant here rest stands in
    let a = v.0 in
    let n = went _ _ _ _ c.if-not-branch.false (c.in_ok-advance.ensures a.here a.rest a.stands) in (
      record { here = n.told; rest = n.rest; stands = n.stands },
      λ begin whole left s.
          c.in_ok-put_next.ensures n.stands.path n.stands.at n.told n.stands.key (c.deref.ensures.value ∙ n.stands.text) begin whole _
          (opened begin _ whole (more_laid c.args.layout n.told) (flat_map (more_laid c.args.layout) n.rest) left _ _
          (swapped begin _ whole _ _ left _ _ (v.1 begin whole left s) (sym (ap (flat_map (more_laid c.args.layout)) n.all_is)))),
    ))

pub returns : goal.returns
returns g c = λ here rest stands begin whole left s. stops_full begin _ whole _ _ _ ((c.loop-key.invariant here rest stands).1 begin whole left s)
