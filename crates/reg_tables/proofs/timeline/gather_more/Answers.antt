use Rattle.std.proofs.Common.{refl, ◌∙◌}
use Rattle.reg_tree_text.proofs.CountedKeys.{went, ended}
use Rattle.reg_tables.proofs.TimelineTexts.{within_next, within_end}
use Rattle.reg_tables.proofs.timeline.gather_more.Goals as goal

pub loop-key-init : goal.loop-key-init
loop-key-init c = λ here rest stands. (record { here = here; rest = rest; stands = stands }, refl)

pub advance-requires : goal.advance-requires
advance-requires c = let a = (c.loop-key.invariant c.requires.0 c.requires.1 c.requires.2).0 in (a.here, a.rest, a.stands)

pub returns-then-not-branch : goal.returns-then-not-branch
returns-then-not-branch c =
    λ here rest stands.
    (let v = c.loop-key.invariant here rest stands in
    let a = v.0 in
    within_end _ _ _ _ _ _ _ v.1 (ended _ _ _ _ c.if-not-branch.true (c.in_ok-advance.ensures a.here a.rest a.stands)))

pub gather_key-requires : goal.gather_key-requires
gather_key-requires c =
    let a = (c.loop-key.invariant c.requires.0 c.requires.1 c.requires.2).0 in
    let n = went _ _ _ _ c.if-not-branch.false (c.in_ok-advance.ensures a.here a.rest a.stands) in
    (_, n.stands.at)

pub loop-key-preserved : goal.loop-key-preserved
loop-key-preserved c =
    λ here rest stands.
    (let v = c.loop-key.invariant here rest stands in
    let a = v.0 in
    let n = went _ _ _ _ c.if-not-branch.false (c.in_ok-advance.ensures a.here a.rest a.stands) in (
      record { here = n.told; rest = n.rest; stands = n.stands },
      within_next _ _ _ _ _ _ _ _ _ _ v.1 n.all_is
          (c.in_ok-gather_key.ensures n.stands.path n.stands.at n.told n.stands.key (c.deref.ensures.value ∙ n.stands.text)),
    ))
