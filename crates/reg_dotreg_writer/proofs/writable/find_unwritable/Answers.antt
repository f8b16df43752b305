use Rattle.std.proofs.Common.{◌∙◌}
use Rattle.reg_tree_text.proofs.CountedKeys.{went, ended}
use Rattle.reg_dotreg_writer.proofs.WritableNames.{search_start, found_bad, searches_on, found_none}
use Rattle.reg_dotreg_writer.proofs.writable.find_unwritable.Goals as goal

pub loop-key-init : goal.loop-key-init
loop-key-init c = λ all goes. search_start _ _ all goes

pub can_write-requires : goal.can_write-requires
can_write-requires c = let s = c.loop-key.invariant c.requires.0 c.requires.1 in (s.goes.stands.path, s.goes.stands.at)

pub returns-then-not-can_write : goal.returns-then-not-can_write
returns-then-not-can_write c =
    λ all goes.
    (let s = c.loop-key.invariant all goes in
    let at = s.goes.stands in
    found_bad _ _ all s c.can_write.result _
    (c.can_write.ensures at.path at.at s.goes.told at.key (c.deref.ensures.value ∙ at.text)) c.if-not-can_write.true
    (c.in_ok-copied.ensures ∙ (c.deref-then-not-can_write.ensures.value ∙ at.text)))

pub advance-requires : goal.advance-requires
advance-requires c = let s = c.loop-key.invariant c.requires.0 c.requires.1 in (s.goes.told, s.goes.rest, s.goes.stands)

pub returns-then-not-branch : goal.returns-then-not-branch
returns-then-not-branch c =
    λ all goes.
    (let s = c.loop-key.invariant all goes in
    let at = s.goes.stands in
    found_none _ _ all s c.can_write.result
    (c.can_write.ensures at.path at.at s.goes.told at.key (c.deref.ensures.value ∙ at.text)) c.if-not-can_write.false
    (ended _ _ _ _ c.if-not-branch.true (c.in_ok-advance.ensures s.goes.told s.goes.rest at)))

pub loop-key-preserved : goal.loop-key-preserved
loop-key-preserved c =
    λ all goes.
    (let s = c.loop-key.invariant all goes in
    let at = s.goes.stands in
    searches_on _ _ _ all s c.can_write.result
    (c.can_write.ensures at.path at.at s.goes.told at.key (c.deref.ensures.value ∙ at.text)) c.if-not-can_write.false
    (went _ _ _ _ c.if-not-branch.false (c.in_ok-advance.ensures s.goes.told s.goes.rest at)))
