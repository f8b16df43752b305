use Rattle.std.proofs.Common.{refl, ap, ◌∙◌, List, ℕ, take}
use Rattle.reg_tree.proofs.Invariant.CellReadings.{some_of}
use Rattle.reg_tree_text.specs.Internal.Walking.{text_below}
use Rattle.reg_tree_text.proofs.WalkSteps.{name-some, entered}
use Rattle.reg_tree_text.proofs.walk.Walk.enter.Goals as goal

pub returns : goal.returns
returns c =
    λ here more s a.
    (let k = some_of _ (c.name.ensures.key _ s.subkey.at) in
    entered _ _ _ here more s _ a k.0 k.1 (c.root-root.ensures.shallow _ (c.name.ensures.key _ s.subkey.at))
    (name-some _ (c.root-root.ensures.limits.keys _ k.0 k.1).name) _ _
    (c.name.ensures.told _ s.subkey.at k.0 k.1) refl
    (c.in_ok-descend.ensures ∙
    ap (λ (text : List ℕ). text_below c.args.pending.front
    (take c.args.pending.front text) c.name.result.now) c.note_next.ensures.same)
    (c.in_ok-note_next.ensures.noted s.path s.index s.at s.subkey))
