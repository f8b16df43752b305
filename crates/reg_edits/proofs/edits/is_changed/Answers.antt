use Rattle.std.proofs.Common.{◌∙◌, sym}
use Rattle.reg_edits.proofs.ChangedKeys.{none_here, none_more, found}
use Rattle.reg_edits.proofs.edits.is_changed.Goals.{in-Some+else-changes_keys, in_default}
use Rattle.reg_edits.proofs.edits.is_changed.Goals as goal

pub loop-number-preserved : goal.loop-number-preserved
loop-number-preserved g c = elim c.match-entry.branch [
  | in-Some+else-changes_keys w ↦
      none_more _ _ _ _ (sym w.in-Some.ensures) c.loop-number.invariant (sym w.changes_keys.ensures ∙ w.if-changes_keys.false)
  | in_default w ↦ none_here _ _ _ (sym w.in_default.ensures) c.loop-number.invariant
]

pub returns-then-changes_keys : goal.returns-then-changes_keys
returns-then-changes_keys g c = found _ _ _ _ (sym c.in-Some.ensures) (sym c.changes_keys.ensures ∙ c.if-changes_keys.true)
