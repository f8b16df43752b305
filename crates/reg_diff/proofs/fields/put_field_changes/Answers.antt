use Rattle.std.proofs.Common.{◌∙◌}
use Rattle.reg_tree_text.proofs.SentTexts.{exits}
use Rattle.reg_diff.proofs.ChangeSteps.{name-next, marks-next, class-next, security-next, time-next}
use Rattle.reg_diff.proofs.fields.put_field_changes.Goals as goal

pub returns-in_err-put_name_change : goal.returns-in_err-put_name_change
returns-in_err-put_name_change g c =
    λ p q at there was is here found begin whole left s.
    exits _ _ _ _ c.from_residual.ensures.1
    (c.in_err-put_name_change.ensures begin whole _
    (name-next begin _ whole left _ _ c.args.ignored c.args.path.now was is _ _ (c.name.ensures.told p at was here) (c.name-2.ensures.told q there is found) s))

pub returns-in_err-put_number_change : goal.returns-in_err-put_number_change
returns-in_err-put_number_change g c =
    λ p q at there was is here found begin whole left s.
    exits _ _ _ _ c.from_residual-in_err-put_number_change.ensures.1
    (c.in_err-put_number_change.ensures begin whole _
    (marks-next begin _ whole left _ _ c.args.ignored c.args.path.now was is _ _ (c.from-old_marks.ensures ∙ c.marks.ensures p at was here)
    (c.from-new_marks.ensures ∙ c.marks-2.ensures q there is found)
    (c.in_ok-put_name_change.ensures begin whole _
    (name-next begin _ whole left _ _ c.args.ignored c.args.path.now was is _ _ (c.name.ensures.told p at was here) (c.name-2.ensures.told q there is found) s))))

pub returns-in_err-put_bytes_change : goal.returns-in_err-put_bytes_change
returns-in_err-put_bytes_change g c =
    λ p q at there was is here found begin whole left s.
    exits _ _ _ _ c.from_residual-in_err-put_bytes_change.ensures.1
    (c.in_err-put_bytes_change.ensures begin whole _
    (class-next begin _ whole left _ _ c.args.ignored c.args.path.now was is _ _ (c.class.ensures.told p at was here) (c.class-2.ensures.told q there is found)
    (c.in_ok-put_number_change.ensures begin whole _
    (marks-next begin _ whole left _ _ c.args.ignored c.args.path.now was is _ _ (c.from-old_marks.ensures ∙ c.marks.ensures p at was here)
    (c.from-new_marks.ensures ∙ c.marks-2.ensures q there is found)
    (c.in_ok-put_name_change.ensures begin whole _
    (name-next begin _ whole left _ _ c.args.ignored c.args.path.now was is _ _ (c.name.ensures.told p at was here) (c.name-2.ensures.told q there is found) s))))))

pub returns-in_err-put_bytes_change-2 : goal.returns-in_err-put_bytes_change-2
returns-in_err-put_bytes_change-2 g c =
    λ p q at there was is here found begin whole left s.
    exits _ _ _ _ c.from_residual-in_err-put_bytes_change-2.ensures.1
    (c.in_err-put_bytes_change-2.ensures begin whole _
    (security-next begin _ whole left _ _ c.args.ignored c.args.path.now was is _ _ (c.descriptor-old_descriptor.ensures.told p at was here)
    (c.descriptor-new_descriptor.ensures.told q there is found)
    (c.in_ok-put_bytes_change.ensures begin whole _
    (class-next begin _ whole left _ _ c.args.ignored c.args.path.now was is _ _ (c.class.ensures.told p at was here) (c.class-2.ensures.told q there is found)
    (c.in_ok-put_number_change.ensures begin whole _
    (marks-next begin _ whole left _ _ c.args.ignored c.args.path.now was is _ _ (c.from-old_marks.ensures ∙ c.marks.ensures p at was here)
    (c.from-new_marks.ensures ∙ c.marks-2.ensures q there is found)
    (c.in_ok-put_name_change.ensures begin whole _
    (name-next begin _ whole left _ _ c.args.ignored c.args.path.now was is _ _ (c.name.ensures.told p at was here)
    (c.name-2.ensures.told q there is found) s))))))))

pub returns : goal.returns
returns g c =
    λ p q at there was is here found begin whole left s.
    c.put_number_change-2.ensures begin whole left
    (time-next begin _ whole left _ _ c.args.ignored c.args.path.now was is _ _ (c.time.ensures p at was here) (c.time-2.ensures q there is found)
    (c.in_ok-put_bytes_change-2.ensures begin whole _
    (security-next begin _ whole left _ _ c.args.ignored c.args.path.now was is _ _ (c.descriptor-old_descriptor.ensures.told p at was here)
    (c.descriptor-new_descriptor.ensures.told q there is found)
    (c.in_ok-put_bytes_change.ensures begin whole _
    (class-next begin _ whole left _ _ c.args.ignored c.args.path.now was is _ _ (c.class.ensures.told p at was here) (c.class-2.ensures.told q there is found)
    (c.in_ok-put_number_change.ensures begin whole _
    (marks-next begin _ whole left _ _ c.args.ignored c.args.path.now was is _ _ (c.from-old_marks.ensures ∙ c.marks.ensures p at was here)
    (c.from-new_marks.ensures ∙ c.marks-2.ensures q there is found)
    (c.in_ok-put_name_change.ensures begin whole _
    (name-next begin _ whole left _ _ c.args.ignored c.args.path.now was is _ _ (c.name.ensures.told p at was here)
    (c.name-2.ensures.told q there is found) s)))))))))
