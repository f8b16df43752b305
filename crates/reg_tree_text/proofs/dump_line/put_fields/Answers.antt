use Rattle.reg_tree_text.proofs.SentTexts.{gathers, stops_full, exits}
use Rattle.reg_tree_text.proofs.LineSteps.{key_start, class_start, descriptor_start}
use Rattle.reg_tree_text.proofs.dump_line.put_fields.Goals as goal

pub returns-in_err-write_part : goal.returns-in_err-write_part
returns-in_err-write_part g c =
    λ begin whole left s.
    exits _ _ _ _ c.from_residual.ensures.1
    (stops_full begin _ whole _ _ _ s)

pub returns-in_err-put_escaped : goal.returns-in_err-put_escaped
returns-in_err-put_escaped g c =
    λ begin whole left s.
    exits _ _ _ _ c.from_residual-in_err-put_escaped.ensures.1
    (c.in_err-put_escaped.ensures begin whole _ (key_start begin _ whole left _ _ _ _ _ _ _ _ s c.in_ok-write_part.ensures))

pub returns-in_err-write_marks : goal.returns-in_err-write_marks
returns-in_err-write_marks g c =
    λ begin whole left s.
    exits _ _ _ _ c.from_residual-in_err-write_marks.ensures.1
    (stops_full begin _ whole _ _ _ (c.in_ok-put_escaped.ensures begin whole _
    (key_start begin _ whole left _ _ _ _ _ _ _ _ s c.in_ok-write_part.ensures)))

pub returns-in_err-put_digits : goal.returns-in_err-put_digits
returns-in_err-put_digits g c =
    λ begin whole left s.
    exits _ _ _ _ c.from_residual-in_err-put_digits.ensures.1
    (c.in_err-put_digits.ensures begin whole _ (class_start begin _ whole left _ _ _ _ _ _ _ (c.in_ok-put_escaped.ensures begin whole _
    (key_start begin _ whole left _ _ _ _ _ _ _ _ s c.in_ok-write_part.ensures)) c.in_ok-write_marks.ensures))

pub returns-in_err-write_part-2 : goal.returns-in_err-write_part-2
returns-in_err-write_part-2 g c =
    λ begin whole left s.
    exits _ _ _ _ c.from_residual-in_err-write_part-2.ensures.1
    (stops_full begin _ whole _ _ _ (c.in_ok-put_digits.ensures begin whole _
    (class_start begin _ whole left _ _ _ _ _ _ _ (c.in_ok-put_escaped.ensures begin whole _
    (key_start begin _ whole left _ _ _ _ _ _ _ _ s c.in_ok-write_part.ensures)) c.in_ok-write_marks.ensures)))

pub returns-in_err-put_digits-2 : goal.returns-in_err-put_digits-2
returns-in_err-put_digits-2 g c =
    λ begin whole left s.
    exits _ _ _ _ c.from_residual-in_err-put_digits-2.ensures.1
    (c.in_err-put_digits-2.ensures begin whole _ (descriptor_start begin _ whole left _ _ _ _ _ (c.in_ok-put_digits.ensures begin whole _
    (class_start begin _ whole left _ _ _ _ _ _ _ (c.in_ok-put_escaped.ensures begin whole _
    (key_start begin _ whole left _ _ _ _ _ _ _ _ s c.in_ok-write_part.ensures)) c.in_ok-write_marks.ensures)) c.in_ok-write_part-2.ensures))

pub returns-in_err-write_time : goal.returns-in_err-write_time
returns-in_err-write_time g c =
    λ begin whole left s.
    exits _ _ _ _ c.from_residual-in_err-write_time.ensures.1
    (stops_full begin _ whole _ _ _ (c.in_ok-put_digits-2.ensures begin whole _
    (descriptor_start begin _ whole left _ _ _ _ _ (c.in_ok-put_digits.ensures begin whole _
    (class_start begin _ whole left _ _ _ _ _ _ _ (c.in_ok-put_escaped.ensures begin whole _
    (key_start begin _ whole left _ _ _ _ _ _ _ _ s c.in_ok-write_part.ensures)) c.in_ok-write_marks.ensures)) c.in_ok-write_part-2.ensures)))

pub returns : goal.returns
returns g c =
    λ begin whole left s.
    c.settle.ensures.tells begin whole left
    (gathers begin _ whole _ left _ _ _ (c.in_ok-put_digits-2.ensures begin whole _
    (descriptor_start begin _ whole left _ _ _ _ _ (c.in_ok-put_digits.ensures begin whole _
    (class_start begin _ whole left _ _ _ _ _ _ _ (c.in_ok-put_escaped.ensures begin whole _
    (key_start begin _ whole left _ _ _ _ _ _ _ _ s c.in_ok-write_part.ensures)) c.in_ok-write_marks.ensures)) c.in_ok-write_part-2.ensures)) c.in_ok-write_time.ensures)
