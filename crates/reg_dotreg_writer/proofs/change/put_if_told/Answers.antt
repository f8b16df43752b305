use Rattle.std.proofs.Common.{ap, sym, ◌∙◌, cond, Bool, []}
use Rattle.reg_diff.specs.Internal.Parts.{member_of}
use Rattle.reg_tree_text.proofs.SentTexts.{swapped, ends, gathers, stops_full, exits}
use Rattle.reg_dotreg_writer.specs.Internal.ChangePieces.{value_pieces}
use Rattle.reg_dotreg_writer.proofs.change.put_if_told.Goals as goal

pub returns-in_err-is_told : goal.returns-in_err-is_told
returns-in_err-is_told g c = λ q r begin whole left s. exits _ _ _ _ c.from_residual.ensures.1 (stops_full begin _ whole _ _ _ s)

pub returns-then-not-branch : goal.returns-then-not-branch
returns-then-not-branch g c =
    λ q r begin whole left s.
    ends begin _ whole _ left _ _ s
    (ap (λ (b : Bool). cond b (value_pieces c.args.is_utf8 c.args.side (member_of c.args.value.now)) [])
    (sym (c.in_ok-is_told.ensures q r) ∙ c.if-not-branch.true))

pub returns-in_err-push_value : goal.returns-in_err-push_value
returns-in_err-push_value g c = λ q r begin whole left s. exits _ _ _ _ c.from_residual-in_err-push_value.ensures.1 (stops_full begin _ whole _ _ _ s)

pub returns : goal.returns
returns g c =
    λ q r begin whole left s.
    c.settle.ensures.tells begin whole left
    (gathers begin _ whole (value_pieces c.args.is_utf8 c.args.side (member_of c.args.value.now)) left _ _ _
    (swapped begin _ whole _ _ left _ _ s
    (sym (ap (λ (b : Bool). cond b (value_pieces c.args.is_utf8 c.args.side (member_of c.args.value.now)) [])
    (sym (c.in_ok-is_told.ensures q r) ∙ c.if-not-branch.false))))
    c.in_ok-push_value.ensures)
