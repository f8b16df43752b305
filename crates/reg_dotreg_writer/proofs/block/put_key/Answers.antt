use Rattle.reg_tree_text.proofs.SentTexts.{gathers, stops_full, exits}
use Rattle.reg_dotreg_writer.specs.EntryTexts.{line_end}
use Rattle.reg_dotreg_writer.specs.Internal.Pieces.{plain}
use Rattle.reg_dotreg_writer.proofs.BlockSteps.{line_told, values_next}
use Rattle.reg_dotreg_writer.proofs.block.put_key.Goals as goal

pub returns-in_err-push_line : goal.returns-in_err-push_line
returns-in_err-push_line g c =
    λ p at told here names begin whole left s. exits _ _ _ _ c.from_residual.ensures.1 (stops_full begin _ whole _ _ _ s)

pub returns-in_err-put_values : goal.returns-in_err-put_values
returns-in_err-put_values g c =
    λ p at told here names begin whole left s.
    exits _ _ _ _ c.from_residual-in_err-put_values.ensures.1
    (c.in_err-put_values.ensures p at begin whole _
    (values_next begin _ whole c.args.is_utf8 told _ here left _ _
    (line_told begin _ whole c.args.is_utf8 told c.args.path.now left _ _ _ names s c.in_ok-push_line.ensures)))

pub returns-in_err-push_plain : goal.returns-in_err-push_plain
returns-in_err-push_plain g c =
    λ p at told here names begin whole left s.
    exits _ _ _ _ c.from_residual-in_err-push_plain.ensures.1
    (stops_full begin _ whole _ _ _
    (c.in_ok-put_values.ensures p at begin whole _
    (values_next begin _ whole c.args.is_utf8 told _ here left _ _
    (line_told begin _ whole c.args.is_utf8 told c.args.path.now left _ _ _ names s c.in_ok-push_line.ensures))))

pub returns : goal.returns
returns g c =
    λ p at told here names begin whole left s.
    c.settle.ensures.tells begin whole left
    (gathers begin _ whole (plain c.args.is_utf8 line_end) left _ _ _
    (c.in_ok-put_values.ensures p at begin whole _
    (values_next begin _ whole c.args.is_utf8 told _ here left _ _
    (line_told begin _ whole c.args.is_utf8 told c.args.path.now left _ _ _ names s c.in_ok-push_line.ensures)))
    c.in_ok-push_plain.ensures)
