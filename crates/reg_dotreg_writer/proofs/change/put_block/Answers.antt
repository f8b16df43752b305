use Rattle.reg_tree_text.proofs.SentTexts.{gathers, stops_full, exits}
use Rattle.reg_dotreg_writer.specs.EntryTexts.{line_end}
use Rattle.reg_dotreg_writer.specs.Changes.{rooted}
use Rattle.reg_dotreg_writer.specs.Internal.Pieces.{plain}
use Rattle.reg_dotreg_writer.proofs.ToldChanges.{line-gathered}
use Rattle.reg_dotreg_writer.proofs.change.put_block.Goals as goal

pub returns-in_err-push_change_line : goal.returns-in_err-push_change_line
returns-in_err-push_change_line g c =
    λ p q at r begin whole left s. exits _ _ _ _ c.from_residual.ensures.1 (stops_full begin _ whole _ _ _ s)

pub returns-in_err-put_told_values : goal.returns-in_err-put_told_values
returns-in_err-put_told_values g c =
    λ p q at r begin whole left s.
    exits _ _ _ _ c.from_residual-in_err-put_told_values.ensures.1
    (c.in_err-put_told_values.ensures p q at r begin whole _
    (line-gathered c.args.is_utf8 _ _ (rooted c.args.root.now c.args.path.now) begin _ whole _ (plain c.args.is_utf8 line_end) left _ _ _
    c.is_gone-gone.ensures s c.in_ok-push_change_line.ensures))

pub returns-in_err-push_plain : goal.returns-in_err-push_plain
returns-in_err-push_plain g c =
    λ p q at r begin whole left s.
    exits _ _ _ _ c.from_residual-in_err-push_plain.ensures.1
    (stops_full begin _ whole _ _ _
    (c.in_ok-put_told_values.ensures p q at r begin whole _
    (line-gathered c.args.is_utf8 _ _ (rooted c.args.root.now c.args.path.now) begin _ whole _ (plain c.args.is_utf8 line_end) left _ _ _
    c.is_gone-gone.ensures s c.in_ok-push_change_line.ensures)))

pub returns : goal.returns
returns g c =
    λ p q at r begin whole left s.
    c.settle.ensures.tells begin whole left
    (gathers begin _ whole (plain c.args.is_utf8 line_end) left _ _ _
    (c.in_ok-put_told_values.ensures p q at r begin whole _
    (line-gathered c.args.is_utf8 _ _ (rooted c.args.root.now c.args.path.now) begin _ whole _ (plain c.args.is_utf8 line_end) left _ _ _
    c.is_gone-gone.ensures s c.in_ok-push_change_line.ensures))
    c.in_ok-push_plain.ensures)
