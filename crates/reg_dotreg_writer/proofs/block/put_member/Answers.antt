use Rattle.reg_dotreg_writer.specs.Internal.Pieces.{entry_pieces}
use Rattle.reg_tree_text.proofs.SentTexts.{gathers, stops_full, exits}
use Rattle.reg_dotreg_writer.proofs.block.put_member.Goals as goal

pub returns-in_err-push_entry : goal.returns-in_err-push_entry
returns-in_err-push_entry g c = λ begin whole left s. exits _ _ _ _ c.from_residual.ensures.1 (stops_full begin _ whole _ _ _ s)

pub returns : goal.returns
returns g c =
    λ begin whole left s.
    c.settle.ensures.tells begin whole left
    (gathers begin _ whole (entry_pieces c.args.is_utf8 c.args.name.now c.args.kind c.args.content.now) left _ _ _ s c.in_ok-push_entry.ensures)
