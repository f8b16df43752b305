use Rattle.reg_text.specs.Texts.{line_feed}
use Rattle.reg_tree_text.proofs.SentTexts.{gathers, stops_full, exits}
use Rattle.reg_tree_text.proofs.ListedLines.{key_start}
use Rattle.reg_tree_text.proofs.list_line.put_key_line.Goals as goal

pub returns-in_err-write_part : goal.returns-in_err-write_part
returns-in_err-write_part g c = λ begin whole left s. exits _ _ _ _ c.from_residual.ensures.1 (stops_full begin _ whole _ _ _ s)

pub returns-in_err-put_escaped : goal.returns-in_err-put_escaped
returns-in_err-put_escaped g c =
    λ begin whole left s.
    exits _ _ _ _ c.from_residual-in_err-put_escaped.ensures.1
    (c.in_err-put_escaped.ensures begin whole _ (key_start begin _ whole left _ _ _ _ s c.in_ok-write_part.ensures))

pub returns-in_err-write_part-2 : goal.returns-in_err-write_part-2
returns-in_err-write_part-2 g c =
    λ begin whole left s.
    exits _ _ _ _ c.from_residual-in_err-write_part-2.ensures.1
    (stops_full begin _ whole _ _ _ (c.in_ok-put_escaped.ensures begin whole _
    (key_start begin _ whole left _ _ _ _ s c.in_ok-write_part.ensures)))

pub returns : goal.returns
returns g c =
    λ begin whole left s.
    c.settle.ensures.tells begin whole left
    (gathers begin _ whole line_feed left _ _ _ (c.in_ok-put_escaped.ensures begin whole _
    (key_start begin _ whole left _ _ _ _ s c.in_ok-write_part.ensures)) c.in_ok-write_part-2.ensures)
