use Rattle.std.proofs.Common.{[]}
use Rattle.reg_tree_text.proofs.SentTexts.{gathers, stops_full, exits}
use Rattle.reg_tree_text.proofs.LineSteps.{root_start}
use Rattle.reg_tree_text.proofs.LineTexts.{root_state}
use Rattle.reg_tree_text.proofs.dump_line.put_root.Goals as goal

pub returns-in_err-write_part : goal.returns-in_err-write_part
returns-in_err-write_part g c =
    λ begin whole left s.
    exits _ _ _ _ c.from_residual.ensures.1
    (stops_full begin _ whole _ _ _
    (root_state begin _ whole _ left _ _ c.name-name.result.now s (c.name-name.ensures.key [] c.root.ensures.at)
    (c.name-name.ensures.told [] c.root.ensures.at)))

pub returns-in_err-put_escaped : goal.returns-in_err-put_escaped
returns-in_err-put_escaped g c =
    λ begin whole left s.
    exits _ _ _ _ c.from_residual-in_err-put_escaped.ensures.1
    (c.in_err-put_escaped.ensures begin whole _
    (root_start begin _ whole left _ _ _ _
    (root_state begin _ whole _ left _ _ c.name-name.result.now s (c.name-name.ensures.key [] c.root.ensures.at)
    (c.name-name.ensures.told [] c.root.ensures.at)) c.in_ok-write_part.ensures))

pub returns-in_err-write_part-2 : goal.returns-in_err-write_part-2
returns-in_err-write_part-2 g c =
    λ begin whole left s.
    exits _ _ _ _ c.from_residual-in_err-write_part-2.ensures.1
    (stops_full begin _ whole _ _ _ (c.in_ok-put_escaped.ensures begin whole _
    (root_start begin _ whole left _ _ _ _
    (root_state begin _ whole _ left _ _ c.name-name.result.now s (c.name-name.ensures.key [] c.root.ensures.at)
    (c.name-name.ensures.told [] c.root.ensures.at)) c.in_ok-write_part.ensures)))

pub returns : goal.returns
returns g c =
    λ begin whole left s.
    c.settle.ensures.tells begin whole left
    (gathers begin _ whole _ left _ _ _ (c.in_ok-put_escaped.ensures begin whole _
    (root_start begin _ whole left _ _ _ _
    (root_state begin _ whole _ left _ _ c.name-name.result.now s (c.name-name.ensures.key [] c.root.ensures.at)
    (c.name-name.ensures.told [] c.root.ensures.at)) c.in_ok-write_part.ensures)) c.in_ok-write_part-2.ensures)
