use Rattle.std.proofs.Common.{rules, tests}
use Rattle.reg_tree_text.proofs.SentTexts.{settled, cut, stops_full, exits}
use Rattle.reg_tree_text.proofs.output.settle.Goals as goal

pub returns-then-not-can_count-clause-tells : goal.returns-then-not-can_count-clause-tells
returns-then-not-can_count-clause-tells g c = λ begin whole left s. stops_full begin _ whole _ _ _ s

pub returns-in_err-settle-clause-tells : goal.returns-in_err-settle-clause-tells
returns-in_err-settle-clause-tells g c =
    λ begin whole left s.
    exits _ _ _ _ c.from_residual.ensures.1
    (cut begin _ whole left _ _ _ _ s (search (rules, tests)) c.in_err-settle.ensures.err c.in_err-settle.ensures.fails)

pub returns-clause-tells : goal.returns-clause-tells
returns-clause-tells g c =
    λ begin whole left s. settled begin _ whole left _ _ _ _ _ s (search (rules, tests)) c.in_ok-settle.ensures.sent c.in_ok-settle.ensures.stays
