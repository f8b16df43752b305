use Rattle.std.proofs.Common.{rules, tests, inr}
use Rattle.reg_tree_text.proofs.SentTexts.{settled, cut, stops_full, exits}
use Rattle.reg_tree_text.proofs.output.finish.Goals as goal

pub returns-then-not-can_count-clause-puts : goal.returns-then-not-can_count-clause-puts
returns-then-not-can_count-clause-puts g c = λ begin whole left s. stops_full begin _ whole _ _ _ s

pub returns-in_err-finish-clause-puts : goal.returns-in_err-finish-clause-puts
returns-in_err-finish-clause-puts g c =
    λ begin whole left s.
    exits _ _ _ _ c.from_residual.ensures.1
    (cut begin _ whole left _ _ _ _ s (search (rules, tests)) c.in_err-finish.ensures.err c.in_err-finish.ensures.fails)

pub returns-clause-puts : goal.returns-clause-puts
returns-clause-puts g c =
    λ begin whole left s.
    settled begin _ whole left _ _ _ _ _ s (search (rules, tests))
    (inr (c.in_ok-finish.ensures.sent, c.in_ok-finish.ensures.empty, c.in_ok-finish.ensures.written)) c.in_ok-finish.ensures.stays
