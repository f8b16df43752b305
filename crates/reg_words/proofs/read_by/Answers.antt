use Rattle.reg_words.proofs.CommandShapes.{taken, refused, found, refuses_unread, options_unread, both_so, not_both, nothing_of_both, asked_for}
use Rattle.reg_words.proofs.CommandShapes.{asked_for_none}
use Rattle.reg_words.proofs.read_by.Goals as goal

pub returns-in_err-matches-clause-refuses : goal.returns-in_err-matches-clause-refuses
returns-in_err-matches-clause-refuses c =
    let e = c.in_err-matches.field-0.0 in
    refuses_unread _ c.from_residual.result e (refused _ _ e c.requires c.in_err-matches.ensures.kinds) c.from_residual.ensures.1

pub returns-in_err-matches-clause-options : goal.returns-in_err-matches-clause-options
returns-in_err-matches-clause-options c =
    let e = c.in_err-matches.field-0.0 in
    options_unread _ c.from_residual.result e (refused _ _ e c.requires c.in_err-matches.ensures.kinds) c.from_residual.ensures.1

pub returns-then-has_both_options-clause-refuses : goal.returns-then-has_both_options-clause-refuses
returns-then-has_both_options-clause-refuses c =
    λ other. nothing_of_both _ (both_so _ _ (taken _ _ c.requires c.in_ok-matches.ensures.kinds)
    (found _ _ c.in_ok-matches.matches c.requires c.in_ok-matches.ensures.ok.2) (c.has_both_options.ensures.0 c.if-has_both_options.true))

pub returns-then-has_both_options-clause-options : goal.returns-then-has_both_options-clause-options
returns-then-has_both_options-clause-options c =
    both_so _ _ (taken _ _ c.requires c.in_ok-matches.ensures.kinds)
    (found _ _ c.in_ok-matches.matches c.requires c.in_ok-matches.ensures.ok.2) (c.has_both_options.ensures.0 c.if-has_both_options.true)

pub returns-in-Some-clause-asks : goal.returns-in-Some-clause-asks
returns-in-Some-clause-asks c =
    asked_for _ _ c.in_ok-request.field-0 c.in-Some.request (taken _ _ c.requires c.in_ok-matches.ensures.kinds)
    (found _ _ c.in_ok-matches.matches c.requires c.in_ok-matches.ensures.ok.2) c.in_ok-request.ensures c.in-Some.is

pub returns-clause-refuses : goal.returns-clause-refuses
returns-clause-refuses c =
    λ other. asked_for_none _ _ c.in_ok-request.field-0
    (found _ _ c.in_ok-matches.matches c.requires c.in_ok-matches.ensures.ok.2) c.in_ok-request.ensures c.in-None.is

pub returns-clause-options : goal.returns-clause-options
returns-clause-options c =
    λ both. absurd (not_both _ _ (taken _ _ c.requires c.in_ok-matches.ensures.kinds)
    (found _ _ c.in_ok-matches.matches c.requires c.in_ok-matches.ensures.ok.2) c.has_both_options.result c.if-has_both_options.false
    c.has_both_options.ensures both)
