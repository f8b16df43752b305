use Rattle.std.proofs.Common.{ap}
use Rattle.reg_text.proofs.FailureCounts.{stays-at}
use Rattle.std.specs.Prelude.{is_some}
use Rattle.regex.specs.Patterns.{find}
use Rattle.reg_queries.proofs.FindSteps.{found_by, stopped_by}
use Rattle.reg_queries.proofs.finding.find.Goals as goal

pub returns-in-Ok-matcher-clause-ok : goal.returns-in-Ok-matcher-clause-ok
returns-in-Ok-matcher-clause-ok g c =
    found_by _ _ c.args.pattern.now c.args.ignores_case c.args.scope _ c.in-Ok.ensures.ok _
    (ap (λ p. λ text. is_some (find p text 0)) c.in-Ok-matcher.ensures.pattern) _ _ c.search.result c.search.ensures.ok

pub returns-in-Ok-matcher-clause-err : goal.returns-in-Ok-matcher-clause-err
returns-in-Ok-matcher-clause-err g c =
    stopped_by _ _ c.args.pattern.now c.args.ignores_case c.args.scope _ c.in-Ok.ensures.ok _
    (ap (λ p. λ text. is_some (find p text 0)) c.in-Ok-matcher.ensures.pattern) _ _ c.search.result c.search.ensures.err

pub returns-in-Err-clause-failures : goal.returns-in-Err-clause-failures
returns-in-Err-clause-failures g c = (stays-at _, stays-at _)

pub returns-clause-failures : goal.returns-clause-failures
returns-clause-failures g c = (stays-at _, stays-at _)
