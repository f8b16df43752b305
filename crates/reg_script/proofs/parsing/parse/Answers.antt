use Rattle.std.proofs.Common.{rules, tests, sym, ◌∙◌}
use Rattle.reg_script.proofs.LineMeaningLemmas.{empty_line, comment, worded}
use Rattle.reg_script.proofs.parsing.parse.Goals as goal
use Rattle.reg_script.proofs.parsing.parse.Goals.{then-is_empty-via-then-is_empty, then-is_empty-via-else-is_empty+then-line-eq35}

pub returns-then-is_empty : goal.returns-then-is_empty
returns-then-is_empty c =
    elim c.then-is_empty.branch [
      | then-is_empty-via-then-is_empty w ↦ empty_line c.args.hives c.args.line.now (search rules)
      | then-is_empty-via-else-is_empty+then-line-eq35 w ↦ comment c.args.hives c.args.line.now (search rules) (search rules)
    ]

pub returns-in-Ok : goal.returns-in-Ok
returns-in-Ok c = c.at_hives.ensures ∙ sym (worded c.args.hives c.args.line.now _ (search rules) (search (rules, tests)) c.in-Ok.ensures)

pub returns-in-Err-Form : goal.returns-in-Err-Form
returns-in-Err-Form c =
    sym (worded c.args.hives c.args.line.now _ (search rules) (search (rules, tests)) (c.in-Err-Form.ensures c.in-Err-Form.field-0-is))
