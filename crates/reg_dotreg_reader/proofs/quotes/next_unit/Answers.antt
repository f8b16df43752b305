use Rattle.std.proofs.Common.{sym, ◌∙◌}
use Rattle.reg_dotreg_reader.proofs.QuotedUnits.{stops_quote, stops_escape, next_escape}
use Rattle.reg_dotreg_reader.proofs.quotes.next_unit.Goals as goal

pub returns-in-34 : goal.returns-in-34
returns-in-34 c = stops_quote c.args.text.now c.in_ok-unit.rest.now c.in_ok-unit.unit.now c.in_ok-unit.ensures.cases.0 c.in-34.is

pub returns-then-is_escaped : goal.returns-then-is_escaped
returns-then-is_escaped c =
    next_escape c.args.text.now c.in_ok-unit.rest.now c.in_ok-unit-in-92.rest.now c.in_ok-unit.unit.now c.in_ok-unit-in-92.unit.now
    c.in_ok-unit.ensures.cases.0 c.in-92.is c.in_ok-unit-in-92.ensures.cases.0 (sym c.is_escaped.ensures ∙ c.if-is_escaped.true)

pub returns-else-is_escaped : goal.returns-else-is_escaped
returns-else-is_escaped c =
    stops_escape c.args.text.now c.in_ok-unit.rest.now c.in_ok-unit-in-92.rest.now c.in_ok-unit.unit.now c.in_ok-unit-in-92.unit.now
    c.in_ok-unit.ensures.cases.0 c.in-92.is c.in_ok-unit-in-92.ensures.cases.0 (sym c.is_escaped.ensures ∙ c.if-is_escaped.false)
