use Rattle.std.proofs.Common.{arith}
use Rattle.std.proofs.lemmas.Bool.Decides.{nat_tests}
use Rattle.reg_dotreg_writer.proofs.EntryUnits.{text_open, text_unfit, text_fit, fit_same}
use Rattle.reg_dotreg_writer.proofs.units.string_text.Goals as goal

pub returns-then-last-ne0 : goal.returns-then-last-ne0
returns-then-last-ne0 c =
    text_open c.args.bytes.now c.in-Some.units.items c.pop.new.self.items c.in-Some-pop.last (rw c.in-Some.is at c.in_ok-units.ensures)
    c.in-Some-pop.ensures.items (grind (arith, nat_tests, c.if-last-ne0.true))

pub returns-then-not-is_line_text : goal.returns-then-not-is_line_text
returns-then-not-is_line_text c =
    text_unfit c.args.bytes.now c.in-Some.units.items c.pop.new.self.items c.in-Some-pop.last (rw c.in-Some.is at c.in_ok-units.ensures)
    c.in-Some-pop.ensures.items c.if-last-ne0.false
    (fit_same _ _ _ _ c.deref.ensures.value c.is_line_text.ensures c.if-not-is_line_text.true)

pub returns : goal.returns
returns c =
    text_fit c.args.bytes.now c.in-Some.units.items c.pop.new.self.items c.in-Some-pop.last (rw c.in-Some.is at c.in_ok-units.ensures)
    c.in-Some-pop.ensures.items c.if-last-ne0.false
    (fit_same _ _ _ _ c.deref.ensures.value c.is_line_text.ensures c.if-not-is_line_text.false)
