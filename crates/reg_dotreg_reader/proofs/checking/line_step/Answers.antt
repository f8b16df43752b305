use Rattle.std.proofs.Common.{rules, ◌≡◌, Some, None, sym, subst}
use Rattle.reg_dotreg_reader.specs.declared.fault.LineFault.TheVariants.{Form}
use Rattle.reg_dotreg_reader.specs.EntryLines.{lines_of}
use Rattle.reg_dotreg_reader.specs.Internal.ReadSoFar.{IsStep}
use Rattle.reg_dotreg_reader.specs.BadLines.{Step}
use Rattle.reg_dotreg_reader.proofs.ValueRows.{if_made}
use Rattle.reg_dotreg_reader.proofs.BadSteps.{step_gives}
use Rattle.reg_dotreg_reader.proofs.checking.line_step.Goals as goal

pub returns-in-Ok-clause-step : goal.returns-in-Ok-clause-step
returns-in-Ok-clause-step c =
    let same =
    step_gives c.args.root.now c.args.line.now c.in_ok-whole.whole.units.items c.deref.result.now c.args.is_narrow c.args.is_open c.args.number
    (lines_of c.args.behind.now) (Some c.in-Ok.entry) c.in_ok-whole.ensures.units c.deref.ensures.value c.in-Ok.ensures in
    if_made c.step_said.result _ _ (λ s h. subst (λ (t : Step). IsStep t s.bad s.is_open s.taken) (sym same) h) c.step_said.ensures.step

pub returns-in-Err-Form-clause-step : goal.returns-in-Err-Form-clause-step
returns-in-Err-Form-clause-step c =
    let form : c.in-Err-Form.field-0 ≡ Form = search rules in
    let same =
    step_gives c.args.root.now c.args.line.now c.in_ok-whole.whole.units.items c.deref.result.now c.args.is_narrow c.args.is_open c.args.number
    (lines_of c.args.behind.now) None c.in_ok-whole.ensures.units c.deref.ensures.value (c.in-Err-Form.ensures form) in
    if_made c.step_not.result _ _ (λ s h. subst (λ (t : Step). IsStep t s.bad s.is_open s.taken) (sym same) h) c.step_not.ensures.step
