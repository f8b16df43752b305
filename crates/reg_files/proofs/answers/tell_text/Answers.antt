use Rattle.std.proofs.Common.{arith, refl}
use Rattle.reg_files.specs.Internal.Cuts.{is_cut}
use Rattle.reg_files.proofs.ToldTexts.{as_told, as_stopped, as_unmade, text_whole, text_cut}
use Rattle.reg_files.proofs.ToldTimelines.{settled_small}
use Rattle.reg_files.proofs.answers.tell_text.Goals as goal

pub returns-in-Ok-clause-status : goal.returns-in-Ok-clause-status
returns-in-Ok-clause-status g c = settled_small is_cut _ c.write_text-done.result c.settle_output.result _ _ _ _ c.settle_output.ensures

pub returns-in-Ok-clause-told : goal.returns-in-Ok-clause-told
returns-in-Ok-clause-told g c = λ nil.
    as_told c.args.text c.in-Ok.text c.in-Ok.is _ c.as_bytes.ensures.value _ _
    (text_whole is_cut _ (g.W.Output.closed c.write_text-done.new.output) _ _ _ _ _ _ c.write_text-done.result c.settle_output.result
    c.settle_output.ensures c.write_text-done.ensures.written nil)

pub returns-in-Ok-clause-stops : goal.returns-in-Ok-clause-stops
returns-in-Ok-clause-stops g c = λ one.
    as_stopped c.args.text (g.W.Output.closed c.write_text-done.new.output) _ _ _ _ _ _ c.in-Ok.text c.in-Ok.is _ c.as_bytes.ensures.value
    (text_cut is_cut _ (g.W.Output.closed c.write_text-done.new.output) _ _ _ _ _ _ c.write_text-done.result c.settle_output.result
    c.settle_output.ensures c.write_text-done.ensures.written one)

pub returns-in-Err-clause-told : goal.returns-in-Err-clause-told
returns-in-Err-clause-told g c = λ nil. (let one = c.settle.ensures.0 in absurd (omega (arith, one, nil)))

pub returns-in-Err-clause-stops : goal.returns-in-Err-clause-stops
returns-in-Err-clause-stops g c = λ _.
    as_unmade c.args.text _ _ _ _ _ _ _ c.in-Err.fault c.in-Err.is refl c.settle.ensures.1
