use Rattle.std.proofs.Common.{refl}
use Rattle.reg_script.proofs.FailedCalls.{at_ok, at_err}
use Rattle.reg_script.proofs.ScriptEnds.{closed_well, runs_whole, runs_sparing, runs_into, nothing_done}
use Rattle.reg_script.proofs.engine.run_script.Goals as goal

pub returns-in_default-clause-stops : goal.returns-in_default-clause-stops
returns-in_default-clause-stops g c = nothing_done _ _ _ _ _ _

pub returns-in-Ok-close-clause-at_end : goal.returns-in-Ok-close-clause-at_end
returns-in-Ok-close-clause-at_end g c =
    at_ok _ c.close.result _ c.in-Ok-close.is
    (closed_well _ _ c.read_all-ended.result c.close.result _ _ _ _ c.close.ensures c.read_all-ended.ensures.at_end (λ at_end sent. at_end))

pub returns-in-Ok-close-clause-lines : goal.returns-in-Ok-close-clause-lines
returns-in-Ok-close-clause-lines g c =
    at_ok _ c.close.result _ c.in-Ok-close.is
    (runs_whole _ _ _ _ _ _ _ _ c.read_all-ended.result c.close.result refl c.new-2.ensures.items c.new.ensures.gathered c.new.ensures.written refl refl
    c.read_all-ended.ensures.lines c.close.ensures)

pub returns-in-Ok-close-clause-spared : goal.returns-in-Ok-close-clause-spared
returns-in-Ok-close-clause-spared g c =
    at_ok _ c.close.result _ c.in-Ok-close.is
    (runs_sparing _ _ _ _ _ _ _ _ c.read_all-ended.result c.close.result refl c.new-2.ensures.items c.new.ensures.gathered c.new.ensures.written refl refl
    c.read_all-ended.ensures.lines c.close.ensures)

pub returns-clause-stops : goal.returns-clause-stops
returns-clause-stops g c =
    at_err _ c.close.result _ c.in-Err.is
    (runs_into _ _ _ _ _ _ _ _ c.read_all-ended.result c.close.result refl c.new-2.ensures.items c.new.ensures.gathered c.new.ensures.written refl refl
    c.read_all-ended.ensures.lines c.close.ensures c.read_all-ended.ensures.at_end c.read_all-ended.ensures.err)
