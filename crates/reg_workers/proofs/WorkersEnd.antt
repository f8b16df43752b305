-- How a run of workers ends.
use Rattle.std.proofs.Common.{◌≡◌, ℕ, List, [], ◌++◌, Option, ap, subst, ◌∙◌, arith}
use Rattle.std.specs.Io.KnownBytes.{Appends, Consumes, IsAtEnd}
use Rattle.reg_text.specs.Outputs.{IsCut}
use Rattle.reg_script.specs.declared.engine.ScriptFault.{ScriptFault}
use Rattle.reg_script.specs.declared.engine.ScriptFault.TheVariants.{Read, Write, TooLong, Memory}
use Rattle.reg_script.specs.LineWords.{lines_of}
use Rattle.reg_script.specs.Stops.{IsTaken}
use Rattle.reg_workers.specs.declared.plan.Plan.{Plan}
use Rattle.reg_workers.specs.Workers.{WritesWorkers, RunsWorkers, StopsBefore, WorkersStop}
use Rattle.reg_workers.specs.Internal.Readings.{IsWhole, EndsEarly, StopsReading}
use Rattle.reg_workers.proofs.ReadBytes.{no_memory}

early : (fault : ScriptFault) (unread left before after : Option (List ℕ)) → after ≡ before → EndsEarly fault unread left →
    StopsBefore fault unread left before after
early fault unread left before after same e =
    record { lines = e.lines; rest = e.rest; read = e.read; within = e.within; stands = e.stands; same = same }

pub stopped_reading : (hives : ℕ) (fault : ScriptFault) (unread left before after : Option (List ℕ)) → after ≡ before → StopsReading fault unread left →
    WorkersStop hives fault unread left before after
stopped_reading hives Read unread left before after same e = early Read unread left before after same e
stopped_reading hives (Write written) unread left before after same e = absurd e
stopped_reading hives TooLong unread left before after same e = early TooLong unread left before after same e
stopped_reading hives Memory unread left before after same e = early Memory unread left before after same e

-- no memory once all was read
pub stopped_working : (hives : ℕ) (script : List ℕ) (unread left before after : Option (List ℕ)) → Consumes unread left script → after ≡ before →
    WorkersStop hives Memory unread left before after
stopped_working hives script unread left before after consumed same = early Memory unread left before after same (no_memory script unread left consumed)

module _ (hives : ℕ) (script : List ℕ) (plan : Plan) (unread left before after : Option (List ℕ)) (empty gathered told : List ℕ) (at_end : IsAtEnd left)
    (consumed : Consumes unread left script) (whole : IsWhole hives script plan) (writes : WritesWorkers hives (lines_of script) told)
    (adds : gathered ≡ empty ++ told) (none : empty ≡ []) where
  is_told : gathered ≡ told
  is_told = adds ∙ ap (λ (w : List ℕ). w ++ told) none

  pub ran : Appends before after gathered → RunsWorkers hives unread left before after
  ran sent = record {
    at_end = at_end;
    script = script;
    consumed = consumed;
    within = whole.within;
    text = told;
    writes = writes;
    appended = subst (λ (w : List ℕ). Appends before after w) is_told sent;
  }

  pub stopped_writing : (first written : ℕ) → first ≡ 0 → IsCut before after gathered first written → WorkersStop hives (Write written) unread left before after
  stopped_writing first written is cut = record {
    at_end = at_end;
    script = script;
    consumed = consumed;
    within = whole.within;
    text = told;
    writes = writes;
    taken = subst (λ (w : List ℕ). IsTaken before after w written) is_told
        (record { count = cut.count; within = cut.within; appends = cut.sent; counts = omega (arith, cut.says, is) });
  }
