use Rattle.std.proofs.Common.{[], ◌++◌, take, arith}
use Rattle.reg_script.proofs.FailedCalls.{if_err}
use Rattle.reg_script.proofs.ProgressLemmas.{consumes_none, consumes_then, consumes_kept, consumes_no_more}
use Rattle.reg_script.proofs.ScriptHalts.{read_more}
use Rattle.reg_workers.proofs.ReadBytes.{not_so_many, read_failed, cut_stops, memory_stops}
use Rattle.reg_workers.proofs.reading.Reading.read_all.Goals as goal

pub loop-read-init : goal.loop-read-init
loop-read-init g c = record { taken = λ hives read. ([], consumes_none _, read, omega arith) }

pub returns-in_default-clause-err : goal.returns-in_default-clause-err
returns-in_default-clause-err g c =
    λ hives read.
    let h = c.loop-read.invariant.taken hives read in
    read_failed hives h.0 _ _ _ h.2 (consumes_kept _ _ _ h.0 h.1 c.in_default.ensures.bytes)

pub returns-in_err-end-clause-err : goal.returns-in_err-end-clause-err
returns-in_err-end-clause-err g c =
    if_err _ c.from_residual.result _ c.from_residual.ensures.1
    (λ hives read.
    let h = c.loop-read.invariant.taken hives read in
    memory_stops _ h.0 _ _ (consumes_no_more _ _ _ h.0 c.read.new.buf c.in-Ok.count h.1 c.in-Ok.ensures.bytes.0 c.if-count-eq0.true) c.in_err-end.ensures.err)

pub returns-then-count-eq0-clause-ok : goal.returns-then-count-eq0-clause-ok
returns-then-count-eq0-clause-ok g c =
    λ hives read.
    let h = c.loop-read.invariant.taken hives read in (
      h.0,
      consumes_no_more _ _ _ h.0 c.read.new.buf c.in-Ok.count h.1 c.in-Ok.ensures.bytes.0 c.if-count-eq0.true,
      c.in_ok-end.ensures.ok hives h.0 h.2,
    )

pub returns-in_err-take_bytes-clause-err : goal.returns-in_err-take_bytes-clause-err
returns-in_err-take_bytes-clause-err g c =
    if_err _ c.from_residual-in_err-take_bytes.result _ c.from_residual-in_err-take_bytes.ensures.1
    (λ hives read.
    let h = c.loop-read.invariant.taken hives read in
    cut_stops _ (h.0 ++ take c.in-Ok.count c.read.new.buf) _ _ (consumes_then _ _ _ h.0 _ h.1 c.in-Ok.ensures.bytes.0)
    (c.in_err-take_bytes.ensures.err hives h.0 h.2))

pub loop-read-preserved : goal.loop-read-preserved
loop-read-preserved g c =
    record {
      taken = λ hives read.
          let h = c.loop-read.invariant.taken hives read in (
            h.0 ++ take c.in-Ok.count c.read.new.buf,
            consumes_then _ _ _ h.0 _ h.1 c.in-Ok.ensures.bytes.0,
            c.in_ok-take_bytes.ensures.ok hives h.0 h.2,
            read_more h.0 c.read.new.buf _ c.in-Ok.count h.3 c.if-count-eq0.false c.in-Ok.ensures.bound.0,
          );
    }

pub returns-clause-err : goal.returns-clause-err
returns-clause-err g c =
    λ hives read.
    let h = c.loop-read.invariant.taken hives read in
    absurd (omega (arith, h.3, not_so_many hives h.0 _ h.2, c.loop-read-test.false))
