use Rattle.std.proofs.Common.{[], ◌++◌, take, refl, ◌∙◌, arith, rules}
use Rattle.reg_script.specs.declared.engine.ScriptFault.TheVariants.{Read}
use Rattle.reg_script.specs.declared.failed.StrictFault.TheVariants.{Script as Of}
use Rattle.reg_script.specs.Internal.Progress.{past}
use Rattle.reg_script.proofs.FailedCalls.{if_err}
use Rattle.reg_script.proofs.ProgressLemmas.{takes_none, takes_then, takes_settled, consumes_none, consumes_then, consumes_kept, consumes_no_more, ends_at}
use Rattle.reg_script.proofs.ScriptHalts.{halts_at, halts_last, halts_passing, not_last, before_last, read_more, not_so_many}
use Rattle.reg_script.proofs.engine.Script.read_all.Goals as goal

pub loop-read-init : goal.loop-read-init
loop-read-init g c = record { seated = c.requires.seated; noted = refl; callbacks = refl; taken = λ steady. ([], consumes_none _, takes_none _ steady, omega arith) }

pub returns-in_err-pass_on-clause-err : goal.returns-in_err-pass_on-clause-err
returns-in_err-pass_on-clause-err g c =
    if_err _ c.from_residual.result _ c.from_residual.ensures.1
    (λ steady none empty.
    let h = c.loop-read.invariant.taken steady in
    (h.0, h.1, not_last _ _ h.0 _ _ (halts_passing past _ _ _ h.0 _ h.2 refl c.in_err-pass_on.ensures.err)))

pub returns-in_default-clause-err : goal.returns-in_default-clause-err
returns-in_default-clause-err g c =
    λ steady none empty.
    let h = c.loop-read.invariant.taken steady in
    let t = takes_settled _ _ h.0 _ _ _ h.2 c.in_ok-pass_on.ensures.sent in (
      h.0,
      consumes_kept _ _ _ h.0 h.1 c.in_default.ensures.bytes,
      not_last _ _ h.0 _ Read (halts_at past _ _ h.0 (Of Read) _ t refl (record { gathered = refl; sent = refl; written = refl }, refl)),
    )

pub returns-in_err-end-clause-err : goal.returns-in_err-end-clause-err
returns-in_err-end-clause-err g c =
    if_err _ c.from_residual-in_err-end.result _ c.from_residual-in_err-end.ensures.1
    (λ steady none empty.
    let h = c.loop-read.invariant.taken steady in
    let t = takes_settled _ _ h.0 _ _ _ h.2 c.in_ok-pass_on.ensures.sent in (
      h.0,
      consumes_no_more _ _ _ h.0 c.read.new.buf c.in-Ok.count h.1 c.in-Ok.ensures.bytes.0 c.if-count-eq0.true,
      halts_last _ _ _ h.0 _ _ t c.in_err-end.ensures.begun (search rules) (c.in_err-end.ensures.err _),
    ))

pub returns-then-count-eq0-clause-lines : goal.returns-then-count-eq0-clause-lines
returns-then-count-eq0-clause-lines g c =
    λ steady.
    let h = c.loop-read.invariant.taken steady in
    let t = takes_settled _ _ h.0 _ _ _ h.2 c.in_ok-pass_on.ensures.sent in (
      h.0,
      consumes_no_more _ _ _ h.0 c.read.new.buf c.in-Ok.count h.1 c.in-Ok.ensures.bytes.0 c.if-count-eq0.true,
      ends_at _ _ _ h.0 t (c.in_ok-end.ensures.ok t.steady.no_feed _),
    )

pub returns-in_err-take_bytes-clause-err : goal.returns-in_err-take_bytes-clause-err
returns-in_err-take_bytes-clause-err g c =
    if_err _ c.from_residual-in_err-take_bytes.result _ c.from_residual-in_err-take_bytes.ensures.1
    (λ steady none empty.
    let h = c.loop-read.invariant.taken steady in
    let t = takes_settled _ _ h.0 _ _ _ h.2 c.in_ok-pass_on.ensures.sent in (
      h.0 ++ take c.in-Ok.count c.read.new.buf,
      consumes_then _ _ _ h.0 _ h.1 c.in-Ok.ensures.bytes.0,
      before_last _ _ _ _ h.0 _ _ t (c.in_err-take_bytes.ensures.err t.steady),
    ))

pub loop-read-preserved : goal.loop-read-preserved
loop-read-preserved g c =
    record {
      seated = c.take_bytes.ensures.seated;
      noted = c.take_bytes.ensures.noted ∙ c.loop-read.invariant.noted;
      callbacks = c.take_bytes.ensures.callbacks ∙ c.loop-read.invariant.callbacks;
      taken = λ steady.
          let h = c.loop-read.invariant.taken steady in
          let t = takes_settled _ _ h.0 _ _ _ h.2 c.in_ok-pass_on.ensures.sent in (
            h.0 ++ take c.in-Ok.count c.read.new.buf,
            consumes_then _ _ _ h.0 _ h.1 c.in-Ok.ensures.bytes.0,
            takes_then _ _ _ h.0 _ t (c.in_ok-take_bytes.ensures.ok t.steady),
            read_more h.0 c.read.new.buf _ c.in-Ok.count h.3 c.if-count-eq0.false c.in-Ok.ensures.bound.0,
          );
    }

pub returns-clause-err : goal.returns-clause-err
returns-clause-err g c =
    λ steady none empty. let h = c.loop-read.invariant.taken steady in
    absurd (omega (arith, h.3, not_so_many _ _ h.0 none empty h.2, c.loop-read-test.false))
