use Rattle.std.proofs.Common.{[], take, refl, ◌∙◌}
use Rattle.reg_script.proofs.FailedCalls.{if_err}
use Rattle.reg_script.proofs.ProgressLemmas.{takes_none}
use Rattle.reg_script.proofs.ScriptParts.{fed-at, not-fed, part-taken, part-halted, taken-line, taken-all, halted-in, halted-all, halted-at}
use Rattle.reg_script.proofs.engine.Script.take_bytes.Goals as goal

pub loop-place-init : goal.loop-place-init
loop-place-init g c =
    record {
      seated = c.requires.seated;
      noted = refl;
      callbacks = refl;
      place = c.first_feed-place.ensures;
      taken = λ steady. record { front = []; splits = refl; takes = takes_none _ steady };
    }

pub returns-in_err-take_part-clause-err : goal.returns-in_err-take_part-clause-err
returns-in_err-take_part-clause-err g c =
    if_err _ c.from_residual.result _ c.from_residual.ensures.1
    (λ steady.
    let so_far = c.loop-place.invariant.taken steady in
    let rest = c.loop-place.rest.now in
    let fed = fed-at rest c.loop-place.place c.loop-place.invariant.place c.loop-place-test.true in
    halted-in _ _ _ c.args.bytes.now rest (take c.loop-place.place rest) _ _ so_far fed.parts
    (part-halted g.C.Callback.answers c.loop-place.self c.take_part.new.self c.loop-place.hive (g.W.Write.contents c.loop-place.writer)
    (take c.loop-place.place rest) c.in_err-take_part.ensures.same fed.before so_far.takes.steady _ c.in_err-take_part.ensures.err))

pub returns-in_err-take_feed-clause-err : goal.returns-in_err-take_feed-clause-err
returns-in_err-take_feed-clause-err g c =
    if_err _ c.from_residual-in_err-take_feed.result _ c.from_residual-in_err-take_feed.ensures.1
    (λ steady.
    let so_far = c.loop-place.invariant.taken steady in
    let rest = c.loop-place.rest.now in
    let fed = fed-at rest c.loop-place.place c.loop-place.invariant.place c.loop-place-test.true in
    let part = part-taken g.C.Callback.answers c.loop-place.self c.take_part.new.self c.loop-place.hive (g.W.Write.contents c.loop-place.writer)
    (take c.loop-place.place rest) c.in_ok-take_part.ensures.same fed.before so_far.takes.steady c.in_ok-take_part.ensures.ok c.in_ok-take_part.ensures.within in
    halted-at _ _ _ _ c.args.bytes.now rest c.loop-place.place _ so_far fed part (c.in_err-take_feed.ensures.err part.steady))

pub loop-place-preserved : goal.loop-place-preserved
loop-place-preserved g c = record {
  seated = c.take_feed.ensures.seated;
  noted = c.take_feed.ensures.noted ∙ c.loop-place.invariant.noted;
  callbacks = c.in_ok-take_feed.ensures.callbacks ∙ c.loop-place.invariant.callbacks;
  place = c.first_feed-place-in-loop-place.ensures;
  taken = λ steady.
      let so_far = c.loop-place.invariant.taken steady in
      let rest = c.loop-place.rest.now in
      let fed = fed-at rest c.loop-place.place c.loop-place.invariant.place c.loop-place-test.true in
      let part = part-taken g.C.Callback.answers c.loop-place.self c.take_part.new.self c.loop-place.hive (g.W.Write.contents c.loop-place.writer)
      (take c.loop-place.place rest) c.in_ok-take_part.ensures.same fed.before so_far.takes.steady c.in_ok-take_part.ensures.ok c.in_ok-take_part.ensures.within in
      taken-line _ _ _ _ c.args.bytes.now rest c.loop-place.place so_far fed part (c.in_ok-take_feed.ensures.ok part.steady);
}

pub returns-in_err-take_part-2-clause-err : goal.returns-in_err-take_part-2-clause-err
returns-in_err-take_part-2-clause-err g c =
    if_err _ c.from_residual-in_err-take_part-2.result _ c.from_residual-in_err-take_part-2.ensures.1
    (λ steady.
    let so_far = c.loop-place.invariant.taken steady in
    let rest = c.loop-place.rest.now in
    let plain = not-fed rest c.loop-place.place c.loop-place.invariant.place c.loop-place-test.false in
    halted-all _ _ _ c.args.bytes.now rest _ so_far
    (part-halted g.C.Callback.answers c.loop-place.self c.take_part-2.new.self c.loop-place.hive (g.W.Write.contents c.loop-place.writer)
    rest c.in_err-take_part-2.ensures.same plain so_far.takes.steady _ c.in_err-take_part-2.ensures.err))

pub returns-clause-ok : goal.returns-clause-ok
returns-clause-ok g c = λ steady.
    let so_far = c.loop-place.invariant.taken steady in
    let rest = c.loop-place.rest.now in
    let plain = not-fed rest c.loop-place.place c.loop-place.invariant.place c.loop-place-test.false in
    taken-all _ _ _ c.args.bytes.now rest so_far
    (part-taken g.C.Callback.answers c.loop-place.self c.take_part-2.new.self c.loop-place.hive (g.W.Write.contents c.loop-place.writer)
    rest c.in_ok-take_part-2.ensures.same plain so_far.takes.steady c.in_ok-take_part-2.ensures.ok c.in_ok-take_part-2.ensures.within)
