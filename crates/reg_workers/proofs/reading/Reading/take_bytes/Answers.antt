use Rattle.std.proofs.Common.{take}
use Rattle.reg_script.proofs.FailedCalls.{if_err}
use Rattle.reg_script.proofs.ScriptParts.{fed-at, not-fed}
use Rattle.reg_workers.proofs.ReadBytes.{read_part, cut_part, front_none, front_line, front_all, cut_in, cut_at, cut_all}
use Rattle.reg_workers.proofs.reading.Reading.take_bytes.Goals as goal

pub loop-place-init : goal.loop-place-init
loop-place-init c = record { place = c.first_feed-place.ensures; taken = λ hives taken read. front_none hives taken c.args.bytes.now _ read }

pub returns-in_err-take_part-clause-err : goal.returns-in_err-take_part-clause-err
returns-in_err-take_part-clause-err c =
    if_err _ c.from_residual.result _ c.from_residual.ensures.1
    (λ hives taken read.
    let f = c.loop-place.invariant.taken hives taken read in
    let rest = c.loop-place.rest.now in
    let fed = fed-at rest c.loop-place.place c.loop-place.invariant.place c.loop-place-test.true in
    cut_in hives taken c.args.bytes.now rest (take c.loop-place.place rest) _ _ _ f fed.parts
    (cut_part hives _ (take c.loop-place.place rest) _ _ f.read fed.before c.in_err-take_part.ensures.err))

pub returns-in_err-take_feed-clause-err : goal.returns-in_err-take_feed-clause-err
returns-in_err-take_feed-clause-err c =
    if_err _ c.from_residual-in_err-take_feed.result _ c.from_residual-in_err-take_feed.ensures.1
    (λ hives taken read.
    let f = c.loop-place.invariant.taken hives taken read in
    let rest = c.loop-place.rest.now in
    let fed = fed-at rest c.loop-place.place c.loop-place.invariant.place c.loop-place-test.true in
    let part = read_part hives _ (take c.loop-place.place rest) _ fed.before f.read _ c.in_ok-take_part.ensures.same c.in_ok-take_part.ensures.ok
    c.in_ok-take_part.ensures.within in
    cut_at hives taken c.args.bytes.now rest c.loop-place.place _ _ f fed (c.in_err-take_feed.ensures.err hives _ part))

pub loop-place-preserved : goal.loop-place-preserved
loop-place-preserved c = record {
  place = c.first_feed-place-in-loop-place.ensures;
  taken = λ hives taken read.
      let f = c.loop-place.invariant.taken hives taken read in
      let rest = c.loop-place.rest.now in
      let fed = fed-at rest c.loop-place.place c.loop-place.invariant.place c.loop-place-test.true in
      let part = read_part hives _ (take c.loop-place.place rest) _ fed.before f.read _ c.in_ok-take_part.ensures.same c.in_ok-take_part.ensures.ok
      c.in_ok-take_part.ensures.within in
      front_line hives taken c.args.bytes.now rest c.loop-place.place _ _ f fed (c.in_ok-take_feed.ensures.ok hives _ part);
}

pub returns-in_err-take_part-2-clause-err : goal.returns-in_err-take_part-2-clause-err
returns-in_err-take_part-2-clause-err c =
    if_err _ c.from_residual-in_err-take_part-2.result _ c.from_residual-in_err-take_part-2.ensures.1
    (λ hives taken read.
    let f = c.loop-place.invariant.taken hives taken read in
    let rest = c.loop-place.rest.now in
    let plain = not-fed rest c.loop-place.place c.loop-place.invariant.place c.loop-place-test.false in
    cut_all hives taken c.args.bytes.now rest _ _ f (cut_part hives _ rest _ _ f.read plain c.in_err-take_part-2.ensures.err))

pub returns-clause-ok : goal.returns-clause-ok
returns-clause-ok c = λ hives taken read.
    let f = c.loop-place.invariant.taken hives taken read in
    let rest = c.loop-place.rest.now in
    let plain = not-fed rest c.loop-place.place c.loop-place.invariant.place c.loop-place-test.false in
    front_all hives taken c.args.bytes.now rest _ _ f
    (read_part hives _ rest _ plain f.read _ c.in_ok-take_part-2.ensures.same c.in_ok-take_part-2.ensures.ok c.in_ok-take_part-2.ensures.within)
