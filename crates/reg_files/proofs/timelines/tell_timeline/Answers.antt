use Rattle.std.proofs.Common.{◌≡◌, arith, false, inl, refl, rules, true}
use Rattle.reg_files.specs.Internal.Cuts.{is_cut}
use Rattle.reg_files.proofs.ToldTimelines.{settled_small, written, unwritten}
use Rattle.reg_files.proofs.timelines.tell_timeline.Goals as goal

pub gather_files-requires : goal.gather_files-requires
gather_files-requires g c = c.new-timeline.ensures c.args.from c.args.to

pub returns-then-not-gather_files-clause-tells : goal.returns-then-not-gather_files-clause-tells
returns-then-not-gather_files-clause-tells g c = λ nil. absurd (omega (arith, nil))

pub returns-then-not-gather_files-clause-fails : goal.returns-then-not-gather_files-clause-fails
returns-then-not-gather_files-clause-fails g c = λ _.
    (let is : c.gather_files.result ≡ false = search rules in inl (refl, c.gather_files.ensures.missed is))

pub returns-clause-status : goal.returns-clause-status
returns-clause-status g c = settled_small is_cut _ c.write_timeline-done.result c.settle_output.result _ _ _ _ c.settle_output.ensures

pub returns-clause-tells : goal.returns-clause-tells
returns-clause-tells g c =
    let is : c.gather_files.result ≡ true = search rules in
    let read = c.gather_files.ensures.gathered is in
    written c.args.is_dirty _ c.args.from c.args.to c.args.form (g.W.Output.closed c.write_timeline-done.new.output) _ _ _ _ _ _ _ _ read.0 read.1
    is_cut c.write_timeline-done.result c.settle_output.result c.settle_output.ensures
    (c.write_timeline-done.ensures.ok read.0 c.args.from c.args.to read.2)

pub returns-clause-fails : goal.returns-clause-fails
returns-clause-fails g c =
    let is : c.gather_files.result ≡ true = search rules in
    let read = c.gather_files.ensures.gathered is in
    unwritten c.args.is_dirty _ c.args.from c.args.to c.args.form (g.W.Output.closed c.write_timeline-done.new.output) _ _ _ _ _ _ _ _ read.0 read.1
    is_cut c.write_timeline-done.result c.settle_output.result c.settle_output.ensures
    (c.write_timeline-done.ensures.err read.0 c.args.from c.args.to read.2)
