use Rattle.std.proofs.Common.{arith, inl, inr}
use Rattle.reg_files.specs.Internal.Cuts.{is_diff_end_cut}
use Rattle.reg_files.proofs.Outcomes.{compared_small, other_behind, same_behind, unopened}
use Rattle.reg_files.proofs.answers.diff_behind.Goals as goal

pub returns-in-Ok-clause-status : goal.returns-in-Ok-clause-status
returns-in-Ok-clause-status g c =
    compared_small _ _ c.diff_images-done.result c.settle_diff.result c.settle_diff.ensures c.diff_images-done.ensures.status

pub returns-in-Ok-clause-same : goal.returns-in-Ok-clause-same
returns-in-Ok-clause-same g c =
    let opened = c.in-Ok.ensures.ok in
    same_behind c.args.form.now c.args.new (g.W.Output.closed c.diff_images-done.new.output) _ _ _ _ _ _ _
    (g.E.Sink.failures c.settle_diff.new.errors)
    opened.0 _ _ _ opened.2 _ opened.1 is_diff_end_cut c.diff_images-done.result c.settle_diff.result
    c.settle_diff.ensures c.diff_images-done.ensures.same

pub returns-in-Ok-clause-other : goal.returns-in-Ok-clause-other
returns-in-Ok-clause-other g c =
    let opened = c.in-Ok.ensures.ok in
    other_behind c.args.form.now c.args.new _ _ _ _ _ _ _ _ _ opened.0 _ _ _ opened.2 _ opened.1 is_diff_end_cut
    c.diff_images-done.result c.settle_diff.result c.settle_diff.ensures c.diff_images-done.ensures.other c.diff_images-done.ensures.err

pub returns-in-Err-clause-same : goal.returns-in-Err-clause-same
returns-in-Err-clause-same g c = λ nil. let one = c.settle.ensures.0 in absurd (omega (arith, one, nil))

pub returns-in-Err-clause-other : goal.returns-in-Err-clause-other
returns-in-Err-clause-other g c =
    λ _. inr (inl (unopened _ _ _ _ _ _ _ c.in-Err.ensures.err.1
    c.in-Err.ensures.err.2 c.settle.ensures.1))
