use Rattle.std.proofs.Common.{refl, inl, inr}
use Rattle.reg_words.specs.declared.request.HiveFile.{HiveFile}
use Rattle.reg_words.specs.declared.request.Request.TheVariants.{Diff}
use Rattle.reg_files.proofs.Outcomes.{both_other, both_same, either, unlooked}
use Rattle.reg_files.proofs.answers.diff_asked.Goals as goal

pub returns-in-Ok : goal.returns-in-Ok
returns-in-Ok g c =
    λ unread.
    (let new : HiveFile = record { file = c.args.new; is_dirty = c.args.is_dirty } in
    let opened = c.in-Ok.ensures.ok in
    either (Diff c.args.old c.args.new c.args.is_dirty c.args.form) _ unread unread _ _ _ _ _ _ c.diff_behind.result c.diff_behind.ensures.status
    (λ e. (
      refl,
      both_same c.args.form new c.args.old.now (g.W.Output.closed c.diff_behind.new.output) _ _ _ _ _ (g.E.Sink.failures c.diff_behind.new.errors)
          opened.0 _ _ _ opened.2 _ opened.1 (c.diff_behind.ensures.same e),
    )) (λ e. (
      refl,
      both_other c.args.form new c.args.old.now _ _ _ _ _ _ _ opened.0 _ _ _ opened.2 _ opened.1 (c.diff_behind.ensures.other e),
    )))

pub returns : goal.returns
returns g c =
    λ unread. unlooked (Diff c.args.old c.args.new c.args.is_dirty c.args.form) _ unread _ _ _ _ _ _ _ _ c.in-Err.ensures.err.1 c.in-Err.ensures.err.2
    c.settle.ensures.0 c.settle.ensures.1 (λ stops. (refl, inr (inl stops)))
