use Rattle.std.proofs.Common.{ℕ, List, Option, refl, subst, inl}
use Rattle.std.specs.Prelude.{OnOk, IfErr}
use Rattle.reg_files.specs.Serving.{WritesAs, WriteStops}
use Rattle.reg_words.specs.declared.request.Request.TheVariants.{Export}
use Rattle.reg_files.specs.Internal.Cuts.{is_cut}
use Rattle.reg_files.specs.Internal.Fronts.{bytes_of}
use Rattle.reg_files.proofs.Outcomes.{looked, unlooked}
use Rattle.reg_files.proofs.answers.export_asked.Goals as goal

pub returns-in-Ok : goal.returns-in-Ok
returns-in-Ok g c =
    λ unread.
    (let before = g.W.Write.contents c.args.output.now in
    let after = g.W.Write.contents c.export_key-done.new.output in
    let image = bytes_of g.H.File.Read.remaining c.in-Ok.image in
    let left = bytes_of g.H.File.Read.remaining c.export_key-done.new.image in
    let opened = c.in-Ok.ensures.ok in
    looked c.args.hive.is_dirty c.args.hive.file.now (g.W.Output.closed c.export_key-done.new.output) before after
    (g.E.Sink.contents c.args.errors.now) (g.E.Sink.contents c.settle_output.new.errors)
    (g.E.Sink.failures c.args.errors.now) (g.E.Sink.failures c.settle_output.new.errors) opened.0 left _ _ opened.2 image opened.1
    (Export c.args.hive c.args.path c.args.form) unread is_cut
    (λ u l. WritesAs c.args.form u l c.args.path.items before after)
    (λ cut u l. WriteStops c.args.form c.args.path.items before after cut u l)
    c.export_key-done.result c.settle_output.result c.settle_output.ensures
    (subst (λ p. OnOk c.export_key-done.result (WritesAs c.args.form image left p before after)) c.as_slice.ensures.value
    c.export_key-done.ensures.ok)
    (subst (λ p. IfErr c.export_key-done.result (λ e. (gone : Option (List ℕ)) × WriteStops c.args.form p before after (is_cut e) image gone))
    c.as_slice.ensures.value
    c.export_key-done.ensures.err)
    (λ done. (refl, done)) (λ stops. (refl, stops)))

pub returns : goal.returns
returns g c =
    λ unread. unlooked (Export c.args.hive c.args.path c.args.form) _ unread _ _ _ _ _ _ _ _ c.in-Err.ensures.err.1 c.in-Err.ensures.err.2
    c.settle.ensures.0 c.settle.ensures.1 (λ stops. (refl, inl stops))
