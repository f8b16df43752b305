use Rattle.std.proofs.Common.{refl, inl, inr}
use Rattle.reg_queries.specs.Finds.{Finds}
use Rattle.reg_words.specs.declared.request.Request.TheVariants.{Find}
use Rattle.reg_files.specs.Serving.{scope_of, StopsFinding}
use Rattle.reg_files.specs.Internal.Cuts.{is_cut}
use Rattle.reg_files.specs.Internal.Fronts.{bytes_of}
use Rattle.reg_files.proofs.Outcomes.{searched, unlooked}
use Rattle.reg_files.proofs.answers.find_asked.Goals as goal

pub returns-in-Ok : goal.returns-in-Ok
returns-in-Ok g c =
    λ unread.
    (let before = g.W.Write.contents c.args.output.now in
    let after = g.W.Write.contents c.find_in-done.new.output in
    let image = bytes_of g.H.File.Read.remaining c.in-Ok.image in
    let left = bytes_of g.H.File.Read.remaining c.find_in-done.new.image in
    let scope = scope_of c.args.asked.places in
    let opened = c.in-Ok.ensures.ok in
    searched c.args.asked.hive.is_dirty c.args.asked.hive.file.now (g.W.Output.closed c.find_in-done.new.output) before after
    (g.E.Sink.contents c.args.errors.now) (g.E.Sink.contents c.settle_find.new.errors)
    (g.E.Sink.failures c.args.errors.now) (g.E.Sink.failures c.settle_find.new.errors) opened.0 left _ _ opened.2 image opened.1
    (Find c.args.asked) unread is_cut
    (λ is_found u l. Finds u l c.args.asked.pattern.now c.args.asked.ignores_case scope is_found before after)
    (λ cut u l. StopsFinding c.args.asked.pattern.now c.args.asked.ignores_case scope before after cut u l)
    c.find_in-done.result c.settle_find.result c.settle_find.ensures
    c.find_in-done.ensures.ok c.find_in-done.ensures.err (λ done. (refl, done)) (λ stops. (refl, stops)))

pub returns-in-Err : goal.returns-in-Err
returns-in-Err g c =
    λ unread. unlooked (Find c.args.asked) _ unread _ _ _ _ _ _ _ _ c.in-Err.ensures.err.1
    c.in-Err.ensures.err.2 c.settle.ensures.0 c.settle.ensures.1 (λ stops. (refl, inr (inl stops)))
