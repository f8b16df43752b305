use Rattle.std.proofs.Common.{ℕ, List, Option, refl, subst, inl}
use Rattle.std.specs.Prelude.{OnOk, IfErr}
use Rattle.reg_files.specs.Detailed.{GetsAs}
use Rattle.reg_files.specs.Serving.{StopsGetting}
use Rattle.reg_words.specs.declared.request.Request.TheVariants.{Get}
use Rattle.reg_files.specs.Internal.Cuts.{is_cut}
use Rattle.reg_files.specs.Internal.Fronts.{bytes_of}
use Rattle.reg_files.proofs.Outcomes.{looked, unlooked}
use Rattle.reg_files.proofs.answers.get_asked.Goals as goal

pub returns-in-Ok : goal.returns-in-Ok
returns-in-Ok g c =
    λ unread.
    (let before = g.W.Write.contents c.args.output.now in
    let after = g.W.Write.contents c.get_value-done.new.output in
    let image = bytes_of g.H.File.Read.remaining c.in-Ok.image in
    let left = bytes_of g.H.File.Read.remaining c.get_value-done.new.image in
    let opened = c.in-Ok.ensures.ok in
    looked c.args.asked.hive.is_dirty c.args.asked.hive.file.now (g.W.Output.closed c.get_value-done.new.output) before after
    (g.E.Sink.contents c.args.errors.now) (g.E.Sink.contents c.settle_output.new.errors)
    (g.E.Sink.failures c.args.errors.now) (g.E.Sink.failures c.settle_output.new.errors) opened.0 left _ _ opened.2 image opened.1
    (Get c.args.asked) unread is_cut
    (λ u l. GetsAs c.args.asked.form c.args.asked.is_whole c.args.asked.path.items c.args.asked.name.items u l before after)
    (λ cut u l. StopsGetting c.args.asked.form c.args.asked.is_whole c.args.asked.path.items c.args.asked.name.items before after cut u l)
    c.get_value-done.result c.settle_output.result c.settle_output.ensures
    (subst (λ n. OnOk c.get_value-done.result (GetsAs c.args.asked.form c.args.asked.is_whole c.args.asked.path.items n image left before after))
    c.as_slice-in-Ok.ensures.value
    (subst (λ p. OnOk c.get_value-done.result (GetsAs c.args.asked.form c.args.asked.is_whole p c.as_slice-in-Ok.result.now image left before after))
    c.as_slice.ensures.value c.get_value-done.ensures.ok))
    (subst (λ n. IfErr c.get_value-done.result
    (λ e. (gone : Option (List ℕ))
    × StopsGetting c.args.asked.form c.args.asked.is_whole c.args.asked.path.items n before after (is_cut e) image gone))
    c.as_slice-in-Ok.ensures.value
    (subst (λ p. IfErr c.get_value-done.result
    (λ e. (gone : Option (List ℕ))
    × StopsGetting c.args.asked.form c.args.asked.is_whole p c.as_slice-in-Ok.result.now before after (is_cut e) image gone))
    c.as_slice.ensures.value c.get_value-done.ensures.err))
    (λ done. (refl, done)) (λ stops. (refl, stops)))

pub returns : goal.returns
returns g c =
    λ unread. unlooked (Get c.args.asked) _ unread _ _ _ _ _ _ _ _ c.in-Err.ensures.err.1
    c.in-Err.ensures.err.2
    c.settle.ensures.0 c.settle.ensures.1 (λ stops. (refl, inl stops))
