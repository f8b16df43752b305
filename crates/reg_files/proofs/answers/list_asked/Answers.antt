use Rattle.std.proofs.Common.{ℕ, List, Option, refl, subst, inl}
use Rattle.std.specs.Prelude.{OnOk, IfErr}
use Rattle.reg_files.specs.Detailed.{ListsKey}
use Rattle.reg_files.specs.Serving.{StopsListing}
use Rattle.reg_words.specs.declared.request.Request.TheVariants.{Listing}
use Rattle.reg_files.specs.Internal.Cuts.{is_cut}
use Rattle.reg_files.specs.Internal.Fronts.{bytes_of}
use Rattle.reg_files.proofs.Outcomes.{looked, unlooked}
use Rattle.reg_files.proofs.answers.list_asked.Goals as goal

pub returns-in-Ok : goal.returns-in-Ok
returns-in-Ok g c =
    λ unread.
    (let before = g.W.Write.contents c.args.output.now in
    let after = g.W.Write.contents c.list_key-done.new.output in
    let image = bytes_of g.H.File.Read.remaining c.in-Ok.image in
    let left = bytes_of g.H.File.Read.remaining c.list_key-done.new.image in
    let opened = c.in-Ok.ensures.ok in
    looked c.args.asked.hive.is_dirty c.args.asked.hive.file.now (g.W.Output.closed c.list_key-done.new.output) before after
    (g.E.Sink.contents c.args.errors.now) (g.E.Sink.contents c.settle_output.new.errors)
    (g.E.Sink.failures c.args.errors.now) (g.E.Sink.failures c.settle_output.new.errors) opened.0 left _ _ opened.2 image opened.1
    (Listing c.args.asked) unread is_cut
    (λ u l. ListsKey c.args.asked.columns c.args.asked.is_tree c.args.asked.is_whole c.args.asked.path.items u l before after)
    (λ cut u l. StopsListing c.args.asked.columns c.args.asked.is_tree c.args.asked.is_whole c.args.asked.path.items before after cut u l)
    c.list_key-done.result c.settle_output.result c.settle_output.ensures
    (subst (λ p. OnOk c.list_key-done.result (ListsKey c.args.asked.columns c.args.asked.is_tree c.args.asked.is_whole p image left before after))
    c.as_slice.ensures.value c.list_key-done.ensures.ok)
    (subst (λ p. IfErr c.list_key-done.result
    (λ e. (gone : Option (List ℕ))
    × StopsListing c.args.asked.columns c.args.asked.is_tree c.args.asked.is_whole p before after (is_cut e) image gone))
    c.as_slice.ensures.value c.list_key-done.ensures.err)
    (λ done. (refl, done)) (λ stops. (refl, stops)))

pub returns : goal.returns
returns g c =
    λ unread. unlooked (Listing c.args.asked) _ unread _ _ _ _ _ _ _ _ c.in-Err.ensures.err.1
    c.in-Err.ensures.err.2
    c.settle.ensures.0 c.settle.ensures.1 (λ stops. (refl, inl stops))
