use Rattle.std.proofs.Common.{ℕ, List, Option, refl, subst, inl}
use Rattle.std.specs.Prelude.{OnOk, IfErr}
use Rattle.reg_files.specs.Copying.{CopiesInto, StopsCopying}
use Rattle.reg_words.specs.declared.request.Request.TheVariants.{Copy}
use Rattle.reg_files.specs.Internal.Cuts.{is_copy_stop_cut}
use Rattle.reg_files.specs.Internal.Fronts.{bytes_of}
use Rattle.reg_files.proofs.Outcomes.{looked, unlooked}
use Rattle.reg_files.proofs.answers.copy_asked.Goals as goal

pub returns-in-Ok-open_image : goal.returns-in-Ok-open_image
returns-in-Ok-open_image g c =
    λ unread.
    (let before = g.W.Write.contents c.args.output.now in
    let after = g.W.Write.contents c.copy_file-done.new.output in
    let image = bytes_of g.H.File.Read.remaining c.in-Ok-open_image.image in
    let left = bytes_of g.H.File.Read.remaining c.copy_file-done.new.image in
    let opened = c.in-Ok-open_image.ensures.ok in
    looked c.args.source.is_dirty c.args.source.file.now (g.W.Output.closed c.copy_file-done.new.output) before after
    (g.E.Sink.contents c.args.errors.now) (g.E.Sink.contents c.settle_copy.new.errors)
    (g.E.Sink.failures c.args.errors.now) (g.E.Sink.failures c.settle_copy.new.errors) opened.0 left _ _ opened.2 image opened.1
    (Copy c.args.edit c.args.source c.args.path c.args.into) unread is_copy_stop_cut
    (λ u l. CopiesInto c.args.edit c.args.path.items c.args.into.items u l before after)
    (λ cut u l. StopsCopying c.args.edit c.args.path.items c.args.into.items before after cut u l)
    c.copy_file-done.result c.settle_copy.result c.settle_copy.ensures
    (subst (λ n. OnOk c.copy_file-done.result (CopiesInto c.args.edit c.args.path.items n image left before after))
    c.as_slice-into.ensures.value
    (subst (λ p. OnOk c.copy_file-done.result (CopiesInto c.args.edit p c.as_slice-into.result.now image left before after))
    c.as_slice-path.ensures.value c.copy_file-done.ensures.ok))
    (subst (λ n. IfErr c.copy_file-done.result
    (λ e. (gone : Option (List ℕ)) × StopsCopying c.args.edit c.args.path.items n before after (is_copy_stop_cut e) image gone))
    c.as_slice-into.ensures.value
    (subst (λ p. IfErr c.copy_file-done.result
    (λ e. (gone : Option (List ℕ)) × StopsCopying c.args.edit p c.as_slice-into.result.now before after (is_copy_stop_cut e) image gone))
    c.as_slice-path.ensures.value c.copy_file-done.ensures.err))
    (λ done. (refl, done)) (λ stops. (refl, stops)))

pub returns : goal.returns
returns g c =
    λ unread. unlooked (Copy c.args.edit c.args.source c.args.path c.args.into) _ unread _ _ _ _ _ _ _ _ c.in-Err-open_image.ensures.err.1
    c.in-Err-open_image.ensures.err.2
    c.settle-in-Err-open_image.ensures.0 c.settle-in-Err-open_image.ensures.1 (λ stops. (refl, inl stops))

pub returns-in-Err : goal.returns-in-Err
returns-in-Err g c =
    λ unread. unlooked (Copy c.args.edit c.args.source c.args.path c.args.into) _ unread _ _ _ _ _ _ _ _ refl refl
    c.settle.ensures.0 c.settle.ensures.1 (λ stops. (refl, inl stops))
