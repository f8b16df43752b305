use Rattle.std.proofs.Common.{ℕ, List, Option, ◌≡◌, subst, sym}
use Rattle.std.specs.Prelude.{IfOk}
use Rattle.std.proofs.lemmas.Result.{IfOk-weaker}
use Rattle.reg_files.specs.Looking.{as_read, IsOpened}
use Rattle.reg_files.specs.Internal.Fronts.{bytes_of}
use Rattle.reg_files.proofs.Fronts.{opened_plain}
use Rattle.reg_files.proofs.images.open_image.Goals as goal

pub returns-clause-ok : goal.returns-clause-ok
returns-clause-ok g c =
    opened_plain c.args.is_dirty c.if-is_dirty.false _ _ _ _ c.args.file.now c.new.result.items c.new-2.ensures c.new.ensures.items

pub returns-then-is_dirty-clause-ok : goal.returns-then-is_dirty-clause-ok
returns-then-is_dirty-clause-ok g c =
    subst (λ b. IfOk c.mended.result (λ image. (bytes : Option (List ℕ)) × (bytes_of g.H.File.Read.remaining image ≡ as_read b bytes)
    × IsOpened b c.args.file.now bytes (g.E.Sink.contents c.args.errors.now) (g.E.Sink.contents c.mended.new.errors)
    (g.E.Sink.failures c.args.errors.now) (g.E.Sink.failures c.mended.new.errors))) (sym c.if-is_dirty.true)
    (IfOk-weaker c.mended.result _ _ (λ image opened. (opened.0, opened.1, opened.2)) c.mended.ensures.ok)
