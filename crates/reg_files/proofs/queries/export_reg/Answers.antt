use Rattle.std.proofs.Common.{subst}
use Rattle.std.specs.Prelude.{IfErr, OnOk}
use Rattle.reg_queries.specs.ImageExports.{Exports, ExportEnds}
use Rattle.reg_files.proofs.queries.export_reg.Goals as goal

pub returns-clause-ok : goal.returns-clause-ok
returns-clause-ok g c =
    subst
    (λ front. OnOk c.export.result (Exports (g.R.Source.remaining c.args.image.now) (g.R.Source.remaining c.export.new.image) c.args.path.now front
    c.args.is_utf8 (g.W.Write.contents c.args.output.now) (g.W.Write.contents c.export.new.output)))
    c.front_of.ensures c.export.ensures.ok

pub returns-clause-err : goal.returns-clause-err
returns-clause-err g c =
    subst
    (λ front. IfErr c.export.result (λ fault. ExportEnds fault (g.R.Source.remaining c.args.image.now) (g.R.Source.remaining c.export.new.image)
    c.args.path.now front c.args.is_utf8 (g.W.Write.contents c.args.output.now) (g.W.Write.contents c.export.new.output)))
    c.front_of.ensures c.export.ensures.err
