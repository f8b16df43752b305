use Rattle.reg_files.specs.Internal.Cuts.{is_cut}
use Rattle.reg_files.specs.Internal.Fronts.{bytes_of}
use Rattle.reg_files.proofs.StoppedCommands.{told_on}
use Rattle.reg_files.proofs.queries.export_key.Goals as goal

pub returns-in-Err-clause-err : goal.returns-in-Err-clause-err
returns-in-Err-clause-err g c =
    told_on c.args.form c.args.path.now (g.W.Write.contents c.args.output.now) (g.W.Write.contents c.export_as.new.output) (is_cut c.in-Err.fault)
    (is_cut c.of_image.result) (bytes_of g.F.Read.remaining c.args.image.now) (bytes_of g.F.Read.remaining c.export_as.new.image)
    c.of_image.ensures.cut c.in-Err.ensures.err
