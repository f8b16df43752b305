use Rattle.reg_files.proofs.ToldPlaces.{line_is}
use Rattle.reg_files.proofs.reports.place_line.Goals as goal

pub returns : goal.returns
returns c = line_is c.args.file.now c.args.fault _ c.number-number.result _ _ c.number-number.ensures c.in_ok-place.ensures c.format-2.result c.format-2.ensures.ok
