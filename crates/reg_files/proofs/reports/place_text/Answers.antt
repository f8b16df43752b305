use Rattle.reg_files.proofs.ToldPlaces.{place_is}
use Rattle.reg_files.proofs.reports.place_text.Goals as goal

pub returns : goal.returns
returns c = place_is c.args.place.now c.in-Some.place _ c.in-Some.is c.in_ok-key.ensures c.format.result c.format.ensures.ok
