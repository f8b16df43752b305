use Rattle.std.proofs.Common.{◌∙◌}
use Rattle.reg_notify.proofs.PlaceTexts.{led-place, led-path}
use Rattle.reg_notify.proofs.place.Place.new.Goals as goal

pub invariant_of-result : goal.invariant_of-result
invariant_of-result c = led-place c.reserve.new.self c.args.path.now
    (c.in_ok-reserve.ensures.items ∙ c.in_ok-lead.ensures) c.requires c.in_ok-reserve.ensures.ok

pub returns : goal.returns
returns c = led-path c.reserve.new.self.items c.args.path.now (c.in_ok-reserve.ensures.items ∙ c.in_ok-lead.ensures)
