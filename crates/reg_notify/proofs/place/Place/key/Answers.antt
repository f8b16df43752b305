use Rattle.std.proofs.Common.{ap, ◌∙◌}
use Rattle.std.specs.List.{each_same}
use Rattle.reg_notify.specs.Internal.Keys.{lead_of}
use Rattle.reg_notify.proofs.PlaceTexts.{key-made}
use Rattle.reg_notify.proofs.place.Place.key.Goals as goal

pub returns-clause-text : goal.returns-clause-text
returns-clause-text c =
    key-made _ _ _ _ c.self.inside.text.items _ c.args.self.now c.args.class c.args.number c.in_ok-extend_from_slice.ensures.items
    c.in_ok-push-2.ensures.items c.in_ok-push.ensures.items (each_same _ _ c.in_ok-text.ensures.cases.0) (c.self.invariant.lead ∙ ap lead_of c.self.view_is) c.to_be_bytes.ensures
