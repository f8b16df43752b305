use Rattle.std.proofs.Common.{◌+◌, ◌-◌, length, length-drop, drop, arith}
use Rattle.std.proofs.lemmas.List.{take_all}
use Rattle.reg_words.proofs.PlaceLemmas.{gathered}
use Rattle.reg_words.proofs.places.read_places.Goals as goal

pub loop-at-preserved : goal.loop-at-preserved
loop-at-preserved c =
    gathered c.args.text.now c.loop-at.rest.now _ _ _ c.loop-at.places c.in_ok-place_of.field-0 c.both-places.result _ c.loop-at.invariant
    c.in-Some.ensures.1 c.place_of.ensures c.in_ok-place_of.was c.both-places.ensures
    (take_all (length c.loop-at.rest.now - (c.in-Some.at + 1)) (drop (c.in-Some.at + 1) c.loop-at.rest.now) (simp length-drop (omega arith)))
