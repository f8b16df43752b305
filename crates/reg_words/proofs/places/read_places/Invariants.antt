use Rattle.std.proofs.Common.{◌≡◌, length}
use Rattle.reg_words.specs.PlaceLists.{places_in}
use Rattle.reg_words.proofs.PlaceLemmas.{joined}
use Rattle.reg_words.proofs.places.read_places.Given as goal

abbrev pub invariant-loop-at : goal.invariant-loop-at
invariant-loop-at l = places_in l.text ≡ joined l.places (places_in l.rest)

abbrev pub decreases-loop-at : goal.decreases-loop-at
decreases-loop-at l = length l.rest
