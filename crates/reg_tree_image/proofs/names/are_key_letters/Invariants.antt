use Rattle.std.proofs.Common.{◌≡◌, true, take}
use Rattle.std.specs.List.{list_all}
use Rattle.reg_tree_image.specs.Internal.NameReadings.{is_allowed_in}
use Rattle.reg_tree_image.proofs.names.are_key_letters.Given as goal

abbrev pub invariant-loop-letter : goal.invariant-loop-letter
invariant-loop-letter l = l.are_good ≡ list_all (is_allowed_in true) (take l.letter-index l.name)
