use Rattle.reg_tree.proofs.KeyAnswers.SubkeyBehind.{place_of_list}
use Rattle.reg_tree.proofs.KeyAnswers.SubkeysInTurn.{placed_told}
use Rattle.reg_tree.proofs.PathWalk.SubkeysFound.{some_subkeys}
use Rattle.reg_tree.proofs.read.subkey_at.Goals as goal

pub at_place-requires-clause-subkeys : goal.at_place-requires-clause-subkeys
at_place-requires-clause-subkeys c = some_subkeys _ _ c.requires.here _ _ c.requires.list

pub at_place-requires-clause-place : goal.at_place-requires-clause-place
at_place-requires-clause-place c = place_of_list _ _ c.requires.here _ _ c.requires.list c.args.place c.requires.place

pub returns : goal.returns
returns c = λ t index p. (placed_told _ _ t _ _ c.requires.list c.args.node c.args.place index c.at_place.result p c.at_place.ensures, p)
