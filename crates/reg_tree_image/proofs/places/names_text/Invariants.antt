use Rattle.std.proofs.Common.{◌≡◌, map, take}
use Rattle.reg_names.specs.Names.{text_of}
use Rattle.reg_arena.specs.Cells.{cell_at}
use Rattle.reg_tree_image.specs.FaultPlaces.{name_there}
use Rattle.reg_tree_image.proofs.places.names_text.Given as goal

abbrev pub invariant-loop-index : goal.invariant-loop-index
invariant-loop-index l = l.text.items ≡ text_of (map (name_there (cell_at l.bins)) (take l.index l.offsets))
