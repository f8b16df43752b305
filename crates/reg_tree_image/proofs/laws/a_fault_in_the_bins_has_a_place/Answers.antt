use Rattle.reg_tree_image.proofs.Devices.PlacesLaw.{fault-has-place, no-place}
use Rattle.reg_tree_image.proofs.laws.a_fault_in_the_bins_has_a_place.Goals as goal

pub returns : goal.returns
returns c = record { there = fault-has-place; nowhere = no-place }
