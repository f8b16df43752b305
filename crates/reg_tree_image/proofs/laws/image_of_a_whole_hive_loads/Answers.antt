use Rattle.reg_tree_image.proofs.CleanWalks.WholeImages.{spells, whole-loads}
use Rattle.reg_tree_image.proofs.laws.image_of_a_whole_hive_loads.Goals as goal

pub returns : goal.returns
returns c = record { spells = spells; loads = whole-loads }
