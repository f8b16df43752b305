use Rattle.std.proofs.Common.{◌≡◌, ◌||◌, ℕ, List, take}
use Rattle.reg_tree_image.specs.Internal.NamesMet.{is_met, is_one_of}
use Rattle.reg_tree_image.proofs.met_names.MetNames.put_all.Given as goal

abbrev pub invariant-loop-name : goal.invariant-loop-name
invariant-loop-name l = (other : List ℕ) →
    is_met l.self.folded.keys other ≡ (is_met l.initial.self.folded.keys other || is_one_of other (take l.name-index l.names))
