use Rattle.std.proofs.Common.{◌≡◌, ◌+◌, ◌-◌, ◌≤◌, MatchOption, length, take, flat_map}
use Rattle.reg_heap.specs.Paths.{Path, children_of}
use Rattle.reg_tree.specs.SubkeyWalk.{IsSubkeyAt}
use Rattle.reg_tree.specs.TreeKeys.{IsAt}
use Rattle.zugmeled.specs.Lists.{AreTold, key_name, key_row, subkeys_from}
use Rattle.zugmeled.proofs.lists.tell_subkeys.Given as goal

abbrev pub invariant-loop-count : goal.invariant-loop-count
invariant-loop-count l =
    (p : Path) → IsAt l.tree p l.node →
    AreTold (key_row l.tree.tree) (key_name l.tree.tree) (subkeys_from l.index l.tree.tree p) l.count l.initial.rows l.rows l.initial.room l.room
    × MatchOption l.next (length (children_of l.tree.tree p) ≤ l.index + l.count) (λ subkey. IsSubkeyAt l.tree p l.node (l.index + l.count) subkey)
    × (l.used ≡ length (flat_map (key_name l.tree.tree) (take l.count (subkeys_from l.index l.tree.tree p))))

abbrev pub decreases-loop-count : goal.decreases-loop-count
decreases-loop-count l = l.left - l.count
