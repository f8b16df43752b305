use Rattle.std.proofs.Common.{◌≡◌, ◌+◌, ◌-◌, ◌≤◌, ◌++◌, MatchOption, length, take, drop, map, flat_map}
use Rattle.reg_heap.specs.Paths.{Path, children_of}
use Rattle.reg_tree.specs.SubkeyWalk.{IsSubkeyAt}
use Rattle.reg_tree.specs.TreeKeys.{IsAt}
use Rattle.zugmeled.specs.Lists.{AreTold, key_row, subkeys_from, value_row}
use Rattle.zugmeled.specs.WithValues.{bytes_with_values, values_of}
use Rattle.zugmeled.proofs.with_values.tell_subkeys_with_values.Given as goal

abbrev pub invariant-loop-count : goal.invariant-loop-count
invariant-loop-count l =
    (l.told.count ≤ length l.values) × (l.told.used ≤ length l.room) × ((p : Path) → IsAt l.tree p l.node →
    AreTold (key_row l.tree.tree) (bytes_with_values l.tree.tree) (subkeys_from l.index l.tree.tree p) l.count l.fn.subkeys l.subkeys l.fn.room l.room
    × MatchOption l.next (length (children_of l.tree.tree p) ≤ l.index + l.count) (λ subkey. IsSubkeyAt l.tree p l.node (l.index + l.count) subkey)
    × (l.values ≡ map (value_row l.tree.tree) (values_of l.tree.tree (take l.count (subkeys_from l.index l.tree.tree p)))
    ++ drop (length (values_of l.tree.tree (take l.count (subkeys_from l.index l.tree.tree p)))) l.fn.values)
    × (l.told.count ≡ length (values_of l.tree.tree (take l.count (subkeys_from l.index l.tree.tree p))))
    × (l.told.used ≡ length (flat_map (bytes_with_values l.tree.tree) (take l.count (subkeys_from l.index l.tree.tree p)))))

abbrev pub decreases-loop-count : goal.decreases-loop-count
decreases-loop-count l = l.left - l.count
