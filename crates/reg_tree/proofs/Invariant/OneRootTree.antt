-- A tree of one root.
use Rattle.std.proofs.Common.{◌≡◌, [], ◌∷◌, map, refl, ap, ◌∙◌}
use Rattle.std.specs.FinMap.{insert, empty, from_entries}
use Rattle.reg_heap.specs.Paths.{path_cmp, Rec}
use Rattle.reg_heap.specs.Heaps.{Heap}
use Rattle.reg_shape.specs.Internal.Forests.{Forest, Branch}
use Rattle.reg_shape.specs.Internal.Forests.Forest.{End}
use Rattle.reg_shape.specs.Nodes.{Node}
use Rattle.reg_shape.specs.Spelt.{rec_of, behind, below_root}
use Rattle.reg_shape.specs.Internal.Shapes.{descriptor_in, spelled, tree_of}

alone : (rec : Rec) → from_entries {R = path_cmp} (([], rec) ∷ []) ≡ insert empty [] rec
alone rec = refl

-- the tree of a key without others
pub tree-alone : (h : Heap) (keys : Branch Node) → keys.below ≡ End → tree_of h keys ≡ insert empty [] (rec_of keys.node (descriptor_in h keys.node.key.fields.security))
tree-alone h keys e =
    ap (λ (below : Forest Node). from_entries (map below_root (behind (rec_of keys.node (descriptor_in h keys.node.key.fields.security)) (spelled h below)))) e
    ∙ alone (rec_of keys.node (descriptor_in h keys.node.key.fields.security))
