-- A new hive's tree.
use Rattle.std.proofs.Common.{◌≡◌, ℕ, List, [], ◌∷◌, sym, ap, ◌∙◌, subst, refl, arith}
use Rattle.std.specs.FinMap.{insert, empty}
use Rattle.reg_heap.specs.Paths.{path_cmp}
use Rattle.reg_arena.specs.Cells.{cell_at}
use Rattle.reg_shape.specs.Internal.Forests.{Branch}
use Rattle.reg_shape.specs.Internal.Grafts.{IsShape}
use Rattle.reg_shape.specs.Nodes.{Node}
use Rattle.reg_shape.proofs.Graft.Branches.{whole-shape}
use Rattle.reg_security.specs.Rings.{DescriptorCells}
use Rattle.reg_tree.specs.TreeKeys.{tree_in, made_root}
use Rattle.reg_tree.specs.Internal.TreeInvariant.{HasShortClasses, TreeInvariant}
use Rattle.reg_tree.proofs.Invariant.OneRootTree.{tree-alone}
use Rattle.reg_tree.proofs.Invariant.FreshShape.{IsMade, branch, node_with, fresh-shape, fresh-rec}
use Rattle.reg_tree.proofs.Invariant.KeyOfTree.{spelt_of}
use Rattle.reg_tree.proofs.Invariant.ShortClasses.{root-short}

module _ (bytes : List ℕ) (root : ℕ) {table : DescriptorCells} (name descriptor : List ℕ) (moment : ℕ)
    (m : IsMade (cell_at bytes) root table name descriptor moment) where
  abbrev fresh_keys : Branch Node
  fresh_keys = branch root (node_with root m.root_is.key)

  abbrev fresh_ring : List ℕ
  fresh_ring = m.root_is.key.fields.security ∷ []

  shape : IsShape (cell_at bytes) root fresh_keys fresh_ring []
  shape = whole-shape (cell_at bytes) root fresh_keys fresh_ring (fresh-shape (cell_at bytes) root m.root_is)

  pub fresh_tree : tree_in bytes root ≡ insert empty [] (made_root name descriptor moment)
  fresh_tree =
      spelt_of bytes root fresh_keys fresh_ring shape
      ∙ (tree-alone (cell_at bytes) fresh_keys refl
      ∙ (ap (insert (empty {R = path_cmp}) []) (fresh-rec (cell_at bytes) root m.root_is)
      ∙ (λ i. insert empty [] (made_root (m.name_is i) (m.described i) (m.time i)))))

  pub fresh_holds : TreeInvariant bytes root table
  fresh_holds = record {
    keys = fresh_keys;
    ring = fresh_ring;
    shape = shape;
    finds = m.finds;
    classes = subst HasShortClasses (sym fresh_tree) (root-short (made_root name descriptor moment) (omega arith));
  }
