-- The tree of bins that are taken as they stand, since they are whole.
use Rattle.std.proofs.Common.{ℕ, List, [], subst}
use Rattle.reg_arena.specs.Cells.{cell_at}
use Rattle.reg_shape.specs.Internal.Forests.{Branch}
use Rattle.reg_shape.specs.Internal.Grafts.{IsShape}
use Rattle.reg_shape.specs.Nodes.{Node}
use Rattle.reg_shape.specs.Whole.{IsRing}
use Rattle.reg_shape.proofs.Graft.Branches.{whole-shape}
use Rattle.reg_security.specs.Rings.{DescriptorCells, Finds}
use Rattle.reg_tree.specs.TreeKeys.{IsWholeWith}
use Rattle.reg_tree.specs.Internal.TreeInvariant.{TreeInvariant}
use Rattle.reg_tree.proofs.Invariant.ShapesOfWholeHives.{its_keys, shape-of-whole}

module _ (bytes : List ℕ) (root : ℕ) (ring : List ℕ) (w : IsWholeWith bytes root ring) where
  pub adopted_ring : IsRing (cell_at bytes) ring
  adopted_ring = subst (λ (r : List ℕ). IsRing (cell_at bytes) r) w.ring_is w.whole.closed

  abbrev adopted_keys : Branch Node
  adopted_keys = its_keys (cell_at bytes) w.fuel root w.whole

  pub adopted_holds : (table : DescriptorCells) → Finds table (cell_at bytes) ring → TreeInvariant bytes root table
  adopted_holds table finds = record {
    keys = adopted_keys;
    ring = ring;
    shape = subst (λ (r : List ℕ). IsShape (cell_at bytes) root adopted_keys r []) w.ring_is
        (whole-shape (cell_at bytes) root adopted_keys w.whole.ring (shape-of-whole (cell_at bytes) w.fuel root w.whole));
    finds = finds;
    classes = record { short = w.short };
  }
