-- A tree for which room was made: its keys are where they were.
use Rattle.std.proofs.Common.{◌≡◌, ◌<◌, Bool, true, false, not, ℕ, List, length, Option, None, Some, inl, inr, refl, sym, ap, ◌∙◌, subst}
use Rattle.std.specs.Prelude.{IfSome}
use Rattle.std.specs.FinMap.{get}
use Rattle.reg_heap.specs.Heaps.{Heap}
use Rattle.reg_heap.specs.declared.limits.TheConstants.{SUBKEYS_LIMIT}
use Rattle.reg_heap.specs.Paths.{Path, Tree, children_of}
use Rattle.reg_heap.specs.Edits.{descriptor_of}
use Rattle.reg_arena.specs.Arena.{heap_of}
use Rattle.reg_shape.specs.PathLookup.{key_offset_at}
use Rattle.reg_tree.specs.declared.node.Node.{Node}
use Rattle.reg_tree.specs.declared.node.Reached.{Reached}
use Rattle.reg_tree.specs.Internal.PathWalks.{Reaches}
use Rattle.reg_tree.specs.Internal.ReachedPlaces.{IsPlace}
use Rattle.reg_tree.specs.Reaching.{IsWalkedTo}
use Rattle.reg_tree.specs.TreeKeys.{Keys, IsAt, IsThere, KeepsNodes}
use Rattle.reg_tree_image.specs.declared.first_keys.FirstKeys.{FirstKeys}
use Rattle.reg_tree_image.specs.declared.table.CellState.{CellState}
use Rattle.reg_tree_image.specs.CrowdedBins.{IsReserved, IsListRoomier}
use Rattle.reg_tree_image.specs.Internal.FirstUses.{AreFirst}
use Rattle.reg_tree_image.specs.Internal.Stacks.{IsReadAt}

-- the same keys in the same cells
pub record SameKeys (old new : Keys) : Type 0 where
  pub cells : heap_of new.bins ≡ heap_of old.bins
  pub root : new.root ≡ old.root
  pub tree : new.tree ≡ old.tree

pub same-keys : {ahead : Bool} (old new : Keys) → IsReserved ahead old new → SameKeys old new
same-keys old new (inl e) = record { cells = ap (λ (k : Keys). heap_of k.bins) e; root = ap (λ (k : Keys). k.root) e; tree = ap (λ (k : Keys). k.tree) e }
same-keys old new (inr (is, size, small, m, whole)) = record { cells = m.cells; root = m.root; tree = m.tree }

module _ (ahead : Bool) (old new : Keys) (roomier : IsReserved ahead old new) where
  same : SameKeys old new
  same = same-keys old new roomier

  pub at-still : KeepsNodes old new
  at-still path node at = record {
    offset =
        ap (λ (heap : Heap). key_offset_at heap new.root path) same.cells
        ∙ (ap (λ root. key_offset_at (heap_of old.bins) root path) same.root ∙ at.offset);
    depth = at.depth;
  }

  pub at-before : KeepsNodes new old
  at-before path node at = record {
    offset =
        ap (λ (heap : Heap). key_offset_at heap old.root path) (sym same.cells)
        ∙ (ap (λ root. key_offset_at (heap_of new.bins) root path) (sym same.root) ∙ at.offset);
    depth = at.depth;
  }

  pub there-still : (node : Node) → IsThere old node → IsThere new node
  there-still node there = (there.0, at-still there.0 node there.1)

  pub walked-still : (from : Node) (path : List ℕ) (reached : Reached) → IsWalkedTo old from path reached → IsWalkedTo new from path reached
  walked-still from path reached w = record {
    valid = w.valid;
    reaches = subst (λ (heap : Heap). Reaches heap from path reached.node reached.missing.now) (sym same.cells) w.reaches;
    place = subst (λ (heap : Heap). IsPlace heap path reached.node.offset reached.missing.now reached.place) (sym same.cells) w.place;
  }

  -- what holds of a tree that has a key where it was
  pub of-tree : (P : Tree → Type 0) → P old.tree → P new.tree
  of-tree P h = subst P (sym same.tree) h

  pub like-still : (descriptor : List ℕ) (like : Option Node) →
      IfSome like (λ node. (q : Path) × IsAt old q node × (descriptor_of (get old.tree q) ≡ descriptor)) →
      IfSome like (λ node. (q : Path) × IsAt new q node × (descriptor_of (get new.tree q) ≡ descriptor))
  like-still descriptor None h = tt
  like-still descriptor (Some node) (q, at, d) = (q, at-still q node at, of-tree (λ tree. descriptor_of (get tree q) ≡ descriptor) d)

-- ---- room in a list

pub ahead-is : (b : Bool) → not b ≡ false → b ≡ true
ahead-is true e = refl
ahead-is false e = absurd (cc)

-- the same keys, each where it stood
pub record StandStill (old new : Keys) : Type 0 where
  pub tree : new.tree ≡ old.tree
  pub nodes : KeepsNodes old new

pub still : {ahead : Bool} (old new : Keys) → IsListRoomier ahead old new → StandStill old new
still {ahead = ahead} old new (mid, r, inl e) =
    subst (λ k. StandStill old k) (sym e) (record { tree = (same-keys old mid r).tree; nodes = at-still ahead old mid r })
still {ahead = ahead} old new (mid, r, inr (is, node, more, l, whole)) = record {
  tree = l.tree ∙ (same-keys old mid r).tree;
  nodes = λ path node at. l.nodes path node (at-still ahead old mid r path node at);
}

module _ (old new : Keys) (s : StandStill old new) where
  pub there-yet : (node : Node) → IsThere old node → IsThere new node
  there-yet node there = (there.0, s.nodes there.0 node there.1)

  pub few-yet : (node : Node) → (p : Path) × IsAt old p node × (length (children_of old.tree p) < SUBKEYS_LIMIT) →
      (p : Path) × IsAt new p node × (length (children_of new.tree p) < SUBKEYS_LIMIT)
  few-yet node few = (few.0, s.nodes few.0 node few.1, subst (λ (tree : Tree). length (children_of tree few.0) < SUBKEYS_LIMIT) (sym s.tree) few.2)

  pub read-yet : (heap : Heap) (states : List CellState) (node : Node) → IsReadAt heap states old node → IsReadAt heap states new node
  read-yet heap states node r = record {
    levels = r.levels;
    path = r.path;
    at = r.at;
    seen = r.seen;
    table = r.table;
    told = s.tree ∙ r.told;
    there = s.nodes r.at node r.there;
    deep = r.deep;
  }

  pub first-yet : (heap : Heap) (firsts : FirstKeys) → AreFirst heap old firsts → AreFirst heap new firsts
  first-yet heap firsts are security node found =
      let u = are security node found in record {
        path = u.path;
        key = u.key;
        at = s.nodes u.path node u.at;
        there = subst (λ (tree : Tree). get tree u.path ≡ Some u.key) (sym s.tree) u.there;
        same = u.same;
      }
