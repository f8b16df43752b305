-- A tree deleted, and a key emptied: what each step needs, and the tree after it.
use Rattle.std.proofs.Common.{◌≡◌, ◌≢◌, ℕ, ◌&&◌, nat_lt, List, [], length, sym, ap, ◌∙◌}
use Rattle.std.specs.FinMap.{get}
use Rattle.std.proofs.lemmas.Bool.{false≢true}
use Rattle.std.proofs.lemmas.List.{append-nil}
use Rattle.reg_heap.specs.Paths.{Path, Tree, children_of}
use Rattle.reg_heap.specs.Edits.{edited, without_key}
use Rattle.reg_arena.specs.Cells.{cell_at}
use Rattle.reg_security.specs.Rings.{DescriptorCells}
use Rattle.reg_tree.specs.TreeKeys.{tree_in}
use Rattle.reg_tree.specs.Internal.TreeInvariant.{IsHere, IsChanged}
use Rattle.reg_tree.specs.Internal.KeyDeletion.{IsDeleted, IsPruned, IsEmptied, IsLone}
use Rattle.reg_tree.specs.Internal.LengthChanges.{LengthsStay}
use Rattle.reg_tree.specs.Internal.TreeDeletion.{IsBared, if_valued}
use Rattle.reg_tree.proofs.PruneTree.KeysUnder.{lengths-then}
use Rattle.reg_tree.proofs.PruneTree.NextKeys.{front-there}
use Rattle.reg_tree.proofs.PruneTree.PathsWithin.{within-is, not-under-itself}
use Rattle.reg_tree.proofs.PruneTree.PrunedTrees.{pruned-is, emptied-is}
use Rattle.reg_tree.proofs.PruneTree.ThinnedTrees.{IsClosed, bare-of, bared-under}

module _ (old : List ℕ) (key : ℕ) (t : IsHere old key) (mid : List ℕ) (table : DescriptorCells) (moment : ℕ) (b : IsBared old mid t.root table t.path moment) where
  abbrev p : Path
  p = t.path

  abbrev was : Tree
  was = tree_in old t.root

  abbrev now : Tree
  now = tree_in mid t.root

  closed : IsClosed was
  closed = front-there old t.root t.holds

  -- the key stays where it stands
  abbrev pub bare-here : IsHere mid key
  bare-here = record { root = t.root; table = table; path = p; holds = b.holds; at = b.offsets p (not-under-itself p) ∙ t.at }

  bare-childless : children_of now p ≡ []
  bare-childless = bare-of now p (λ q u. ap (λ (t : Tree). get t q) b.tree ∙ bared-under was closed p moment q u)

  -- ---- the key deleted too

  module _ (inner : p ≢ []) where
    pub bare-lone : IsLone mid key bare-here
    bare-lone = (inner, bare-childless)

    module _ (new : List ℕ) (after : DescriptorCells) (d : IsDeleted mid new t.root after p moment) where
      pub is_pruned : IsPruned old new t.root after p moment
      is_pruned = record {
        holds = d.holds;
        tree = d.tree ∙ (ap (λ (t : Tree). without_key t p moment) b.tree ∙ pruned-is p inner was closed moment);
        offsets = λ q w.
            d.offsets q (λ e. false≢true (sym w ∙ within-is p q [] (e ∙ sym (append-nil p)))) ∙ b.offsets q (ap (λ w. w && nat_lt (length p) (length q)) w);
      }

      pub pruned_lengths : LengthsStay (cell_at old) (cell_at mid) t.root → LengthsStay (cell_at mid) (cell_at new) t.root → LengthsStay (cell_at old) (cell_at new) t.root
      pruned_lengths = lengths-then old mid new t.root p moment d

  -- ---- the key emptied

  module _ (new : List ℕ) (c : IsChanged mid new t.root table p (if_valued moment)) where
    pub is_emptied : IsEmptied old new t.root table p moment
    is_emptied = record {
      holds = c.holds;
      tree = c.tree ∙ (ap (λ (t : Tree). edited t p (if_valued moment)) b.tree ∙ emptied-is was closed p moment);
      offsets = λ q u. c.offsets q ∙ b.offsets q u;
    }

    pub emptied_lengths : LengthsStay (cell_at old) (cell_at mid) t.root → LengthsStay (cell_at mid) (cell_at new) t.root → LengthsStay (cell_at old) (cell_at new) t.root
    emptied_lengths f g q o at-old at-new = let at-mid = sym (c.offsets q) ∙ at-new in g q o at-mid at-new ∙ f q o at-old at-mid
