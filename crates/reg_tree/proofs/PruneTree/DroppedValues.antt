-- All values of a key removed.
use Rattle.std.proofs.Common.{◌≡◌, ◌≢◌, ℕ, cond, Some, IsSome, List, [], length, refl, sym, ap, ◌∙◌, arith}
use Rattle.std.specs.Option.{option_map}
use Rattle.std.proofs.lemmas.Bool.{lt-ltb, le-ltb}
use Rattle.reg_heap.specs.declared.limits.TheConstants.{NONE}
use Rattle.reg_heap.specs.Paths.{Rec, Member}
use Rattle.reg_heap.specs.Edits.{without_values}
use Rattle.reg_heap.specs.Heaps.{CellFrame}
use Rattle.reg_heap.specs.Kinds.{Found, owned}
use Rattle.reg_arena.specs.Cells.{cell_at}
use Rattle.reg_records.specs.KeyNodes.{key_at}
use Rattle.reg_records.specs.OffsetRows as rows
use Rattle.reg_shape.specs.Nodes.{members_at}
use Rattle.reg_values.specs.ValueLists.{Became}
use Rattle.reg_tree.specs.Internal.TreeInvariant.{IsHere, IsChanged}
use Rattle.reg_tree.specs.Internal.KeyNodeChanges.{HasList, Notes, noted}
use Rattle.reg_tree.specs.Internal.LengthChanges.{LengthsStay}
use Rattle.reg_tree.specs.Internal.TreeDeletion.{if_valued}
use Rattle.reg_tree.specs.TreeKeys.{tree_in}
use Rattle.reg_tree.proofs.Invariant.KeyOfTree.{branch, looked, rec_there, list_reads, list_length, values_are}
use Rattle.reg_tree.proofs.PruneTree.TreesWithout.{edited-same}
use Rattle.reg_tree.proofs.ValueChange.TreeAfterValueChange.{is_changed, lengths_kept, key_mid}

module _ (old : List ℕ) (key : ℕ) (t : IsHere old key) (count list : ℕ) (has : HasList (cell_at old) key count list) (moment : ℕ) where
  -- so many values has the key
  many : count ≡ length (branch old key t).node.values
  many = list_length old key t count list has ∙ ap (λ (vs : List Member). length vs) (values_are old key t)

  -- it has none
  pub none_dropped : count ≡ 0 → IsChanged old old t.root t.table t.path (if_valued moment)
  none_dropped e = record {
    holds = t.holds;
    tree = edited-same (tree_in old t.root) t.path (if_valued moment)
        (ap (option_map (if_valued moment)) (rec_there old key t) ∙ (ap Some (none-valued _ (let m = many in omega (arith, m, e))) ∙ sym (rec_there old key t)));
    offsets = λ p. refl;
  }
    where
      none-valued : (r : Rec) → length r.values ≡ 0 → if_valued moment r ≡ r
      none-valued r z = ap (λ b. cond b (without_values moment r) r) (le-ltb 0 (length r.values) (omega (arith, z)))

  module _ (mid new : List ℕ)
      (cleared : (members : List Member) → (met : List Found) → members_at count list (cell_at old) ≡ Some (members, met) →
      CellFrame (cell_at old) (cell_at mid) (λ z. owned z met) (λ z. 0)) where
    became : Became (cell_at old) (cell_at mid) (looked old key t).value_cells 0 NONE []
    unfolding rows.offsets_at
    became = record {
      cells = [];
      reads = refl;
      frame = cleared _ _ (list_reads old key t count list has);
      written = record { few = omega arith; none = λ e. refl; each = tt; names = tt; apart = tt; sizes = tt };
    }

    -- the key node stands then
    pub key_stays : IsSome (key_at (cell_at mid) key)
    key_stays = key_mid old mid key t 0 NONE [] became

    module _ (some : count ≢ 0) (notes : Notes (cell_at mid) (cell_at new) key (noted 0 NONE 0 0 moment)) where
      does : (r : Rec) → r.values ≡ (branch old key t).node.values → if_valued moment r ≡ record r { time = moment; values = [] }
      does r e =
          ap (λ b. cond b (without_values moment r) r)
          (lt-ltb 0 (length r.values) (let m = many in let l = ap (λ (vs : List Member). length vs) e in omega (arith, m, l, some)))

      pub values_dropped : IsChanged old new t.root t.table t.path (if_valued moment)
      values_dropped = is_changed old mid new key t 0 NONE 0 0 moment [] became notes tt tt (if_valued moment) does

      pub dropped_lengths : LengthsStay (cell_at old) (cell_at new) t.root
      dropped_lengths = lengths_kept old mid new key t 0 NONE 0 0 moment [] became notes tt tt (if_valued moment) does refl refl
