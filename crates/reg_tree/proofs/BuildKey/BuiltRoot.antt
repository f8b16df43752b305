-- A new root that got its marks and its class, and the tree as it is seen.
use Rattle.std.proofs.Common.{◌≡◌, inl, ℕ, ◌+◌, ◌<◌, ◌≤◌, [], length, refl, sym, ap, ◌∙◌, subst, arith}
use Rattle.std.specs.Prelude.{Result, Ok, Err, OnOk, OnErr}
use Rattle.std.specs.FinMap.{get, insert, empty}
use Rattle.reg_names.specs.declared.TheConstants.{KEY_NAME_LIMIT}
use Rattle.reg_heap.specs.declared.limits.TheConstants.{BINS_LIMIT, DESCRIPTOR_LIMIT, GROWTH_BOUND}
use Rattle.reg_heap.specs.Paths.{Tree, Rec}
use Rattle.reg_heap.specs.Edits.{edited}
use Rattle.reg_arena.specs.Arena.{Bins, heap_of}
use Rattle.reg_arena.specs.declared.ArenaFault.{ArenaFault}
use Rattle.reg_arena.specs.EachCell.{GrowsFor}
use Rattle.reg_arena.specs.NewBin.{IsBinSize}
use Rattle.reg_arena.specs.NewCells.{cell_size}
use Rattle.reg_security.specs.Rings.{DescriptorCells}
use Rattle.reg_tree.specs.declared.build.NewKey.{NewKey}
use Rattle.reg_values.specs.ValueLists.{KeepsSizes, Makes}
use Rattle.reg_tree.specs.BuiltKeys.{TakesCells, built_key, class_sizes}
use Rattle.reg_tree.specs.TreeKeys.{Keys, tree_in, made_root}
use Rattle.reg_tree.specs.KeyLengths.{lengths_at}
use Rattle.reg_tree.specs.Internal.LengthChanges.{LengthsStay}
use Rattle.reg_tree.specs.Internal.KeyBuilding.{HasNoClass, MayHaveClass, marked}
use Rattle.reg_tree.specs.Internal.TreeInvariant.{TreeInvariant, IsHere, IsChanged}
use Rattle.reg_tree.proofs.BuildKey.BuiltBelow.{bare}
use Rattle.reg_tree.proofs.BuildKey.BuiltTrees.{get-here}
use Rattle.reg_tree.proofs.InsertKey.LastDescribed.{insert-twice}
use Rattle.reg_tree.proofs.Invariant.KeyOfTree.{offset-root, spelt_is}
use Rattle.reg_tree.proofs.Invariant.NodeLemmas.{on_ok, seen_as, to_tree}
use Rattle.reg_tree.proofs.ValueChange.TreeAfterValueChange.{edited-at}

-- a hive of one root is small
pub never-full : (size name descriptor : ℕ) → name ≤ KEY_NAME_LIMIT → descriptor ≤ DESCRIPTOR_LIMIT →
    IsBinSize size (cell_size (76 + name) + cell_size (20 + descriptor)) → BINS_LIMIT < size + GROWTH_BOUND → ⊥
never-full size name descriptor short small bin past = let l = bin.least GROWTH_BOUND refl (omega (arith, short, small)) in absurd (omega (arith, l, past))

module _ (bins : Bins) (root : ℕ) {table : DescriptorCells} (holds : TreeInvariant bins.bytes root table) (now : Keys) (view_is : seen_as bins root ≡ now) (key : NewKey)
    (tree : now.tree ≡ insert empty [] (made_root key.name.now key.descriptor.now key.time)) where
  abbrev made : Rec
  made = made_root key.name.now key.descriptor.now key.time

  tree-is : tree_in bins.bytes root ≡ insert empty [] made
  tree-is = to_tree bins root holds now view_is (λ (t : Tree). t ≡ insert empty [] made) tree

  abbrev pub root-here : IsHere bins.bytes root
  root-here = record { root = root; table = table; path = []; holds = holds; at = offset-root bins.bytes root holds }

  abbrev pub root-may : MayHaveClass (heap_of bins) root [] (length key.class.now)
  root-may = inl refl

  pub root-bare : HasNoClass (heap_of bins) root key.name.now
  root-bare =
      bare (heap_of bins) root holds.keys holds.ring [] holds.shape [] root (offset-root bins.bytes root holds) made
      (ap (λ (t : Tree). get t []) (sym (spelt_is bins.bytes root holds) ∙ tree-is) ∙ get-here empty [] made) refl

  module _ (new : Bins) (result : Result (Unit {0}) ArenaFault)
      (ok : (t : IsHere bins.bytes root) → MayHaveClass (heap_of bins) t.root t.path (length key.class.now) →
      OnOk result (IsChanged bins.bytes new.bytes t.root t.table t.path (marked key.marks key.class.now))) (err : OnErr result (new ≡ bins)) where
    pub root-holds : TreeInvariant new.bytes root table
    root-holds = by result (ok root-here root-may) err
      where
        by : (r : Result (Unit {0}) ArenaFault) → OnOk r (IsChanged bins.bytes new.bytes root table [] (marked key.marks key.class.now)) → OnErr r (new ≡ bins) →
            TreeInvariant new.bytes root table
        by (Ok x) c e = c.holds
        by (Err x) c e = subst (λ (b : Bins). TreeInvariant b.bytes root table) (sym e) holds

    pub root-built : OnOk result (tree_in new.bytes root ≡ insert empty [] (built_key key))
    root-built = by result (ok root-here root-may)
      where
        by : (r : Result (Unit {0}) ArenaFault) → OnOk r (IsChanged bins.bytes new.bytes root table [] (marked key.marks key.class.now)) →
            OnOk r (tree_in new.bytes root ≡ insert empty [] (built_key key))
        by (Ok x) c =
            c.tree
            ∙ (ap (λ (t : Tree). edited t [] (marked key.marks key.class.now)) tree-is
            ∙ (edited-at (insert empty [] made) [] made (marked key.marks key.class.now) (get-here empty [] made)
            ∙ insert-twice empty [] made (built_key key)))
        by (Err x) c = tt

    pub root-takes : OnOk result (Makes (heap_of bins) (heap_of new) (class_sizes key.class.now)) → OnOk result (KeepsSizes (heap_of bins) (heap_of new)) →
        OnOk result (GrowsFor bins.bytes new.bytes (class_sizes key.class.now)) → OnOk result (length bins.bytes ≤ length new.bytes) →
        OnOk result (TakesCells now (seen_as new root) (class_sizes key.class.now))
    root-takes cells stay growth kept = subst (λ (k : Keys). OnOk result (TakesCells k (seen_as new root) (class_sizes key.class.now))) view_is (by result cells stay growth kept)
      where
        by : (r : Result (Unit {0}) ArenaFault) → OnOk r (Makes (heap_of bins) (heap_of new) (class_sizes key.class.now)) → OnOk r (KeepsSizes (heap_of bins) (heap_of new)) →
            OnOk r (GrowsFor bins.bytes new.bytes (class_sizes key.class.now)) → OnOk r (length bins.bytes ≤ length new.bytes) →
            OnOk r (TakesCells (seen_as bins root) (seen_as new root) (class_sizes key.class.now))
        by (Ok x) m s g k = record { cells = m; stay = s; growth = g; kept = k }
        by (Err x) m s g k = tt

    pub root-lengths : ((t : IsHere bins.bytes root) → MayHaveClass (heap_of bins) t.root t.path (length key.class.now) →
        OnOk result (LengthsStay (heap_of bins) (heap_of new) t.root)) → OnOk result (lengths_at (heap_of new) root ≡ lengths_at (heap_of now.bins) now.root)
    root-lengths stay =
        subst (λ (k : Keys). OnOk result (lengths_at (heap_of new) root ≡ lengths_at (heap_of k.bins) k.root)) view_is
        (on_ok result (λ s. s [] root (offset-root bins.bytes root holds) (offset-root new.bytes root root-holds)) (stay root-here root-may))
