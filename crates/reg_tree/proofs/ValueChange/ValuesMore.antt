-- Values put at once behind those that a key has.
use Rattle.std.proofs.Common.{◌≡◌, ℕ, ◌+◌, ◌*◌, ◌≤◌, max, Option, Some, None, IsSome, List, ◌++◌, length, refl, sym, ap, ◌∙◌, subst, arith}
use Rattle.std.specs.List.{AllByRecursion}
use Rattle.std.proofs.lemmas.Bool.{false≢true}
use Rattle.reg_arena.proofs.Contents.CellWrites.{all-append}
use Rattle.reg_arena.specs.Arena.{Bins, heap_of}
use Rattle.reg_arena.specs.Cells.{cell_at}
use Rattle.reg_heap.specs.Paths.{Path, Member}
use Rattle.reg_heap.specs.Heaps.{Heap}
use Rattle.reg_heap.specs.Kinds.{Found}
use Rattle.reg_heap.specs.Edits.{values_at}
use Rattle.reg_records.specs.KeyNodes.{KeyRecord, key_at}
use Rattle.reg_records.specs.RecordCells.{HasRoom}
use Rattle.reg_shape.specs.Nodes.{members_at}
use Rattle.reg_values.specs.declared.making.NewValue.{NewValue}
use Rattle.reg_values.specs.ValueLists.{Became}
use Rattle.reg_values.specs.NewValues.{all_told}
use Rattle.reg_values.proofs.ValueChanges.ValuesPlanned.{told-length}
use Rattle.reg_tree.specs.MoreValues.{with_more_values, HasListRoom, MayExtend}
use Rattle.reg_tree.specs.TreeKeys.{Keys, tree_in}
use Rattle.reg_tree.specs.KeyLengths.{largest, with_value_lengths, with_lengths_of}
use Rattle.reg_tree.specs.Internal.LengthChanges.{LengthsChange}
use Rattle.reg_tree.specs.Internal.KeyNodeChanges.{HasList, Notes, SameSizes, noted}
use Rattle.reg_tree.specs.Internal.TreeInvariant.{IsHere, IsChanged}
use Rattle.reg_tree.proofs.Invariant.KeyOfTree.{branch, seen, looked, list_reads, list_length, offset}
use Rattle.reg_tree.proofs.Invariant.NodeLemmas.{seen_as}
use Rattle.reg_tree.proofs.ValueChange.LargestLengths.{all-weaker}
use Rattle.reg_tree.proofs.ValueChange.TreeAfterValueChange.{is_changed, lengths_changed}
use Rattle.reg_tree.proofs.ValueChange.ValuesBuilt.{names-under, data-under}

-- ---- the list's room

-- as the key node names it
pub list_room : (h : Heap) (key count list room : ℕ) → HasListRoom h key room → HasList h key count list → HasRoom h list (4 * room)
list_room h key count list room r has = subst (λ o. HasRoom h o (4 * room)) (sym (has r.key r.reads).1) r.holds

-- as it is noted
pub noted_room : (mid new : Heap) (key count list name size moment room : ℕ) → IsSome (key_at mid key) →
    Notes mid new key (noted count list name size moment) → SameSizes mid new → HasRoom mid list (4 * room) → HasListRoom new key room
noted_room mid new key count list name size moment room there notes same r = by (key_at mid key) refl there
  where
    by : (o : Option KeyRecord) → key_at mid key ≡ o → IsSome o → HasListRoom new key room
    by None e s = absurd (false≢true s)
    by (Some k) e s = record {
      key = noted count list name size moment k;
      reads = notes.reads k e;
      holds = record { exists = (same list).0 ∙ r.exists; enough = (let l = (same list).1 in let n = r.enough in omega (arith, l, n)) };
    }

module _ (old : List ℕ) (key : ℕ) (t : IsHere old key) (values : List NewValue) (more : MayExtend (cell_at old) key (values_at (tree_in old t.root) t.path) (all_told values))
    (count list : ℕ) (has : HasList (cell_at old) key count list) where
  count_is : count ≡ length (values_at (tree_in old t.root) t.path)
  count_is = list_length old key t count list has

  pub more_room : HasRoom (cell_at old) list (4 * (count + length values))
  more_room =
      subst (λ n. HasRoom (cell_at old) list (4 * n))
      (let t = told-length values in let n = count_is in omega (arith, t, n))
      (list_room (cell_at old) key count list _ more.room has)

-- ---- the key with them

module _ (old mid new : List ℕ) (key : ℕ) (t : IsHere old key) (count list : ℕ) (has : HasList (cell_at old) key count list) (after_count after_offset : ℕ)
    (members : List Member) (became : (ms : List Member) (met : List Found) → members_at count list (cell_at old) ≡ Some (ms, met) →
    Became (cell_at old) (cell_at mid) met after_count after_offset (ms ++ members))
    (name size moment : ℕ) (name_is : name ≡ largest (λ m. length m.name) members) (size_is : size ≡ largest (λ m. length m.bytes) members)
    (notes : Notes (cell_at mid) (cell_at new) key (noted after_count after_offset name size moment)) where
  abbrev there : List Member
  there = (branch old key t).node.values

  came : Became (cell_at old) (cell_at mid) (looked old key t).value_cells after_count after_offset (there ++ members)
  came = became _ _ (list_reads old key t count list has)

  longest : AllByRecursion (λ (m : Member). 2 * length m.name ≤ max (branch old key t).node.key.fields.largest_value_name (2 * name)) (there ++ members)
  longest =
      all-append _ there members
      (all-weaker (λ (m : Member). 2 * length m.name ≤ (branch old key t).node.key.fields.largest_value_name) _ (λ m h. omega (arith, h)) there (seen old key t).written.values.longest_name)
      (names-under _ name members (omega (arith, name_is)))

  most : AllByRecursion (λ (m : Member). length m.bytes ≤ max (branch old key t).node.key.fields.largest_value_data size) (there ++ members)
  most =
      all-append _ there members
      (all-weaker (λ (m : Member). length m.bytes ≤ (branch old key t).node.key.fields.largest_value_data) _ (λ m h. omega (arith, h)) there (seen old key t).written.values.largest)
      (data-under _ size members (omega (arith, size_is)))

  pub extended : IsChanged old new t.root t.table t.path (with_more_values members moment)
  extended =
      is_changed old mid new key t after_count after_offset name size moment (there ++ members) came notes longest most
      (with_more_values members moment) (λ r e. ap (λ (ms : List Member). record r { time = moment; values = ms ++ members }) e)

  pub extended_lengths : LengthsChange (cell_at old) (cell_at new) t.root t.path (with_lengths_of members)
  extended_lengths =
      let changed = lengths_changed old mid new key t after_count after_offset name size moment (there ++ members) came notes longest most
      (with_more_values members moment) (λ r e. ap (λ (ms : List Member). record r { time = moment; values = ms ++ members }) e) in
      subst (λ n. LengthsChange (cell_at old) (cell_at new) t.root t.path (with_value_lengths n (largest (λ m. length m.bytes) members)))
      name_is
      (subst (λ s. LengthsChange (cell_at old) (cell_at new) t.root t.path (with_value_lengths name s)) size_is changed)

-- ---- as it is seen

module _ (bins : Bins) (root : ℕ) (now : Keys) (view_is : seen_as bins root ≡ now) where
  pub more_seen : (offset : ℕ) (p : Path) (members : List Member) → MayExtend (heap_of now.bins) offset (values_at now.tree p) members →
      MayExtend (heap_of bins) offset (values_at (tree_in bins.bytes root) p) members
  more_seen offset p members m = subst (λ (k : Keys). MayExtend (heap_of k.bins) offset (values_at k.tree p) members) (sym view_is) m

  pub room_seen : (offset room : ℕ) → HasListRoom (heap_of now.bins) offset room → HasListRoom (heap_of bins) offset room
  room_seen offset room r = subst (λ (k : Keys). HasListRoom (heap_of k.bins) offset room) (sym view_is) r
