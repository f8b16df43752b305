-- Trees before and after a change of a key's values.
use Rattle.std.proofs.Common.{◌≡◌, ℕ, ◌+◌, ◌*◌, ◌≤◌, max, Some, List, [], ◌++◌, length, take, drop, IsSome, refl, sym, ap, ◌∙◌, subst, arith}
use Rattle.std.specs.List.{AllByRecursion}
use Rattle.std.specs.FinMap.{get, insert}
use Rattle.reg_heap.specs.Paths.{Path, Tree, Rec, Member}
use Rattle.reg_heap.specs.Heaps.{Heap}
use Rattle.reg_heap.specs.Kinds.{Found}
use Rattle.reg_heap.specs.Members.{values_with}
use Rattle.reg_heap.specs.Edits.{edited, with_value}
use Rattle.reg_shape.specs.Internal.Forests.{Branch}
use Rattle.reg_arena.specs.Cells.{cell_at}
use Rattle.reg_records.specs.KeyNodes.{key_at}
use Rattle.reg_shape.specs.Nodes.{Node, members_at}
use Rattle.reg_shape.specs.Spelt.{rec_of, name_of}
use Rattle.reg_shape.specs.Internal.Shapes.{descriptor_in}
use Rattle.reg_shape.specs.Internal.Exchanges.{IsExchanged}
use Rattle.reg_shape.specs.Internal.Grafts.{IsShape, IsGrafted, IsGraftedInRing, graft_at}
use Rattle.reg_shape.proofs.Graft.GraftOfExchange.{exchange-grafts}
use Rattle.reg_shape.proofs.Graft.WholeAfterGraft.{grafted}
use Rattle.reg_shape.proofs.Graft.GraftInRing.{descriptor-recounted, graft-in-ring, tree-same-below-in-ring}
use Rattle.reg_shape.proofs.Refinement.RefinementAfterGraft.{grafted-name}
use Rattle.reg_shape.proofs.Lookup.LookupAfterGraft.{offsets-same}
use Rattle.reg_values.specs.ValueLists.{Became}
use Rattle.reg_security.proofs.TableCells.{finds-same}
use Rattle.reg_tree.specs.TreeKeys.{tree_in}
use Rattle.reg_tree.specs.Internal.TreeInvariant.{HasShortClasses, TreeInvariant, IsHere, IsChanged}
use Rattle.reg_tree.specs.Internal.KeyNodeChanges.{HasList, Notes, noted}
use Rattle.std.proofs.lemmas.Option.{same_Some}
use Rattle.reg_tree.specs.ValueAnswers.{without_value_at}
use Rattle.reg_tree.specs.KeyLengths.{Lengths, lengths_of, with_value_lengths}
use Rattle.reg_tree.specs.Internal.LengthChanges.{LengthsChange, LengthsStay}
use Rattle.reg_tree.proofs.Invariant.LengthsAfterGraft.{lengths_change, lengths_stay}
use Rattle.reg_tree.proofs.Invariant.CellReadings.{is_some_of}
use Rattle.reg_tree.proofs.Invariant.ShortClasses.{edited-short}
use Rattle.reg_tree.proofs.Invariant.KeyOfTree.{spelt_of, spelt_is, branch, branch_is, branch_once, offset, stands, seen, looked, own_once, shallow, rec_there, list_reads}
use Rattle.reg_tree.proofs.ValueChange.ValueExchange.{key-then, changed_node, exchanged_key}
use Rattle.reg_tree.proofs.ValueChange.LargestLengths.{names-with, sizes-with, names-but, sizes-but}

-- no length is larger than what is noted
same_largest : (lengths : Lengths) (name size : ℕ) → name ≡ 0 → size ≡ 0 → with_value_lengths name size lengths ≡ lengths
same_largest lengths name size a b =
    let n : max lengths.value_name (2 * name) ≡ lengths.value_name = omega (arith, a) in
    let s : max lengths.value_data size ≡ lengths.value_data = omega (arith, b) in
    ap (λ n. record lengths { value_name = n; value_data = max lengths.value_data size }) n ∙ ap (λ s. record lengths { value_data = s }) s

-- the key at a path changed, where the tree has it
pub edited-at : (t : Tree) (p : Path) (r : Rec) (f : Rec → Rec) → get t p ≡ Some r → edited t p f ≡ insert t p (f r)
edited-at t p r f e = rw e refl

-- ---- the change

module _ (old mid new : List ℕ) (key : ℕ) (t : IsHere old key) (count list name size moment : ℕ) (members : List Member)
    (became : Became (cell_at old) (cell_at mid) (looked old key t).value_cells count list members)
    (notes : Notes (cell_at mid) (cell_at new) key (noted count list name size moment))
    (longest : AllByRecursion (λ (m : Member). 2 * length m.name ≤ max (branch old key t).node.key.fields.largest_value_name (2 * name)) members)
    (largest : AllByRecursion (λ (m : Member). length m.bytes ≤ max (branch old key t).node.key.fields.largest_value_data size) members)
    (f : Rec → Rec) (does : (r : Rec) → r.values ≡ (branch old key t).node.values → f r ≡ record r { time = moment; values = members }) where
  abbrev h : Heap
  h = cell_at old

  abbrev j : Heap
  j = cell_at new

  abbrev was : Branch Node
  was = branch old key t

  abbrev keys : Branch Node
  keys = t.holds.keys

  abbrev ring : List ℕ
  ring = t.holds.ring

  there-notes : Notes (cell_at mid) j was.offset (noted count list name size moment)
  there-notes = subst (λ p. Notes (cell_at mid) j p (noted count list name size moment)) (sym (offset old key t)) notes

  abbrev after : Node
  after = changed_node h (cell_at mid) j t.root was.offset was.node (seen old key t) (own_once old key t) count list name size moment members (looked old key t) became there-notes longest largest

  exchanged : IsExchanged h j t.root was.offset was.node after
  exchanged = exchanged_key h (cell_at mid) j t.root was.offset was.node (seen old key t) (own_once old key t) count list name size moment members (looked old key t) became there-notes longest largest

  abbrev is : Branch Node
  is = record was { node = after }

  in-ring : IsGraftedInRing h j t.root was is ring [] []
  in-ring = exchange-grafts h j t.root was after ring [] exchanged (branch_once old key t) (stands old key t) t.holds.shape.closed

  grafts : IsGrafted h j t.root was is ring [] ring []
  grafts = graft-in-ring h j t.root t.path keys was is ring [] [] (branch_is old key t) in-ring t.holds.shape

  abbrev now : Branch Node
  now = graft_at t.path after was.below keys

  shape : IsShape j t.root now ring []
  shape = grafted h j t.root t.path keys was is ring [] ring [] (branch_is old key t) grafts (shallow old key t) t.holds.shape

  abbrev rec : Rec
  rec = rec_of was.node (descriptor_in h was.node.key.fields.security)

  tree-now : tree_in new t.root ≡ edited (tree_in old t.root) t.path f
  tree-now =
      spelt_of new t.root now ring shape
      ∙ (tree-same-below-in-ring h j t.root t.path keys was is ring [] [] (branch_is old key t) in-ring t.holds.shape refl
      ∙ (ap (λ (tree : Tree). insert tree t.path (rec_of after (descriptor_in h after.key.fields.security))) (sym (spelt_is old t.root t.holds))
      ∙ (ap (insert (tree_in old t.root) t.path) (sym (does rec refl))
      ∙ sym (edited-at (tree_in old t.root) t.path rec f (rec_there old key t)))))

  -- the key's class is the one that it had
  same-class : (r : Rec) → get (tree_in old t.root) t.path ≡ Some r → length (f r).class ≡ length r.class
  same-class r e =
      subst (λ (r : Rec). length (f r).class ≡ length r.class) (same_Some _ _ (sym (rec_there old key t) ∙ e)) (ap (λ (r : Rec). length r.class) (does rec refl))

  holds-now : TreeInvariant new t.root t.table
  holds-now = record {
    keys = now;
    ring = ring;
    shape = shape;
    finds = finds-same t.table h j ring t.holds.finds (λ z l. descriptor-recounted h j was is z (in-ring.recounted z l));
    classes = subst HasShortClasses (sym tree-now) (edited-short (tree_in old t.root) t.path f same-class t.holds.classes);
  }

  pub is_changed : IsChanged old new t.root t.table t.path f
  is_changed = record {
    holds = holds-now;
    tree = tree-now;
    offsets = λ q. offsets-same h j t.root t.path keys was is ring [] ring [] (branch_is old key t) grafts t.holds.shape refl q;
  }

  same_name_here : name_of after.key ≡ name_of was.node.key
  same_name_here = grafted-name h j t.root t.path keys was is ring [] ring [] (branch_is old key t) grafts t.holds.shape

  -- the largest lengths that the key notes
  pub lengths_changed : LengthsChange h j t.root t.path (with_value_lengths name size)
  lengths_changed =
      lengths_change h j t.root t.path keys was is (branch_is old key t) same_name_here t.holds.shape.offset t.holds.shape.stands shape.offset shape.stands
      (λ y r o m n e f. ap (λ (z : ℕ × Node). z.1) (same_Some _ _ (sym f ∙ e))) (with_value_lengths name size) refl
      (λ q o at. offsets-same h j t.root t.path keys was is ring [] ring [] (branch_is old key t) grafts t.holds.shape refl q ∙ at)

  pub lengths_kept : name ≡ 0 → size ≡ 0 → LengthsStay h j t.root
  lengths_kept a b =
      lengths_stay h j t.root t.path keys was is (branch_is old key t) same_name_here t.holds.shape.offset t.holds.shape.stands shape.offset shape.stands
      (λ y r o m n e f. ap (λ (z : ℕ × Node). z.1) (same_Some _ _ (sym f ∙ e)))
      (same_largest (lengths_of was.node.key) name size a b)

-- a value was set
pub set_changed : (old mid new : List ℕ) (key count list : ℕ) (name : List ℕ) (kind : ℕ) (bytes : List ℕ) (moment after_count after_offset : ℕ)
    (t : IsHere old key) → HasList (cell_at old) key count list
    → ((members : List Member) (met : List Found) → members_at count list (cell_at old) ≡ Some (members, met) →
    Became (cell_at old) (cell_at mid) met after_count after_offset (values_with name kind bytes members))
    → Notes (cell_at mid) (cell_at new) key (noted after_count after_offset (length name) (length bytes) moment) → IsChanged old new t.root t.table t.path (with_value name kind bytes moment)
set_changed old mid new key count list name kind bytes moment after_count after_offset t has became notes =
    let node = (branch old key t).node in
    let values = (seen old key t).written.values in
    is_changed old mid new key t after_count after_offset (length name) (length bytes) moment (values_with name kind bytes node.values)
    (became _ _ (list_reads old key t count list has)) notes
    (names-with node.key.fields.largest_value_name name kind bytes node.values values.longest_name)
    (sizes-with node.key.fields.largest_value_data name kind bytes node.values values.largest)
    (with_value name kind bytes moment) (λ r e. ap (λ (ms : List Member). record r { time = moment; values = values_with name kind bytes ms }) e)

-- a value was removed
pub remove_changed : (old mid new : List ℕ) (key count list : ℕ) (index moment after_count after_offset : ℕ) (t : IsHere old key) → HasList (cell_at old) key count list
    → ((members : List Member) (met : List Found) → members_at count list (cell_at old) ≡ Some (members, met) →
    Became (cell_at old) (cell_at mid) met after_count after_offset (take index members ++ drop (index + 1) members))
    → Notes (cell_at mid) (cell_at new) key (noted after_count after_offset 0 0 moment) → IsChanged old new t.root t.table t.path (without_value_at index moment)
remove_changed old mid new key count list index moment after_count after_offset t has became notes =
    let node = (branch old key t).node in
    let values = (seen old key t).written.values in
    is_changed old mid new key t after_count after_offset 0 0 moment (take index node.values ++ drop (index + 1) node.values)
    (became _ _ (list_reads old key t count list has)) notes
    (names-but node.key.fields.largest_value_name index node.values values.longest_name)
    (sizes-but node.key.fields.largest_value_data index node.values values.largest)
    (without_value_at index moment) (λ r e. ap (λ (ms : List Member). record r { time = moment; values = take index ms ++ drop (index + 1) ms }) e)

-- the largest lengths where a value was set, and where one was removed
pub set_lengths : (old mid new : List ℕ) (key count list : ℕ) (name : List ℕ) (kind : ℕ) (bytes : List ℕ) (moment after_count after_offset : ℕ)
    (t : IsHere old key) → HasList (cell_at old) key count list
    → ((members : List Member) (met : List Found) → members_at count list (cell_at old) ≡ Some (members, met) →
    Became (cell_at old) (cell_at mid) met after_count after_offset (values_with name kind bytes members))
    → Notes (cell_at mid) (cell_at new) key (noted after_count after_offset (length name) (length bytes) moment)
    → LengthsChange (cell_at old) (cell_at new) t.root t.path (with_value_lengths (length name) (length bytes))
set_lengths old mid new key count list name kind bytes moment after_count after_offset t has became notes =
    let node = (branch old key t).node in
    let values = (seen old key t).written.values in
    lengths_changed old mid new key t after_count after_offset (length name) (length bytes) moment (values_with name kind bytes node.values)
    (became _ _ (list_reads old key t count list has)) notes
    (names-with node.key.fields.largest_value_name name kind bytes node.values values.longest_name)
    (sizes-with node.key.fields.largest_value_data name kind bytes node.values values.largest)
    (with_value name kind bytes moment) (λ r e. ap (λ (ms : List Member). record r { time = moment; values = values_with name kind bytes ms }) e)

pub remove_lengths : (old mid new : List ℕ) (key count list : ℕ) (index moment after_count after_offset : ℕ) (t : IsHere old key) → HasList (cell_at old) key count list
    → ((members : List Member) (met : List Found) → members_at count list (cell_at old) ≡ Some (members, met) →
    Became (cell_at old) (cell_at mid) met after_count after_offset (take index members ++ drop (index + 1) members))
    → Notes (cell_at mid) (cell_at new) key (noted after_count after_offset 0 0 moment) → LengthsStay (cell_at old) (cell_at new) t.root
remove_lengths old mid new key count list index moment after_count after_offset t has became notes =
    let node = (branch old key t).node in
    let values = (seen old key t).written.values in
    lengths_kept old mid new key t after_count after_offset 0 0 moment (take index node.values ++ drop (index + 1) node.values)
    (became _ _ (list_reads old key t count list has)) notes
    (names-but node.key.fields.largest_value_name index node.values values.longest_name)
    (sizes-but node.key.fields.largest_value_data index node.values values.largest)
    (without_value_at index moment) (λ r e. ap (λ (ms : List Member). record r { time = moment; values = take index ms ++ drop (index + 1) ms }) e) refl refl

-- the key node stands when the values had changed
pub key_mid : (old mid : List ℕ) (key : ℕ) (t : IsHere old key) (after_count after_offset : ℕ) (members : List Member) →
    Became (cell_at old) (cell_at mid) (looked old key t).value_cells after_count after_offset members → IsSome (key_at (cell_at mid) key)
key_mid old mid key t after_count after_offset members became =
    is_some_of _ _ (subst (λ p. key_at (cell_at mid) p ≡ Some (branch old key t).node.key) (offset old key t)
    (key-then (cell_at old) (cell_at mid) (branch old key t).offset (branch old key t).node (own_once old key t) after_count after_offset members
    (looked old key t) became))
