-- A key whose values were changed: what its own cells are then, and that nothing else of it changed.
use Rattle.std.proofs.Common.{◌≡◌, ◌≢◌, ℕ, ◌+◌, ◌*◌, ◌<◌, ◌≤◌, max, cond, ◌⊎◌, inl, inr, Option, Some, List, ◌++◌, length, refl, sym, ap, ◌∙◌, subst, arith, is_some}
use Rattle.std.specs.List.{AllByRecursion}
use Rattle.std.specs.Option.{option_map, option_and_then}
use Rattle.std.proofs.lemmas.Bool.{cases_eq}
use Rattle.reg_heap.specs.Paths.{Member}
use Rattle.reg_heap.specs.Heaps.{Heap, CellFrame, allocated}
use Rattle.reg_heap.specs.Kinds.{Found, is_own, owned, shared}
use Rattle.reg_heap.specs.Kinds.Kind.{Key, Class}
use Rattle.reg_records.specs.KeyNodes.{KeyRecord, key_at, IsPlainKey}
use Rattle.reg_records.specs.BigData.{if_any}
use Rattle.reg_shape.specs.Nodes.{Node, members_at, index_at, node_of, node_in, met_of, look}
use Rattle.reg_shape.specs.Internal.Shapes.{index_cells, cells_of, IsSeen}
use Rattle.reg_shape.specs.Internal.Exchanges.{IsExchanged}
use Rattle.reg_shape.proofs.Walking.WalkRefinement.{IsLooked}
use Rattle.reg_shape.proofs.Walking.InnerReadings.{class-inner, members-inner}
use Rattle.reg_shape.proofs.Frame.ReadingFrame.{pieces-local, members-local}
use Rattle.reg_shape.proofs.Frame.KeyFrame.{Keeps, agree-inner, index-local}
use Rattle.reg_shape.proofs.Frame.WrittenFrame.{same-held, list-kept}
use Rattle.reg_shape.proofs.Wholeness.ShapeRecords.{at-most-one, allocated-is}
use Rattle.reg_values.specs.ValueLists.{Became}
use Rattle.reg_tree.specs.Internal.KeyNodeChanges.{Notes, noted}
use Rattle.reg_tree.proofs.Invariant.OwnCells.{own-parts, shared-parts, inner-unshared, key-here}
use Rattle.reg_tree.proofs.Invariant.CellReadings.{is_some_of, key-exists, key-moved, look-key}

-- ---- a key's values changed: `h` before, `i` when the values had changed, `j` when that was noted in the key node

module _ (h i : Heap) (offset : ℕ) (node : Node) (exact : (z : ℕ) → owned z (cells_of node) ≤ allocated h z) (count list : ℕ) (members : List Member)
    (l : IsLooked h offset node) (became : Became h i l.value_cells count list members) where
  pub old-cells : (z : ℕ) → owned z (cells_of node) ≡ is_own z (record { kind = Key; offset = offset }) + ((owned z l.class_cells + owned z l.value_cells) + owned z (index_cells node.index))
  old-cells z = ap (λ (found : List Found). owned z (found ++ index_cells node.index)) l.cells ∙ own-parts z offset node.key l.class_cells l.value_cells node.index

  -- a cell of the key's that is no value's is among those that didn't come
  pub apart : (z : ℕ) → 0 < (is_own z (record { kind = Key; offset = offset }) + (owned z l.class_cells + owned z (index_cells node.index))) → (owned z l.value_cells ≡ 0) × (owned z became.cells ≡ 0)
  apart z some =
      let o = old-cells z in
      let e = exact z in
      let m = at-most-one h z in
      let c = became.frame.count z in
      let n = at-most-one i z in
      (omega (arith, some, o, e, m), omega (arith, some, o, e, m, c, n))

  -- it holds what it held when the values had changed
  pub calm : (z : ℕ) → 0 < (is_own z (record { kind = Key; offset = offset }) + (owned z l.class_cells + owned z (index_cells node.index))) → i z ≡ h z
  calm z some = let a = apart z some in became.frame.same z a.0 a.1

  pub offset-calm : i offset ≡ h offset
  offset-calm = calm offset (let one = key-here offset offset refl in omega (arith, one))

  pub key-then : key_at i offset ≡ Some node.key
  key-then = key-moved h i offset offset-calm ∙ look-key h offset node l

module _ (h i j : Heap) (root offset : ℕ) (node : Node) (seen : IsSeen h root offset node) (exact : (z : ℕ) → owned z (cells_of node) ≤ allocated h z)
    (count list name size moment : ℕ) (members : List Member) (l : IsLooked h offset node) (became : Became h i l.value_cells count list members)
    (notes : Notes i j offset (noted count list name size moment))
    (longest : AllByRecursion (λ (m : Member). 2 * length m.name ≤ max node.key.fields.largest_value_name (2 * name)) members)
    (largest : AllByRecursion (λ (m : Member). length m.bytes ≤ max node.key.fields.largest_value_data size) members) where
  abbrev new_key : KeyRecord
  new_key = noted count list name size moment node.key

  -- the key as it is after the change
  abbrev pub changed_node : Node
  changed_node = record { key = new_key; class = node.class; values = members; cells = met_of offset new_key l.class_cells became.cells; index = node.index }

  new-cells : (z : ℕ) → owned z (cells_of changed_node) ≡ is_own z (record { kind = Key; offset = offset }) + ((owned z l.class_cells + owned z became.cells) + owned z (index_cells node.index))
  new-cells z = own-parts z offset new_key l.class_cells became.cells node.index

  no-value : (z : ℕ) → 0 < owned z became.cells → z ≢ offset
  no-value z some e =
      let one = key-here z offset e in
      let a = apart h i offset node exact count list members l became z (omega (arith, one)) in
      omega (arith, some, a.1)

  not-offset : (z : ℕ) → is_own z (record { kind = Key; offset = offset }) ≡ 0 → z ≢ offset
  not-offset z none e = let one = key-here z offset e in omega (arith, one, none)

  -- and after the note, where it isn't the key node
  class-calm : Keeps h j l.class_cells
  class-calm z some = notes.others z (λ e. (let one = key-here z offset e in let o = old-cells h i offset node exact count list members l became z in
      let x = exact z in let m = at-most-one h z in absurd (omega (arith, one, o, x, m, some)))) ∙
      calm h i offset node exact count list members l became z (omega (arith, some))

  index-calm : Keeps h j (index_cells node.index)
  index-calm z some = notes.others z (λ e. (let one = key-here z offset e in let o = old-cells h i offset node exact count list members l became z in
      let x = exact z in let m = at-most-one h z in absurd (omega (arith, one, o, x, m, some)))) ∙
      calm h i offset node exact count list members l became z (omega (arith, some))

  values-calm : Keeps i j became.cells
  values-calm z some = notes.others z (no-value z some)

  pub key-now : key_at j offset ≡ Some new_key
  key-now = notes.reads node.key (key-then h i offset node exact count list members l became)

  -- ---- the cells

  allocated-calm : (z : ℕ) → (z ≡ offset) ⊎ (z ≢ offset) → allocated j z ≡ allocated i z
  allocated-calm z (inl e) =
      subst (λ x. allocated j x ≡ allocated i x) (sym e)
      (allocated-is j offset (key-exists j offset (is_some_of _ _ key-now)) ∙
      sym (allocated-is i offset (key-exists i offset (is_some_of _ _ (key-then h i offset node exact count list members l became)))))
  allocated-calm z (inr n) = ap (λ (c : Option (List ℕ)). cond (is_some c) 1 0) (notes.others z n)

  pub exchanges : CellFrame h j (λ z. owned z (cells_of node)) (λ z. owned z (cells_of changed_node))
  exchanges = record {
    count = λ z. (let a = allocated-calm z (cases_eq z offset) in let c = became.frame.count z in
        let o = old-cells h i offset node exact count list members l became z in let n = new-cells z in omega (arith, a, c, o, n));
    same = λ z gone came.
        let o = old-cells h i offset node exact count list members l became z in
        let n = new-cells z in
        notes.others z (not-offset z (omega (arith, o, gone))) ∙ became.frame.same z (omega (arith, o, gone)) (omega (arith, n, came));
  }

  -- ---- the reading

  pub looks : look j offset ≡ Some changed_node
  unfolding look
  looks =
      let key = node.key in
      let class = pieces-local (if_any Class key.fields.class_length key.fields.class) h j (node.class, l.class_cells) l.class_is
      (agree-inner h j l.class_cells (class-inner h key.fields.class_length key.fields.class (node.class, l.class_cells) l.class_is) class-calm) in
      let values = members-local count list i j (members, became.cells) became.reads (agree-inner i j became.cells (members-inner i count list (members, became.cells) became.reads) values-calm) in
      let index = index-local h j key.fields.subkeys key.fields.subkeys_list node.index l.index_is index-calm in
      ap (option_and_then (node_in j offset)) key-now
      ∙ (ap (option_and_then (λ class. option_and_then (λ values. option_map (node_of offset new_key class values)
      (index_at j key.fields.subkeys key.fields.subkeys_list)) (members_at count list j))) class
      ∙ (ap (option_and_then (λ values. option_map (node_of offset new_key (node.class, l.class_cells) values) (index_at j key.fields.subkeys key.fields.subkeys_list))) values
      ∙ ap (option_map (node_of offset new_key (node.class, l.class_cells) (members, became.cells))) index))

  pub sees : IsSeen j root offset changed_node
  sees =
      let w = seen.written in record {
        reads = looks;
        written = record {
          plain = notes.plain (subst IsPlainKey (sym (same-held h i offset (offset-calm h i offset node exact count list members l became))) w.plain);
          flags = w.flags;
          name = w.name;
          parent = w.parent;
          class = w.class;
          values = record {
            list = list-kept i j count list members became.cells became.reads
                (agree-inner i j became.cells (members-inner i count list (members, became.cells) became.reads) values-calm) became.written;
            longest_name = longest;
            largest = largest;
          };
          subkeys = w.subkeys;
          few = w.few;
          none = w.none;
          upper = w.upper;
          index = w.index;
        };
      }

  unshared : (z : ℕ) → shared z (cells_of changed_node) ≡ shared z (cells_of node)
  unshared z =
      let key = node.key in
      let a = ap (λ (found : List Found). shared z (found ++ index_cells node.index)) l.cells ∙ shared-parts z offset key l.class_cells l.value_cells node.index in
      let b = shared-parts z offset new_key l.class_cells became.cells node.index in
      let v = inner-unshared z l.value_cells (members-inner h key.fields.values key.fields.values_list (node.values, l.value_cells) l.values_are) in
      let w = inner-unshared z became.cells (members-inner i count list (members, became.cells) became.reads) in
      omega (arith, a, b, v, w)

  pub exchanged_key : IsExchanged h j root offset node changed_node
  exchanged_key = record {
    frame = exchanges;
    seen = sees;
    alike = record { name = refl; parent = refl; class_length = refl };
    fits = λ below f. record { offsets = f.offsets; hashes = f.hashes; order = f.order; parents = f.parents; longest_name = f.longest_name; longest_class = f.longest_class };
    security = unshared;
  }
