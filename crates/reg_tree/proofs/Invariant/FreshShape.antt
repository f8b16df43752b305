-- A new hive's two cells are a whole hive's.
use Rattle.std.proofs.Common.{◌≡◌, ◌≢◌, ℕ, Bool, true, false, cond, eqb, Option, Some, None, List, [], ◌∷◌, ◌≤◌, length, refl, sym, ap, ◌∙◌, subst, arith, bit_and, not, is_some, ◌==◌, ◌+◌, ◌-◌, replicate}
use Rattle.std.proofs.lemmas.List.{length-replicate}
use Rattle.std.specs.Prelude.{unwrap_or}
use Rattle.std.specs.List.{AllByRecursion}
use Rattle.std.specs.Option.{option_map, option_and_then}
use Rattle.std.proofs.lemmas.Bool.{eqb-true, eqb-false}
use Rattle.reg_names.specs.Names.{is_key_name}
use Rattle.reg_heap.specs.declared.limits.TheConstants.{NONE}
use Rattle.reg_heap.specs.Heaps.{Heap, allocated}
use Rattle.reg_heap.specs.Kinds.{times}
use Rattle.reg_heap.specs.Kinds.Kind.{Class}
use Rattle.reg_shape.specs.Internal.Forests.{Branch, total_of}
use Rattle.reg_shape.specs.Internal.Forests.Forest.{End}
use Rattle.reg_arena.specs.Arena.{Bins, heap_of}
use Rattle.reg_arena.specs.Cells.{cells_of, cell_at}
use Rattle.reg_records.specs.declared.nk.KeyFields.{KeyFields}
use Rattle.reg_records.specs.RecordCells.{held, HasRoom, WritesCell, WritesRecord}
use Rattle.reg_records.specs.KeyNodes.{KeyRecord, key_at, nk_bytes, IsPlainKey}
use Rattle.reg_records.specs.KeySecurities.{KeySecurityRecord}
use Rattle.reg_records.specs.OffsetRows.{offsets_at}
use Rattle.reg_records.specs.BigData.{if_any}
use Rattle.reg_shape.specs.Nodes.{Node, members_at, index_at, node_in, node_of, met_of, look, letters, pieces_at}
use Rattle.reg_shape.specs.Nodes.Index.{Unlisted}
use Rattle.reg_shape.specs.Written.{AreWrittenValues, IsWrittenValue}
use Rattle.reg_shape.specs.Whole.{IsRing, count_at}
use Rattle.reg_shape.specs.Spelt.{rec_of, name_of, marks_of}
use Rattle.reg_shape.specs.Internal.Shapes.{shares, IsSeen, descriptor_in, IsWholeShape}
use Rattle.reg_shape.proofs.Wholeness.FewerNumbers.{same-number}
use Rattle.reg_shape.proofs.Wholeness.ShapeRecords.{allocated-is}
use Rattle.reg_security.specs.Rings.{DescriptorCells, Finds, IsAdded}
use Rattle.reg_tree.specs.TreeKeys.{made_root}
use Rattle.reg_tree.specs.Internal.FreshCells.{AreCarved, IsOnlySecurity, IsFreshRoot}
use Rattle.reg_tree.proofs.Invariant.CellReadings.{is_some_of}
use Rattle.reg_tree.proofs.Invariant.FirstSecurity.{first-security, first-found}

-- ---- the root as it is read

abbrev pub node_with : ℕ → KeyRecord → Node
node_with root key = record { key = key; class = []; values = []; cells = met_of root key [] []; index = Unlisted }

root-look : (h : Heap) (root : ℕ) (r : IsFreshRoot h root) → look h root ≡ Some (node_with root r.key)
unfolding look
root-look h root r =
    ap (option_and_then (node_in h root)) r.key_is
    ∙ (ap (λ n. option_and_then (λ class. option_and_then (λ values. option_map (node_of root r.key class values)
    (index_at h r.key.fields.subkeys r.key.fields.subkeys_list)) (members_at r.key.fields.values r.key.fields.values_list h))
    (pieces_at (if_any Class n r.key.fields.class) h)) r.fields.class_length
    ∙ (ap (λ n. option_and_then (λ values. option_map (node_of root r.key ([], []) values)
    (index_at h r.key.fields.subkeys r.key.fields.subkeys_list)) (members_at n r.key.fields.values_list h)) r.fields.values
    ∙ ap (λ n. option_map (node_of root r.key ([], []) ([], [])) (index_at h n r.key.fields.subkeys_list)) r.fields.subkeys))

written-none : (h : Heap) (root : ℕ) (r : IsFreshRoot h root) → AreWrittenValues h (node_with root r.key)
unfolding offsets_at
written-none h root r = record {
  list = record {
    few = omega (arith, r.fields.values);
    none = λ _. r.fields.values_list;
    each = subst (λ n. AllByRecursion (IsWrittenValue h) (offsets_at n 0 (held h r.key.fields.values_list))) (sym r.fields.values) tt;
    names = tt;
    apart = tt;
    sizes = tt;
  };
  longest_name = tt;
  largest = tt;
}

root-seen : (h : Heap) (root : ℕ) (r : IsFreshRoot h root) → IsSeen h root root (node_with root r.key)
root-seen h root r = record {
  reads = root-look h root r;
  written = record {
    plain = r.plain;
    flags = ap (λ f. bit_and f 103) r.fields.flags ∙ ap (λ b. cond b 36 32) (sym (same-number root));
    name = r.name;
    parent = λ _. r.fields.parent;
    class = λ _. r.fields.class;
    values = written-none h root r;
    subkeys = r.fields.subkeys;
    few = omega (arith, r.fields.subkeys);
    none = λ _. r.fields.subkeys_list;
    upper = omega (arith, r.fields.largest);
    index = tt;
  };
}

-- ---- the ring

only-ring : (h : Heap) (at : ℕ) (security : KeySecurityRecord) → IsOnlySecurity h at security → IsRing h (at ∷ [])
only-ring h at security o = record {
  circles = record {
    forward = ap (option_map (λ (s : KeySecurityRecord). s.fields.flink)) o.security_is ∙ ap Some o.flink;
    back = ap (option_map (λ (s : KeySecurityRecord). s.fields.blink)) o.security_is ∙ ap Some o.blink;
  };
  apart = (tt, tt);
  written = (record { security = security; reads = o.security_is; plain = o.plain; some = o.some; short = o.short }, tt);
}

only-count : (h : Heap) (at : ℕ) (security : KeySecurityRecord) → IsOnlySecurity h at security → count_at h at ≡ Some 1
only-count h at security o = ap (option_map (λ (s : KeySecurityRecord). s.fields.count)) o.security_is ∙ ap Some o.count

-- ---- the shape

abbrev pub branch : ℕ → Node → Branch Node
branch root node = record { offset = root; node = node; below = End }

shares-all : (h : Heap) (root : ℕ) (r : IsFreshRoot h root) (z : ℕ) → total_of (shares z) (branch root (node_with root r.key)) ≡ times z (r.key.fields.security ∷ [])
shares-all h root r z = omega arith

pub fresh-shape : (h : Heap) (root : ℕ) (r : IsFreshRoot h root) → IsWholeShape h root (branch root (node_with root r.key)) (r.key.fields.security ∷ [])
fresh-shape h root r = record {
  offset = refl;
  stands = (root-seen h root r, record { offsets = refl; hashes = refl; order = tt; parents = tt; longest_name = tt; longest_class = tt }, tt);
  exact = λ z. (let x = r.exact z in omega (arith, x));
  closed = only-ring h r.key.fields.security r.security r.only;
  ringed = λ z. ((λ l. (let s = shares-all h root r z in omega (arith, s, l))), λ l. (let s = shares-all h root r z in omega (arith, s, l)));
  counts = (
    only-count h r.key.fields.security r.security r.only ∙
        ap Some (sym (shares-all h root r r.key.fields.security ∙
        (let one : ◌≡◌ {A = ℕ} (cond (eqb r.key.fields.security r.key.fields.security) 1 0) 1 =
        ap (λ b. cond b 1 0) (same-number r.key.fields.security) in omega (arith, one)))),
    tt,
  );
  shallow = omega arith;
}

-- the record that the root spells
pub fresh-rec : (h : Heap) (root : ℕ) (r : IsFreshRoot h root) → rec_of (node_with root r.key) (descriptor_in h r.key.fields.security) ≡ made_root r.key.name r.security.descriptor r.key.fields.time
fresh-rec h root r =
    let name : name_of r.key ≡ r.key.name = ap (λ f. letters (not (bit_and f 32 == 0)) r.key.name) r.fields.flags in
    let described : descriptor_in h r.key.fields.security ≡ r.security.descriptor =
    ap (λ (o : Option KeySecurityRecord). unwrap_or (option_map (λ (s : KeySecurityRecord). s.descriptor) o) []) r.only.security_is in
    let marks : marks_of r.key.fields.flags ≡ 8 = ap marks_of r.fields.flags in
    λ i. record { name = name i; marks = marks i; class = []; descriptor = described i; time = r.key.fields.time; values = [] }

-- ---- the two cells

held-none : (h : Heap) (o : ℕ) → h o ≡ None → ◌≡◌ {A = ℕ} (allocated h o) 0
held-none h o e = ap (λ (c : Option (List ℕ)). cond (is_some c) 1 0) e

-- two cells are all
two-alone : (m : Heap) (root at : ℕ) → root ≢ at → allocated m root ≡ 1 → allocated m at ≡ 1 →
    ((o : ℕ) → o ≢ root → o ≢ at → allocated m o ≡ 0) → (z : ℕ) → times z (root ∷ at ∷ []) ≡ allocated m z
two-alone m root at apart sr sa others z = by (eqb root z) refl (eqb at z) refl
  where
    by : (s : Bool) → eqb root z ≡ s → (t : Bool) → eqb at z ≡ t → times z (root ∷ at ∷ []) ≡ allocated m z
    by true e true f = absurd (apart (eqb-true root z e ∙ sym (eqb-true at z f)))
    by true e false f =
        let b : allocated m z ≡ 1 = ap (allocated m) (sym (eqb-true root z e)) ∙ sr in
        let one : ◌≡◌ {A = ℕ} (cond (eqb root z) 1 0) 1 = ap (λ t. cond t 1 0) e in
        let none : ◌≡◌ {A = ℕ} (cond (eqb at z) 1 0) 0 = ap (λ t. cond t 1 0) f in
        omega (arith, b, one, none)
    by false e true f =
        let b : allocated m z ≡ 1 = ap (allocated m) (sym (eqb-true at z f)) ∙ sa in
        let one : ◌≡◌ {A = ℕ} (cond (eqb at z) 1 0) 1 = ap (λ t. cond t 1 0) f in
        let none : ◌≡◌ {A = ℕ} (cond (eqb root z) 1 0) 0 = ap (λ t. cond t 1 0) e in
        omega (arith, b, one, none)
    by false e false f =
        let o = others z (λ s. eqb-false root z e (sym s)) (λ s. eqb-false at z f (sym s)) in
        let a : ◌≡◌ {A = ℕ} (cond (eqb root z) 1 0) 0 = ap (λ t. cond t 1 0) e in
        let b : ◌≡◌ {A = ℕ} (cond (eqb at z) 1 0) 0 = ap (λ t. cond t 1 0) f in
        omega (arith, o, a, b)

-- bytes without bins have no cells
no-cells : (bytes : List ℕ) → bytes ≡ [] → (z : ℕ) → cell_at bytes z ≡ None
unfolding cell_at cells_of
no-cells bytes e z = ap (λ bs. cell_at bs z) e

-- the fixed part of a new root's key node
abbrev new_fields : ℕ → ℕ → KeyFields
new_fields security moment = record {
  flags = 44;
  time = moment;
  parent = NONE;
  subkeys = 0;
  subkeys_list = NONE;
  values = 0;
  values_list = NONE;
  security = security;
  class = NONE;
  class_length = 0;
  largest_subkey_name = 0;
  largest_subkey_class = 0;
  largest_value_name = 0;
  largest_value_data = 0;
}

pub record IsMade (h : Heap) (root : ℕ) (table : DescriptorCells) (name descriptor : List ℕ) (moment : ℕ) : Type 0 where
  pub root_is : IsFreshRoot h root
  pub name_is : root_is.key.name ≡ name
  pub described : root_is.security.descriptor ≡ descriptor
  pub time : root_is.key.fields.time ≡ moment
  pub finds : Finds table h (root_is.key.fields.security ∷ [])

-- a new root's two cells
pub made : {table : DescriptorCells} (e b i k : Bins) (root security node_size ring_size n m : ℕ) (fields : KeyFields) (ring name descriptor : List ℕ)
    (moment : ℕ) → fields ≡ new_fields security moment → is_key_name name ≡ true → e.bytes ≡ [] → AreCarved e b root security node_size ring_size
    → WritesRecord b i security n ring → (added : (a : IsAdded (heap_of b) (heap_of i) [] security descriptor) × Finds table (heap_of i) a.after)
    → WritesRecord i k root m (nk_bytes fields name) → IsPlainKey (held (heap_of k) root) →
    key_at (heap_of k) root ≡ Some (record { fields = fields; name = name }) → IsMade (heap_of k) root table name descriptor moment
made {table} e b i k root security node_size ring_size n m fields ring name descriptor moment is valid none carved sk_written added nk_written nk_plain keyed =
    let key : KeyRecord = record { fields = new_fields security moment; name = name } in
    let off : security ≢ root = λ e. carved.apart (sym e) in
    let key_now : key_at (heap_of k) root ≡ Some key = keyed ∙ ap (λ (f : KeyFields). Some (let r : KeyRecord = record { fields = f; name = name } in r)) is in
    let at_now : heap_of k security ≡ heap_of i security = nk_written.others security off in
    let first = first-security (heap_of b) (heap_of i) (heap_of k) security descriptor added.0 at_now in
    record {
      root_is = record {
        key = key;
        security = first.security;
        key_is = key_now;
        plain = nk_plain;
        name = valid;
        fields = record { flags = refl; parent = refl; subkeys = refl; subkeys_list = refl; class = refl; class_length = refl; values = refl; values_list = refl; largest = refl };
        only = first.only;
        exact = two-alone (heap_of k) root security carved.apart
            (allocated-is (heap_of k) root (is_some_of _ _ nk_written.here))
            (allocated-is (heap_of k) security (is_some_of _ _ (at_now ∙ sk_written.here)))
            (λ o r s. held-none (heap_of k) o (nk_written.others o r ∙ (sk_written.others o s ∙ (carved.others o r s ∙ no-cells e.bytes none o))));
      };
      name_is = refl;
      described = first.described;
      time = refl;
      finds = first-found (heap_of b) (heap_of i) (heap_of k) security descriptor added.0 at_now table added.1;
    }

-- the root's cell has room for its key node, when the security's is written
pub root_room : (e b i : Bins) (root security node_size ring_size n : ℕ) (ring : List ℕ) → AreCarved e b root security node_size ring_size →
    WritesCell b i security ring → n + 4 ≤ node_size → HasRoom (heap_of i) root n
root_room e b i root security node_size ring_size n ring carved written enough =
    let at : heap_of i root ≡ Some (replicate (node_size - 4) 0) = written.others root carved.apart ∙ carved.first_is in
    let long : length (held (heap_of i) root) ≡ node_size - 4 =
    ap (λ (o : Option (List ℕ)). length (unwrap_or o [])) at ∙ length-replicate (node_size - 4) 0 in
    record { exists = ap is_some at; enough = omega (arith, long, enough) }
