-- The largest length of a subkey's class written over in a key node.
use Rattle.std.proofs.Common.{◌≡◌, ◌≢◌, ℕ, ◌+◌, ◌^◌, ◌<◌, ◌≤◌, ◌==◌, Some, IsSome, List, [], length, lit≤, if◌then◌else◌, Bool, true, false, refl, sym, ap, ◌∙◌, subst, arith}
use Rattle.std.specs.Prelude.{Ok}
use Rattle.std.proofs.lemmas.Bool.{eqb-true}
use Rattle.byteorder.specs.Endian.{little_bytes, little_number}
use Rattle.byteorder.specs.Numbers.{little_number-reads_back}
use Rattle.reg_heap.specs.ByteWords.{half, word, long, splice}
use Rattle.reg_heap.specs.Heaps.{Heap}
use Rattle.reg_records.specs.declared.nk.KeyFields.{KeyFields}
use Rattle.reg_records.specs.RecordCells.{held}
use Rattle.reg_records.specs.KeyNodes.{KeyRecord, nk_fields_of, nk_of, key_at, IsPlainKey}
use Rattle.reg_records.proofs.KeyNodeCodec.{nk-open, fits, nk-spliced, key-room, key_at-open, key_at-made}
use Rattle.reg_records.proofs.SplicedNumbers.{number-below, number-above, drop-within}
use Rattle.reg_shape.proofs.Wholeness.FewerNumbers.{same-number}
use Rattle.reg_tree.specs.Internal.KeyNodeChanges.{Notes}
use Rattle.reg_tree.proofs.Invariant.CellReadings.{held-is}

-- another largest length of a subkey's class
pub nk-classed : (largest : ℕ) → largest < 2 ^ 32 → (content : List ℕ) (r : KeyRecord) → nk_of content ≡ Ok r
    → nk_of (splice 56 (little_bytes 4 largest) content) ≡ Ok (record r { fields = record r.fields { largest_subkey_class = largest } })
unfolding half word long
nk-classed largest fit0 content r is =
    let piece : List ℕ = little_bytes 4 largest in
    let f : 56 + length piece ≤ length content = fits 56 piece content r (lit≤ tt) (lit≤ tt) is in
    let old : r.fields ≡ nk_fields_of content = ap (λ (k : KeyRecord). k.fields) (nk-open content r is).same in
    let new : List ℕ = splice 56 piece content in
    let to_largest_subkey_class : word new 56 ≡ largest = ap (little_number 4) (drop-within 56 piece content f 0 (lit≤ tt)) ∙ little_number-reads_back 4 largest [] fit0 in
    let to_flags : half new 2 ≡ r.fields.flags = number-below 56 piece content f 2 2 (lit≤ tt) ∙ sym (ap (λ (k : KeyFields). k.flags) old) in
    let to_time : long new 4 ≡ r.fields.time = number-below 56 piece content f 8 4 (lit≤ tt) ∙ sym (ap (λ (k : KeyFields). k.time) old) in
    let to_parent : word new 16 ≡ r.fields.parent = number-below 56 piece content f 4 16 (lit≤ tt) ∙ sym (ap (λ (k : KeyFields). k.parent) old) in
    let to_subkeys : word new 20 ≡ r.fields.subkeys = number-below 56 piece content f 4 20 (lit≤ tt) ∙ sym (ap (λ (k : KeyFields). k.subkeys) old) in
    let to_subkeys_list : word new 28 ≡ r.fields.subkeys_list = number-below 56 piece content f 4 28 (lit≤ tt) ∙ sym (ap (λ (k : KeyFields). k.subkeys_list) old) in
    let to_values : word new 36 ≡ r.fields.values = number-below 56 piece content f 4 36 (lit≤ tt) ∙ sym (ap (λ (k : KeyFields). k.values) old) in
    let to_values_list : word new 40 ≡ r.fields.values_list = number-below 56 piece content f 4 40 (lit≤ tt) ∙ sym (ap (λ (k : KeyFields). k.values_list) old) in
    let to_security : word new 44 ≡ r.fields.security = number-below 56 piece content f 4 44 (lit≤ tt) ∙ sym (ap (λ (k : KeyFields). k.security) old) in
    let to_class : word new 48 ≡ r.fields.class = number-below 56 piece content f 4 48 (lit≤ tt) ∙ sym (ap (λ (k : KeyFields). k.class) old) in
    let to_class_length : half new 74 ≡ r.fields.class_length = number-above 56 piece content f 2 74 (lit≤ tt) ∙ sym (ap (λ (k : KeyFields). k.class_length) old) in
    let to_largest_subkey_name : word new 52 ≡ r.fields.largest_subkey_name = number-below 56 piece content f 4 52 (lit≤ tt) ∙ sym (ap (λ (k : KeyFields). k.largest_subkey_name) old) in
    let to_largest_value_name : word new 60 ≡ r.fields.largest_value_name = number-above 56 piece content f 4 60 (lit≤ tt) ∙ sym (ap (λ (k : KeyFields). k.largest_value_name) old) in
    let to_largest_value_data : word new 64 ≡ r.fields.largest_value_data = number-above 56 piece content f 4 64 (lit≤ tt) ∙ sym (ap (λ (k : KeyFields). k.largest_value_data) old) in
    nk-spliced 56 piece content r (lit≤ tt) (lit≤ tt) is (record r.fields { largest_subkey_class = largest })
    (λ i. record {
      flags = to_flags i;
      time = to_time i;
      parent = to_parent i;
      subkeys = to_subkeys i;
      subkeys_list = to_subkeys_list i;
      values =
          to_values i;
      values_list = to_values_list i;
      security = to_security i;
      class = to_class i;
      class_length = to_class_length i;
      largest_subkey_name = to_largest_subkey_name i;
      largest_subkey_class = to_largest_subkey_class i;
      largest_value_name = to_largest_value_name i;
      largest_value_data = to_largest_value_data i;
    })

-- what a key node holds beside what is read of it stays
plain-classed : (largest : ℕ) (xs : List ℕ) → 76 ≤ length xs → IsPlainKey xs → IsPlainKey (splice 56 (little_bytes 4 largest) xs)
unfolding word
plain-classed largest xs long k =
    let piece : List ℕ = little_bytes 4 largest in
    let f : 56 + length piece ≤ length xs = omega (arith, long) in
    record {
      access = number-below 56 piece xs f 4 12 (lit≤ tt) ∙ k.access;
      volatile_subkeys = number-below 56 piece xs f 4 24 (lit≤ tt) ∙ k.volatile_subkeys;
      volatile_list = number-below 56 piece xs f 4 32 (lit≤ tt) ∙ k.volatile_list;
      work = number-above 56 piece xs f 4 68 (lit≤ tt) ∙ k.work;
    }

-- it was written into a key node's cell
module _ (h k : Heap) (cell largest : ℕ) (small : largest < 2 ^ 32) (there : IsSome (key_at h cell))
    (written : (z : ℕ) → k z ≡ (if z == cell then Some (splice 56 (little_bytes 4 largest) (held h cell)) else h z)) where
  pub room-classed : 60 ≤ length (held h cell)
  room-classed = (key-room h cell 60 (lit≤ tt) there).enough

  here : k cell ≡ Some (splice 56 (little_bytes 4 largest) (held h cell))
  here = written cell ∙ ap (λ b. if b then Some (splice 56 (little_bytes 4 largest) (held h cell)) else h cell) (same-number cell)

  pub classed : Notes h k cell (λ r. record r { fields = record r.fields { largest_subkey_class = largest } })
  classed = record {
    reads = λ r e. (
        let o = key_at-open h cell r e in
        key_at-made k cell (splice 56 (little_bytes 4 largest) (held h cell)) _ here
        (nk-classed largest small (held h cell) r (ap nk_of (held-is h cell o.0 o.1) ∙ o.2)));
    plain = λ p. subst IsPlainKey (sym (held-is k cell _ here))
        (plain-classed largest (held h cell) (key-room h cell 76 (lit≤ tt) there).enough p);
    others = λ z n. written z ∙ other z n (z == cell) refl;
  }
    where
      other : (z : ℕ) → z ≢ cell → (b : Bool) → (z == cell) ≡ b →
          (if b then Some (splice 56 (little_bytes 4 largest) (held h cell)) else h z) ≡ h z
      other z n true e = absurd (n (eqb-true z cell e))
      other z n false e = refl
