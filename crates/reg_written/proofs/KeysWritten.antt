-- A key that passes the tests is as this project writes it, and one that is passes.
use Rattle.std.proofs.Common.{◌≡◌, ℕ, zero, suc, ◌*◌, ◌<◌, ◌≤◌, ◌==◌, ◌||◌, not, nat_le, Bool, true, false, cond, Option, Some, Ok, Err, List, [], ◌∷◌, map, length, unwrap_or, refl, sym, ap, ◌∙◌, subst}
use Rattle.std.specs.Prelude.{bit_and, ◌↔◌}
use Rattle.std.specs.List.{AllByRecursion}
use Rattle.std.specs.Option.{option_map, option_and_then}
use Rattle.std.specs.Result.{result_ok}
use Rattle.std.proofs.lemmas.Bool.{eqb-true, eq-eqb, leb-true, le-leb, ltb-true, lt-ltb, false≢true}
use Rattle.std.proofs.lemmas.Option.{none-some, same_Some}
use Rattle.reg_names.specs.Names.{is_key_name}
use Rattle.reg_heap.specs.declared.limits.TheConstants.{NONE, SUBKEYS_LIMIT}
use Rattle.reg_heap.specs.ByteWords.{word}
use Rattle.reg_heap.specs.Heaps.{Heap}
use Rattle.reg_heap.specs.Kinds.{Found}
use Rattle.reg_heap.specs.Kinds.Kind.{ValueList}
use Rattle.reg_heap.specs.Paths.{Member}
use Rattle.reg_records.specs.declared.RecordFault.{RecordFault}
use Rattle.reg_records.specs.declared.nk.KeyFields.{KeyFields}
use Rattle.reg_records.specs.RecordCells.{held}
use Rattle.reg_records.specs.KeyNodes.{KeyRecord, IsPlainKey, nk_of, key_at}
use Rattle.reg_records.specs.OffsetRows.{offsets_at}
use Rattle.reg_records.specs.SubkeyLists.{Entry, offsets_in}
use Rattle.reg_shape.specs.Readings.{each}
use Rattle.reg_shape.specs.Nodes.{Node, row_at, member_at, members_at, entries_of, look}
use Rattle.reg_shape.specs.Written.{AreWrittenValues, IsWrittenKey, Fits}
use Rattle.reg_shape.specs.Whole.{IsWritten}
use Rattle.reg_shape.proofs.Walking.ReadingParts.{bind-open}
use Rattle.reg_shape.proofs.Walking.ReadingWalks.{row-open}
use Rattle.reg_shape.proofs.Walking.WalkRefinement.{look-open}
use Rattle.reg_shape.proofs.Frame.WrittenFrame.{row-is}
use Rattle.reg_values.proofs.ValueListing.FoundValues.{held-is}
use Rattle.reg_written.specs.ReadKeys.{IsNamed, IsRead, security_in}
use Rattle.reg_written.specs.Internal.KeyTests.{is_plain_node, has_flags, has_no_offset, has_fit_offsets, is_node, has_values, is_key}
use Rattle.reg_written.proofs.CellsRead.{both, and-made}
use Rattle.reg_written.proofs.ValuesWritten.{FitsKey, values-open, values-made}
use Rattle.reg_written.proofs.SubkeysInOrder.{AreBelow}
use Rattle.reg_written.proofs.SubkeysWritten.{AreWritten, subkeys-open, subkeys-made}

-- ---- the key node

-- what a key node's own tests say
record IsNode (is_root : Bool) (content : List ℕ) (key : KeyRecord) : Type 0 where
  plain : IsPlainKey content
  flags : bit_and key.fields.flags 103 ≡ cond is_root 36 32
  parent : is_root ≡ true → key.fields.parent ≡ NONE
  name : is_key_name key.name ≡ true
  class : key.fields.class_length ≡ 0 → key.fields.class ≡ NONE
  values : key.fields.values ≡ 0 → key.fields.values_list ≡ NONE
  subkeys : key.fields.subkeys ≡ 0 → key.fields.subkeys_list ≡ NONE
  few : key.fields.subkeys ≤ SUBKEYS_LIMIT
  upper : key.fields.largest_subkey_name < 65536

implies : (a b : Bool) → (not a || b) ≡ true → a ≡ true → b ≡ true
implies true b e f = e
implies false b e f = absurd (false≢true f)

implied : (a b : Bool) → (a ≡ true → b ≡ true) → (not a || b) ≡ true
implied true b f = f refl
implied false b f = refl

offset-open : (count offset : ℕ) → has_no_offset count offset ≡ true → count ≡ 0 → offset ≡ NONE
offset-open count offset e z = eqb-true offset NONE (implies (count == 0) (offset == NONE) e (eq-eqb count 0 z))

offset-made : (count offset : ℕ) → (count ≡ 0 → offset ≡ NONE) → has_no_offset count offset ≡ true
offset-made count offset f = implied (count == 0) (offset == NONE) (λ z. eq-eqb offset NONE (f (eqb-true count 0 z)))

node-open : (is_root : Bool) (content : List ℕ) (key : KeyRecord) → is_node is_root content key ≡ true → IsNode is_root content key
node-open is_root content key e =
    let a = both (is_plain_node content) _ e in
    let p = both (word content 12 == 0) _ a.0 in
    let q = both (word content 24 == 0) _ p.1 in
    let r = both (word content 32 == NONE) _ q.1 in
    let b = both (has_flags is_root key.fields) _ a.1 in
    let f = both (bit_and key.fields.flags 103 == cond is_root 36 32) _ b.0 in
    let c = both (is_key_name key.name) _ b.1 in
    let d = both (has_fit_offsets key.fields) _ c.1 in
    let o = both (has_no_offset key.fields.class_length key.fields.class) _ d.0 in
    let v = both (has_no_offset key.fields.values key.fields.values_list) _ o.1 in
    let n = both (nat_le key.fields.subkeys SUBKEYS_LIMIT) _ d.1 in
    record {
      plain = record { access = eqb-true _ _ p.0; volatile_subkeys = eqb-true _ _ q.0; volatile_list = eqb-true _ _ r.0; work = eqb-true _ _ r.1 };
      flags = eqb-true _ _ f.0;
      parent = λ t. eqb-true key.fields.parent NONE (implies is_root (key.fields.parent == NONE) f.1 t);
      name = c.0;
      class = offset-open key.fields.class_length key.fields.class o.0;
      values = offset-open key.fields.values key.fields.values_list v.0;
      subkeys = offset-open key.fields.subkeys key.fields.subkeys_list v.1;
      few = leb-true _ _ n.0;
      upper = ltb-true _ _ n.1;
    }

node-made : (is_root : Bool) (content : List ℕ) (key : KeyRecord) → IsNode is_root content key → is_node is_root content key ≡ true
node-made is_root content key n =
    and-made (is_plain_node content) _
    (and-made (word content 12 == 0) _ (eq-eqb _ _ n.plain.access) (and-made (word content 24 == 0) _ (eq-eqb _ _ n.plain.volatile_subkeys)
    (and-made (word content 32 == NONE) _ (eq-eqb _ _ n.plain.volatile_list) (eq-eqb _ _ n.plain.work))))
    (and-made (has_flags is_root key.fields) _
    (and-made (bit_and key.fields.flags 103 == cond is_root 36 32) _ (eq-eqb _ _ n.flags) (implied is_root (key.fields.parent == NONE) (λ t. eq-eqb _ _ (n.parent t))))
    (and-made (is_key_name key.name) _ n.name
    (and-made (has_fit_offsets key.fields) _
    (and-made (has_no_offset key.fields.class_length key.fields.class) _ (offset-made _ _ n.class)
    (and-made (has_no_offset key.fields.values key.fields.values_list) _ (offset-made _ _ n.values) (offset-made _ _ n.subkeys)))
    (and-made (nat_le key.fields.subkeys SUBKEYS_LIMIT) _ (le-leb _ _ n.few) (lt-ltb _ _ n.upper)))))

-- ---- its parts

module _ (heap : Heap) where
  list-each : (count list : ℕ) (members : List Member) (met : List Found) → members_at count list heap ≡ Some (members, met) →
      (zs : List Found) × (each member_at (offsets_at count 0 (held heap list)) heap ≡ Some (members, zs))
  unfolding offsets_at
  list-each zero list members met e = (met, e)
  list-each (suc n) list members met e =
      let o = bind-open (row_at ValueList (suc n) list) (λ row. each member_at row) heap (members, met) e in
      let r = row-open heap ValueList (suc n) list o.first o.before o.first_is in
      let h : held heap list ≡ r.content = held-is heap list r.content r.here in
      let row : offsets_at (suc n) 0 (held heap list) ≡ o.first = ap (offsets_at (suc n) 0) h ∙ row-is (suc n) r.content o.first r.row_is in
      (o.then.1, ap (λ (row : List ℕ). each member_at row heap) row ∙ (o.then_is ∙ ap (λ (ms : List Member). Some (ms, o.then.1)) o.result))

  key-there : (offset : ℕ) (node : Node) → look heap offset ≡ Some node → key_at heap offset ≡ Some node.key
  unfolding key_at
  key-there offset node e =
      let l = look-open heap offset node e in
      ap (option_and_then (λ (c : List ℕ). result_ok (nk_of c))) l.here ∙ l.key_is

  -- the nodes that entries name
  abbrev nodes-of : (entries : List Entry) → AllByRecursion (λ (e : Entry). IsNamed heap e.offset) entries → List (ℕ × Node)
  nodes-of [] a = []
  nodes-of (e ∷ entries) a = (e.offset, a.0.node) ∷ nodes-of entries a.1

  nodes-read : (entries : List Entry) (a : AllByRecursion (λ (e : Entry). IsNamed heap e.offset) entries) → AllByRecursion (λ (n : ℕ × Node). look heap n.0 ≡ Some n.1) (nodes-of entries a)
  nodes-read [] a = tt
  nodes-read (e ∷ entries) a = (a.0.seen, nodes-read entries a.1)

  nodes-offsets : (entries : List Entry) (a : AllByRecursion (λ (e : Entry). IsNamed heap e.offset) entries) → map (λ (n : ℕ × Node). n.0) (nodes-of entries a) ≡ offsets_in entries
  nodes-offsets [] a = refl
  nodes-offsets (e ∷ entries) a = ap (λ (os : List ℕ). e.offset ∷ os) (nodes-offsets entries a.1)

  module _ (offset : ℕ) (fields : KeyFields) where
    below-of : (entries : List Entry) (nodes : List (ℕ × Node)) → map (λ (n : ℕ × Node). n.0) nodes ≡ offsets_in entries →
        AllByRecursion (λ (n : ℕ × Node). look heap n.0 ≡ Some n.1) nodes → AreBelow heap offset fields entries nodes
    below-of [] [] e a = tt
    below-of [] (n ∷ nodes) e a = absurd (cc)
    below-of (x ∷ entries) [] e a = absurd (cc)
    below-of (x ∷ entries) (n ∷ nodes) e a =
        let h = heads n.0 _ x.offset _ e in
        (sym h.0, ap (key_at heap) (sym h.0) ∙ key-there n.0 n.1 a.0, below-of entries nodes h.1 a.1)
      where
        heads : (h : ℕ) (hs : List ℕ) (k : ℕ) (ks : List ℕ) → h ∷ hs ≡ k ∷ ks → (h ≡ k) × (hs ≡ ks)
        heads h hs k ks e = (cc, cc)

-- ---- all of it

module _ (heap : Heap) (root offset : ℕ) (r : IsRead heap offset) where
  abbrev fields : KeyFields
  fields = r.node.key.fields

  abbrev IsGood : List (ℕ × Node) → Type 0
  IsGood nodes = AreWritten heap offset fields r.node.index nodes

  -- the values' own part of the key
  values-part : IsNode (offset == root) (held heap offset) r.node.key → has_values heap fields ≡ true → AreWrittenValues heap r.node
  values-part n v =
      let l = look-open heap offset r.node r.seen in
      let e = list-each heap fields.values fields.values_list r.node.values l.value_cells l.values_are in
      let a = values-open heap fields (offsets_at fields.values 0 (held heap fields.values_list)) r.node.values e.0 e.1 v in
      record {
        list = record { few = r.few; none = n.values; each = a.0; names = r.names; apart = r.apart; sizes = r.sizes };
        longest_name = names-of r.node.values a.1;
        largest = sizes-of r.node.values a.1;
      }
    where
      names-of : (ms : List Member) → AllByRecursion (FitsKey heap fields) ms → AllByRecursion (λ (m : Member). 2 * length m.name ≤ fields.largest_value_name) ms
      names-of [] a = tt
      names-of (m ∷ ms) a = (a.0.name, names-of ms a.1)

      sizes-of : (ms : List Member) → AllByRecursion (FitsKey heap fields) ms → AllByRecursion (λ (m : Member). length m.bytes ≤ fields.largest_value_data) ms
      sizes-of [] a = tt
      sizes-of (m ∷ ms) a = (a.0.size, sizes-of ms a.1)

  pub written-open : is_key heap root offset (held heap offset) r.node.key ≡ true → IsWritten heap root offset
  written-open e =
      let a = both (is_node (offset == root) (held heap offset) r.node.key) _ e in
      let b = both (has_values heap fields) _ a.1 in
      let n = node-open (offset == root) (held heap offset) r.node.key a.0 in
      let l = look-open heap offset r.node r.seen in
      let nodes = nodes-of heap (entries_of r.node.index) r.below in
      let reads = nodes-read heap (entries_of r.node.index) r.below in
      let named = nodes-offsets heap (entries_of r.node.index) r.below in
      let s = subkeys-open heap offset fields r.node.index nodes l.index_is (below-of heap offset fields (entries_of r.node.index) nodes named reads) b.1 in
      record {
        node = r.node;
        seen = r.seen;
        written = record {
          plain = n.plain;
          flags = n.flags;
          name = n.name;
          parent = λ o. n.parent (eq-eqb offset root o);
          class = n.class;
          values = values-part n b.0;
          subkeys = s.count;
          few = n.few;
          none = n.subkeys;
          upper = n.upper;
          index = s.written;
        };
        below = nodes;
        reads = reads;
        fits = record {
          offsets = named;
          hashes = s.follow.hashes;
          order = s.follow.order;
          parents = s.follow.parents;
          longest_name = s.follow.longest_name;
          longest_class = s.follow.longest_class;
        };
      }

  values-back : AreWrittenValues heap r.node → has_values heap fields ≡ true
  values-back w =
      let l = look-open heap offset r.node r.seen in
      let e = list-each heap fields.values fields.values_list r.node.values l.value_cells l.values_are in
      values-made heap fields (offsets_at fields.values 0 (held heap fields.values_list)) r.node.values e.0 e.1 w.list.each (all-of r.node.values w.longest_name w.largest)
    where
      all-of : (ms : List Member) → AllByRecursion (λ (m : Member). 2 * length m.name ≤ fields.largest_value_name) ms →
          AllByRecursion (λ (m : Member). length m.bytes ≤ fields.largest_value_data) ms → AllByRecursion (FitsKey heap fields) ms
      all-of [] a b = tt
      all-of (m ∷ ms) a b = (record { name = a.0; size = b.0 }, all-of ms a.1 b.1)

  all-first : (nodes : List (ℕ × Node)) → AllByRecursion (λ (n : ℕ × Node). true ≡ true) nodes
  all-first [] = tt
  all-first (n ∷ nodes) = (refl, all-first nodes)

  pub written-made : IsWritten heap root offset → is_key heap root offset (held heap offset) r.node.key ≡ true
  written-made w =
      let same : w.node ≡ r.node = same_Some _ _ (sym w.seen ∙ r.seen) in
      let k = subst (λ (n : Node). IsWrittenKey heap root offset n) same w.written in
      let f = subst (λ (n : Node). Fits offset n w.below) same w.fits in
      let l = look-open heap offset r.node r.seen in
      and-made (is_node (offset == root) (held heap offset) r.node.key) _
      (node-made (offset == root) (held heap offset) r.node.key
      (record {
        plain = k.plain;
        flags = k.flags;
        parent = λ o. k.parent (eqb-true offset root o);
        name = k.name;
        class = k.class;
        values = k.values.list.none;
        subkeys = k.none;
        few = k.few;
        upper = k.upper;
      }))
      (and-made (has_values heap fields) _ (values-back k.values)
      (subkeys-made heap offset fields r.node.index w.below l.index_is
      (below-of heap offset fields (entries_of r.node.index) w.below f.offsets w.reads)
      (record {
        written = k.index;
        count = k.subkeys;
        follow = record {
          hashes = f.hashes;
          order = f.order;
          behind = all-first w.below;
          parents = f.parents;
          longest_name = f.longest_name;
          longest_class = f.longest_class;
        };
      })))

  -- what the code reads of the key node is the key's
  module _ (content : List ℕ) (key : KeyRecord) (f : (h : List ℕ) → heap offset ≡ Some h → content ≡ h) (e : nk_of content ≡ Ok key) where
    key-here : held heap offset ≡ content
    key-here = let l = look-open heap offset r.node r.seen in held-is heap offset l.content l.here ∙ sym (f l.content l.here)

    pub same-key : r.node.key ≡ key
    same-key =
        let l = look-open heap offset r.node r.seen in
        same_Some _ _ (sym l.key_is ∙ (ap (λ (c : List ℕ). result_ok (nk_of c)) (sym (f l.content l.here)) ∙ ap result_ok e))

    pub written-iff : (b : Bool) → b ≡ is_key heap root offset content key → (b ≡ true) ↔ IsWritten heap root offset
    written-iff b t =
        let all : b ≡ is_key heap root offset (held heap offset) r.node.key =
        t ∙ (ap (λ (c : List ℕ). is_key heap root offset c key) (sym key-here) ∙ ap (is_key heap root offset (held heap offset)) (sym same-key)) in
        (λ p. written-open (sym all ∙ p), λ w. all ∙ written-made w)

  -- where the key was read no fault is met
  pub no-fault : (content : List ℕ) (fault : RecordFault) → ((h : List ℕ) → heap offset ≡ Some h → content ≡ h) → nk_of content ≡ Err fault → ⊥
  no-fault content fault f e =
      let l = look-open heap offset r.node r.seen in
      none-some r.node.key (ap result_ok (sym e) ∙ (ap (λ (c : List ℕ). result_ok (nk_of c)) (f l.content l.here) ∙ l.key_is))

  -- its security
  pub security-is : (content : List ℕ) (key : KeyRecord) → ((h : List ℕ) → heap offset ≡ Some h → content ≡ h) → nk_of content ≡ Ok key → security_in heap offset ≡ key.fields.security
  security-is content key f e =
      ap (λ (o : Option KeyRecord). unwrap_or (option_map (λ (k : KeyRecord). k.fields.security) o) 0) (key-there heap offset r.node r.seen)
      ∙ ap (λ (k : KeyRecord). k.fields.security) (same-key content key f e)
