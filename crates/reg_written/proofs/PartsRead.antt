-- The parts of a key that was read stand in cells.
use Rattle.std.proofs.Common.{◌≡◌, ◌≢◌, ℕ, zero, suc, ◌*◌, ◌<◌, ◌≤◌, nat_le, Bool, true, false, is_some, Some, List, [], ◌∷◌, ◌++◌, length, flat_map, refl, sym, ap, ◌∙◌, subst, arith}
use Rattle.std.specs.List.{AllByRecursion}
use Rattle.std.specs.Option.{option_map}
use Rattle.std.proofs.lemmas.Bool.{leb-true, le-leb, false≢true}
use Rattle.std.proofs.lemmas.Option.{none-some, same_Some}
use Rattle.std.proofs.lemmas.List.{append-nil}
use Rattle.reg_heap.specs.Heaps.{Heap}
use Rattle.reg_heap.specs.Kinds.{Found}
use Rattle.reg_heap.specs.Kinds.Kind.{ValueList, BigHead}
use Rattle.reg_heap.specs.Paths.{Member}
use Rattle.reg_records.specs.declared.nk.KeyFields.{KeyFields}
use Rattle.reg_records.specs.RecordCells.{held}
use Rattle.reg_records.specs.KeyNodes.{key_at}
use Rattle.reg_records.proofs.KeyValueCodec.{value_record_at-open}
use Rattle.reg_records.specs.OffsetRows.{offsets_at}
use Rattle.reg_records.specs.SubkeyLists.{Entry, Form, SubkeysList, list_of, offsets_in}
use Rattle.reg_records.specs.declared.lists.ListForm.TheVariants.{IndexRoot, IndexLeaf, FastLeaf, HashLeaf}
use Rattle.reg_records.specs.BigData.{BigData, is_inline, segments_for, db_of}
use Rattle.reg_shape.specs.Readings.{◌>>=◌, given, cell, guard, each}
use Rattle.reg_shape.specs.Nodes.{KeyList, Index, big_in, big_at, row_at, member_at, members_at, key_list_as, list_at, key_list_at, key_lists_at, index_as, index_at, entries_of, look}
use Rattle.reg_shape.specs.Nodes.Index.{Listed, Rooted}
use Rattle.reg_shape.proofs.Walking.ReadingParts.{bind-open, cell-open, each-open}
use Rattle.reg_shape.proofs.Walking.ReadingWalks.{row-open}
use Rattle.reg_shape.proofs.Walking.IndexWalks.{then-open, map-open}
use Rattle.reg_shape.proofs.Walking.WalkRefinement.{look-open}
use Rattle.reg_shape.proofs.Frame.WrittenFrame.{row-is}
use Rattle.reg_values.proofs.ValueListing.FoundValues.{is-some, row-long, member-open, held-is}
use Rattle.reg_values.proofs.ValueData.DataForms.{inline-data, big-data}
use Rattle.reg_written.specs.ReadKeys.{IsNamed, IsRead}
use Rattle.reg_written.specs.Internal.KeyCells.{HasValue, HasValues, HasKey, HasKeys, HasList, AreThere, HasIndex, HasSubkeys}

module _ (heap : Heap) where
  -- ---- values

  big-there : (size offset : ℕ) (all : List ℕ) (met : List Found) → big_at size offset heap ≡ Some (all, met) → is_some (heap offset) ≡ true
  big-there size offset all met e =
      let o = bind-open (cell BigHead offset) (λ content. given (db_of content) >>= (λ (big : BigData). guard (nat_le (segments_for size) big.count) (big_in size big))) heap (all, met) e in
      let c = cell-open BigHead offset heap o.first o.before o.first_is in
      is-some _ o.first c.0

  not-inline : (size : ℕ) → is_inline size ≡ false → size < 2147483648
  not-inline size e = by (nat_le 2147483648 size) refl e
    where
      by : (b : Bool) → nat_le 2147483648 size ≡ b → b ≡ false → size < 2147483648
      by true i f = absurd (false≢true (sym f))
      by false i f = grind (arith, i)

  pub value-there : (offset : ℕ) (m : Member) (zs : List Found) → member_at offset heap ≡ Some (m, zs) → HasValue heap offset
  value-there offset m zs e =
      let o = member-open heap offset m zs e in
      let v = value_record_at-open heap offset o.value o.reads in
      record {
        content = v.0;
        here = v.1;
        value = o.value;
        reads = v.2;
        inline = λ i. (let d = inline-data heap o.value.fields m.bytes o.cells o.data_is (leb-true 2147483648 o.value.fields.size i) in le-leb _ _ d.1);
        big = λ i l. big-there o.value.fields.size o.value.fields.offset m.bytes o.cells (big-data heap o.value.fields m.bytes o.cells o.data_is l (not-inline o.value.fields.size i));
      }

  all-there : (row : List ℕ) (members : List Member) (zs : List Found) → each member_at row heap ≡ Some (members, zs) → AllByRecursion (HasValue heap) row
  all-there [] members zs e = tt
  all-there (offset ∷ row) members zs e =
      let o = each-open member_at heap offset row members zs e in
      (value-there offset o.head o.head_cells o.head_is, all-there row o.tail o.tail_cells o.tail_is)

  record ListStands (count list : ℕ) : Type 0 where
    list_there : 0 < count → is_some (heap list) ≡ true
    long : 4 * count ≤ length (held heap list)
    values : AllByRecursion (HasValue heap) (offsets_at count 0 (held heap list))

  list-stands : (count list : ℕ) (members : List Member) (met : List Found) → members_at count list heap ≡ Some (members, met) → ListStands count list
  unfolding offsets_at
  list-stands zero list members met e = record { list_there = λ l. absurd (omega (arith, l)); long = omega arith; values = tt }
  list-stands (suc n) list members met e =
      let o = bind-open (row_at ValueList (suc n) list) (λ row. each member_at row) heap (members, met) e in
      let r = row-open heap ValueList (suc n) list o.first o.before o.first_is in
      let h : held heap list ≡ r.content = held-is heap list r.content r.here in
      let long = row-long (suc n) r.content o.first r.row_is in
      let size = ap length h in
      let row : offsets_at (suc n) 0 (held heap list) ≡ o.first = ap (offsets_at (suc n) 0) h ∙ row-is (suc n) r.content o.first r.row_is in
      record {
        list_there = λ _. is-some _ r.content r.here;
        long = omega (arith, long, size);
        values = subst (AllByRecursion (HasValue heap)) (sym row) (all-there o.first o.then.0 o.then.1 o.then_is);
      }

  -- ---- subkeys

  named-key : (offset : ℕ) → IsNamed heap offset → is_some (key_at heap offset) ≡ true
  unfolding key_at look
  named-key offset n = (let o = then-open _ (key_at heap offset) n.node n.seen in is-some _ o.0 o.1)

  all-keys : (entries : List Entry) → AllByRecursion (λ (e : Entry). IsNamed heap e.offset) entries → AllByRecursion (HasKey heap) entries
  all-keys [] a = tt
  all-keys (e ∷ entries) a = (named-key e.offset a.0, all-keys entries a.1)

  split : (P : Entry → Type 0) (xs ys : List Entry) → AllByRecursion P (xs ++ ys) → AllByRecursion P xs × AllByRecursion P ys
  split P [] ys a = (tt, a)
  split P (x ∷ xs) ys a = let r = split P xs ys a.1 in ((a.0, r.0), r.1)

  -- where a list of keys stands
  pub record IsKeyList (offset : ℕ) (list : KeyList) : Type 0 where
    pub content : List ℕ
    pub here : heap offset ≡ Some content
    pub list_is : list_of content ≡ Some list.list

  as-list : (offset : ℕ) (l : SubkeysList) (form : Form) (list : KeyList) → key_list_as offset l form ≡ Some list → l ≡ list.list
  as-list offset l IndexRoot list e = absurd (none-some _ e)
  as-list offset l IndexLeaf list e = ap (λ (k : KeyList). k.list) (same_Some _ _ e)
  as-list offset l FastLeaf list e = ap (λ (k : KeyList). k.list) (same_Some _ _ e)
  as-list offset l HashLeaf list e = ap (λ (k : KeyList). k.list) (same_Some _ _ e)

  pub key-list-open : (offset : ℕ) (list : KeyList) → key_list_at heap offset ≡ Some list → IsKeyList offset list
  key-list-open offset list e =
      let o = then-open (λ list. key_list_as offset list list.form) (list_at heap offset) list e in
      let c = then-open list_of (heap offset) o.0 o.1 in
      record { content = c.0; here = c.1; list_is = c.2 ∙ ap Some (as-list offset o.0 o.0.form list o.2) }

  has-keys : (offset : ℕ) (content : List ℕ) (list : SubkeysList) → heap offset ≡ Some content → list_of content ≡ Some list →
      AllByRecursion (λ (e : Entry). IsNamed heap e.offset) list.entries → HasKeys heap (held heap offset)
  has-keys offset content list here is named other e =
      let same : list ≡ other = same_Some _ _ (sym is ∙ (ap list_of (sym (held-is heap offset content here)) ∙ e)) in
      subst (λ (l : SubkeysList). AllByRecursion (HasKey heap) l.entries) same (all-keys list.entries named)

  -- the lists of an index root, each in turn
  pub record AreKeyLists (offset : ℕ) (offsets : List ℕ) (lists : List KeyList) : Type 0 where
    pub first : KeyList
    pub rest : List KeyList
    pub first_is : key_list_at heap offset ≡ Some first
    pub rest_is : key_lists_at heap offsets ≡ Some rest
    pub all : first ∷ rest ≡ lists

  pub key-lists-open : (offset : ℕ) (offsets : List ℕ) (lists : List KeyList) → key_lists_at heap (offset ∷ offsets) ≡ Some lists → AreKeyLists offset offsets lists
  key-lists-open offset offsets lists e =
      let o = then-open (λ list. option_map (λ lists. list ∷ lists) (key_lists_at heap offsets)) (key_list_at heap offset) lists e in
      let r = map-open (λ lists. o.0 ∷ lists) (key_lists_at heap offsets) lists o.2 in
      record { first = o.0; rest = r.0; first_is = o.1; rest_is = r.1; all = r.2 }

  all-lists : (entries : List Entry) (lists : List KeyList) → key_lists_at heap (offsets_in entries) ≡ Some lists →
      AllByRecursion (λ (e : Entry). IsNamed heap e.offset) (flat_map (λ (l : KeyList). l.list.entries) lists) → AllByRecursion (HasList heap) entries
  all-lists [] lists e a = tt
  all-lists (x ∷ entries) lists e a =
      let o = key-lists-open x.offset (offsets_in entries) lists e in
      let k = key-list-open x.offset o.first o.first_is in
      let named = subst (λ (ls : List KeyList). AllByRecursion (λ (e : Entry). IsNamed heap e.offset) (flat_map (λ (l : KeyList). l.list.entries) ls)) (sym o.all) a in
      let both = split (λ (e : Entry). IsNamed heap e.offset) o.first.list.entries (flat_map (λ (l : KeyList). l.list.entries) o.rest) named in
      ((is-some _ k.content k.here, has-keys x.offset k.content o.first.list k.here k.list_is both.0), all-lists entries o.rest o.rest_is both.1)

  listed-there : (index : Index) (list : KeyList) → Some (Listed list) ≡ Some index → AllByRecursion (λ (e : Entry). IsNamed heap e.offset) (entries_of index) →
      AllByRecursion (HasKey heap) list.list.entries
  listed-there index list e a =
      let named = subst (λ (i : Index). AllByRecursion (λ (e : Entry). IsNamed heap e.offset) (entries_of i)) (sym (same_Some _ _ e)) a in
      all-keys list.list.entries (subst (AllByRecursion (λ (e : Entry). IsNamed heap e.offset)) (append-nil list.list.entries) named)

  form-there : (offset : ℕ) (list : SubkeysList) (form : Form) (index : Index) → index_as heap offset list form ≡ Some index →
      AllByRecursion (λ (e : Entry). IsNamed heap e.offset) (entries_of index) → AreThere heap list.entries form
  form-there offset list IndexRoot index e a =
      let o = map-open (Rooted offset) (key_lists_at heap (offsets_in list.entries)) index e in
      all-lists list.entries o.0 o.1 (subst (λ (i : Index). AllByRecursion (λ (e : Entry). IsNamed heap e.offset) (entries_of i)) (sym o.2) a)
  form-there offset list IndexLeaf index e a = listed-there index (record { offset = offset; list = list }) e a
  form-there offset list FastLeaf index e a = listed-there index (record { offset = offset; list = list }) e a
  form-there offset list HashLeaf index e a = listed-there index (record { offset = offset; list = list }) e a

  -- a key's list of subkeys, where it has subkeys
  pub record IsIndexed (offset : ℕ) (index : Index) : Type 0 where
    pub content : List ℕ
    pub list : SubkeysList
    pub here : heap offset ≡ Some content
    pub list_is : list_of content ≡ Some list
    pub index_is : index_as heap offset list list.form ≡ Some index

  pub index-open : (count offset : ℕ) (index : Index) → count ≢ 0 → index_at heap count offset ≡ Some index → IsIndexed offset index
  index-open zero offset index n e = absurd (n refl)
  index-open (suc count) offset index n e =
      let o = then-open (λ list. index_as heap offset list list.form) (list_at heap offset) index e in
      let c = then-open list_of (heap offset) o.0 o.1 in
      record { content = c.0; list = o.0; here = c.1; list_is = c.2; index_is = o.2 }

  subkeys-there : (fields : KeyFields) (index : Index) → index_at heap fields.subkeys fields.subkeys_list ≡ Some index →
      AllByRecursion (λ (e : Entry). IsNamed heap e.offset) (entries_of index) → HasSubkeys heap fields
  subkeys-there fields index e a = record {
    list = λ n. (let o = index-open fields.subkeys fields.subkeys_list index n e in is-some _ o.content o.here);
    index = λ n. there (index-open fields.subkeys fields.subkeys_list index n e);
  }
    where
      there : IsIndexed fields.subkeys_list index → HasIndex heap (held heap fields.subkeys_list)
      there o other l =
          let same : o.list ≡ other = same_Some _ _ (sym o.list_is ∙ (ap list_of (sym (held-is heap fields.subkeys_list o.content o.here)) ∙ l)) in
          subst (λ (l : SubkeysList). AreThere heap l.entries l.form) same (form-there fields.subkeys_list o.list o.list.form index o.index_is a)

  -- ---- all of it

  pub has-values : (offset : ℕ) (r : IsRead heap offset) → HasValues heap r.node.key.fields
  has-values offset r =
      let l = look-open heap offset r.node r.seen in
      let s = list-stands r.node.key.fields.values r.node.key.fields.values_list r.node.values l.value_cells l.values_are in
      record { list = s.list_there; long = s.long; values = s.values }

  pub has-subkeys : (offset : ℕ) (r : IsRead heap offset) → HasSubkeys heap r.node.key.fields
  has-subkeys offset r =
      let l = look-open heap offset r.node r.seen in
      subkeys-there r.node.key.fields r.node.index l.index_is r.below
