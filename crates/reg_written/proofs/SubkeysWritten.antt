-- Subkeys that pass the tests, and their lists, are as this project writes them, and those that are pass.
use Rattle.std.proofs.Common.{◌≡◌, ℕ, suc, ◌==◌, nat_lt, Bool, true, false, cond, Option, Some, None, List, [], ◌∷◌, flat_map, length, refl, sym, ap, ◌∙◌, subst, arith}
use Rattle.std.specs.List.{AllByRecursion}
use Rattle.std.specs.Option.{option_and_then}
use Rattle.std.proofs.lemmas.Bool.{eqb-true, eq-eqb, leb-true, le-leb, ltb-true, lt-ltb, false≢true}
use Rattle.std.proofs.lemmas.Option.{none-some, same_Some}
use Rattle.std.proofs.lemmas.List.{append-nil}
use Rattle.reg_heap.specs.Heaps.{Heap}
use Rattle.reg_records.specs.declared.nk.KeyFields.{KeyFields}
use Rattle.reg_records.specs.declared.lists.ListForm.TheVariants.{IndexRoot, IndexLeaf, FastLeaf, HashLeaf}
use Rattle.reg_records.specs.SubkeyLists.{Entry, Form, SubkeysList, list_of, offsets_in}
use Rattle.reg_shape.specs.Nodes.{Node, KeyList, Index, key_lists_at, index_as, index_at, entries_of}
use Rattle.reg_shape.specs.Nodes.Index.{Unlisted, Listed, Rooted}
use Rattle.reg_shape.specs.Written.{IsWrittenList, IsWrittenIndex}
use Rattle.reg_shape.proofs.Walking.IndexWalks.{then-open, map-open}
use Rattle.reg_written.specs.Internal.KeyTests.{Siblings, with_entries, with_list, with_list_in, with_lists, with_form, with_index, is_hash_leaf, is_list, are_all, has_subkeys}
use Rattle.reg_written.proofs.CellsRead.{both, and-made, when}
use Rattle.reg_written.proofs.EntriesRead.{hash-leaf}
use Rattle.reg_written.proofs.PartsRead.{IsKeyList, key-list-open, key-lists-open, IsIndexed, index-open}
use Rattle.reg_written.proofs.SubkeysInOrder.{AreBelow, FollowFrom, all-open, all-made, with-append}

-- ---- a list

list-open : (list : KeyList) → is_list list.list ≡ true → IsWrittenList list
list-open list e =
    let a = both (is_hash_leaf list.list.form) _ e in
    let b = both (nat_lt 0 (length list.list.entries)) _ a.1 in
    record { form = hash-leaf list.list.form a.0; some = ltb-true _ _ b.0; few = leb-true _ _ b.1 }

list-made : (list : KeyList) → IsWrittenList list → is_list list.list ≡ true
list-made list w =
    and-made (is_hash_leaf list.list.form) _ (ap is_hash_leaf w.form)
    (and-made (nat_lt 0 (length list.list.entries)) _ (lt-ltb _ _ w.some) (le-leb _ _ w.few))

module _ (heap : Heap) (parent : ℕ) (fields : KeyFields) where
  -- ---- the lists of an index root

  in-is : (offset : ℕ) (list : KeyList) (before : Siblings) → IsKeyList heap offset list →
      with_list_in heap parent fields (option_and_then list_of (heap offset)) before ≡ with_list heap parent fields list.list before
  in-is offset list before k =
      ap (λ (o : Option (List ℕ)). with_list_in heap parent fields (option_and_then list_of o) before) k.here
      ∙ ap (λ (o : Option SubkeysList). with_list_in heap parent fields o before) k.list_is

  abbrev flat : List KeyList → List Entry
  flat lists = flat_map (λ (l : KeyList). l.list.entries) lists

  lists-open : (entries : List Entry) (lists : List KeyList) (before after : Siblings) → key_lists_at heap (offsets_in entries) ≡ Some lists →
      with_lists heap parent fields entries before ≡ Some after → AllByRecursion IsWrittenList lists × (with_entries heap parent fields (flat lists) before ≡ Some after)
  lists-open [] lists before after e w =
      let none : [] ≡ lists = same_Some _ _ e in
      (subst (AllByRecursion IsWrittenList) none tt, ap (λ (ls : List KeyList). with_entries heap parent fields (flat ls) before) (sym none) ∙ w)
  lists-open (x ∷ entries) lists before after e w =
      let k = key-lists-open heap x.offset (offsets_in entries) lists e in
      let o = then-open (with_lists heap parent fields entries) (with_list_in heap parent fields (option_and_then list_of (heap x.offset)) before) after w in
      let one = when (is_list k.first.list) (with_entries heap parent fields k.first.list.entries before) in
      let mid = sym (in-is x.offset k.first before (key-list-open heap x.offset k.first k.first_is)) ∙ o.1 in
      let t = tested (is_list k.first.list) (with_entries heap parent fields k.first.list.entries before) o.0 mid in
      let r = lists-open entries k.rest o.0 after k.rest_is o.2 in
      let all = with-append heap parent fields k.first.list.entries (flat k.rest) before ∙ (ap (option_and_then (with_entries heap parent fields (flat k.rest))) t.1 ∙ r.1) in (
        subst (AllByRecursion IsWrittenList) k.all (list-open k.first t.0, r.0),
        ap (λ (ls : List KeyList). with_entries heap parent fields (flat ls) before) (sym k.all) ∙ all,
      )
    where
      tested : (b : Bool) (o : Option Siblings) (s : Siblings) → cond b o None ≡ Some s → (b ≡ true) × (o ≡ Some s)
      tested true o s e = (refl, e)
      tested false o s e = absurd (none-some _ e)

  lists-made : (entries : List Entry) (lists : List KeyList) (before after : Siblings) → key_lists_at heap (offsets_in entries) ≡ Some lists → AllByRecursion IsWrittenList lists →
      with_entries heap parent fields (flat lists) before ≡ Some after → with_lists heap parent fields entries before ≡ Some after
  lists-made [] lists before after e a w =
      let none : [] ≡ lists = same_Some _ _ e in ap (λ (ls : List KeyList). with_entries heap parent fields (flat ls) before) none ∙ w
  lists-made (x ∷ entries) lists before after e a w =
      let k = key-lists-open heap x.offset (offsets_in entries) lists e in
      let all = subst (AllByRecursion IsWrittenList) (sym k.all) a in
      let whole = sym (with-append heap parent fields k.first.list.entries (flat k.rest) before) ∙ (ap (λ (ls : List KeyList). with_entries heap parent fields (flat ls) before) k.all ∙ w) in
      let o = then-open (with_entries heap parent fields (flat k.rest)) (with_entries heap parent fields k.first.list.entries before) after whole in
      let one = in-is x.offset k.first before (key-list-open heap x.offset k.first k.first_is)
      ∙ (ap (λ (b : Bool). cond b (with_entries heap parent fields k.first.list.entries before) None) (list-made k.first all.0) ∙ o.1) in
      ap (option_and_then (with_lists heap parent fields entries)) one ∙ lists-made entries k.rest o.0 after k.rest_is all.1 o.2

  many-lists : (offsets : List ℕ) (lists : List KeyList) → key_lists_at heap offsets ≡ Some lists → length lists ≡ length offsets
  many-lists [] lists e = sym (ap length (same_Some _ _ e))
  many-lists (x ∷ offsets) lists e =
      let k = key-lists-open heap x offsets lists e in ap length (sym k.all) ∙ ap suc (many-lists offsets k.rest k.rest_is)

  many-offsets : (entries : List Entry) → length (offsets_in entries) ≡ length entries
  many-offsets [] = refl
  many-offsets (x ∷ entries) = ap suc (many-offsets entries)

  -- ---- a key's list

  pub record IsGone (index : Index) (before after : Siblings) : Type 0 where
    pub written : IsWrittenIndex index
    pub all : with_entries heap parent fields (entries_of index) before ≡ Some after

  listed-open : (list : KeyList) (index : Index) (before after : Siblings) → Some (Listed list) ≡ Some index → with_list heap parent fields list.list before ≡ Some after → IsGone index before after
  listed-open list index before after e w = subst (λ (i : Index). IsGone i before after) (same_Some _ _ e) (by (is_list list.list) refl w)
    where
      by : (b : Bool) → is_list list.list ≡ b → cond b (with_entries heap parent fields list.list.entries before) None ≡ Some after → IsGone (Listed list) before after
      by true i w = record { written = list-open list i; all = ap (λ (es : List Entry). with_entries heap parent fields es before) (append-nil list.list.entries) ∙ w }
      by false i w = absurd (none-some _ w)

  listed-made : (list : KeyList) (index : Index) (before after : Siblings) → Some (Listed list) ≡ Some index → IsGone index before after → with_list heap parent fields list.list before ≡ Some after
  listed-made list index before after e g =
      let h = subst (λ (i : Index). IsGone i before after) (sym (same_Some _ _ e)) g in
      ap (λ (b : Bool). cond b (with_entries heap parent fields list.list.entries before) None) (list-made list h.written)
      ∙ (ap (λ (es : List Entry). with_entries heap parent fields es before) (sym (append-nil list.list.entries)) ∙ h.all)

  root-open : (offset : ℕ) (list : SubkeysList) (index : Index) (before after : Siblings) → index_as heap offset list IndexRoot ≡ Some index →
      with_form heap parent fields list IndexRoot before ≡ Some after → IsGone index before after
  root-open offset list index before after e w =
      let o = map-open (Rooted offset) (key_lists_at heap (offsets_in list.entries)) index e in
      subst (λ (i : Index). IsGone i before after) o.2 (by o.0 o.1 (nat_lt 1 (length list.entries)) refl w)
    where
      by : (lists : List KeyList) → key_lists_at heap (offsets_in list.entries) ≡ Some lists → (b : Bool) → nat_lt 1 (length list.entries) ≡ b →
          cond b (with_lists heap parent fields list.entries before) None ≡ Some after → IsGone (Rooted offset lists) before after
      by lists l true i w =
          let a = lists-open list.entries lists before after l w in
          let m = many-lists (offsets_in list.entries) lists l in
          let n = many-offsets list.entries in
          let t = ltb-true _ _ i in
          record { written = (omega (arith, m, n, t), a.0); all = a.1 }
      by lists l false i w = absurd (none-some _ w)

  root-made : (offset : ℕ) (list : SubkeysList) (index : Index) (before after : Siblings) → index_as heap offset list IndexRoot ≡ Some index → IsGone index before after →
      with_form heap parent fields list IndexRoot before ≡ Some after
  root-made offset list index before after e g =
      let o = map-open (Rooted offset) (key_lists_at heap (offsets_in list.entries)) index e in
      let h = subst (λ (i : Index). IsGone i before after) (sym o.2) g in
      let m = many-lists (offsets_in list.entries) o.0 o.1 in
      let n = many-offsets list.entries in
      let t = h.written.0 in
      ap (λ (b : Bool). cond b (with_lists heap parent fields list.entries before) None) (lt-ltb 1 (length list.entries) (omega (arith, m, n, t)))
      ∙ lists-made list.entries o.0 before after o.1 h.written.1 h.all

  form-open : (offset : ℕ) (list : SubkeysList) (form : Form) (index : Index) (before after : Siblings) → index_as heap offset list form ≡ Some index →
      with_form heap parent fields list form before ≡ Some after → IsGone index before after
  form-open offset list IndexRoot index before after e w = root-open offset list index before after e w
  form-open offset list IndexLeaf index before after e w = listed-open (record { offset = offset; list = list }) index before after e w
  form-open offset list FastLeaf index before after e w = listed-open (record { offset = offset; list = list }) index before after e w
  form-open offset list HashLeaf index before after e w = listed-open (record { offset = offset; list = list }) index before after e w

  form-made : (offset : ℕ) (list : SubkeysList) (form : Form) (index : Index) (before after : Siblings) → index_as heap offset list form ≡ Some index → IsGone index before after →
      with_form heap parent fields list form before ≡ Some after
  form-made offset list IndexRoot index before after e g = root-made offset list index before after e g
  form-made offset list IndexLeaf index before after e g = listed-made (record { offset = offset; list = list }) index before after e g
  form-made offset list FastLeaf index before after e g = listed-made (record { offset = offset; list = list }) index before after e g
  form-made offset list HashLeaf index before after e g = listed-made (record { offset = offset; list = list }) index before after e g

  index-is : (offset : ℕ) (index : Index) (before : Siblings) (i : IsIndexed heap offset index) →
      with_index heap parent fields (option_and_then list_of (heap offset)) before ≡ with_form heap parent fields i.list i.list.form before
  index-is offset index before i =
      ap (λ (o : Option (List ℕ)). with_index heap parent fields (option_and_then list_of o) before) i.here
      ∙ ap (λ (o : Option SubkeysList). with_index heap parent fields o before) i.list_is

  -- ---- all subkeys

  abbrev start : Siblings
  start = record { left = fields.subkeys; last = None }

  -- the subkeys are as they are written
  pub record AreWritten (index : Index) (nodes : List (ℕ × Node)) : Type 0 where
    pub written : IsWrittenIndex index
    pub count : fields.subkeys ≡ length (entries_of index)
    pub follow : FollowFrom heap parent fields start (entries_of index) nodes

  none-written : (index : Index) (nodes : List (ℕ × Node)) → fields.subkeys ≡ 0 → index_at heap fields.subkeys fields.subkeys_list ≡ Some index → AreBelow heap parent fields (entries_of index) nodes →
      AreWritten index nodes
  none-written index nodes z e a =
      let none : Unlisted ≡ index = same_Some _ _ (ap (λ (n : ℕ). index_at heap n fields.subkeys_list) (sym z) ∙ e) in
      subst (λ (i : Index). AreWritten i nodes) none (by nodes (subst (λ (i : Index). AreBelow heap parent fields (entries_of i) nodes) (sym none) a))
    where
      by : (nodes : List (ℕ × Node)) → AreBelow heap parent fields [] nodes → AreWritten Unlisted nodes
      by [] a = record { written = tt; count = z; follow = record { hashes = refl; order = tt; behind = tt; parents = tt; longest_name = tt; longest_class = tt } }
      by (n ∷ nodes) a = absurd a

  pub subkeys-open : (index : Index) (nodes : List (ℕ × Node)) → index_at heap fields.subkeys fields.subkeys_list ≡ Some index → AreBelow heap parent fields (entries_of index) nodes →
      has_subkeys heap parent fields ≡ true → AreWritten index nodes
  subkeys-open index nodes e a t = by (fields.subkeys == 0) refl t
    where
      counted : (o : Option Siblings) → with_index heap parent fields (option_and_then list_of (heap fields.subkeys_list)) start ≡ o → are_all o ≡ true → IsIndexed heap fields.subkeys_list index → AreWritten index nodes
      counted None w t i = absurd (false≢true t)
      counted (Some after) w t i =
          let g = form-open fields.subkeys_list i.list i.list.form index start after i.index_is (sym (index-is fields.subkeys_list index start i) ∙ w) in
          let f = all-open heap parent fields (entries_of index) nodes start after a g.all in
          let left = eqb-true after.left 0 t in
          let c = f.counts in
          record { written = g.written; count = omega (arith, left, c); follow = f.fits }

      by : (b : Bool) → (fields.subkeys == 0) ≡ b → cond b true (are_all (with_index heap parent fields (option_and_then list_of (heap fields.subkeys_list)) start)) ≡ true → AreWritten index nodes
      by true z t = none-written index nodes (eqb-true _ _ z) e a
      by false z t =
          counted (with_index heap parent fields (option_and_then list_of (heap fields.subkeys_list)) start) refl t
          (index-open heap fields.subkeys fields.subkeys_list index (λ n. false≢true (sym z ∙ eq-eqb fields.subkeys 0 n)) e)

  pub subkeys-made : (index : Index) (nodes : List (ℕ × Node)) → index_at heap fields.subkeys fields.subkeys_list ≡ Some index → AreBelow heap parent fields (entries_of index) nodes →
      AreWritten index nodes → has_subkeys heap parent fields ≡ true
  subkeys-made index nodes e a w = by (fields.subkeys == 0) refl
    where
      made : IsIndexed heap fields.subkeys_list index → are_all (with_index heap parent fields (option_and_then list_of (heap fields.subkeys_list)) start) ≡ true
      made i =
          let f = all-made heap parent fields (entries_of index) nodes start a w.follow (let c = w.count in omega (arith, c)) in
          let all = index-is fields.subkeys_list index start i
          ∙ form-made fields.subkeys_list i.list i.list.form index start f.0 i.index_is (record { written = w.written; all = f.1 }) in
          ap are_all all ∙ eq-eqb f.0.left 0 (let c = w.count in let d = f.2 in omega (arith, c, d))

      by : (b : Bool) → (fields.subkeys == 0) ≡ b → cond b true (are_all (with_index heap parent fields (option_and_then list_of (heap fields.subkeys_list)) start)) ≡ true
      by true z = refl
      by false z = made (index-open heap fields.subkeys fields.subkeys_list index (λ n. false≢true (sym z ∙ eq-eqb fields.subkeys 0 n)) e)
