-- A change outside a key's own cells keeps the key, as it is read and as it is written.
use Rattle.std.proofs.Common.{◌≡◌, ℕ, zero, suc, ◌+◌, ◌<◌, true, false, Some, List, [], ◌∷◌, length, take, drop, refl, sym, ap, ◌∙◌, subst, arith}
use Rattle.std.specs.Option.{option_map, option_and_then}
use Rattle.std.specs.Result.{result_ok}
use Rattle.std.proofs.lemmas.Option.{same_Some}
use Rattle.std.proofs.lemmas.Bool.{false≢true}
use Rattle.reg_heap.specs.Heaps.{Heap}
use Rattle.reg_heap.specs.Kinds.{Kind, Found, is_security, is_own, owned}
use Rattle.reg_heap.specs.Kinds.Kind.{Key, Class, SubList, Leaf, ValueList, Value, Data, BigHead, BigList, Segment, Security}
use Rattle.reg_records.specs.KeyNodes.{nk_of, key_at}
use Rattle.reg_records.specs.SubkeyLists.{SubkeysList, Form, list_of, offsets_in}
use Rattle.reg_records.specs.declared.lists.ListForm.TheVariants.{IndexRoot, IndexLeaf, FastLeaf, HashLeaf}
use Rattle.reg_records.specs.BigData.{if_any}
use Rattle.reg_shape.specs.Nodes.{Node, KeyList, Index, key_list_as, list_at, key_list_at, key_lists_at, index_as, index_at, node_of, node_in, met_of, members_at, look}
use Rattle.reg_shape.specs.Nodes.Index.{Listed, Rooted}
use Rattle.reg_shape.specs.Internal.Shapes.{joined, lists_met, index_cells, cells_of}
use Rattle.reg_shape.proofs.Walking.IndexWalks.{then-open, map-open, as-key-list}
use Rattle.reg_shape.proofs.Walking.InnerReadings.{is_inner, AreInner, class-inner, members-inner}
use Rattle.reg_shape.proofs.Walking.WalkRefinement.{IsLooked, look-open}
use Rattle.reg_shape.proofs.Wholeness.ShapeCounts.{tally-append, nothing-met}
use Rattle.reg_shape.proofs.Wholeness.ShapeRecords.{own-here}
use Rattle.reg_shape.proofs.Frame.ReadingFrame.{Agree, pieces-local, members-local}

-- the cells that are met as own hold the same
abbrev pub Keeps : Heap → Heap → List Found → Type 0
Keeps h k found = (z : ℕ) → 0 < owned z found → k z ≡ h z

pub inner-own : (kind : Kind) → is_inner kind ≡ true → is_security kind ≡ false
inner-own Key e = refl
inner-own Class e = refl
inner-own SubList e = refl
inner-own Leaf e = refl
inner-own ValueList e = refl
inner-own Value e = refl
inner-own Data e = refl
inner-own BigHead e = refl
inner-own BigList e = refl
inner-own Segment e = refl
inner-own Security e = absurd (false≢true e)

pub agree-inner : (h k : Heap) (found : List Found) → AreInner found → Keeps h k found → Agree h k found
agree-inner h k [] a s = tt
agree-inner h k (f ∷ found) a s =
    (s f.offset (let one = own-here f (inner-own f.kind a.0) in omega (arith, one)), agree-inner h k found a.1 (λ z l. s z (omega arith)))

-- ---- a key's lists

one-list : (h k : Heap) (offset : ℕ) (list : KeyList) → k offset ≡ h offset → key_list_at h offset ≡ Some list → key_list_at k offset ≡ Some list
one-list h k offset list same e = ap (λ c. option_and_then (λ l. key_list_as offset l l.form) (option_and_then list_of c)) same ∙ e

list-offset : (h : Heap) (offset : ℕ) (list : KeyList) → key_list_at h offset ≡ Some list → offset ≡ list.offset
list-offset h offset list e =
    let o = then-open (λ l. key_list_as offset l l.form) (list_at h offset) list e in (as-key-list offset o.0 o.0.form list o.2).1

lists-local : (h k : Heap) (offsets : List ℕ) (lists : List KeyList) → key_lists_at h offsets ≡ Some lists → Keeps h k (lists_met lists []) → key_lists_at k offsets ≡ Some lists
lists-local h k [] lists e s = e
lists-local h k (offset ∷ offsets) lists e s =
    let o = then-open (λ list. option_map (λ lists. list ∷ lists) (key_lists_at h offsets)) (key_list_at h offset) lists e in
    let t = map-open (λ lists. o.0 ∷ lists) (key_lists_at h offsets) lists o.2 in
    let b : Keeps h k (lists_met (o.0 ∷ t.0) []) = subst (λ ls. Keeps h k (lists_met ls [])) (sym t.2) s in
    let node_offset = list-offset h offset o.0 o.1 in
    let n = length o.0.list.entries in
    let here : k offset ≡ h offset = subst (λ z. k z ≡ h z) (sym node_offset) (b o.0.offset (let one = own-here (record { kind = Leaf; offset = o.0.offset }) refl in omega (arith, one))) in
    let rest : Keeps h k (lists_met t.0 []) = λ z l. b z (
    let parts = tally-append (is_own z) (joined (take n [])) (lists_met t.0 (drop n [])) in
    let same = nothing-met (is_own z) t.0 n in
    omega (arith, parts, same, l)) in
    ap (option_and_then (λ list. option_map (λ lists. list ∷ lists) (key_lists_at k offsets))) (one-list h k offset o.0 here o.1)
    ∙ (ap (option_map (λ lists. o.0 ∷ lists)) (lists-local h k offsets t.0 t.1 rest) ∙ ap Some t.2)

-- the offset of an index's first list
abbrev listed : ℕ → SubkeysList → Index
listed offset l = Listed (record { offset = offset; list = l })

pub index-local : (h k : Heap) (count offset : ℕ) (index : Index) → index_at h count offset ≡ Some index → Keeps h k (index_cells index) → index_at k count offset ≡ Some index
index-local h k zero offset index e s = e
index-local h k (suc count) offset index e s =
    let o = then-open (λ l. index_as h offset l l.form) (list_at h offset) index e in
    by o.0 o.1 o.0.form refl o.2
  where
    again : (l : SubkeysList) → list_at h offset ≡ Some l → k offset ≡ h offset → index_as k offset l l.form ≡ Some index → index_at k (suc count) offset ≡ Some index
    again l e same i = ap (λ c. option_and_then (λ l. index_as k offset l l.form) (option_and_then list_of c)) same ∙ (ap (option_and_then (λ l. index_as k offset l l.form)) e ∙ i)

    alone : (l : SubkeysList) → listed offset l ≡ index → k offset ≡ h offset
    alone l e = subst (λ i. Keeps h k (index_cells i)) (sym e) s offset (let one = own-here (record { kind = Leaf; offset = offset }) refl in omega (arith, one))

    by : (l : SubkeysList) → list_at h offset ≡ Some l → (form : Form) → l.form ≡ form → index_as h offset l form ≡ Some index → index_at k (suc count) offset ≡ Some index
    by l e IndexRoot f i =
        let m = map-open (Rooted offset) (key_lists_at h (offsets_in l.entries)) index i in
        let b : Keeps h k (index_cells (Rooted offset m.0)) = subst (λ i. Keeps h k (index_cells i)) (sym m.2) s in
        again l e (b offset (let one = own-here (record { kind = SubList; offset = offset }) refl in omega (arith, one)))
        (ap (index_as k offset l) f ∙ (ap (option_map (Rooted offset)) (lists-local h k (offsets_in l.entries) m.0 m.1 (λ z l. b z (omega arith))) ∙ ap Some m.2))
    by l e IndexLeaf f i = again l e (alone l (same_Some _ _ i)) (ap (index_as k offset l) f ∙ i)
    by l e FastLeaf f i = again l e (alone l (same_Some _ _ i)) (ap (index_as k offset l) f ∙ i)
    by l e HashLeaf f i = again l e (alone l (same_Some _ _ i)) (ap (index_as k offset l) f ∙ i)

-- ---- a key

-- the parts of a key's own cells
pub record AreParts (h k : Heap) (offset : ℕ) (node : Node) (class values : List Found) : Type 0 where
  pub here : k offset ≡ h offset
  pub class_same : Keeps h k class
  pub values_same : Keeps h k values
  pub index_same : Keeps h k (index_cells node.index)

pub parts : (h k : Heap) (offset : ℕ) (node : Node) (l : IsLooked h offset node) → Keeps h k (cells_of node) → AreParts h k offset node l.class_cells l.value_cells
parts h k offset node l s =
    let f : Found = record { kind = Security; offset = node.key.fields.security } in
    let all : (z : ℕ) → owned z (cells_of node) ≡ is_own z (record { kind = Key; offset = offset }) + ((owned z l.class_cells + owned z l.value_cells) + owned z (index_cells node.index)) = λ z. (
    let a = tally-append (is_own z) node.cells (index_cells node.index) in
    let b : owned z node.cells ≡ owned z (met_of offset node.key l.class_cells l.value_cells) = ap (owned z) l.cells in
    let c = tally-append (is_own z) l.class_cells (f ∷ l.value_cells) in
    omega (arith, a, b, c)) in
    record {
      here = s offset (let a = all offset in let one = own-here (record { kind = Key; offset = offset }) refl in omega (arith, a, one));
      class_same = λ z p. s z (let a = all z in omega (arith, a, p));
      values_same = λ z p. s z (let a = all z in omega (arith, a, p));
      index_same = λ z p. s z (let a = all z in omega (arith, a, p));
    }

pub look-local : (h k : Heap) (offset : ℕ) (node : Node) → look h offset ≡ Some node → Keeps h k (cells_of node) → look k offset ≡ Some node
unfolding look key_at
look-local h k offset node e s =
    let l = look-open h offset node e in
    let p = parts h k offset node l s in
    let key = node.key in
    let class = pieces-local (if_any Class key.fields.class_length key.fields.class) h k (node.class, l.class_cells) l.class_is
    (agree-inner h k l.class_cells (class-inner h key.fields.class_length key.fields.class (node.class, l.class_cells) l.class_is) p.class_same) in
    let values = members-local key.fields.values key.fields.values_list h k (node.values, l.value_cells) l.values_are
    (agree-inner h k l.value_cells (members-inner h key.fields.values key.fields.values_list (node.values, l.value_cells) l.values_are)
    p.values_same) in
    let index = index-local h k key.fields.subkeys key.fields.subkeys_list node.index l.index_is p.index_same in
    ap (λ c. option_and_then (node_in k offset) (option_and_then (λ content. result_ok (nk_of content)) c)) (p.here ∙ l.here)
    ∙ (ap (option_and_then (node_in k offset)) l.key_is
    ∙ (ap (option_and_then (λ class. option_and_then (λ values. option_map (node_of offset key class values)
    (index_at k key.fields.subkeys key.fields.subkeys_list)) (members_at key.fields.values key.fields.values_list k))) class
    ∙ (ap (option_and_then (λ values. option_map (node_of offset key (node.class, l.class_cells) values) (index_at k key.fields.subkeys key.fields.subkeys_list))) values
    ∙ (ap (option_map (node_of offset key (node.class, l.class_cells) (node.values, l.value_cells))) index
    ∙ (λ i. Some (record { key = key; class = node.class; values = node.values; cells = sym l.cells i; index = node.index }))))))
