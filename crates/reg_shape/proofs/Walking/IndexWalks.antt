-- A key's subkeys are walked list by list, and each key to its end before the next.
use Rattle.std.proofs.Common.{◌≡◌, ℕ, zero, suc, Bool, true, false, cond, Option, Some, None, List, [], ◌∷◌, ◌++◌, map, flat_map, length, take, drop, refl, sym, ap, ◌∙◌, subst}
use Rattle.std.specs.Option.{option_map, option_and_then}
use Rattle.std.proofs.lemmas.Option.{none-some, same_Some}
use Rattle.std.proofs.lemmas.List.{append-nil}
use Rattle.std.proofs.lemmas.Bool.{false≢true}
use Rattle.reg_heap.specs.Heaps.{Heap}
use Rattle.reg_heap.specs.Kinds.{Found}
use Rattle.reg_heap.specs.Kinds.Kind.{Key, SubList, Leaf}
use Rattle.reg_records.specs.Letters.{is_signed}
use Rattle.reg_records.specs.SubkeyLists.{Form, Entry, SubkeysList, form_of, list_as, list_of, offsets_in}
use Rattle.reg_records.specs.declared.lists.ListForm.TheVariants.{IndexRoot, IndexLeaf, FastLeaf, HashLeaf}
use Rattle.reg_records.specs.BigData.{named, plainly, if_any}
use Rattle.reg_shape.specs.Walk.{names_of, leaves_named, keys_named, kind_met}
use Rattle.reg_shape.specs.Nodes.{KeyList, Index, key_list_as, list_at, key_list_at, key_lists_at, index_as, index_at, entries_of}
use Rattle.reg_shape.specs.Nodes.Index.{Listed, Rooted}
use Rattle.reg_shape.specs.Internal.Shapes.{joined, lists_met, index_met}
use Rattle.reg_shape.proofs.Walking.WalkParts.{Walks, walks-none, walks-join, walks-met}

-- ---- options taken apart

pub then-open : {A B : Type 0} (f : A → Option B) (o : Option A) (y : B) → option_and_then f o ≡ Some y → (x : A) × (o ≡ Some x) × (f x ≡ Some y)
then-open f None y e = absurd (none-some _ e)
then-open f (Some x) y e = (x, refl, e)

pub map-open : {A B : Type 0} (f : A → B) (o : Option A) (y : B) → option_map f o ≡ Some y → (x : A) × (o ≡ Some x) × (f x ≡ y)
map-open f None y e = absurd (none-some _ e)
map-open f (Some x) y e = (x, refl, same_Some _ _ e)

-- ---- forms

abbrev is_root : Form → Bool
is_root IndexRoot = true
is_root IndexLeaf = false
is_root FastLeaf = false
is_root HashLeaf = false

test-some : {A : Type 0} (b : Bool) (x y : A) → cond b (Some x) None ≡ Some y → x ≡ y
test-some true x y e = same_Some _ _ e
test-some false x y e = absurd (none-some _ e)

list-form : (form : Form) (content : List ℕ) (list : SubkeysList) → list_as form content ≡ Some list → list.form ≡ form
list-form IndexRoot content list e = sym (ap (λ (l : SubkeysList). l.form) (test-some _ _ list e))
list-form IndexLeaf content list e = sym (ap (λ (l : SubkeysList). l.form) (test-some _ _ list e))
list-form FastLeaf content list e = sym (ap (λ (l : SubkeysList). l.form) (test-some _ _ list e))
list-form HashLeaf content list e = sym (ap (λ (l : SubkeysList). l.form) (test-some _ _ list e))

forms : (a b c d : Bool) (form : Form) → cond a (Some IndexRoot) (cond b (Some IndexLeaf) (cond c (Some FastLeaf) (cond d (Some HashLeaf) None))) ≡ Some form → a ≡ is_root form
forms true b c d form e = ap is_root (same_Some _ _ e)
forms false true c d form e = ap is_root (same_Some _ _ e)
forms false false true d form e = ap is_root (same_Some _ _ e)
forms false false false true form e = ap is_root (same_Some _ _ e)
forms false false false false form e = absurd (none-some _ e)

-- an index root is what begins with `ri`
root-signed : (content : List ℕ) (list : SubkeysList) → list_of content ≡ Some list → is_signed 114 105 content ≡ is_root list.form
unfolding list_of
root-signed content list e =
    let o = then-open (λ form. list_as form content) (form_of content) list e in
    forms (is_signed 114 105 content) (is_signed 108 105 content) (is_signed 108 102 content) (is_signed 108 104 content) o.0 o.1
    ∙ ap is_root (sym (list-form o.0 content list o.2))

-- ---- keys side by side

-- each of these keys is walked as this
abbrev pub AllWalk : Heap → List ℕ → List (List Found) → Type 0
AllWalk heap [] [] = Unit {0}
AllWalk heap (offset ∷ offsets) (trace ∷ traces) = Walks heap (plainly Key offset ∷ []) trace × AllWalk heap offsets traces
AllWalk heap [] (trace ∷ traces) = ⊥
AllWalk heap (offset ∷ offsets) [] = ⊥

keys-walk : (heap : Heap) (offsets : List ℕ) (traces : List (List Found)) → AllWalk heap offsets traces → Walks heap (map (plainly Key) offsets) (joined traces)
keys-walk heap [] [] a = walks-none heap
keys-walk heap (offset ∷ offsets) (trace ∷ traces) a =
    walks-join heap (plainly Key offset ∷ []) (map (plainly Key) offsets) trace (joined traces) a.0 (keys-walk heap offsets traces a.1)
keys-walk heap [] (trace ∷ traces) a = absurd a
keys-walk heap (offset ∷ offsets) [] a = absurd a

all-front : (heap : Heap) (es fs : List Entry) (traces : List (List Found)) → AllWalk heap (offsets_in (es ++ fs)) traces → AllWalk heap (offsets_in es) (take (length es) traces)
all-front heap [] fs traces a = tt
all-front heap (e ∷ es) fs [] a = absurd a
all-front heap (e ∷ es) fs (trace ∷ traces) a = (a.0, all-front heap es fs traces a.1)

all-back : (heap : Heap) (es fs : List Entry) (traces : List (List Found)) → AllWalk heap (offsets_in (es ++ fs)) traces → AllWalk heap (offsets_in fs) (drop (length es) traces)
all-back heap [] fs traces a = a
all-back heap (e ∷ es) fs [] a = absurd a
all-back heap (e ∷ es) fs (trace ∷ traces) a = all-back heap es fs traces a.1

-- ---- lists of keys

keys-are : (form : Form) (entries : List Entry) → is_root form ≡ false → keys_named form entries ≡ Some (map (plainly Key) (offsets_in entries))
keys-are IndexRoot entries r = absurd (false≢true (sym r))
keys-are IndexLeaf entries r = refl
keys-are FastLeaf entries r = refl
keys-are HashLeaf entries r = refl

-- a list of keys is its cell's, and no index root
record IsKeyList (heap : Heap) (offset : ℕ) (list : KeyList) : Type 0 where
  content : List ℕ
  here : heap offset ≡ Some content
  list_is : list_of content ≡ Some list.list
  no_root : is_root list.list.form ≡ false
  is_here : offset ≡ list.offset

pub as-key-list : (offset : ℕ) (l : SubkeysList) (form : Form) (list : KeyList) → key_list_as offset l form ≡ Some list → (is_root form ≡ false) × (offset ≡ list.offset) × (l ≡ list.list)
as-key-list offset l IndexRoot list e = absurd (none-some _ e)
as-key-list offset l IndexLeaf list e = let p = same_Some _ _ e in (refl, ap (λ (k : KeyList). k.offset) p, ap (λ (k : KeyList). k.list) p)
as-key-list offset l FastLeaf list e = let p = same_Some _ _ e in (refl, ap (λ (k : KeyList). k.offset) p, ap (λ (k : KeyList). k.list) p)
as-key-list offset l HashLeaf list e = let p = same_Some _ _ e in (refl, ap (λ (k : KeyList). k.offset) p, ap (λ (k : KeyList). k.list) p)

key-list-open : (heap : Heap) (offset : ℕ) (list : KeyList) → key_list_at heap offset ≡ Some list → IsKeyList heap offset list
key-list-open heap offset list e =
    let o = then-open (λ list. key_list_as offset list list.form) (list_at heap offset) list e in
    let c = then-open list_of (heap offset) o.0 o.1 in
    let k = as-key-list offset o.0 o.0.form list o.2 in
    record { content = c.0; here = c.1; list_is = c.2 ∙ ap Some k.2; no_root = ap (λ (l : SubkeysList). is_root l.form) (sym k.2) ∙ k.0; is_here = k.1 }

key-list-walks : (heap : Heap) (offset : ℕ) (list : KeyList) (traces : List (List Found)) → IsKeyList heap offset list →
    AllWalk heap (offsets_in list.list.entries) traces →
    Walks heap (plainly Leaf offset ∷ []) (record { kind = Leaf; offset = list.offset } ∷ joined traces)
key-list-walks heap offset list traces k a =
    subst (λ node_offset. Walks heap (plainly Leaf offset ∷ []) (record { kind = Leaf; offset = node_offset } ∷ joined traces)) k.is_here
    (walks-met heap (plainly Leaf offset) k.content (map (plainly Key) (offsets_in list.list.entries)) (joined traces) k.here
    (ap (option_and_then (λ list. keys_named list.form list.entries)) k.list_is ∙ keys-are list.list.form list.list.entries k.no_root)
    (keys-walk heap (offsets_in list.list.entries) traces a))

lists-walk : (heap : Heap) (offsets : List ℕ) (lists : List KeyList) (traces : List (List Found)) → key_lists_at heap offsets ≡ Some lists →
    AllWalk heap (offsets_in (flat_map (λ (l : KeyList). l.list.entries) lists)) traces →
    Walks heap (map (plainly Leaf) offsets) (lists_met lists traces)
lists-walk heap [] lists traces e a = subst (λ ls. Walks heap [] (lists_met ls traces)) (same_Some _ _ e) (walks-none heap)
lists-walk heap (offset ∷ offsets) lists traces e a =
    let o = then-open (λ list. option_map (λ lists. list ∷ lists) (key_lists_at heap offsets)) (key_list_at heap offset) lists e in
    let t = map-open (λ lists. o.0 ∷ lists) (key_lists_at heap offsets) lists o.2 in
    let b = subst (λ ls. AllWalk heap (offsets_in (flat_map (λ (l : KeyList). l.list.entries) ls)) traces) (sym t.2) a in
    let rest = flat_map (λ (l : KeyList). l.list.entries) t.0 in
    subst (λ ls. Walks heap (map (plainly Leaf) (offset ∷ offsets)) (lists_met ls traces)) t.2
    (walks-join heap (plainly Leaf offset ∷ []) (map (plainly Leaf) offsets)
    (record { kind = Leaf; offset = o.0.offset } ∷ joined (take (length o.0.list.entries) traces)) (lists_met t.0 (drop (length o.0.list.entries) traces))
    (key-list-walks heap offset o.0 (take (length o.0.list.entries) traces) (key-list-open heap offset o.0 o.1) (all-front heap o.0.list.entries rest traces b))
    (lists-walk heap offsets t.0 (drop (length o.0.list.entries) traces) t.1 (all-back heap o.0.list.entries rest traces b)))

-- ---- an index

-- a leaf is the whole index
leaf-walks : (heap : Heap) (count offset : ℕ) (l : SubkeysList) (content : List ℕ) (index : Index) (traces : List (List Found)) →
    heap offset ≡ Some content → list_of content ≡ Some l → is_root l.form ≡ false → Listed (record { offset = offset; list = l }) ≡ index →
    AllWalk heap (offsets_in (entries_of index)) traces → Walks heap (if_any SubList (suc count) offset) (index_met index traces)
leaf-walks heap count offset l content index traces here are no_root is a =
    let b = subst (λ i. AllWalk heap (offsets_in (entries_of i)) traces) (sym is) a in
    subst (λ i. Walks heap (if_any SubList (suc count) offset) (index_met i traces)) is
    (subst (λ kind. Walks heap (if_any SubList (suc count) offset) (record { kind = kind; offset = offset } ∷ joined traces)) kind
    (walks-met heap (named SubList (suc count) offset) content (map (plainly Key) (offsets_in l.entries)) (joined traces) here
    (ap (λ kind. names_of kind (suc count) content) kind ∙ (ap (option_and_then (λ list. keys_named list.form list.entries)) are ∙ keys-are l.form l.entries no_root))
    (keys-walk heap (offsets_in l.entries) traces (subst (λ es. AllWalk heap (offsets_in es) traces) (append-nil l.entries) b))))
  where
    kind : kind_met SubList content ≡ Leaf
    kind = ap (λ b. cond b SubList Leaf) (root-signed content l are ∙ no_root)

roots-are : (form : Form) (entries : List Entry) → is_root form ≡ true → leaves_named form entries ≡ Some (map (plainly Leaf) (offsets_in entries))
roots-are IndexRoot entries r = refl
roots-are IndexLeaf entries r = absurd (false≢true r)
roots-are FastLeaf entries r = absurd (false≢true r)
roots-are HashLeaf entries r = absurd (false≢true r)

root-walks : (heap : Heap) (count offset : ℕ) (l : SubkeysList) (content : List ℕ) (index : Index) (traces : List (List Found)) →
    heap offset ≡ Some content → list_of content ≡ Some l → is_root l.form ≡ true →
    option_map (Rooted offset) (key_lists_at heap (offsets_in l.entries)) ≡ Some index → AllWalk heap (offsets_in (entries_of index)) traces →
    Walks heap (if_any SubList (suc count) offset) (index_met index traces)
root-walks heap count offset l content index traces here are root e a =
    let o = map-open (Rooted offset) (key_lists_at heap (offsets_in l.entries)) index e in
    let b = subst (λ i. AllWalk heap (offsets_in (entries_of i)) traces) (sym o.2) a in
    subst (λ i. Walks heap (if_any SubList (suc count) offset) (index_met i traces)) o.2
    (subst (λ kind. Walks heap (if_any SubList (suc count) offset) (record { kind = kind; offset = offset } ∷ lists_met o.0 traces)) kind
    (walks-met heap (named SubList (suc count) offset) content (map (plainly Leaf) (offsets_in l.entries)) (lists_met o.0 traces) here
    (ap (λ kind. names_of kind (suc count) content) kind ∙ (ap (option_and_then (λ list. leaves_named list.form list.entries)) are ∙ roots-are l.form l.entries root))
    (lists-walk heap (offsets_in l.entries) o.0 traces o.1 b)))
  where
    kind : kind_met SubList content ≡ SubList
    kind = ap (λ b. cond b SubList Leaf) (root-signed content l are ∙ root)

pub index-walks : (heap : Heap) (count offset : ℕ) (index : Index) (traces : List (List Found)) → index_at heap count offset ≡ Some index →
    AllWalk heap (offsets_in (entries_of index)) traces → Walks heap (if_any SubList count offset) (index_met index traces)
index-walks heap zero offset index traces e a = subst (λ i. Walks heap [] (index_met i traces)) (same_Some _ _ e) (walks-none heap)
index-walks heap (suc count) offset index traces e a =
    let o = then-open (λ list. index_as heap offset list list.form) (list_at heap offset) index e in
    let c = then-open list_of (heap offset) o.0 o.1 in
    by o.0 c.0 c.1 c.2 o.0.form refl o.2
  where
    by : (l : SubkeysList) (content : List ℕ) → heap offset ≡ Some content → list_of content ≡ Some l → (form : Form) → l.form ≡ form →
        index_as heap offset l form ≡ Some index → Walks heap (if_any SubList (suc count) offset) (index_met index traces)
    by l content here are IndexRoot f e = root-walks heap count offset l content index traces here are (ap is_root f) e a
    by l content here are IndexLeaf f e = leaf-walks heap count offset l content index traces here are (ap is_root f) (same_Some _ _ e) a
    by l content here are FastLeaf f e = leaf-walks heap count offset l content index traces here are (ap is_root f) (same_Some _ _ e) a
    by l content here are HashLeaf f e = leaf-walks heap count offset l content index traces here are (ap is_root f) (same_Some _ _ e) a
