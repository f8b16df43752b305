-- What a key's number of subkeys and the offset that it names say, taken apart and put together.
use Rattle.std.proofs.Common.{◌≡◌, ℕ, zero, suc, ◌<◌, ◌≤◌, Option, Some, None, List, [], ◌∷◌, length, map, get_or, refl, sym, ap, ◌∙◌, subst, arith}
use Rattle.std.specs.Prelude.{unwrap_or}
use Rattle.std.specs.List.{AllByRecursion}
use Rattle.std.specs.Option.{option_map, option_and_then}
use Rattle.std.proofs.lemmas.List.{length-append}
use Rattle.std.proofs.lemmas.Option.{none-some, same_Some, option_and_then_some}
use Rattle.reg_heap.specs.declared.limits.TheConstants.{NONE}
use Rattle.reg_heap.specs.Heaps.{Heap}
use Rattle.reg_records.specs.declared.lists.ListForm.TheVariants.{IndexRoot, IndexLeaf, FastLeaf, HashLeaf}
use Rattle.reg_records.specs.SubkeyLists.{SubkeysList, Entry, Form, offsets_in}
use Rattle.reg_shape.specs.Nodes.{KeyList, Index, list_at, key_list_as, key_list_at, key_lists_at, index_as, index_at, lists_of, entries_of}
use Rattle.reg_shape.specs.Nodes.Index.{Unlisted, Listed, Rooted}
use Rattle.reg_shape.specs.Written.{IsWrittenList, IsWrittenIndex}
use Rattle.reg_index.specs.Internal.HashLeaves.{IsLeaf}
use Rattle.reg_index.specs.Internal.IndexLists.{AreKeys, HasLists, IsRoot, Stands, StandsAmong, cells_under, offsets_of, plain}
use Rattle.reg_index.specs.Subkeys.{AreSubkeys, cells_of_index, entries_in, flat_among, index_of, index_under, numbered, own}
use Rattle.reg_index.proofs.RootOffsets.{offsets-plain}
use Rattle.reg_index.proofs.RootParts.{root-plain}
use Rattle.reg_index.proofs.ListPlaces.{all-stand, entry-at}
use Rattle.reg_index.specs.declared.Place.{Place}

-- ---- an index that was read

-- the index's cells
pub index-is : (heap : Heap) (count offset : ℕ) (index : Index) → index_at heap count offset ≡ Some index → index_of heap count offset ≡ index
index-is heap count offset index e = ap (λ (o : Option Index). unwrap_or o Unlisted) e

pub own-is : (heap : Heap) (count offset : ℕ) (index : Index) → index_at heap count offset ≡ Some index → own heap count offset ≡ cells_of_index index
own-is heap count offset index e = ap cells_of_index (index-is heap count offset index e)

-- there is one reading
pub same-subkeys : (heap : Heap) (count offset : ℕ) (a b : List Entry) → AreSubkeys heap count offset a → AreSubkeys heap count offset b → a ≡ b
same-subkeys heap count offset a b x y = sym x.entries_are ∙ (ap entries_of (same_Some _ _ (sym x.read ∙ y.read)) ∙ y.entries_are)

pub keys-of : (heap : Heap) (count offset : ℕ) (entries : List Entry) → AreSubkeys heap count offset entries → AreKeys heap entries
keys-of heap count offset entries s = record { keys = s.keys; hashes = s.hashes; rising = s.rising }

-- ---- its lists

-- a list of keys that was read
leaf-as : (offset : ℕ) (list : SubkeysList) (form : Form) (k : KeyList) → key_list_as offset list form ≡ Some k → k ≡ record { offset = offset; list = list }
leaf-as offset list IndexRoot k e = absurd (none-some _ e)
leaf-as offset list IndexLeaf k e = sym (same_Some _ _ e)
leaf-as offset list FastLeaf k e = sym (same_Some _ _ e)
leaf-as offset list HashLeaf k e = sym (same_Some _ _ e)

pub record IsRead (heap : Heap) (offset : ℕ) (list : KeyList) : Type 0 where
  pub offset_is : list.offset ≡ offset
  pub here : list_at heap offset ≡ Some list.list

list-open : (heap : Heap) (offset : ℕ) (list : KeyList) → key_list_at heap offset ≡ Some list → IsRead heap offset list
list-open heap offset list e =
    option_and_then_some (λ (l : SubkeysList). key_list_as offset l l.form) (list_at heap offset) list e (λ l here reads.
    let is = leaf-as offset l l.form list reads in
    record { offset_is = ap (λ (k : KeyList). k.offset) is; here = here ∙ ap (λ (k : KeyList). Some k.list) (sym is) })

stands-read : (heap : Heap) (offset : ℕ) (list : KeyList) → IsRead heap offset list → IsWrittenList list → Stands heap list
stands-read heap offset list r w = record {
  leaf = ap (list_at heap) r.offset_is ∙ r.here ∙ (λ i. Some (record { form = w.form i; entries = list.list.entries }));
  written = w;
}

-- the lists of an index root that were read
pub record AreRead (heap : Heap) (offsets : List ℕ) (lists : List KeyList) : Type 0 where
  pub offsets_are : offsets ≡ offsets_of lists
  pub each : AllByRecursion (λ (list : KeyList). IsRead heap list.offset list) lists

lists-open : (heap : Heap) (offsets : List ℕ) (lists : List KeyList) → key_lists_at heap offsets ≡ Some lists → AreRead heap offsets lists
lists-open heap [] lists e = subst (AreRead heap []) (same_Some _ _ e) (record { offsets_are = refl; each = tt })
lists-open heap (offset ∷ offsets) lists e =
    option_and_then_some (λ (list : KeyList). option_map (λ lists. list ∷ lists) (key_lists_at heap offsets)) (key_list_at heap offset) lists e (λ list one rest.
    by list one (key_lists_at heap offsets) (λ others. lists-open heap offsets others) rest)
  where
    by : (list : KeyList) → key_list_at heap offset ≡ Some list → (o : Option (List KeyList)) → ((others : List KeyList) → o ≡ Some others → AreRead heap offsets others) →
        option_map (λ lists. list ∷ lists) o ≡ Some lists → AreRead heap (offset ∷ offsets) lists
    by list one None f rest = absurd (none-some _ rest)
    by list one (Some others) f rest =
        let l = list-open heap offset list one in
        let o = f others refl in
        subst (AreRead heap (offset ∷ offsets)) (same_Some _ _ rest)
        (record {
          offsets_are = (λ i. sym l.offset_is i ∷ o.offsets_are i);
          each = (subst (λ z. IsRead heap z list) (sym l.offset_is) l, o.each);
        })

all-standing : (heap : Heap) (lists : List KeyList) → AllByRecursion (λ (list : KeyList). IsRead heap list.offset list) lists → AllByRecursion IsWrittenList lists →
    AllByRecursion (Stands heap) lists
all-standing heap [] r w = tt
all-standing heap (list ∷ lists) r w = (stands-read heap list.offset list r.0 w.0, all-standing heap lists r.1 w.1)

-- what an index that was read says of its lists
pub record IsOpened (heap : Heap) (offset : ℕ) (index : Index) : Type 0 where
  pub has : HasLists heap offset (lists_of index)
  pub under : index ≡ index_under offset (lists_of index)

rooted : (heap : Heap) (offset : ℕ) (lists : List KeyList) → IsRoot heap offset (offsets_of lists) → AllByRecursion (Stands heap) lists → 2 ≤ length lists →
    IsOpened heap offset (Rooted offset lists)
rooted heap offset [] root all two = absurd (omega arith)
rooted heap offset (list ∷ []) root all two = absurd (omega arith)
rooted heap offset (first ∷ second ∷ others) root all two = record { has = (root, all); under = refl }

listed : (heap : Heap) (offset : ℕ) (list : SubkeysList) → list_at heap offset ≡ Some list → IsWrittenList (record { offset = offset; list = list }) →
    IsOpened heap offset (Listed (record { offset = offset; list = list }))
listed heap offset list here w = record { has = (refl, stands-read heap offset (record { offset = offset; list = list }) (record { offset_is = refl; here = here }) w); under = refl }

opened-as : (heap : Heap) (offset : ℕ) (list : SubkeysList) (form : Form) (index : Index) → list_at heap offset ≡ Some list → list.form ≡ form →
    index_as heap offset list form ≡ Some index → IsWrittenIndex index → IsOpened heap offset index
opened-as heap offset list IndexRoot index here form reads w = by (key_lists_at heap (offsets_in list.entries)) refl reads
  where
    by : (o : Option (List KeyList)) → key_lists_at heap (offsets_in list.entries) ≡ o → option_map (Rooted offset) o ≡ Some index → IsOpened heap offset index
    by None e f = absurd (none-some _ f)
    by (Some lists) e f =
        let is : index ≡ Rooted offset lists = sym (same_Some _ _ f) in
        let w' : IsWrittenIndex (Rooted offset lists) = subst IsWrittenIndex is w in
        let r = lists-open heap (offsets_in list.entries) lists e in
        let root : IsRoot heap offset (offsets_of lists) =
        here ∙ (λ i. Some (record { form = form i; entries = (root-plain heap offset list here form ∙ ap (map plain) r.offsets_are) i })) in
        subst (IsOpened heap offset) (sym is) (rooted heap offset lists root (all-standing heap lists r.each w'.1) w'.0)
opened-as heap offset list IndexLeaf index here form reads w = let is = sym (same_Some _ _ reads) in subst (IsOpened heap offset) (sym is) (listed heap offset list here (subst IsWrittenIndex is w))
opened-as heap offset list FastLeaf index here form reads w = let is = sym (same_Some _ _ reads) in subst (IsOpened heap offset) (sym is) (listed heap offset list here (subst IsWrittenIndex is w))
opened-as heap offset list HashLeaf index here form reads w = let is = sym (same_Some _ _ reads) in subst (IsOpened heap offset) (sym is) (listed heap offset list here (subst IsWrittenIndex is w))

index-open : (heap : Heap) (count offset : ℕ) (index : Index) → index_at heap count offset ≡ Some index → IsWrittenIndex index → (count ≡ 0 → offset ≡ NONE) →
    IsOpened heap offset index
index-open heap zero offset index e w none = subst (IsOpened heap offset) (same_Some _ _ e) (record { has = none refl; under = refl })
index-open heap (suc count) offset index e w none =
    option_and_then_some (λ (list : SubkeysList). index_as heap offset list list.form) (list_at heap offset) index e (λ list here reads.
    opened-as heap offset list list.form index here refl reads w)

pub subkeys-open : (heap : Heap) (count offset : ℕ) (entries : List Entry) (s : AreSubkeys heap count offset entries) → IsOpened heap offset s.index
subkeys-open heap count offset entries s = index-open heap count offset s.index s.read s.written s.unlisted

-- ---- put together

keys-read : (heap : Heap) (lists : List KeyList) → AllByRecursion (Stands heap) lists → key_lists_at heap (offsets_of lists) ≡ Some lists
keys-read heap [] all = refl
keys-read heap (list ∷ lists) all =
    let form : key_list_as list.offset list.list list.list.form ≡ Some list = ap (key_list_as list.offset list.list) all.0.written.form in
    let one : key_list_at heap list.offset ≡ Some list =
    ap (option_and_then (λ (l : SubkeysList). key_list_as list.offset l l.form))
    (all.0.leaf ∙ (λ i. Some (record { form = sym all.0.written.form i; entries = list.list.entries }))) ∙ form in
    ap (option_and_then (λ (l : KeyList). option_map (λ ls. l ∷ ls) (key_lists_at heap (offsets_of lists)))) one
    ∙ ap (option_map (λ ls. list ∷ ls)) (keys-read heap lists all.1)

-- lists that stand are read as their index
pub index-read : (heap : Heap) (count offset : ℕ) (lists : List KeyList) → HasLists heap offset lists → 0 < count → 0 < length lists →
    index_at heap count offset ≡ Some (index_under offset lists)
index-read heap zero offset lists h some l = absurd (omega arith)
index-read heap (suc count) offset [] h some l = absurd (omega arith)
index-read heap (suc count) offset (list ∷ []) h some l =
    ap (option_and_then (λ (l : SubkeysList). index_as heap offset l l.form)) (subst (λ o. IsLeaf heap o list.list.entries) h.0 h.1.leaf)
    ∙ (λ i. Some (Listed (record { offset = sym h.0 i; list = record { form = sym h.1.written.form i; entries = list.list.entries } })))
index-read heap (suc count) offset (first ∷ second ∷ others) h some l =
    let lists : List KeyList = first ∷ second ∷ others in
    ap (option_and_then (λ (l : SubkeysList). index_as heap offset l l.form)) h.0
    ∙ ap (option_map (Rooted offset)) (ap (key_lists_at heap) (offsets-plain (offsets_of lists)) ∙ keys-read heap lists h.1)

all-written : (heap : Heap) (lists : List KeyList) → AllByRecursion (Stands heap) lists → AllByRecursion IsWrittenList lists
all-written heap [] all = tt
all-written heap (list ∷ lists) all = (all.0.written, all-written heap lists all.1)

pub index-written : (heap : Heap) (offset : ℕ) (lists : List KeyList) → HasLists heap offset lists → IsWrittenIndex (index_under offset lists)
index-written heap offset [] h = tt
index-written heap offset (list ∷ []) h = h.1.written
index-written heap offset (first ∷ second ∷ others) h = (omega arith, all-written heap (first ∷ second ∷ others) h.1)

pub entries-under : (offset : ℕ) (lists : List KeyList) → entries_of (index_under offset lists) ≡ entries_in lists
entries-under offset [] = refl
entries-under offset (list ∷ []) = refl
entries-under offset (first ∷ second ∷ others) = refl

-- lists that stand are as many subkeys as they have entries
pub subkeys-made : (heap : Heap) (count offset : ℕ) (lists : List KeyList) → HasLists heap offset lists → AreKeys heap (entries_in lists) →
    length (entries_in lists) ≡ count → AreSubkeys heap count offset (entries_in lists)
subkeys-made heap zero offset [] h k n = record {
  index = Unlisted;
  read = refl;
  written = tt;
  entries_are = refl;
  number = n;
  unlisted = λ _. h;
  keys = k.keys;
  hashes = k.hashes;
  rising = k.rising;
}
subkeys-made heap (suc count) offset [] h k n = absurd (omega (arith, n))
subkeys-made heap count offset (list ∷ lists) h k n =
    let some : 0 < count = omega (arith, n, some-entries list lists (all-stand heap offset (list ∷ lists) h)) in
    record {
      index = index_under offset (list ∷ lists);
      read = index-read heap count offset (list ∷ lists) h some (omega arith);
      written = index-written heap offset (list ∷ lists) h;
      entries_are = entries-under offset (list ∷ lists);
      number = n;
      unlisted = λ e. absurd (omega (arith, e, some));
      keys = k.keys;
      hashes = k.hashes;
      rising = k.rising;
    }
  where
    some-entries : (list : KeyList) (lists : List KeyList) → AllByRecursion (Stands heap) (list ∷ lists) → 1 ≤ length (entries_in (list ∷ lists))
    some-entries list lists all = omega (arith, all.0.written.some, length-append list.list.entries (entries_in lists))

-- and are the index that is read
pub index-under : (heap : Heap) (count offset : ℕ) (lists : List KeyList) → HasLists heap offset lists → length (entries_in lists) ≡ count →
    index_of heap count offset ≡ index_under offset lists
index-under heap zero offset [] h n = refl
index-under heap (suc count) offset [] h n = absurd (omega (arith, n))
index-under heap zero offset (list ∷ lists) h n =
    absurd (omega (arith, n, (all-stand heap offset (list ∷ lists) h).0.written.some, length-append list.list.entries (entries_in lists)))
index-under heap (suc count) offset (list ∷ lists) h n =
    index-is heap (suc count) offset (index_under offset (list ∷ lists)) (index-read heap (suc count) offset (list ∷ lists) h (omega arith) (omega arith))

pub own-under : (heap : Heap) (count offset : ℕ) (lists : List KeyList) → HasLists heap offset lists → length (entries_in lists) ≡ count →
    own heap count offset ≡ cells_under offset lists
own-under heap count offset lists h n = ap cells_of_index (index-under heap count offset lists h n)

-- ---- the lists of a key's subkeys

pub lists-has : (heap : Heap) (count offset : ℕ) (entries : List Entry) (s : AreSubkeys heap count offset entries) → HasLists heap offset (lists_of s.index)
lists-has heap count offset entries s = (subkeys-open heap count offset entries s).has

pub lists-long : (heap : Heap) (count offset : ℕ) (entries : List Entry) (s : AreSubkeys heap count offset entries) (index : ℕ) → index < count →
    index < length (entries_in (lists_of s.index))
lists-long heap count offset entries s index l = omega (arith, ap length s.entries_are, s.number, l)

pub subkey-at : (heap : Heap) (count offset : ℕ) (entries : List Entry) (s : AreSubkeys heap count offset entries) (index : ℕ) (place : Place) (key : ℕ) →
    StandsAmong (lists_of s.index) place → flat_among (lists_of s.index) place ≡ index →
    (get_or (numbered place.list (lists_of s.index)).list.entries place.index (record { offset = 0; hint = 0 })).offset ≡ key
    → (get_or entries index (record { offset = 0; hint = 0 })).offset ≡ key
subkey-at heap count offset entries s index place key stands at is =
    ap (λ (es : List Entry). (get_or es index (record { offset = 0; hint = 0 })).offset) (sym s.entries_are)
    ∙ (ap (λ n. (get_or (entries_in (lists_of s.index)) n (record { offset = 0; hint = 0 })).offset) (sym at)
    ∙ (ap (λ (e : Entry). e.offset) (entry-at (lists_of s.index) place (record { offset = 0; hint = 0 }) stands) ∙ is))
