-- What is read of lists in their cells: their heads, the offsets of an index root, and the entries of a leaf.
use Rattle.std.proofs.Common.{◌≡◌, ℕ, zero, suc, ◌+◌, ◌*◌, ◌<◌, ◌≤◌, Some, IsSome, List, [], ◌∷◌, length, map, get_or, refl, sym, ap, ◌∙◌, subst, arith}
use Rattle.std.specs.Prelude.{slice_get}
use Rattle.std.specs.Option.{option_and_then}
use Rattle.std.proofs.lemmas.List.{length-map, get_or-map}
use Rattle.reg_heap.specs.declared.limits.TheConstants.{NONE}
use Rattle.std.proofs.lemmas.Option.{none-some, same_Some, option_and_then_some}
use Rattle.reg_heap.specs.Heaps.{Heap}
use Rattle.reg_heap.specs.ByteWords.{half}
use Rattle.reg_records.specs.declared.lists.ListForm.TheVariants.{IndexRoot, IndexLeaf, FastLeaf, HashLeaf}
use Rattle.reg_records.specs.RecordCells.{held}
use Rattle.reg_records.specs.SubkeyLists.{SubkeysList, Entry, Form, list_of, entries_as, plain_entries, hinted_entries}
use Rattle.reg_shape.specs.Nodes.{KeyList, list_at}
use Rattle.reg_index.specs.Internal.HashLeaves.{IsLeaf}
use Rattle.reg_index.specs.Internal.IndexLists.{HasLists, IsRoot, offsets_of, plain}
use Rattle.reg_index.specs.Subkeys.{no_list, numbered}
use Rattle.reg_index.proofs.LeafEntries.{length-hinted}
use Rattle.reg_index.proofs.LeafParts.{leaf-open}
use Rattle.reg_index.proofs.RootOffsets.{plain-offsets}
use Rattle.reg_index.proofs.RootParts.{root-open}
use Rattle.reg_records.specs.OffsetRows.{offsets_at}

-- ---- heads

length-plain : (n at : ℕ) (c : List ℕ) → length (plain_entries n at c) ≡ n
length-plain zero at c = refl
length-plain (suc n) at c = ap suc (length-plain n (at + 4) c)

pub length-as : (form : Form) (n at : ℕ) (c : List ℕ) → length (entries_as form n at c) ≡ n
length-as IndexRoot n at c = length-plain n at c
length-as IndexLeaf n at c = length-plain n at c
length-as FastLeaf n at c = length-hinted n at c
length-as HashLeaf n at c = length-hinted n at c

-- the list in a cell is the one that its content reads as
pub list-read : (heap : Heap) (cell : ℕ) (content : List ℕ) (l : SubkeysList) → heap cell ≡ Some content → list_at heap cell ≡ Some l → list_of content ≡ Some l
list-read heap cell content l here is = ap (option_and_then list_of) (sym here) ∙ is

pub list-there : (heap : Heap) (cell : ℕ) (l : SubkeysList) → list_at heap cell ≡ Some l → IsSome (heap cell)
list-there heap cell l is = option_and_then_some list_of (heap cell) l is (λ content here reads. subst IsSome (sym here) refl)

module _ (heap : Heap) (cell : ℕ) (content : List ℕ) (here : heap cell ≡ Some content) (form : Form) (count : ℕ)
    (reads : list_of content ≡ Some (record { form = form; entries = entries_as form count 4 content })) where
  pub head-count : (l : SubkeysList) → list_at heap cell ≡ Some l → count ≡ length l.entries
  head-count l is =
      sym (length-as form count 4 content) ∙ ap (λ (l : SubkeysList). length l.entries) (same_Some _ _ (sym reads ∙ list-read heap cell content l here is))

-- ---- lists, by their heads

-- what stands at the offset that a key names
pub lists-head : (heap : Heap) (offset : ℕ) (lists : List KeyList) → HasLists heap offset lists → 0 < length lists →
    (l : SubkeysList) × (list_at heap offset ≡ Some l)
lists-head heap offset [] h l = absurd (omega arith)
lists-head heap offset (list ∷ []) h l = (_, subst (λ o. IsLeaf heap o list.list.entries) h.0 h.1.leaf)
lists-head heap offset (first ∷ second ∷ others) h l = (_, h.0)

pub root-count : (heap : Heap) (offset : ℕ) (lists : List KeyList) (form : Form) (count : ℕ) → form ≡ IndexRoot →
    ((l : SubkeysList) → list_at heap offset ≡ Some l → form ≡ l.form) → ((l : SubkeysList) → list_at heap offset ≡ Some l → count ≡ length l.entries)
    → HasLists heap offset lists → 0 < length lists → count ≡ length lists
root-count heap offset [] form count root is number h l = absurd (omega arith)
root-count heap offset (list ∷ []) form count root is number h l =
    absurd (no-root (sym root ∙ is _ (subst (λ o. IsLeaf heap o list.list.entries) h.0 h.1.leaf)))
  where
    no-root : ◌≡◌ {A = Form} IndexRoot HashLeaf → ⊥
    no-root e = cc e
root-count heap offset (first ∷ second ∷ others) form count root is number h l =
    number _ h.0 ∙ (length-map (offsets_of (first ∷ second ∷ others)) plain ∙ length-map (first ∷ second ∷ others) (λ (list : KeyList). list.offset))

pub root-lists : (heap : Heap) (offset : ℕ) (lists : List KeyList) (form : Form) → form ≡ IndexRoot →
    ((l : SubkeysList) → list_at heap offset ≡ Some l → form ≡ l.form) → HasLists heap offset lists → 0 < length lists → IsRoot heap offset (offsets_of lists)
root-lists heap offset [] form root is h l = absurd (omega arith)
root-lists heap offset (list ∷ []) form root is h l = absurd (no-root (sym root ∙ is _ (subst (λ o. IsLeaf heap o list.list.entries) h.0 h.1.leaf)))
  where
    no-root : ◌≡◌ {A = Form} IndexRoot HashLeaf → ⊥
    no-root e = cc e
root-lists heap offset (first ∷ second ∷ others) form root is h l = h.0

pub root-room : (heap : Heap) (cell : ℕ) (offsets : List ℕ) (number : ℕ) (content : List ℕ) → IsRoot heap cell offsets → number < length offsets →
    heap cell ≡ Some content → 4 + 4 * (number + 1) ≤ length content
root-room heap cell offsets number content root l here =
    let r = root-open heap cell offsets root in
    let same : held heap cell ≡ content = same_Some _ _ (sym r.here ∙ here) in
    subst (λ c. 4 + 4 * (number + 1) ≤ length c) same (omega (arith, r.says.long, l))

slice_get-at : {A : Type 0} (xs : List A) (index : ℕ) (x d : A) → slice_get xs index ≡ Some x → get_or xs index d ≡ x
slice_get-at [] index x d e = absurd (none-some _ e)
slice_get-at (y ∷ ys) zero x d e = same_Some _ _ e
slice_get-at (y ∷ ys) (suc index) x d e = slice_get-at ys index x d e

-- the offset that is read at a number
pub root-entry : (heap : Heap) (cell : ℕ) (offsets : List ℕ) (number : ℕ) (content : List ℕ) (entry : Entry) → IsRoot heap cell offsets → number < length offsets →
    heap cell ≡ Some content → ((count : ℕ) → number < count → slice_get (plain_entries count 4 content) number ≡ Some entry) →
    (d : ℕ) → get_or offsets number d ≡ entry.offset
root-entry heap cell offsets number content entry root l here reads d =
    let r = root-open heap cell offsets root in
    let same : held heap cell ≡ content = same_Some _ _ (sym r.here ∙ here) in
    let body : plain_entries (length offsets) 4 content ≡ map plain offsets =
    plain-offsets (length offsets) 4 content ∙ ap (map plain) (ap (offsets_at (length offsets) 4) (sym same) ∙ r.says.body) in
    let found : get_or (map plain offsets) number (plain d) ≡ entry = slice_get-at (map plain offsets) number entry (plain d) (ap (λ es. slice_get es number) (sym body) ∙ reads (length offsets) l) in
    ap (λ (e : Entry). e.offset) (sym (get_or-map plain offsets number d (plain d) l) ∙ found)

-- the list of a number under an index root
pub numbered-root : (heap : Heap) (offset number : ℕ) (lists : List KeyList) (content : List ℕ) (entry : Entry) → IsRoot heap offset (offsets_of lists) →
    number < length lists → heap offset ≡ Some content → ((count : ℕ) → number < count → slice_get (plain_entries count 4 content) number ≡ Some entry) →
    (numbered number lists).offset ≡ entry.offset
numbered-root heap offset number lists content entry root l here reads =
    sym (get_or-map (λ (list : KeyList). list.offset) lists number no_list NONE l)
    ∙ root-entry heap offset (offsets_of lists) number content entry root (subst (λ n. number < n) (sym (length-map lists (λ (list : KeyList). list.offset))) l) here reads NONE

-- ---- entries of a leaf

pub leaf-room : (heap : Heap) (cell index : ℕ) (content : List ℕ) → ((entries : List Entry) × IsLeaf heap cell entries × (index < length entries)) →
    heap cell ≡ Some content → 4 + 8 * (index + 1) ≤ length content
leaf-room heap cell index content s here =
    let leaf = leaf-open heap cell s.0 s.1 in
    let same : held heap cell ≡ content = same_Some _ _ (sym leaf.here ∙ here) in
    subst (λ c. 4 + 8 * (index + 1) ≤ length c) same (omega (arith, leaf.says.long, s.2))

pub leaf-entry : (heap : Heap) (cell index : ℕ) (content : List ℕ) (entry : Entry) → heap cell ≡ Some content →
    ((count : ℕ) → index < count → slice_get (hinted_entries count 4 content) index ≡ Some entry)
    → (entries : List Entry) → IsLeaf heap cell entries → index < length entries → get_or entries index (record { offset = 0; hint = 0 }) ≡ entry
leaf-entry heap cell index content entry here reads entries is l =
    let leaf = leaf-open heap cell entries is in
    let same : held heap cell ≡ content = same_Some _ _ (sym leaf.here ∙ here) in
    let body : hinted_entries (length entries) 4 content ≡ entries = ap (hinted_entries (length entries) 4) (sym same) ∙ leaf.says.body in
    slice_get-at entries index entry _ (ap (λ es. slice_get es index) (sym body) ∙ reads (length entries) l)

pub leaf-number : (heap : Heap) (cell : ℕ) (content : List ℕ) (count : ℕ) → heap cell ≡ Some content → count ≡ half content 2 →
    (entries : List Entry) → IsLeaf heap cell entries → count ≡ length entries
leaf-number heap cell content count here e entries is =
    let leaf = leaf-open heap cell entries is in
    e ∙ (ap (λ c. half c 2) (same_Some _ _ (sym here ∙ leaf.here)) ∙ leaf.says.count)

pub leaf-enough : (heap : Heap) (cell : ℕ) (content : List ℕ) → ((entries : List Entry) × IsLeaf heap cell entries) → heap cell ≡ Some content → 4 ≤ length content
leaf-enough heap cell content s here =
    let leaf = leaf-open heap cell s.0 s.1 in
    let same : held heap cell ≡ content = same_Some _ _ (sym leaf.here ∙ here) in
    subst (λ c. 4 ≤ length c) same (omega (arith, leaf.says.long))
