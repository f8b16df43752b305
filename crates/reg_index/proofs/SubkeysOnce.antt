-- The cells of an index: no cell is met twice, each is there, and none holds a key.
use Rattle.std.proofs.Common.{◌≡◌, ℕ, suc, ◌<◌, ◌≤◌, ◌==◌, Bool, true, false, IsSome, List, [], ◌∷◌, ◌++◌, length, get_or, refl, sym, ap, ◌∙◌, subst, arith}
use Rattle.std.specs.List.{AllByRecursion}
use Rattle.std.specs.Ordering.{nat_cmp, ordering_reverse}
use Rattle.std.specs.declared.cmp.Ordering.{Ordering}
use Rattle.std.specs.declared.cmp.Ordering.TheVariants.{Less, Greater}
use Rattle.std.specs.Cmp.Lexicographic.{slice_cmp}
use Rattle.std.proofs.lemmas.Bool.{eqb-true, eqb-false}
use Rattle.std.proofs.lemmas.Cmp.{nat_list_cmp_total}
use Rattle.std.proofs.lemmas.Option.{same_Some}
use Rattle.reg_names.specs.Names.{folded}
use Rattle.reg_heap.specs.Heaps.{Heap}
use Rattle.reg_heap.specs.Kinds.{times}
use Rattle.reg_records.specs.KeyNodes.{key_at}
use Rattle.reg_records.specs.declared.lists.ListForm.TheVariants.{IndexRoot, HashLeaf}
use Rattle.reg_records.specs.SubkeyLists.{SubkeysList, Entry, Form}
use Rattle.reg_shape.specs.Nodes.{KeyList, lists_of}
use Rattle.reg_shape.specs.Written.{Pairwise}
use Rattle.reg_index.specs.Internal.HashLeaves.{IsLeaf}
use Rattle.reg_index.specs.Internal.IndexLists.{AreKeys, HasLists, IsOnce, IsRoot, Stands, cells_under, offsets_of}
use Rattle.reg_index.specs.Subkeys.{AreSubkeys, Rises, cells_of_index, entries_in, name_at, names_in, own}
use Rattle.reg_index.proofs.CellCounts.{times-here, times-there}
use Rattle.reg_index.proofs.ListsRead.{list-there}
use Rattle.reg_index.proofs.NameSearch.{get-name, length-names}
use Rattle.reg_index.proofs.SubkeysFrame.{key-or-list}
use Rattle.reg_index.proofs.SubkeysOpening.{index-is, lists-has, subkeys-open}
use Rattle.reg_index.proofs.FoundPlaces.{lists-keys}

abbrev no_entry : Entry
no_entry = record { offset = 0; hint = 0 }

-- ---- lists of keys that rise stand in different cells

-- the key of one entry comes before that of another
abbrev Before : Heap → Entry → Entry → Type 0
Before heap a b = slice_cmp nat_cmp (folded (name_at heap a.offset)) (folded (name_at heap b.offset)) ≡ Less

not-before : (heap : Heap) (e : Entry) → Before heap e e → ⊥
not-before heap e l =
    let x : List ℕ = folded (name_at heap e.offset) in
    let r : ◌≡◌ {A = Ordering} Less Greater = sym l ∙ (nat_list_cmp_total.antisymm x x ∙ ap ordering_reverse l) in
    absurd (cc r)

all-indexes : (P : Entry → Type 0) (entries : List Entry) → ((i : ℕ) → i < length entries → P (get_or entries i no_entry)) → AllByRecursion P entries
all-indexes P [] f = tt
all-indexes P (e ∷ es) f = (f 0 (omega arith), all-indexes P es (λ i l. f (suc i) (omega (arith, l))))

pairwise : (heap : Heap) (entries : List Entry) → Rises (names_in heap entries) → Pairwise (Before heap) entries
pairwise heap [] r = tt
pairwise heap (e ∷ es) r = (
  all-indexes (Before heap e) es (λ j l.
      ap (slice_cmp nat_cmp (folded (name_at heap e.offset))) (sym (get-name heap es j no_entry l))
      ∙ r 0 (suc j) (omega arith) (omega (arith, l, length-names heap es))),
  pairwise heap es (λ i j l m. r (suc i) (suc j) (omega (arith, l)) (omega (arith, m))),
)

-- of two pieces
pair-right : (R : Entry → Entry → Type 0) (xs ys : List Entry) → Pairwise R (xs ++ ys) → Pairwise R ys
pair-right R [] ys p = p
pair-right R (x ∷ xs) ys p = pair-right R xs ys p.1

every-right : (P : Entry → Type 0) (xs ys : List Entry) → AllByRecursion P (xs ++ ys) → AllByRecursion P ys
every-right P [] ys all = all
every-right P (x ∷ xs) ys all = every-right P xs ys all.1

pair-first : (R : Entry → Entry → Type 0) (e : Entry) (xs ys : List Entry) → Pairwise R ((e ∷ xs) ++ ys) → AllByRecursion (R e) ys
pair-first R e xs ys p = every-right (R e) xs ys p.0

leaf-same : (heap : Heap) (cell : ℕ) (a b : List Entry) → IsLeaf heap cell a → IsLeaf heap cell b → a ≡ b
leaf-same heap cell a b x y = ap (λ (l : SubkeysList). l.entries) (same_Some _ _ (sym x ∙ y))

-- a list whose first key comes before all of others is none of these
not-again : (heap : Heap) (z : ℕ) (e : Entry) (es : List Entry) → IsLeaf heap z (e ∷ es) → (lists : List KeyList) → AllByRecursion (Stands heap) lists →
    AllByRecursion (Before heap e) (entries_in lists) → times z (offsets_of lists) ≡ 0
not-again heap z e es leaf [] all before = refl
not-again heap z e es leaf (list ∷ lists) all before = by (list.offset == z) refl (not-again heap z e es leaf lists all.1 (every-right (Before heap e) list.list.entries (entries_in lists) before))
  where
    by : (b : Bool) → (list.offset == z) ≡ b → times z (offsets_of lists) ≡ 0 → times z (list.offset ∷ offsets_of lists) ≡ 0
    by true is rest =
        let here : IsLeaf heap z list.list.entries = subst (λ o. IsLeaf heap o list.list.entries) (eqb-true list.offset z is) all.0.leaf in
        let same : list.list.entries ≡ e ∷ es = leaf-same heap z list.list.entries (e ∷ es) here leaf in
        let again : AllByRecursion (Before heap e) ((e ∷ es) ++ entries_in lists) = subst (λ xs. AllByRecursion (Before heap e) (xs ++ entries_in lists)) same before in
        absurd (not-before heap e again.0)
    by false is rest = times-there z list.offset (offsets_of lists) (eqb-false list.offset z is) ∙ rest

leaves-once : (heap : Heap) (lists : List KeyList) → AllByRecursion (Stands heap) lists → Pairwise (Before heap) (entries_in lists) → IsOnce (offsets_of lists)
leaves-once heap [] all p z = omega arith
leaves-once heap (list ∷ lists) all p z =
    by list.list.entries refl (list.offset == z) refl (leaves-once heap lists all.1 (pair-right (Before heap) list.list.entries (entries_in lists) p) z)
  where
    by : (es : List Entry) → list.list.entries ≡ es → (b : Bool) → (list.offset == z) ≡ b → times z (offsets_of lists) ≤ 1 → times z (list.offset ∷ offsets_of lists) ≤ 1
    by [] e b is rest = absurd (omega (arith, all.0.written.some, ap length e))
    by (x ∷ xs) e true is rest =
        let here : IsLeaf heap z (x ∷ xs) = subst (λ o. IsLeaf heap o (x ∷ xs)) (eqb-true list.offset z is) (subst (IsLeaf heap list.offset) e all.0.leaf) in
        let p' : Pairwise (Before heap) ((x ∷ xs) ++ entries_in lists) = subst (λ es. Pairwise (Before heap) (es ++ entries_in lists)) e p in
        let none = not-again heap z x xs here lists all.1 (pair-first (Before heap) x xs (entries_in lists) p') in
        omega (arith, times-here z list.offset (offsets_of lists) (eqb-true list.offset z is), none)
    by (x ∷ xs) e false is rest = omega (arith, times-there z list.offset (offsets_of lists) (eqb-false list.offset z is), rest)

-- ---- what holds of the cells of all lists

-- a cell that holds something else is none of the lists
not-held : (heap : Heap) (z : ℕ) (lists : List KeyList) → AllByRecursion (Stands heap) lists → ((es : List Entry) → IsLeaf heap z es → ⊥) → times z (offsets_of lists) ≡ 0
not-held heap z [] all other = refl
not-held heap z (list ∷ lists) all other =
    times-there z list.offset (offsets_of lists) (λ e. other list.list.entries (subst (λ o. IsLeaf heap o list.list.entries) e all.0.leaf)) ∙ not-held heap z lists all.1 other

root-or-leaf : (heap : Heap) (cell : ℕ) (offsets : List ℕ) (entries : List Entry) → IsRoot heap cell offsets → IsLeaf heap cell entries → ⊥
root-or-leaf heap cell offsets entries root leaf = apart (ap (λ (l : SubkeysList). l.form) (same_Some _ _ (sym root ∙ leaf)))
  where
    apart : ◌≡◌ {A = Form} IndexRoot HashLeaf → ⊥
    apart e = cc e

cells-once : (heap : Heap) (offset : ℕ) (lists : List KeyList) → HasLists heap offset lists → AreKeys heap (entries_in lists) → IsOnce (cells_under offset lists)
cells-once heap offset [] h k z = omega arith
cells-once heap offset (list ∷ []) h k z = leaves-once heap (list ∷ []) (h.1, tt) (pairwise heap (entries_in (list ∷ [])) k.rising) z
cells-once heap offset (first ∷ second ∷ others) h k z = by (offset == z) refl
  where
    once : times z (offsets_of (first ∷ second ∷ others)) ≤ 1
    once = leaves-once heap (first ∷ second ∷ others) h.1 (pairwise heap (entries_in (first ∷ second ∷ others)) k.rising) z

    by : (b : Bool) → (offset == z) ≡ b → times z (offset ∷ offsets_of (first ∷ second ∷ others)) ≤ 1
    by true is =
        let e = eqb-true offset z is in
        let none = not-held heap z (first ∷ second ∷ others) h.1 (λ es leaf. root-or-leaf heap z (offsets_of (first ∷ second ∷ others)) es
        (subst (λ o. IsRoot heap o (offsets_of (first ∷ second ∷ others))) e h.0) leaf) in
        omega (arith, times-here z offset (offsets_of (first ∷ second ∷ others)) e, none)
    by false is = omega (arith, times-there z offset (offsets_of (first ∷ second ∷ others)) (eqb-false offset z is), once)

cells-no-key : (heap : Heap) (offset : ℕ) (lists : List KeyList) → HasLists heap offset lists → (z : ℕ) → IsSome (key_at heap z) → times z (cells_under offset lists) ≡ 0
cells-no-key heap offset [] h z key = refl
cells-no-key heap offset (list ∷ []) h z key = not-held heap z (list ∷ []) (h.1, tt) (λ es leaf. key-or-list heap z _ leaf key)
cells-no-key heap offset (first ∷ second ∷ others) h z key =
    times-there z offset (offsets_of (first ∷ second ∷ others)) (λ e. key-or-list heap z _ (subst (λ o. IsRoot heap o (offsets_of (first ∷ second ∷ others))) e h.0) key)
    ∙ not-held heap z (first ∷ second ∷ others) h.1 (λ es leaf. key-or-list heap z _ leaf key)

held-there : (heap : Heap) (z : ℕ) (lists : List KeyList) → AllByRecursion (Stands heap) lists → 0 < times z (offsets_of lists) → IsSome (heap z)
held-there heap z [] all l = absurd (omega (arith, l))
held-there heap z (list ∷ lists) all l = by (list.offset == z) refl (λ m. held-there heap z lists all.1 m)
  where
    by : (b : Bool) → (list.offset == z) ≡ b → (0 < times z (offsets_of lists) → IsSome (heap z)) → IsSome (heap z)
    by true is rest = subst (λ o. IsSome (heap o)) (eqb-true list.offset z is) (list-there heap list.offset _ all.0.leaf)
    by false is rest = rest (omega (arith, l, times-there z list.offset (offsets_of lists) (eqb-false list.offset z is)))

pub cells-there : (heap : Heap) (offset : ℕ) (lists : List KeyList) → HasLists heap offset lists → (z : ℕ) → 0 < times z (cells_under offset lists) → IsSome (heap z)
cells-there heap offset [] h z l = absurd (omega (arith, l))
cells-there heap offset (list ∷ []) h z l = held-there heap z (list ∷ []) (h.1, tt) l
cells-there heap offset (first ∷ second ∷ others) h z l = by (offset == z) refl
  where
    by : (b : Bool) → (offset == z) ≡ b → IsSome (heap z)
    by true is = subst (λ o. IsSome (heap o)) (eqb-true offset z is) (list-there heap offset _ h.0)
    by false is =
        held-there heap z (first ∷ second ∷ others) h.1
        (omega (arith, l, times-there z offset (offsets_of (first ∷ second ∷ others)) (eqb-false offset z is)))

-- ---- the subkeys' cells

pub own-cells : (heap : Heap) (count offset : ℕ) (entries : List Entry) (s : AreSubkeys heap count offset entries) → own heap count offset ≡ cells_under offset (lists_of s.index)
own-cells heap count offset entries s = ap cells_of_index (index-is heap count offset s.index s.read ∙ (subkeys-open heap count offset entries s).under)

pub lists-once : (heap : Heap) (count offset : ℕ) (entries : List Entry) (s : AreSubkeys heap count offset entries) → IsOnce (cells_under offset (lists_of s.index))
lists-once heap count offset entries s = cells-once heap offset (lists_of s.index) (lists-has heap count offset entries s) (lists-keys heap count offset entries s)

-- no cell of an index is met twice
pub own-once : (heap : Heap) (count offset : ℕ) (entries : List Entry) → AreSubkeys heap count offset entries → (z : ℕ) → times z (own heap count offset) ≤ 1
own-once heap count offset entries s z = omega (arith, ap (times z) (own-cells heap count offset entries s), lists-once heap count offset entries s z)

-- none holds a key
pub own-no-key : (heap : Heap) (count offset : ℕ) (entries : List Entry) → AreSubkeys heap count offset entries → (z : ℕ) → IsSome (key_at heap z) → times z (own heap count offset) ≡ 0
own-no-key heap count offset entries s z key =
    ap (times z) (own-cells heap count offset entries s) ∙ cells-no-key heap offset (lists_of s.index) (lists-has heap count offset entries s) z key

-- each is there
pub own-there : (heap : Heap) (count offset : ℕ) (entries : List Entry) → AreSubkeys heap count offset entries → (z : ℕ) → 0 < times z (own heap count offset) → IsSome (heap z)
own-there heap count offset entries s z l =
    cells-there heap offset (lists_of s.index) (lists-has heap count offset entries s) z (omega (arith, l, ap (times z) (own-cells heap count offset entries s)))
