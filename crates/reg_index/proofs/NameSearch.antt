-- A search among the names of keys: in one list, and among the lists of an index.
use Rattle.std.proofs.Common.{◌≡◌, ℕ, zero, suc, ◌+◌, ◌-◌, ◌<◌, ◌≤◌, Some, None, IsSome, Option, List, [], ◌∷◌, length, get_or, refl, sym, ap, ◌∙◌, subst, arith, inl, inr, ◌⊎◌}
use Rattle.std.specs.Prelude.{Result, Ok, Err}
use Rattle.std.specs.List.{AllByRecursion}
use Rattle.std.specs.Option.{option_and_then}
use Rattle.std.specs.Result.{result_ok}
use Rattle.std.proofs.lemmas.Bool.{false≢true}
use Rattle.std.proofs.lemmas.List.{get_or-map, length-map}
use Rattle.std.specs.Ordering.{nat_cmp}
use Rattle.std.specs.declared.cmp.Ordering.{Ordering}
use Rattle.std.specs.declared.cmp.Ordering.TheVariants.{Less, Equal, Greater}
use Rattle.std.specs.Cmp.Lexicographic.{slice_cmp}
use Rattle.reg_names.specs.Names.{folded, name_cmp}
use Rattle.reg_heap.specs.Heaps.{Heap}
use Rattle.reg_records.specs.declared.RecordFault.{RecordFault}
use Rattle.reg_records.specs.KeyNodes.{KeyRecord, nk_of, key_at}
use Rattle.reg_records.specs.SubkeyLists.{Entry}
use Rattle.reg_shape.specs.Nodes.{KeyList}
use Rattle.reg_index.specs.Internal.IndexLists.{AreKeys, HasLists}
use Rattle.reg_index.specs.Internal.NameSearches.{Between, IsListFor}
use Rattle.reg_index.specs.Subkeys.{IsIndexFor, entries_in, flat_among, name_at, name_or_none, names_in, numbered}
use Rattle.reg_index.proofs.ListPlaces.{before-next, before-all, entries_before, entry-at, list-stands}
use Rattle.reg_index.proofs.SortedNames.{to_right, to_left, to_here, order-back, order-same}

-- ---- a key read in its cell

pub key-here : (heap : Heap) (key : ℕ) → IsSome (key_at heap key) → IsSome (heap key)
unfolding key_at
key-here heap key s = by (heap key) s
  where
    by : (o : Option (List ℕ)) → IsSome (option_and_then (λ content. result_ok (nk_of content)) o) → IsSome o
    by None e = absurd (false≢true e)
    by (Some content) e = refl

key-is : (heap : Heap) (key : ℕ) (content : List ℕ) → heap key ≡ Some content → key_at heap key ≡ result_ok (nk_of content)
unfolding key_at
key-is heap key content here = ap (option_and_then (λ content. result_ok (nk_of content))) here

pub name-read : (heap : Heap) (key : ℕ) (content : List ℕ) (record_is : KeyRecord) → heap key ≡ Some content → nk_of content ≡ Ok record_is → record_is.name ≡ name_at heap key
name-read heap key content r here reads = ap name_or_none (sym (key-is heap key content here ∙ ap result_ok reads))

pub key-reads : (heap : Heap) (key : ℕ) (content : List ℕ) → IsSome (key_at heap key) → heap key ≡ Some content → (record_is : KeyRecord) × (nk_of content ≡ Ok record_is)
key-reads heap key content s here = by (nk_of content) refl
  where
    by : (r : Result KeyRecord RecordFault) → nk_of content ≡ r → (record_is : KeyRecord) × (nk_of content ≡ Ok record_is)
    by (Ok r) e = (r, e)
    by (Err fault) e = absurd (false≢true (subst IsSome (key-is heap key content here ∙ ap result_ok e) s))

-- ---- names of entries

pub length-names : (heap : Heap) (entries : List Entry) → length (names_in heap entries) ≡ length entries
length-names heap entries = length-map entries (λ (e : Entry). folded (name_at heap e.offset))

pub get-name : (heap : Heap) (entries : List Entry) (index : ℕ) (d : Entry) → index < length entries → get_or (names_in heap entries) index [] ≡ folded (name_at heap (get_or entries index d).offset)
get-name heap entries index d l = get_or-map (λ (e : Entry). folded (name_at heap e.offset)) entries index d [] l

pub all-at : (P : Entry → Type 0) (entries : List Entry) → AllByRecursion P entries → (index : ℕ) (d : Entry) → index < length entries → P (get_or entries index d)
all-at P [] all index d l = absurd (omega arith)
all-at P (e ∷ es) all zero d l = all.0
all-at P (e ∷ es) all (suc index) d l = all-at P es all.1 index d (omega arith)

-- ---- a search in one list

-- where a search may begin
pub all-between : (heap : Heap) (name : List ℕ) (entries : List Entry) (count : ℕ) → count ≡ length entries → Between (names_in heap entries) name 0 count
all-between heap name entries count e =
    let n = length-names heap entries in
    record { order_is = omega arith; within = omega arith; before = λ k l. absurd (omega arith); behind = λ k l r. absurd (omega arith) }

module _ (heap : Heap) (entries : List Entry) (keys : AreKeys heap entries) (low high middle key : ℕ) (name : List ℕ) (from : low ≤ middle) (to : middle < high)
    (so_far : Between (names_in heap entries) (folded name) low high)
    (is : (get_or entries middle (record { offset = 0; hint = 0 })).offset ≡ key) where
  pub middle-within : middle < length entries
  middle-within = omega (arith, so_far.within, length-names heap entries, to)

  pub is-key : IsSome (key_at heap key)
  is-key = subst (λ k. IsSome (key_at heap k)) is (all-at (λ (e : Entry). IsSome (key_at heap e.offset)) entries keys.keys middle (record { offset = 0; hint = 0 }) middle-within)

  module _ (found : List ℕ) (name_is : found ≡ name_at heap key) where
    named : get_or (names_in heap entries) middle [] ≡ folded found
    named = get-name heap entries middle (record { offset = 0; hint = 0 }) middle-within ∙ (ap (λ k. folded (name_at heap k)) is ∙ ap folded (sym name_is))

    pub is-before : Less ≡ name_cmp found name → Between (names_in heap entries) (folded name) (middle + 1) high
    is-before e = to_right (names_in heap entries) (folded name) low high middle keys.rising so_far from to (ap (λ n. slice_cmp nat_cmp n (folded name)) named ∙ sym e)

    pub is-behind : Greater ≡ name_cmp found name → Between (names_in heap entries) (folded name) low middle
    is-behind e =
        to_left (names_in heap entries) (folded name) low high middle keys.rising so_far from to
        (order-back (get_or (names_in heap entries) middle []) (folded name) (ap (λ n. slice_cmp nat_cmp n (folded name)) named ∙ sym e))

    pub is-found : Equal ≡ name_cmp found name → IsIndexFor (names_in heap entries) (folded name) (Ok middle)
    is-found e = (omega (arith, length-names heap entries, middle-within), named ∙ order-same (folded found) (folded name) (sym e))

    -- the middle begins what is left
    pub is-first : (Greater ≡ name_cmp found name → ⊥) → Between (names_in heap entries) (folded name) middle high
    is-first n =
        to_here (names_in heap entries) (folded name) low high middle keys.rising so_far from to
        (λ e. n (sym e ∙ ap (λ n. slice_cmp nat_cmp n (folded name)) named))

pub belongs : (heap : Heap) (entries : List Entry) (low high : ℕ) (name : List ℕ) → (low < high → ⊥) → Between (names_in heap entries) name low high →
    IsIndexFor (names_in heap entries) name (Err low)
belongs heap entries low high name n b =
    let o = b.order_is in
    let w = b.within in
    (omega (arith, n), b.before, λ k l m. b.behind k (omega (arith, n, l)) m)

-- ---- a search among lists

-- the name belongs behind the start of the list before one number, and before the start of the list of another
pub record BetweenLists (heap : Heap) (lists : List KeyList) (name : List ℕ) (low high : ℕ) : Type 0 where
  pub some : 1 ≤ low
  pub order_is : low ≤ high
  pub within : high ≤ length lists
  pub between : Between (names_in heap (entries_in lists)) name (entries_before (low - 1) lists) (entries_before high lists)

pub first-lists : (heap : Heap) (lists : List KeyList) (name : List ℕ) (count : ℕ) → 0 < length lists → count ≡ length lists → BetweenLists heap lists name 1 count
first-lists heap lists name count some e =
    let all = before-all lists count (omega (arith, e)) in
    let n = length-names heap (entries_in lists) in
    record {
      some = omega arith;
      order_is = omega (arith, some, e);
      within = omega (arith, e);
      between = record {
        order_is = omega arith;
        within = omega (arith, all, n);
        before = λ k l. absurd (omega (arith, l));
        behind = λ k l m. absurd (omega (arith, all, n, l, m));
      };
    }

before-rises : (lists : List KeyList) (number more : ℕ) → number + more ≤ length lists → entries_before number lists ≤ entries_before (number + more) lists
before-rises lists number zero l = omega (arith, ap (λ n. entries_before n lists) {x = number} {y = number + 0} (omega arith))
before-rises lists number (suc more) l =
    let rest = before-rises lists number more (omega (arith, l)) in
    let next = before-next lists (number + more) (omega (arith, l)) in
    omega (arith, rest, next, ap (λ n. entries_before n lists) {x = number + suc more} {y = suc (number + more)} (omega arith))

before-order : (lists : List KeyList) (low high : ℕ) → low ≤ high → high ≤ length lists → entries_before low lists ≤ entries_before high lists
before-order lists low high l m =
    let r = before-rises lists low (high - low) (omega (arith, l, m)) in
    omega (arith, r, ap (λ n. entries_before n lists) {x = low + (high - low)} {y = high} (omega (arith, l)))

module _ (heap : Heap) (offset : ℕ) (lists : List KeyList) (h : HasLists heap offset lists) (keys : AreKeys heap (entries_in lists)) (low high middle key : ℕ) (name : List ℕ)
    (from : low ≤ middle) (to : middle < high) (so_far : BetweenLists heap lists (folded name) low high)
    (is : (get_or (numbered middle lists).list.entries 0 (record { offset = 0; hint = 0 })).offset ≡ key) where
  there : middle < length lists
  there = omega (arith, so_far.within, to)

  filled : 1 ≤ length (numbered middle lists).list.entries
  filled = (list-stands heap offset lists middle h there).written.some

  low-is : entries_before (low - 1) lists ≤ entries_before middle lists
  low-is = before-order lists (low - 1) middle (omega (arith, from)) (omega (arith, there))

  high-is : entries_before middle lists < entries_before high lists
  high-is =
      omega (arith, before-next lists middle there, filled, before-order lists (suc middle) high (omega (arith, to)) so_far.within)

  first-is : (get_or (entries_in lists) (entries_before middle lists) (record { offset = 0; hint = 0 })).offset ≡ key
  first-is =
      ap (λ n. (get_or (entries_in lists) n (record { offset = 0; hint = 0 })).offset) {x = entries_before middle lists} {y = entries_before middle lists + 0} (omega arith)
      ∙ (ap (λ (e : Entry). e.offset) (entry-at lists (record { list = middle; index = 0 }) (record { offset = 0; hint = 0 }) (there, omega (arith, filled))) ∙ is)

  pub is-list-key : IsSome (key_at heap key)
  is-list-key =
      is-key heap (entries_in lists) keys (entries_before (low - 1) lists) (entries_before high lists) (entries_before middle lists) key name low-is high-is
      so_far.between first-is

  module _ (found : List ℕ) (name_is : found ≡ name_at heap key) where
    pub list-begins : (Greater ≡ name_cmp found name → ⊥) → BetweenLists heap lists (folded name) (middle + 1) high
    list-begins n = record {
      some = omega arith;
      order_is = omega (arith, to);
      within = so_far.within;
      between = subst (λ m. Between (names_in heap (entries_in lists)) (folded name) (entries_before m lists) (entries_before high lists)) {x = middle} {y = middle + 1 - 1} (omega arith)
          (is-first heap (entries_in lists) keys (entries_before (low - 1) lists) (entries_before high lists) (entries_before middle lists) key name low-is high-is
          so_far.between first-is found name_is n);
    }

    pub list-behind : Greater ≡ name_cmp found name → BetweenLists heap lists (folded name) low middle
    list-behind e = record {
      some = so_far.some;
      order_is = from;
      within = omega (arith, there);
      between =
          is-behind heap (entries_in lists) keys (entries_before (low - 1) lists) (entries_before high lists) (entries_before middle lists) key name low-is high-is
          so_far.between first-is found name_is e;
    }

-- the list that is left
pub list-left : (heap : Heap) (lists : List KeyList) (name : List ℕ) (low high : ℕ) → (low < high → ⊥) → BetweenLists heap lists name low high → IsListFor heap lists name (low - 1)
list-left heap lists name low high n b =
    let s = b.some in
    let o = b.order_is in
    let w = b.within in
    let there : low - 1 < length lists = omega (arith, s, o, w) in
    let begin : entries_before (low - 1) lists ≡ flat_among lists (record { list = low - 1; index = 0 }) = omega arith in
    let same : ◌≡◌ {A = ℕ} (suc (low - 1)) high = omega (arith, s, o, n) in
    let end : entries_before high lists ≡ flat_among lists (record { list = low - 1; index = length (numbered (low - 1) lists).list.entries }) =
    ap (λ n. entries_before n lists) (sym same) ∙ before-next lists (low - 1) there in
    record {
      within = there;
      between = subst (λ m. Between (names_in heap (entries_in lists)) name m (flat_among lists (record { list = low - 1; index = length (numbered (low - 1) lists).list.entries }))) begin
          (subst (Between (names_in heap (entries_in lists)) name (entries_before (low - 1) lists)) end b.between);
    }

pub no-greater : (r s : Ordering) → (r ≡ Less) ⊎ (r ≡ Equal) → r ≡ s → Greater ≡ s → ⊥
no-greater r s (inl a) e g = absurd (cc (a, e, g))
no-greater r s (inr a) e g = absurd (cc (a, e, g))
