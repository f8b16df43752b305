-- The key of a name, by the hashes of entries.
use Rattle.std.proofs.Common.{◌≡◌, ℕ, zero, suc, ◌+◌, ◌<◌, ◌≤◌, ◌-◌, ◌==◌, ◌↔◌, nat_eq, rules, Bool, true, false, Option, Some, None, IsSome, List, [], length, get_or, refl, sym, ap, ◌∙◌, subst, arith}
use Rattle.std.specs.Prelude.{Err}
use Rattle.std.specs.Ordering.{nat_cmp, ordering_index}
use Rattle.std.specs.declared.cmp.Ordering.{Ordering}
use Rattle.std.specs.declared.cmp.Ordering.TheVariants.{Less, Equal, Greater}
use Rattle.std.specs.Cmp.Lexicographic.{slice_cmp}
use Rattle.std.proofs.lemmas.Bool.{eqb-true, eqb-false}
use Rattle.reg_names.specs.Names.{folded, hash, name_cmp}
use Rattle.reg_names.proofs.NameHashes.{hash-same}
use Rattle.reg_heap.specs.Heaps.{Heap}
use Rattle.reg_records.specs.KeyNodes.{key_at}
use Rattle.reg_records.specs.SubkeyLists.{Entry}
use Rattle.reg_shape.specs.Nodes.{lists_of}
use Rattle.reg_index.specs.declared.Place.{Place}
use Rattle.reg_index.specs.Internal.IndexLists.{AreKeys}
use Rattle.reg_index.specs.Internal.NameSearches.{Between, IsListFor}
use Rattle.reg_index.specs.Subkeys.{AreSubkeys, IsIndexFor, IsKeyNamed, Rises, flat, name_at, names_in, numbered}
use Rattle.reg_index.proofs.FoundPlaces.{found-belongs, found-stands, stands-there}
use Rattle.reg_index.proofs.NameSearch.{all-at, get-name, length-names}
use Rattle.reg_index.proofs.NameWords.{same-name}
use Rattle.reg_index.proofs.SortedNames.{order-back, order-same, to_left, to_right}
use Rattle.reg_index.proofs.SubkeysBehind.{here-is}

-- ---- an entry's name

-- names that are compared as equal fold alike
pub same-names : (found name : List ℕ) (t : Bool) (r : Ordering) → r ≡ name_cmp found name → t ≡ (ordering_index r == 1) →
    (t ≡ true) ↔ (folded found ≡ folded name)
same-names found name t r o e = (
  λ y. order-same (folded found) (folded name) (sym o ∙ equal r (sym e ∙ y)),
  λ f. e ∙ ap (λ r. ordering_index r == 1) (o ∙ (ap (λ n. slice_cmp nat_cmp n (folded name)) f ∙ same-name name)),
)
  where
    equal : (r : Ordering) → (ordering_index r == 1) ≡ true → r ≡ Equal
    equal Less y = absurd (search rules)
    equal Equal y = refl
    equal Greater y = absurd (search rules)

-- names of different hashes don't fold alike
pub other-names : (hint sought : ℕ) (found name : List ℕ) → (hint ≡ sought → ⊥) → hint ≡ hash found → sought ≡ hash name →
    (nat_eq hint sought ≡ true) ↔ (folded found ≡ folded name)
other-names hint sought found name n h s = (λ y. absurd (n (eqb-true hint sought y)), λ f. absurd (n (h ∙ (hash-same found name f ∙ sym s))))

-- ---- a name that isn't there

-- where a name belongs that is none of those among which it stands or belongs
belongs-somewhere : (names : List (List ℕ)) (name : List ℕ) → Rises names → (more low high : ℕ) → low + more ≡ high → Between names name low high →
    ((k : ℕ) → low ≤ k → k < high → get_or names k [] ≡ name → ⊥) → (index : ℕ) × IsIndexFor names name (Err index)
belongs-somewhere names name rises zero low high e b none = (low, (omega (arith, b.order_is, b.within), b.before, λ k l m. b.behind k (omega (arith, e, l)) m))
belongs-somewhere names name rises (suc more) low high e b none =
    by (slice_cmp nat_cmp (get_or names low []) name) refl (λ right. belongs-somewhere names name rises more (low + 1) high (omega (arith, e)) right (λ k l. none k (omega (arith, l))))
  where
    by : (r : Ordering) → slice_cmp nat_cmp (get_or names low []) name ≡ r → (Between names name (low + 1) high → (index : ℕ) × IsIndexFor names name (Err index)) →
        (index : ℕ) × IsIndexFor names name (Err index)
    by Less o further = further (to_right names name low high low rises b (omega arith) (omega (arith, e)) o)
    by Equal o further = absurd (none low (omega arith) (omega (arith, e)) (order-same (get_or names low []) name o))
    by Greater o further =
        let left = to_left names name low high low rises b (omega arith) (omega (arith, e)) (order-back (get_or names low []) name o) in
        (low, (omega (arith, left.within), left.before, left.behind))

-- ---- a look along entries

-- no entry from one index up to another has the name
abbrev pub IsPassed : Heap → List Entry → List ℕ → ℕ → ℕ → Type 0
IsPassed heap entries name low index = (k : ℕ) → low ≤ k → k < index → get_or (names_in heap entries) k [] ≡ folded name → ⊥

module _ (heap : Heap) (entries : List Entry) (keys : AreKeys heap entries) (name : List ℕ) (low high : ℕ) (b : Between (names_in heap entries) (folded name) low high) where
  -- an entry that has the name isn't there
  pub all-passed : (index : ℕ) → high ≤ index → IsPassed heap entries name low index → IsKeyNamed heap entries (folded name) None
  all-passed index l passed =
      belongs-somewhere (names_in heap entries) (folded name) keys.rising (high - low) low high (omega (arith, b.order_is)) b (λ k m n. passed k m (omega (arith, n, l)))

  -- the entry that is read at one of the indexes
  module _ (index : ℕ) (from : low ≤ index) (to : index < high) (entry : Entry)
      (read : index < length entries → get_or entries index (record { offset = 0; hint = 0 }) ≡ entry) where
    within : index < length entries
    within = omega (arith, b.within, to, length-names heap entries)

    is : get_or entries index (record { offset = 0; hint = 0 }) ≡ entry
    is = read within

    pub entry-key : IsSome (key_at heap entry.offset)
    entry-key =
        subst (λ (e : Entry). IsSome (key_at heap e.offset)) is
        (all-at (λ (e : Entry). IsSome (key_at heap e.offset)) entries keys.keys index (record { offset = 0; hint = 0 }) within)

    pub entry-hint : entry.hint ≡ hash (name_at heap entry.offset)
    entry-hint =
        subst (λ (e : Entry). e.hint ≡ hash (name_at heap e.offset)) is
        (all-at (λ (e : Entry). e.hint ≡ hash (name_at heap e.offset)) entries keys.hashes index (record { offset = 0; hint = 0 }) within)

    named : get_or (names_in heap entries) index [] ≡ folded (name_at heap entry.offset)
    named = get-name heap entries index (record { offset = 0; hint = 0 }) within ∙ ap (λ (e : Entry). folded (name_at heap e.offset)) is

    -- one entry more that hasn't the name
    pub one-passed : IsPassed heap entries name low index → (folded (name_at heap entry.offset) ≡ folded name → ⊥) → IsPassed heap entries name low (index + 1)
    one-passed passed other k l m e = by (k == index) refl
      where
        by : (t : Bool) → (k == index) ≡ t → ⊥
        by true i = other (sym named ∙ (ap (λ n. get_or (names_in heap entries) n []) (sym (eqb-true k index i)) ∙ e))
        by false i = let n = eqb-false k index i in passed k l (omega (arith, m, n)) e

    -- the entry has the name
    pub key-found : folded (name_at heap entry.offset) ≡ folded name → IsKeyNamed heap entries (folded name) (Some entry.offset)
    key-found e = (index, (omega (arith, length-names heap entries, within), named ∙ e), ap (λ (e : Entry). e.offset) is)

-- ---- the key of a name in one list, as one among all

module _ (heap : Heap) (count offset : ℕ) (name : List ℕ) (number : ℕ) (entries : List Entry) (s : AreSubkeys heap count offset entries)
    (b : IsListFor heap (lists_of s.index) name number) where
  pub key-among : (result : Option ℕ) → IsKeyNamed heap (numbered number (lists_of s.index)).list.entries name result → IsKeyNamed heap entries name result
  key-among None none =
      let place : Place = record { list = number; index = none.0 } in
      (flat heap count offset place, found-belongs heap count offset name number none.0 entries s b none.1)
  key-among (Some key) found =
      let place : Place = record { list = number; index = found.0 } in (
        flat heap count offset place,
        found-stands heap count offset name number found.0 entries s b found.1,
        here-is heap count offset place (stands-there heap count offset name number found.0 entries s b found.1) entries s key found.2,
      )
