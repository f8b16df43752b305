-- The size of the cell that a key's last list takes to have room, and the room that it has where it takes none.
use Rattle.std.proofs.Common.{◌≡◌, ℕ, suc, ◌+◌, ◌*◌, ◌%◌, ◌<◌, ◌≤◌, ◌==◌, Bool, true, false, cond, nat_le, Option, Some, None, IsSome, List, [], ◌∷◌, length, refl, sym, ap, ◌∙◌, subst, arith}
use Rattle.std.specs.Prelude.{get_or, unwrap_or}
use Rattle.std.proofs.lemmas.Bool.{ne_eqb, eqb-true, eqb-false, leb-true}
use Rattle.std.proofs.lemmas.Option.{none-some, same_Some}
use Rattle.reg_heap.specs.declared.limits.TheConstants.{LEAF_LIMIT}
use Rattle.reg_heap.specs.Heaps.{Heap}
use Rattle.reg_arena.specs.Cells.{cell_at}
use Rattle.reg_records.specs.KeyNodes.{KeyRecord, key_at}
use Rattle.reg_records.specs.RecordCells.{held}
use Rattle.reg_shape.specs.Nodes.{Index, KeyList}
use Rattle.reg_index.specs.Lengthening.{last_list, longer_in, longer_size, wanted}
use Rattle.reg_index.specs.Subkeys.{list_size}
use Rattle.reg_index.proofs.LongerSizes.{last-few}
use Rattle.reg_index.proofs.SubkeysOpening.{index-is}
use Rattle.reg_tree.specs.CellSizes.{planned_sizes}
use Rattle.reg_tree.specs.LongerLists.{HasRoomFor, HasSubkeyRoom, longer_sizes, longer_sizes_by}
use Rattle.reg_tree.specs.Internal.KeyNodeChanges.{HasSubkeysList}
use Rattle.reg_tree.specs.Internal.ListLengthening.{its_index}
use Rattle.reg_tree.specs.Internal.TreeInvariant.{IsHere}
use Rattle.reg_tree.proofs.Invariant.KeyOfTree.{branch, key_is}
use Rattle.reg_tree.proofs.PathWalk.SubkeysFound.{own_subkeys}

-- ---- by the list that a key node names

module _ (h : Heap) (key count list more : ℕ) (there : IsSome (key_at h key)) (has : HasSubkeysList h key count list) where
  pub sizes-none : count ≡ 0 → [] ≡ longer_sizes h key more
  unfolding longer_sizes
  sizes-none none = by (key_at h key) there has
    where
      by : (o : Option KeyRecord) → IsSome o → ((k : KeyRecord) → o ≡ Some k → (count ≡ k.fields.subkeys) × (list ≡ k.fields.subkeys_list)) →
          ◌≡◌ {A = List ℕ} [] (longer_sizes_by h more o)
      by None s has = absurd (cc)
      by (Some k) s has =
          ap (λ b. cond b [] (planned_sizes (longer_size h k.fields.subkeys k.fields.subkeys_list more))) (ap (λ n. n == 0) (sym none ∙ (has k refl).0))

  pub sizes-some : 0 < count → planned_sizes (longer_size h count list more) ≡ longer_sizes h key more
  unfolding longer_sizes
  sizes-some some = by (key_at h key) there has
    where
      by : (o : Option KeyRecord) → IsSome o → ((k : KeyRecord) → o ≡ Some k → (count ≡ k.fields.subkeys) × (list ≡ k.fields.subkeys_list)) →
          planned_sizes (longer_size h count list more) ≡ longer_sizes_by h more o
      by None s has = absurd (cc)
      by (Some k) s has =
          let e = has k refl in
          ap (λ n. planned_sizes (longer_size h n list more)) e.0
          ∙ (ap (λ o. planned_sizes (longer_size h k.fields.subkeys o more)) e.1
          ∙ ap (λ b. cond b [] (planned_sizes (longer_size h k.fields.subkeys k.fields.subkeys_list more)))
          (sym (ne_eqb k.fields.subkeys 0 (λ n. (let c = e.0 in absurd (omega (arith, n, c, some)))))))

-- ---- a list's size

size-of : (b : Bool) (x size : ℕ) → cond b None (Some x) ≡ Some size → size ≡ x
size-of true x size e = absurd (none-some _ e)
size-of false x size e = sym (same_Some _ _ e)

size-none : (b : Bool) (x : ℕ) → cond b None (Some x) ≡ None → b ≡ true
size-none true x e = refl
size-none false x e = absurd (none-some _ (sym e))

exists-of : (o : Option (List ℕ)) (n : ℕ) → suc n ≤ length (unwrap_or o []) → IsSome o
exists-of None n l = absurd (omega (arith, l))
exists-of (Some x) n l = refl

room-of : (h : Heap) (list : KeyList) (more : ℕ) → longer_in h list more ≡ None → HasRoomFor h list more
room-of h list more e =
    let l = leb-true _ _ (size-none (nat_le (4 + 8 * wanted list more) (length (held h list.offset))) (list_size (wanted list more)) e) in
    record { exists = exists-of (h list.offset) (3 + 8 * wanted list more) (omega (arith, l)); enough = l }

first-of : (x y : ℕ) (xs ys : List ℕ) → ◌≡◌ {A = List ℕ} (x ∷ xs) (y ∷ ys) → x ≡ y
first-of x y xs ys e = ap (λ (zs : List ℕ). get_or zs 0 0) e

some-of : (n : ℕ) → (n == 0) ≡ false → 0 < n
some-of n q = let other = eqb-false n 0 q in omega (arith, other)

-- ---- of a tree's key

module _ (bytes : List ℕ) (key more : ℕ) (t : IsHere bytes key) where
  abbrev h : Heap
  h = cell_at bytes

  abbrev pub its : KeyRecord
  its = (branch bytes key t).node.key

  abbrev pub last : KeyList
  last = last_list (its_index h its)

  sizes : longer_sizes h key more ≡ cond (its.fields.subkeys == 0) [] (planned_sizes (longer_in h last more))
  unfolding longer_sizes longer_size
  sizes = ap (longer_sizes_by h more) (key_is bytes key t)

  -- where a cell is taken, there are subkeys, and the cell has this size
  pub needed : (size : ℕ) → size ∷ [] ≡ longer_sizes h key more → (0 < its.fields.subkeys) × (size ≡ list_size (wanted last more))
  needed size e = by (its.fields.subkeys == 0) (longer_in h last more) refl refl (e ∙ sizes)
    where
      by : (z : Bool) (o : Option ℕ) → (its.fields.subkeys == 0) ≡ z → longer_in h last more ≡ o → size ∷ [] ≡ cond z [] (planned_sizes o) →
          (0 < its.fields.subkeys) × (size ≡ list_size (wanted last more))
      by true o q l e = absurd (let n = ap length e in omega (arith, n))
      by false None q l e = absurd (let n = ap length e in omega (arith, n))
      by false (Some x) q l e = (some-of its.fields.subkeys q, first-of _ _ _ _ e ∙ size-of _ _ x l)

  -- and where none is, the room is there
  pub has-room : [] ≡ longer_sizes h key more → HasSubkeyRoom h key more
  has-room e = record { key = its; reads = key_is bytes key t; holds = by (its.fields.subkeys == 0) (longer_in h last more) refl refl (e ∙ sizes) }
    where
      by : (z : Bool) (o : Option ℕ) → (its.fields.subkeys == 0) ≡ z → longer_in h last more ≡ o → [] ≡ cond z [] (planned_sizes o) →
          0 < its.fields.subkeys → HasRoomFor h last more
      by true o q l e some = absurd (let n = eqb-true its.fields.subkeys 0 q in omega (arith, n, some))
      by false None q l e some = room-of h last more l
      by false (Some x) q l e some = absurd (let n = ap length e in omega (arith, n))

  pub few : 0 < its.fields.subkeys → length last.list.entries ≤ LEAF_LIMIT
  few some =
      let s = own_subkeys bytes key t in
      subst (λ (i : Index). length (last_list i).list.entries ≤ LEAF_LIMIT) (sym (index-is h its.fields.subkeys its.fields.subkeys_list s.index s.read))
      (last-few h its.fields.subkeys its.fields.subkeys_list some _ s)

  module _ (size : ℕ) (e : size ∷ [] ≡ longer_sizes h key more) where
    pub eights : size % 8 ≡ 0
    eights = let n = (needed size e).1 in omega (arith, n)

    pub positive : 0 < size
    positive = let n = (needed size e).1 in omega (arith, n)

    pub small : size ≤ list_size LEAF_LIMIT
    small = let n = (needed size e).1 in omega (arith, n)
