-- All values of a key built at once.
use Rattle.std.proofs.Common.{◌≡◌, ℕ, zero, suc, ◌+◌, ◌*◌, ◌<◌, ◌≤◌, max, Some, IsSome, List, [], ◌∷◌, length, drop, get_or}
use Rattle.std.proofs.Common.{refl, sym, ap, ◌∙◌, subst, arith, add-one}
use Rattle.std.specs.List.{AllByRecursion}
use Rattle.std.specs.Ordering.{ord_max, nat_cmp}
use Rattle.std.proofs.lemmas.Bool.Decides.{nat_tests}
use Rattle.std.proofs.lemmas.Option.{same_Some}
use Rattle.reg_names.specs.declared.TheConstants.{VALUE_NAME_LIMIT}
use Rattle.reg_heap.specs.Paths.{Member}
use Rattle.reg_heap.specs.Heaps.{Heap}
use Rattle.reg_heap.specs.Kinds.{Found}
use Rattle.reg_heap.specs.Edits.{values_at}
use Rattle.reg_heap.specs.Trees.{IsSmallValue}
use Rattle.reg_arena.specs.Cells.{cell_at}
use Rattle.reg_records.specs.KeyNodes.{KeyRecord, key_at}
use Rattle.reg_shape.specs.Nodes.{members_at}
use Rattle.reg_values.specs.declared.making.NewValue.{NewValue}
use Rattle.reg_values.specs.ValueLists.{Became}
use Rattle.reg_values.specs.NewValues.{told, all_told}
use Rattle.reg_values.proofs.ValueData.CellSizeTotals.{value-name}
use Rattle.reg_values.proofs.ValueChanges.ValuesPlanned.{small-at}
use Rattle.reg_values.proofs.ValueListing.ValueListOpening.{members-length}
use Rattle.reg_tree.specs.BuiltKeys.{with_values}
use Rattle.reg_tree.specs.TreeKeys.{tree_in}
use Rattle.reg_tree.specs.KeyLengths.{largest, with_value_lengths, with_lengths_of}
use Rattle.reg_tree.specs.Internal.LengthChanges.{LengthsChange}
use Rattle.reg_tree.specs.Internal.KeyNodeChanges.{Notes, noted}
use Rattle.reg_tree.specs.Internal.TreeInvariant.{IsHere, IsChanged}
use Rattle.reg_tree.proofs.Invariant.KeyOfTree.{branch, key_is, looked, values_are}
use Rattle.reg_tree.proofs.ValueChange.TreeAfterValueChange.{is_changed, lengths_changed, key_mid}

-- ---- the largest of the lengths

next-told : (values : List NewValue) (index : ℕ) (d : NewValue) → index < length values →
    drop index (all_told values) ≡ told (get_or values index d) ∷ drop (suc index) (all_told values)
next-told [] index d l = absurd (omega (arith, l))
next-told (v ∷ values) zero d l = refl
next-told (v ∷ values) (suc index) d l = next-told values index d (omega (arith, l))

past-told : (values : List NewValue) (index : ℕ) → length values ≤ index → drop index (all_told values) ≡ []
past-told [] zero l = refl
past-told [] (suc index) l = refl
past-told (v ∷ values) zero l = absurd (omega (arith, l))
past-told (v ∷ values) (suc index) l = past-told values index (omega (arith, l))

-- the larger of two numbers, as it is computed
pub larger : (a b n : ℕ) → n ≡ ord_max nat_cmp a b → n ≡ max a b
larger a b n e = grind (arith, nat_tests, e)

pub largest-put : (size : Member → ℕ) (values : List NewValue) (index : ℕ) (d : NewValue) (most now all : ℕ) → index < length values →
    now ≡ max most (size (told (get_or values index d))) → max most (largest size (drop index (all_told values))) ≡ all →
    max now (largest size (drop (index + 1) (all_told values))) ≡ all
largest-put size values index d most now all l m e =
    let n = ap (largest size) (next-told values index d l) in
    let o = ap (λ i. largest size (drop i (all_told values))) (add-one index) in
    omega (arith, n, o, e, m)

pub largest-end : (size : Member → ℕ) (values : List NewValue) (index most all : ℕ) → length values ≤ index →
    max most (largest size (drop index (all_told values))) ≡ all → most ≡ all
largest-end size values index most all l e = let n = ap (largest size) (past-told values index l) in omega (arith, n, e)

pub name-at : (values : List NewValue) (index : ℕ) (d : NewValue) → AllByRecursion IsSmallValue (all_told values) → index < length values →
    length (get_or values index d).name.now ≤ VALUE_NAME_LIMIT
name-at values index d f l = value-name (get_or values index d).name.now (small-at values index d f l).name

pub names-under : (X L : ℕ) (members : List Member) → largest (λ m. length m.name) members ≤ L →
    AllByRecursion (λ (m : Member). 2 * length m.name ≤ max X (2 * L)) members
names-under X L [] l = tt
names-under X L (m ∷ members) l = (omega (arith, l), names-under X L members (omega (arith, l)))

pub data-under : (X L : ℕ) (members : List Member) → largest (λ m. length m.bytes) members ≤ L →
    AllByRecursion (λ (m : Member). length m.bytes ≤ max X L) members
data-under X L [] l = tt
data-under X L (m ∷ members) l = (omega (arith, l), data-under X L members (omega (arith, l)))

-- ---- a key without values names no cells for them

none-met : (h : Heap) (count offset : ℕ) (members : List Member) (met : List Found) → members_at count offset h ≡ Some (members, met) →
    count ≡ 0 → met ≡ []
none-met h zero offset members met e z = ap (λ (p : List Member × List Found). p.1) (sym (same_Some _ _ e))
none-met h (suc n) offset members met e z = absurd (omega (arith, z))

module _ (old : List ℕ) (key : ℕ) (bare : (t : IsHere old key) × (values_at (tree_in old t.root) t.path ≡ [])) where
  no-values : (branch old key bare.0).node.key.fields.values ≡ 0
  no-values =
      let l = looked old key bare.0 in
      let n = members-length (cell_at old) _ _ _ l.value_cells l.values_are in
      let e = ap length (sym (values_are old key bare.0) ∙ bare.1) in
      omega (arith, n, e)

  same-key : (t : IsHere old key) → (branch old key t).node.key ≡ (branch old key bare.0).node.key
  same-key t = same_Some _ _ (sym (key_is old key t) ∙ key_is old key bare.0)

  none-of-it : (t : IsHere old key) → (looked old key t).value_cells ≡ []
  none-of-it t =
      let l = looked old key t in
      none-met (cell_at old) _ _ _ l.value_cells l.values_are (ap (λ (k : KeyRecord). k.fields.values) (same-key t) ∙ no-values)

  module _ (mid : List ℕ) (count list : ℕ) (members : List Member) (made : Became (cell_at old) (cell_at mid) [] count list members) where
    became-of : (t : IsHere old key) → Became (cell_at old) (cell_at mid) (looked old key t).value_cells count list members
    became-of t = subst (λ (met : List Found). Became (cell_at old) (cell_at mid) met count list members) (sym (none-of-it t)) made

    pub key_there : IsSome (key_at (cell_at mid) key)
    key_there = key_mid old mid key bare.0 count list members (became-of bare.0)

    module _ (new : List ℕ) (name size moment : ℕ) (name_is : name ≡ largest (λ m. length m.name) members)
        (size_is : size ≡ largest (λ m. length m.bytes) members)
        (notes : Notes (cell_at mid) (cell_at new) key (noted count list name size moment)) (t : IsHere old key) where
      pub built : IsChanged old new t.root t.table t.path (with_values members moment)
      built = is_changed old mid new key t count list name size moment members (became-of t) notes
          (names-under _ name members (omega (arith, name_is))) (data-under _ size members (omega (arith, size_is)))
          (with_values members moment) (λ r e. refl)

      pub built_lengths : LengthsChange (cell_at old) (cell_at new) t.root t.path (with_lengths_of members)
      built_lengths =
          let changed = lengths_changed old mid new key t count list name size moment members (became-of t) notes
          (names-under _ name members (omega (arith, name_is))) (data-under _ size members (omega (arith, size_is)))
          (with_values members moment) (λ r e. refl) in
          subst (λ n. LengthsChange (cell_at old) (cell_at new) t.root t.path (with_value_lengths n (largest (λ m. length m.bytes) members)))
          name_is
          (subst (λ s. LengthsChange (cell_at old) (cell_at new) t.root t.path (with_value_lengths name s)) size_is changed)
