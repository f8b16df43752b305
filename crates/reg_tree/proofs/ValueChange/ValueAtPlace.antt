-- A key's value at the place that was found for its name.
use Rattle.std.proofs.Common.{◌≡◌, ℕ, ◌<◌, ◌≤◌, false, Option, Some, None, is_some, List, [], length, slice_get, get_or, refl, sym, ap, ◌∙◌, arith}
use Rattle.std.specs.Option.{option_and_then}
use Rattle.std.specs.FinMap.{get, insert}
use Rattle.std.proofs.lemmas.Option.{none-some, slice_get-get_or}
use Rattle.reg_heap.specs.declared.limits.TheConstants.{VALUES_LIMIT}
use Rattle.reg_heap.specs.Paths.{Path, Tree, Rec, Member}
use Rattle.reg_heap.specs.Members.{value_named, index_named}
use Rattle.reg_heap.specs.Edits.{edited, values_of, values_at, without_value}
use Rattle.reg_values.proofs.ValueListing.FoundValues.{offset-within}
use Rattle.reg_values.proofs.ValueListing.NamedValues.{without-index}
use Rattle.reg_values.proofs.ValueListing.ToldValues.{named-at}
use Rattle.reg_security.specs.Rings.{DescriptorCells}
use Rattle.reg_tree.specs.TreeKeys.{tree_in}
use Rattle.reg_tree.specs.ValueAnswers.{without_value_at}
use Rattle.reg_tree.specs.Internal.TreeInvariant.{IsChanged}

-- the index of a name is one of the values'
pub index_within : (name : List ℕ) (members : List Member) (index : ℕ) → index_named name members ≡ Some index → index < length members
index_within = offset-within

-- a name has an index just where there is a value of that name
pub named_if : (name : List ℕ) (members : List Member) → is_some (index_named name members) ≡ is_some (value_named name members)
named_if name members = by (index_named name members) (offset-within name members) (named-at name members)
  where
    by : (o : Option ℕ) → ((index : ℕ) → o ≡ Some index → index < length members) → value_named name members ≡ option_and_then (slice_get members) o →
        is_some o ≡ is_some (value_named name members)
    by None within e = ap is_some (sym e)
    by (Some index) within e = ap is_some (sym (e ∙ at index (within index refl)))
      where
        at : (index : ℕ) → index < length members → slice_get members index ≡ Some (get_or members index (record { name = []; kind = 0; bytes = [] }))
        at index l = slice_get-get_or members index (record { name = []; kind = 0; bytes = [] }) l

none_of : {A : Type 0} (o : Option A) → is_some o ≡ false → o ≡ None
none_of None e = refl
none_of (Some x) e = absurd (cc)

-- no index, no value, and the other way about
pub unnamed : (name : List ℕ) (members : List Member) → index_named name members ≡ None → value_named name members ≡ None
unnamed name members e = none_of _ (sym (named_if name members) ∙ ap is_some e)

pub unindexed : (name : List ℕ) (members : List Member) → value_named name members ≡ None → index_named name members ≡ None
unindexed name members e = none_of _ (named_if name members ∙ ap is_some e)

-- a name that has an index is not absent
pub is_named : (name : List ℕ) (members : List Member) (index : ℕ) → index_named name members ≡ Some index → value_named name members ≡ None → ⊥
is_named name members index e none = none-some _ (sym (unindexed name members none) ∙ e)

-- ---- the tree without the value at an index

-- changes that do the same to the key that is there
edited-alike : (t : Tree) (p : Path) (f g : Rec → Rec) → ((r : Rec) → get t p ≡ Some r → f r ≡ g r) → edited t p f ≡ edited t p g
edited-alike t p f g same = by (get t p) refl
  where
    by : (o : Option Rec) → get t p ≡ o → edited t p f ≡ edited t p g
    by None e = rw e refl
    by (Some r) e = let s = same r e in rw e (ap (insert t p) s)

-- where the index is that of a name, it is the tree without the value of that name
pub removed_at : (t : Tree) (p : Path) (name : List ℕ) (index moment : ℕ) → index_named name (values_at t p) ≡ Some index →
    edited t p (without_value_at index moment) ≡ edited t p (without_value name moment)
removed_at t p name index moment named = edited-alike t p (without_value_at index moment) (without_value name moment) (λ r e.
    let here : index_named name r.values ≡ Some index = ap (λ (o : Option Rec). index_named name (values_of o)) (sym e) ∙ named in
    ap (λ (members : List Member). record r { time = moment; values = members }) (sym (without-index name r.values index here)))

-- and so is the key's change
pub removed_by_name : (old new : List ℕ) (root : ℕ) {table : DescriptorCells} (p : Path) (name : List ℕ) (index moment : ℕ) → index_named name (values_at (tree_in old root) p) ≡ Some index →
    IsChanged old new root table p (without_value_at index moment) → IsChanged old new root table p (without_value name moment)
removed_by_name old new root p name index moment named c =
    record { holds = c.holds; tree = c.tree ∙ removed_at (tree_in old root) p name index moment named; offsets = c.offsets }

-- ---- room for a value

-- where a new value has room, no key is full for it
pub not_full : (name : List ℕ) (members : List Member) (place : Option ℕ) → place ≡ index_named name members → (place ≡ None → length members < VALUES_LIMIT) →
    VALUES_LIMIT ≤ length members → value_named name members ≡ None → ⊥
not_full name members place is room many none = let few = room (is ∙ unindexed name members none) in omega (arith, few, many)
