-- Where a key that is checked fails, and from its head to what is left of it.
use Rattle.std.proofs.Common.{◌≡◌, ℕ, zero, suc, Option, Some, None, List, [], ◌∷◌, ◌++◌, ◌+◌, length, reverse, inl, inr, refl, sym, ap, ◌∙◌, subst, arith}
use Rattle.std.specs.Cow.{cow_slice_items}
use Rattle.std.specs.Option.{option_to_list}
use Rattle.std.specs.Prelude.{MatchOption}
use Rattle.std.proofs.lemmas.List.{reverse-append}
use Rattle.reg_heap.specs.Paths.{Path}
use Rattle.reg_heap.specs.Edits.{child_path}
use Rattle.reg_heap.specs.Heaps.{Heap}
use Rattle.reg_records.specs.KeyNodes.{KeyRecord}
use Rattle.reg_records.specs.SubkeyLists.{Entry, Form, SubkeysList}
use Rattle.reg_records.specs.declared.lists.ListForm.TheVariants.{IndexRoot, IndexLeaf, FastLeaf, HashLeaf}
use Rattle.reg_tree_image.specs.declared.LoadFault.{LoadFault}
use Rattle.reg_tree_image.specs.declared.LoadFault.TheVariants.{Limit, Memory}
use Rattle.reg_tree_image.specs.declared.table.CellState.{CellState}
use Rattle.reg_tree_image.specs.declared.keys.NamedKey.{NamedKey}
use Rattle.reg_tree_image.specs.declared.key_parts.KeyParts.{KeyParts}
use Rattle.reg_tree_image.specs.WalkSteps.{Seen, Step, onward}
use Rattle.reg_tree_image.specs.LoadingWalk.{head_from, parts_from, rest_from, list_from, key_from}
use Rattle.reg_tree_image.specs.FaultPlaces.{Spot, Where, spot, then_place, ◌>>◌, in_part, parts_spot, listed_spot, subkeys_spot, key_spot}
use Rattle.reg_tree_image.specs.Internal.NamedRecords.{key_of, parts_in}
use Rattle.reg_tree_image.specs.Internal.ReaderOutcomes.{IsDone, Fails}
use Rattle.reg_tree_image.specs.Internal.BegunKeys.{Stops, keys_of, lists_of, IsSource}
use Rattle.reg_tree_image.specs.Internal.FaultSpots.{rest_spot, IsMetAt, NoList}
use Rattle.reg_tree_image.proofs.Readers.BegunSteps.{told_then, rest-gives, telling}

-- ---- the keys on the present path

pub trail-longer : (old new path : List ℕ) (offset : ℕ) → new ≡ old ++ offset ∷ [] → reverse old ≡ path → reverse new ≡ offset ∷ path
trail-longer old new path offset e q = ap reverse e ∙ (reverse-append old (offset ∷ []) ∙ ap (λ (p : List ℕ). offset ∷ p) q)

-- the lowest one is left
pub trail-popped : (old new : List ℕ) (size rest : ℕ) (r : Option ℕ) → size ≡ length old → old ≡ new ++ option_to_list r →
    MatchOption r ((size ≡ 0) × (rest ≡ 0)) (λ _. rest + 1 ≡ size) → (key : ℕ) (above : List ℕ) → reverse old ≡ key ∷ above → reverse new ≡ above
trail-popped [] new size rest r l e n key above q = absurd (cc)
trail-popped (o ∷ old) new size rest None l e n key above q = absurd (let z = n.0 in omega (arith, l, z))
trail-popped (o ∷ old) new size rest (Some k) l e n key above q =
    let shown : k ∷ reverse new ≡ key ∷ above = sym (reverse-append new (k ∷ [])) ∙ (ap reverse (sym e) ∙ q) in
    cc

pub trail-met : (fault : LoadFault) (offset : ℕ) (trail path : List ℕ) (there : Option Spot) → trail ≡ path →
    IsMetAt fault (record { offset = offset; path = path }) there → IsMetAt fault (record { offset = offset; path = trail }) there
trail-met fault offset trail path there e m = subst (λ (p : List ℕ). IsMetAt fault (record { offset = offset; path = p }) there) (sym e) m

-- ---- the list of a key's subkeys

module _ (heap : Heap) (go : ℕ → Step (Unit {0})) (goes : ℕ → Where Spot) (path : List ℕ) where
  listed-left : (entries : List Entry) (form : Form) (after : Seen) →
      listed_spot heap go goes path entries form after ≡ rest_spot heap go goes path 0 (keys_of form entries) (lists_of form entries) after
  listed-left entries IndexRoot after = refl
  listed-left entries IndexLeaf after = refl
  listed-left entries FastLeaf after = refl
  listed-left entries HashLeaf after = refl

  same-left : (after : Seen) (es fs ls ms : List Entry) → es ≡ fs → ls ≡ ms →
      rest_spot heap go goes path 0 fs ms after ≡ rest_spot heap go goes path 0 es ls after
  same-left after es fs ls ms e l =
      ap (λ fs. rest_spot heap go goes path 0 fs ms after) (sym e) ∙ ap (λ ms. rest_spot heap go goes path 0 es ms after) (sym l)

  -- what was read of it is left of it
  pub source-left : (count offset : ℕ) (seen after : Seen) (entries lists : List Entry) → IsSource heap path count offset seen after entries lists →
      subkeys_spot heap go goes path count offset seen ≡ rest_spot heap go goes path 0 entries lists after
  source-left zero offset seen after entries lists s = same-left after entries [] lists [] s.0 s.1
  source-left (suc n) offset seen after entries lists s =
      ap (then_place (spot path offset) (λ (list : SubkeysList). listed_spot heap go goes path list.entries list.form) seen) s.1
      ∙ (listed-left s.0.entries s.0.form after
      ∙ same-left after entries (keys_of s.0.form s.0.entries) lists (lists_of s.0.form s.0.entries) s.2 s.3)

  -- it can't be read
  pub no-list : (fault : LoadFault) (count offset : ℕ) (seen : Seen) → NoList heap path count offset seen fault →
      IsMetAt fault (record { offset = offset; path = path }) (subkeys_spot heap go goes path count offset seen)
  no-list fault zero offset seen f = absurd f
  no-list fault (suc n) offset seen f = by fault f
    where
      by : (f : LoadFault) → Fails f (list_from heap path offset) seen →
          IsMetAt f (record { offset = offset; path = path }) (subkeys_spot heap go goes path (suc n) offset seen)
      by Memory e = tt
      by f e = ap (then_place (spot path offset) (λ (list : SubkeysList). listed_spot heap go goes path list.entries list.form) seen) e

-- ---- the head

-- a key whose head can't be read, or for which no level is left, fails at its node
pub head-met : (heap : Heap) (minor levels : ℕ) (path : List ℕ) (here : List ℕ → Path) (offset : ℕ) (seen : Seen) (fault : LoadFault) (trail : List ℕ) →
    trail ≡ path → Stops levels fault (head_from heap path here offset seen) →
    IsMetAt fault (record { offset = offset; path = trail }) (key_spot heap minor levels path here offset seen)
unfolding key_spot
head-met heap minor zero path here offset seen fault trail q s = by fault
  where
    by : (f : LoadFault) → IsMetAt f (record { offset = offset; path = trail }) (Some (record { offset = offset; path = path }))
    by Memory = tt
    by f = ap (λ (p : List ℕ). Some (record { offset = offset; path = p })) (sym q)
head-met heap minor (suc lower) path here offset seen fault trail q s = by fault s
  where
    then : KeyRecord × List ℕ → Where Spot
    then head =
        in_part (parts_spot heap minor (offset ∷ path) head.0.fields) (rest_from heap minor (offset ∷ path) (here head.1) head.0 head.1)
        >> subkeys_spot heap (key_from heap minor lower (offset ∷ path) (child_path (here head.1)))
        (key_spot heap minor lower (offset ∷ path) (child_path (here head.1)))
        (offset ∷ path) head.0.fields.subkeys head.0.fields.subkeys_list

    its : ◌≡◌ {A = Option Spot} (Some (record { offset = offset; path = path })) (Some (record { offset = offset; path = trail }))
    its = ap (λ (p : List ℕ). Some (record { offset = offset; path = p })) (sym q)

    by : (f : LoadFault) → Stops (suc lower) f (head_from heap path here offset seen) →
        IsMetAt f (record { offset = offset; path = trail }) (then_place (spot path offset) then seen (head_from heap path here offset seen))
    by Memory s = tt
    by Limit (inl e) = ap (then_place (spot path offset) then seen) e ∙ its
    by Limit (inr k) = absurd (let z = k.0 in omega (arith, z))
    by f s = ap (then_place (spot path offset) then seen) s ∙ its

-- ---- the key behind its head

module _ (heap : Heap) (minor lower : ℕ) (path : List ℕ) (here : List ℕ → Path) (offset : ℕ) (seen : Seen) (named : NamedKey)
    (mid : List CellState)
    (head : IsDone heap path (head_from heap path here offset) seen (key_of named) mid) where
  abbrev its_path : Path
  its_path = here (cow_slice_items named.name)

  abbrev the_key : KeyRecord
  the_key = record { fields = named.node.fields; name = named.node.name.now }

  abbrev below : Where Spot
  below = subkeys_spot heap (key_from heap minor lower (offset ∷ path) (child_path its_path)) (key_spot heap minor lower (offset ∷ path) (child_path its_path))
      (offset ∷ path) named.node.fields.subkeys named.node.fields.subkeys_list

  abbrev own-parts : Where Spot
  own-parts = parts_spot heap minor (offset ∷ path) named.node.fields

  -- the key behind its head
  spot-is : key_spot heap minor (suc lower) path here offset seen
      ≡ then_place own-parts (λ _. below) head.after (rest_from heap minor (offset ∷ path) its_path the_key (cow_slice_items named.name) head.after)
  unfolding key_spot
  spot-is =
      ap (then_place (spot path offset) (λ (head : KeyRecord × List ℕ).
      in_part (parts_spot heap minor (offset ∷ path) head.0.fields) (rest_from heap minor (offset ∷ path) (here head.1) head.0 head.1)
      >> subkeys_spot heap (key_from heap minor lower (offset ∷ path) (child_path (here head.1)))
      (key_spot heap minor lower (offset ∷ path) (child_path (here head.1)))
      (offset ∷ path) head.0.fields.subkeys head.0.fields.subkeys_list) seen)
      head.gives

  -- a part of it can't be read
  pub parts-met : (levels : ℕ) → levels ≡ suc lower → (fault : LoadFault) (its : Spot) →
      Fails fault (parts_from heap minor (offset ∷ path) named.node.fields) head.after →
      IsMetAt fault its (own-parts head.after) → IsMetAt fault its (key_spot heap minor levels path here offset seen)
  parts-met levels level fault its f m = subst (λ n. IsMetAt fault its (key_spot heap minor n path here offset seen)) (sym level) (by fault f m)
    where
      by : (e : LoadFault) → Fails e (parts_from heap minor (offset ∷ path) named.node.fields) head.after → IsMetAt e its (own-parts head.after) →
          IsMetAt e its (key_spot heap minor (suc lower) path here offset seen)
      by Memory f m = tt
      by e f m =
          spot-is
          ∙ (ap (λ r. then_place own-parts (λ _. below) head.after (onward (telling heap minor lower path here offset seen named mid head) r)) f ∙ m)

  module _ (parts : KeyParts) (next : List CellState)
      (own : IsDone heap (offset ∷ path) (parts_from heap minor (offset ∷ path) named.node.fields) head.after (parts_in parts) next) where
    -- its parts were read
    spot-then : key_spot heap minor (suc lower) path here offset seen ≡ below (told_then heap minor lower path here offset seen named mid head parts next own)
    spot-then =
        spot-is
        ∙ ap (then_place own-parts (λ _. below) head.after) (rest-gives heap minor lower path here offset seen named mid head parts next own)

    -- the list of its subkeys can't be read
    pub list-met : (levels : ℕ) → levels ≡ suc lower → (fault : LoadFault) →
        NoList heap (offset ∷ path) named.node.fields.subkeys named.node.fields.subkeys_list
        (told_then heap minor lower path here offset seen named mid head parts next own) fault →
        IsMetAt fault (record { offset = named.node.fields.subkeys_list; path = offset ∷ path }) (key_spot heap minor levels path here offset seen)
    list-met levels level fault f =
        let its : Spot = record { offset = named.node.fields.subkeys_list; path = offset ∷ path } in
        subst (λ n. IsMetAt fault its (key_spot heap minor n path here offset seen)) (sym level)
        (subst (IsMetAt fault its) (sym spot-then)
        (no-list heap (key_from heap minor lower (offset ∷ path) (child_path its_path)) (key_spot heap minor lower (offset ∷ path) (child_path its_path))
        (offset ∷ path) fault named.node.fields.subkeys named.node.fields.subkeys_list
        (told_then heap minor lower path here offset seen named mid head parts next own) f))

    -- what is left of it
    pub spot-left : (after : Seen) (entries lists : List Entry) →
        IsSource heap (offset ∷ path) named.node.fields.subkeys named.node.fields.subkeys_list
        (told_then heap minor lower path here offset seen named mid head parts next own) after entries lists →
        key_spot heap minor (suc lower) path here offset seen
        ≡ rest_spot heap (key_from heap minor lower (offset ∷ path) (child_path its_path)) (key_spot heap minor lower (offset ∷ path) (child_path its_path))
        (offset ∷ path) 0 entries lists after
    spot-left after entries lists s =
        spot-then
        ∙ source-left heap (key_from heap minor lower (offset ∷ path) (child_path its_path)) (key_spot heap minor lower (offset ∷ path) (child_path its_path))
        (offset ∷ path) named.node.fields.subkeys named.node.fields.subkeys_list
        (told_then heap minor lower path here offset seen named mid head parts next own) after entries lists s
