-- Where the readers of the walk fail.
use Rattle.std.proofs.Common.{◌≡◌, ◌≢◌, ℕ, zero, suc, ◌<◌, ◌≤◌, nat_le, not, Bool, true, false, Option, Result, Ok, Err, IfErr, List, [], refl, sym, ap, ◌∙◌, subst, arith}
use Rattle.std.specs.Result.{IsErrAnd}
use Rattle.std.specs.List.{list_any}
use Rattle.std.proofs.lemmas.Bool.Decides.{nat_tests}
use Rattle.reg_heap.specs.declared.limits.TheConstants.{VALUES_LIMIT}
use Rattle.reg_heap.specs.Heaps.{Heap}
use Rattle.reg_heap.specs.Members.{same_name}
use Rattle.reg_heap.specs.Paths.{Member}
use Rattle.reg_records.specs.BigData.{is_inline}
use Rattle.reg_records.specs.KeyValues.{KeyValueRecord}
use Rattle.reg_heap.specs.Kinds.Kind.{ValueList}
use Rattle.reg_records.specs.declared.nk.KeyFields.{KeyFields}
use Rattle.reg_tree_image.specs.declared.LoadFault.{LoadFault}
use Rattle.reg_tree_image.specs.declared.LoadFault.TheVariants.{Twice, Limit, Memory}
use Rattle.reg_tree_image.specs.WalkSteps.{Seen, Step, check}
use Rattle.reg_tree_image.specs.LoadingWalk.{class_from, descriptor_from, row_from, named_value, data_by}
use Rattle.reg_tree_image.specs.FaultPlaces.{Spot, Where, nowhere, spot, then_place, data_offset, value_spot, values_spot, value_list_spot, parts_spot}
use Rattle.reg_tree_image.specs.Internal.ReaderOutcomes.{Fails}
use Rattle.reg_tree_image.specs.Internal.FaultSpots.{IsMetAt}

-- a step that fails does so at its own place
pub met-first : {A : Type 0} (fault : LoadFault) (s : Step A) (path : List ℕ) (offset : ℕ) (then : A → Where Spot) (seen : Seen) (there : Option Spot) →
    there ≡ then_place (spot path offset) then seen (s seen) → Fails fault s seen → IsMetAt fault (record { offset = offset; path = path }) there
met-first Memory s path offset then seen there w e = tt
met-first fault s path offset then seen there w e = w ∙ ap (then_place (spot path offset) then seen) e

-- the exit of a `?`
pub met-exit : {T : Type 0} (fault : LoadFault) (its : Spot) (there : Option Spot) (r : Result T LoadFault) → IsErrAnd r (λ e. e ≡ fault) →
    IsMetAt fault its there → IfErr r (λ e. IsMetAt e its there)
met-exit fault its there (Ok x) i m = tt
met-exit fault its there (Err e) i m = subst (λ e. IsMetAt e its there) (sym i) m

-- a part that fails does so in it
pub met-part : {A : Type 0} (fault : LoadFault) (s : Step A) (place : Where Spot) (then : A → Where Spot) (seen : Seen) (its : Spot) (there : Option Spot) →
    there ≡ then_place place then seen (s seen) → Fails fault s seen → IsMetAt fault its (place seen) → IsMetAt fault its there
met-part Memory s place then seen its there w e m = tt
met-part fault s place then seen its there w e m = w ∙ (ap (then_place place then seen) e ∙ m)

-- ---- a value

module _ (heap : Heap) (minor : ℕ) (path : List ℕ) (offset : ℕ) (before : List Member) (seen : Seen) where
  abbrev is_other : List ℕ → Bool
  is_other name = not (list_any (λ (m : Member). same_name m.name name) before)

  abbrev data-then : KeyValueRecord × List ℕ → Where Spot
  data-then value seen =
      then_place (spot path (data_offset offset value.0.fields.size value.0.fields.offset)) (λ _. nowhere) seen
      (data_by heap minor path (is_inline value.0.fields.size) value.0.fields.size value.0.fields.offset seen)

  abbrev name-then : KeyValueRecord × List ℕ → Where Spot
  name-then value seen = then_place (spot path offset) (λ _. data-then value) seen (check Twice (is_other value.1) seen)

  pub value-unread : (fault : LoadFault) → Fails fault (named_value heap path offset) seen →
      IsMetAt fault (record { offset = offset; path = path }) (value_spot heap minor path before offset seen)
  value-unread fault f = met-first fault (named_value heap path offset) path offset name-then seen _ refl f

  module _ (value : KeyValueRecord × List ℕ) (after : Seen) (g : named_value heap path offset seen ≡ Ok (value, after))
      (name : List ℕ) (same : name ≡ value.1) where
    named-then : value_spot heap minor path before offset seen ≡ name-then value after
    named-then = ap (then_place (spot path offset) name-then seen) g

    pub name-met : (fault : LoadFault) → ((seen : Seen) → Fails fault (check Twice (is_other name)) seen) →
        IsMetAt fault (record { offset = offset; path = path }) (value_spot heap minor path before offset seen)
    name-met fault f =
        met-first fault (check Twice (is_other value.1)) path offset (λ _. data-then value) after _ named-then
        (subst (λ name. Fails fault (check Twice (is_other name)) after) same (f after))

    pub data-unread : ((seen : Seen) → check Twice (is_other name) seen ≡ Ok (tt, seen)) → (at : ℕ) →
        at ≡ data_offset offset value.0.fields.size value.0.fields.offset → (fault : LoadFault) →
        Fails fault (data_by heap minor path (is_inline value.0.fields.size) value.0.fields.size value.0.fields.offset) after →
        IsMetAt fault (record { offset = at; path = path }) (value_spot heap minor path before offset seen)
    data-unread passes at is fault f =
        let passed : check Twice (is_other value.1) after ≡ Ok (tt, after) =
        subst (λ name. check Twice (is_other name) after ≡ Ok (tt, after)) same (passes after) in
        subst (λ (o : ℕ). IsMetAt fault (record { offset = o; path = path }) (value_spot heap minor path before offset seen)) (sym is)
        (met-first fault (data_by heap minor path (is_inline value.0.fields.size) value.0.fields.size value.0.fields.offset) path
        (data_offset offset value.0.fields.size value.0.fields.offset) (λ _. nowhere) after _
        (named-then ∙ ap (then_place (spot path offset) (λ _. data-then value) after) passed) f)

-- ---- a key's values

module _ (heap : Heap) (minor : ℕ) (path : List ℕ) (offset : ℕ) (seen : Seen) where
  abbrev here : Spot
  here = record { offset = offset; path = path }

  -- there are too many
  pub list-too-long : (count : ℕ) → VALUES_LIMIT < count → IsMetAt Limit here (value_list_spot heap minor path count offset seen)
  list-too-long zero l = absurd (omega (arith, l))
  list-too-long (suc n) l =
      let b : nat_le (suc n) VALUES_LIMIT ≡ false = grind (arith, nat_tests) in
      rw b refl

  abbrev row-then : ℕ → Option Spot
  row-then count = then_place (spot path offset) (λ row. values_spot heap minor path [] row) seen (row_from heap path ValueList count offset seen)

  list-is : (count : ℕ) → count ≢ 0 → count ≤ VALUES_LIMIT → value_list_spot heap minor path count offset seen ≡ row-then count
  list-is zero some few = absurd (some refl)
  list-is (suc n) some few =
      let b : nat_le (suc n) VALUES_LIMIT ≡ true = grind (arith, nat_tests) in
      rw b refl

  -- the list can't be read
  pub list-unread : (count : ℕ) → count ≢ 0 → count ≤ VALUES_LIMIT → (fault : LoadFault) → Fails fault (row_from heap path ValueList count offset) seen →
      IsMetAt fault here (value_list_spot heap minor path count offset seen)
  list-unread count some few fault f =
      met-first fault (row_from heap path ValueList count offset) path offset (λ row. values_spot heap minor path [] row) seen _ (list-is count some few) f

  -- it is read
  pub list-gives : (count : ℕ) → count ≢ 0 → count ≤ VALUES_LIMIT → (row : List ℕ) (after : Seen) →
      row_from heap path ValueList count offset seen ≡ Ok (row, after) →
      value_list_spot heap minor path count offset seen ≡ values_spot heap minor path [] row after
  list-gives count some few row after g =
      list-is count some few ∙ ap (then_place (spot path offset) (λ row. values_spot heap minor path [] row) seen) g

-- ---- a key's class, security and values

module _ (heap : Heap) (minor : ℕ) (path : List ℕ) (key : KeyFields) (seen : Seen) where
  abbrev values-then : Where Spot
  values-then = value_list_spot heap minor path key.values key.values_list

  abbrev security-then : Where Spot
  security-then seen = then_place (spot path key.security) (λ _. values-then) seen (descriptor_from heap path key.security seen)

  pub class-unread : (fault : LoadFault) → Fails fault (class_from heap path key.class_length key.class) seen →
      IsMetAt fault (record { offset = key.class; path = path }) (parts_spot heap minor path key seen)
  class-unread fault f =
      met-first fault (class_from heap path key.class_length key.class) path key.class (λ _. security-then) seen _ refl f

  module _ (class : List ℕ) (after : Seen) (g : class_from heap path key.class_length key.class seen ≡ Ok (class, after)) where
    class-then : parts_spot heap minor path key seen ≡ security-then after
    class-then = ap (then_place (spot path key.class) (λ _. security-then) seen) g

    pub descriptor-unread : (fault : LoadFault) → Fails fault (descriptor_from heap path key.security) after →
        IsMetAt fault (record { offset = key.security; path = path }) (parts_spot heap minor path key seen)
    descriptor-unread fault f =
        met-first fault (descriptor_from heap path key.security) path key.security (λ _. values-then) after _ class-then f

    pub values-left : (descriptor : List ℕ) (last : Seen) → descriptor_from heap path key.security after ≡ Ok (descriptor, last) →
        parts_spot heap minor path key seen ≡ values-then last
    values-left descriptor last d = class-then ∙ ap (then_place (spot path key.security) (λ _. values-then) after) d
