-- What is told of a key's values.
use Rattle.std.proofs.Common.{◌≡◌, ℕ, ◌<◌, ◌≤◌, Option, Some, None, List, length, refl, sym, ap, ◌∙◌, subst, arith, slice_get}
use Rattle.std.specs.Option.{option_and_then}
use Rattle.reg_heap.specs.Paths.{Member}
use Rattle.reg_heap.specs.Kinds.{Found}
use Rattle.reg_heap.specs.Members.{value_named, index_named}
use Rattle.reg_heap.specs.Edits.{values_at}
use Rattle.reg_arena.specs.Cells.{cell_at}
use Rattle.reg_shape.specs.Nodes.{members_at}
use Rattle.reg_values.specs.ValueLists.{Tells, fitted}
use Rattle.std.proofs.lemmas.Option.{same_Some}
use Rattle.reg_values.proofs.ValueListing.FoundValues.{offset-within}
use Rattle.reg_values.proofs.ValueListing.ToldValues.{named-at}
use Rattle.reg_tree.specs.TreeKeys.{tree_in}
use Rattle.reg_tree.specs.Internal.TreeInvariant.{IsHere}
use Rattle.std.specs.Prelude.{Result, Ok, Err, IfErr, IsErrAnd, ◌↔◌}
use Rattle.reg_arena.specs.declared.ArenaFault.{ArenaFault}
use Rattle.reg_arena.specs.declared.ArenaFault.TheVariants.{Full, Memory}
use Rattle.reg_tree.specs.declared.fault.TreeFault.{TreeFault}
use Rattle.reg_tree.specs.declared.fault.TreeFault.TheVariants.{Limit}
use Rattle.reg_tree.specs.Internal.TreeFaults.{of_arena}
use Rattle.reg_tree.specs.Internal.KeyNodeChanges.{HasList}
use Rattle.reg_tree.specs.ValueAnswers.{IsFound, fitted_by}
use Rattle.reg_tree.proofs.Invariant.KeyOfTree.{branch, values_are, list_reads, list_length}

module _ (bytes : List ℕ) (key : ℕ) (t : IsHere bytes key) (count offset : ℕ) (has : HasList (cell_at bytes) key count offset) (name : List ℕ) where
  abbrev members : List Member
  members = values_at (tree_in bytes t.root) t.path

  -- what a reading of the list tells is told of the tree's values
  pub of_members : (P : List Member → Type 0) → ((ms : List Member) (met : List Found) → members_at count offset (cell_at bytes) ≡ Some (ms, met) → P ms) → P members
  of_members P h = subst P (sym (values_are bytes key t)) (h _ _ (list_reads bytes key t count offset has))

  -- and what the tree's values have, any reading of the list has
  pub to_members : (P : List Member → Type 0) → P members → (ms : List Member) → (met : List Found) → members_at count offset (cell_at bytes) ≡ Some (ms, met) → P ms
  to_members P h ms met e =
      let same : (branch bytes key t).node.values ≡ ms =
      ap (λ (p : List Member × List Found). p.0) (same_Some _ _ (sym (list_reads bytes key t count offset has) ∙ e)) in
      subst P (values_are bytes key t ∙ same) h

  -- an index among the tree's values is one of the list's
  pub within_list : (index : ℕ) → index < length members → index < count
  within_list index l = omega (arith, l, list_length bytes key t count offset has)

  pub found_none : (found : Option ℕ) → ((ms : List Member) (met : List Found) → members_at count offset (cell_at bytes) ≡ Some (ms, met) →
      found ≡ index_named name ms) → found ≡ None → value_named name members ≡ None
  found_none found h none =
      named-at name members ∙ ap (option_and_then (slice_get members)) (sym (of_members (λ ms. found ≡ index_named name ms) h) ∙ none)

  pub none_told : (found : Option ℕ) → ((ms : List Member) (met : List Found) → members_at count offset (cell_at bytes) ≡ Some (ms, met) →
      found ≡ index_named name ms) → found ≡ None → IsFound members (value_named name members) None
  none_told found h none = subst (λ (o : Option Member). IsFound members o None) (sym (found_none found h none)) tt

  pub some_within : (index : ℕ) → ((ms : List Member) (met : List Found) → members_at count offset (cell_at bytes) ≡ Some (ms, met) → Some index ≡ index_named name ms) → index < count
  some_within index h =
      let within = offset-within name members index (sym (of_members (λ ms. Some index ≡ index_named name ms) h)) in omega (arith, within, list_length bytes key t count offset has)

  pub some_told : (index : ℕ) (told : List ℕ) (kind size : ℕ) → ((ms : List Member) (met : List Found) → members_at count offset (cell_at bytes) ≡ Some (ms, met) → Some index ≡ index_named name ms)
      → ((ms : List Member) (met : List Found) → members_at count offset (cell_at bytes) ≡ Some (ms, met) → (member : Member) × (slice_get ms index ≡ Some member) × Tells member told kind size)
      → IsFound members (value_named name members) (Some (record { index = index; kind = kind; size = size }))
  some_told index told kind size h k =
      let at = of_members (λ ms. Some index ≡ index_named name ms) h in
      let m = of_members (λ ms. (member : Member) × (slice_get ms index ≡ Some member) × Tells member told kind size) k in
      let is : value_named name members ≡ Some m.0 = named-at name members ∙ (ap (option_and_then (slice_get members)) (sym at) ∙ m.1) in
      subst (λ (o : Option Member). IsFound members o (Some (record { index = index; kind = kind; size = size }))) (sym is) (m.1, m.2.kind_is, m.2.size_is)

  -- the room of a value that wasn't found, and of one that was
  pub none_fitted : (found : Option ℕ) → ((ms : List Member) (met : List Found) → members_at count offset (cell_at bytes) ≡ Some (ms, met) →
      found ≡ index_named name ms) → found ≡ None → (room : List ℕ) → room ≡ fitted_by (value_named name members) room
  none_fitted found h none room = ap (λ (o : Option Member). fitted_by o room) (sym (found_none found h none))

  pub some_fitted : (index : ℕ) → ((ms : List Member) (met : List Found) → members_at count offset (cell_at bytes) ≡ Some (ms, met) → Some index ≡ index_named name ms)
      → (old new : List ℕ) → ((ms : List Member) (met : List Found) → members_at count offset (cell_at bytes) ≡ Some (ms, met) →
      (member : Member) × (slice_get ms index ≡ Some member) × (new ≡ fitted member.bytes old)) → new ≡ fitted_by (value_named name members) old
  some_fitted index h old new k =
      let at = of_members (λ ms. Some index ≡ index_named name ms) h in
      let m = of_members (λ ms. (member : Member) × (slice_get ms index ≡ Some member) × (new ≡ fitted member.bytes old)) k in
      let is : value_named name members ≡ Some m.0 = named-at name members ∙ (ap (option_and_then (slice_get members)) (sym at) ∙ m.1) in
      subst (λ (o : Option Member). new ≡ fitted_by o old) (sym is) m.2

  -- what is told of the value at an index
  pub value_at_told : (index : ℕ) (told : List ℕ) (kind size : ℕ) → ((ms : List Member) (met : List Found) →
      members_at count offset (cell_at bytes) ≡ Some (ms, met) → (member : Member) × (slice_get ms index ≡ Some member) × Tells member told kind size)
      → (member : Member) × (slice_get members index ≡ Some member) × Tells member told kind size
  value_at_told index told kind size k = of_members (λ ms. (member : Member) × (slice_get ms index ≡ Some member) × Tells member told kind size) k

  pub past_end : (index : ℕ) → count ≤ index → length members ≤ index
  past_end index l = let n = list_length bytes key t count offset has in omega (arith, l, n)

-- ---- the faults of a set and a removal

-- a fault just where there is its cause: the cause is there
pub just_fault : {Cause : Type 0} (fault : TreeFault) → Cause → (◌≡◌ {A = Result (Unit {0}) TreeFault} (Err fault) (Err fault)) ↔ Cause
just_fault fault cause = (λ e. cause, λ c. refl)

-- or it isn't, and there was no fault
pub no_fault : {Cause : Type 0} (fault : TreeFault) → (Cause → ⊥) → (◌≡◌ {A = Result (Unit {0}) TreeFault} (Ok tt) (Err fault)) ↔ Cause
no_fault fault never = (λ e. absurd (cc), λ cause. absurd (never cause))

-- or one of the arena's, which is never Limit
pub other_fault : {Cause : Type 0} (fault : ArenaFault) (told : TreeFault) → told ≡ of_arena fault → (Cause → ⊥) → (◌≡◌ {A = Result (Unit {0}) TreeFault} (Err told) (Err Limit)) ↔ Cause
other_fault fault told is never = (λ e. absurd (not_limit fault (sym is ∙ same_err e)), λ cause. absurd (never cause))
  where
    same_err : {a b : TreeFault} → ◌≡◌ {A = Result (Unit {0}) TreeFault} (Err a) (Err b) → a ≡ b
    same_err {a} {b} e = cc

    not_limit : (f : ArenaFault) → of_arena f ≡ Limit → ⊥
    not_limit Full e = cc
    not_limit Memory e = cc

-- what holds of the fault that a call left holds of the fault that is handed on
pub if_err : {T E : Type 0} (P : E → Type 0) (r : Result T E) (e : E) → IsErrAnd r (λ y. y ≡ e) → P e → IfErr r P
if_err P (Ok x) e is p = tt
if_err P (Err y) e is p = subst P (sym is) p
