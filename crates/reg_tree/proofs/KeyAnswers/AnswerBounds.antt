-- How long is what is told of a key, and how deep a key is.
use Rattle.std.proofs.Common.{◌≡◌, ℕ, zero, suc, ◌≤◌, true, Some, List, [], ◌∷◌, length, ap, ◌∙◌, sym, subst}
use Rattle.std.specs.Prelude.{Ok}
use Rattle.std.specs.Option.{option_map}
use Rattle.std.specs.List.{AllByRecursion, slice_get}
use Rattle.std.proofs.lemmas.Option.{none-some, same_Some}
use Rattle.reg_names.specs.declared.TheConstants.{VALUE_NAME_LIMIT, KEY_NAME_LIMIT}
use Rattle.reg_names.specs.Names.{is_value_name}
use Rattle.reg_heap.specs.declared.limits.TheConstants.{DESCRIPTOR_LIMIT}
use Rattle.reg_heap.specs.Paths.{Member}
use Rattle.reg_heap.specs.Kinds.{Found}
use Rattle.reg_arena.specs.Cells.{cell_at}
use Rattle.reg_records.specs.declared.nk.KeyFields.{KeyFields}
use Rattle.reg_records.specs.KeyNodes.{KeyRecord, key_at, nk_of}
use Rattle.reg_records.specs.KeySecurities.{KeySecurityRecord}
use Rattle.reg_shape.specs.Nodes.{members_at}
use Rattle.reg_shape.specs.Whole.{descriptor_at}
use Rattle.reg_values.specs.ValueLists.{Tells}
use Rattle.reg_values.proofs.ValueData.CellSizeTotals.{value-name}
use Rattle.reg_tree.specs.Internal.KeyNodeChanges.{HasList}
use Rattle.reg_tree.specs.Internal.TreeInvariant.{IsHere}
use Rattle.reg_tree.proofs.InsertKey.PathGrowth.{name_short}
use Rattle.reg_tree.proofs.Invariant.CellReadings.{key-fields}
use Rattle.reg_tree.proofs.Invariant.KeyOfTree.{branch, seen, key_is, list_reads}
use Rattle.reg_tree.proofs.KeyAnswers.RefinementOfKey.{security_written}

-- one of some values whose names are valid
named : (ms : List Member) → AllByRecursion (λ (m : Member). is_value_name m.name ≡ true) ms → (index : ℕ) (m : Member) → slice_get ms index ≡ Some m → is_value_name m.name ≡ true
named [] a index m e = absurd (none-some m e)
named (v ∷ ms) a zero m e = ap (λ (m : Member). is_value_name m.name) (sym (same_Some v m e)) ∙ a.0
named (v ∷ ms) a (suc index) m e = named ms a.1 index m e

module _ (bytes : List ℕ) (key : ℕ) (t : IsHere bytes key) where
  pub name-bound : (content : List ℕ) (read : KeyRecord) → cell_at bytes key ≡ Some content → nk_of content ≡ Ok read → length read.name ≤ KEY_NAME_LIMIT
  name-bound content read here reads =
      let same = ap (λ (k : KeyRecord). k.name) (key-fields (cell_at bytes) key content (branch bytes key t).node.key read (key_is bytes key t) here reads) in
      subst (λ (name : List ℕ). length name ≤ KEY_NAME_LIMIT) (sym same) (name_short (branch bytes key t).node.key.name (seen bytes key t).written.name)

  pub descriptor-bound : (fields : KeyFields) → ((k : KeyRecord) → key_at (cell_at bytes) key ≡ Some k → fields ≡ k.fields) →
      (told : List ℕ) → descriptor_at (cell_at bytes) fields.security ≡ Some told → length told ≤ DESCRIPTOR_LIMIT
  descriptor-bound fields are told has =
      let security = security_written bytes key t fields are in
      let same = same_Some _ _ (sym has ∙ ap (option_map (λ (s : KeySecurityRecord). s.descriptor)) security.reads) in
      subst (λ (descriptor : List ℕ). length descriptor ≤ DESCRIPTOR_LIMIT) (sym same) security.short

  pub value-bound : (count offset : ℕ) → HasList (cell_at bytes) key count offset → (index : ℕ) (told : List ℕ) (kind size : ℕ) →
      ((ms : List Member) (met : List Found) → members_at count offset (cell_at bytes) ≡ Some (ms, met) →
      (member : Member) × (slice_get ms index ≡ Some member) × Tells member told kind size)
      → length told ≤ VALUE_NAME_LIMIT
  value-bound count offset has index told kind size k =
      let m = k _ _ (list_reads bytes key t count offset has) in
      subst (λ (name : List ℕ). length name ≤ VALUE_NAME_LIMIT) (sym m.2.name_is)
      (value-name m.0.name (named (branch bytes key t).node.values (seen bytes key t).written.values.list.names index m.0 m.1))
