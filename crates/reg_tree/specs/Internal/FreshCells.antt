-- The two cells of a new hive (Suhanov, Windows registry file format specification, "Key node", "Key security").
use Rattle.std.specs.Prelude.{◌≡◌, ◌≢◌, ℕ, ◌-◌, ◌≤◌, true, [], ◌∷◌, length, Some, None, replicate}
use Rattle.reg_names.specs.Names.{is_key_name}
use Rattle.reg_heap.specs.declared.limits.TheConstants.{DESCRIPTOR_LIMIT, NONE}
use Rattle.reg_heap.specs.Heaps.{Heap, allocated}
use Rattle.reg_heap.specs.Kinds.{times}
use Rattle.reg_arena.specs.Arena.{Bins, heap_of}
use Rattle.reg_records.specs.RecordCells.{held}
use Rattle.reg_records.specs.KeyNodes.{KeyRecord, key_at, IsPlainKey}
use Rattle.reg_records.specs.KeySecurities.{KeySecurityRecord, security_at, IsPlainSecurity}
use Rattle.reg_records.specs.declared.nk.KeyFields.{KeyFields}

-- cells of these sizes came, zero, at two offsets where there was none; every other cell is as it was
pub record AreCarved (old new : Bins) (first second first_size second_size : ℕ) : Type 0 where
  pub apart : first ≢ second
  pub first_fresh : heap_of old first ≡ None
  pub second_fresh : heap_of old second ≡ None
  pub first_is : heap_of new first ≡ Some (replicate (first_size - 4) 0)
  pub second_is : heap_of new second ≡ Some (replicate (second_size - 4) 0)
  pub others : (offset : ℕ) → offset ≢ first → offset ≢ second → heap_of new offset ≡ heap_of old offset

-- the fixed part of a new root's key node: no delete, hive entry, a name of one byte a character; no parent, no subkeys, no
-- class, no values, no longest name
pub record IsRootFields (fields : KeyFields) : Type 0 where
  pub flags : fields.flags ≡ 44
  pub parent : fields.parent ≡ NONE
  pub subkeys : fields.subkeys ≡ 0
  pub subkeys_list : fields.subkeys_list ≡ NONE
  pub class : fields.class ≡ NONE
  pub class_length : fields.class_length ≡ 0
  pub values : fields.values ≡ 0
  pub values_list : fields.values_list ≡ NONE
  pub largest : fields.largest_subkey_name ≡ 0

-- the one key security of a hive: a ring of itself, which one key uses
pub record IsOnlySecurity (h : Heap) (offset : ℕ) (security : KeySecurityRecord) : Type 0 where
  pub security_is : security_at h offset ≡ Some security
  pub plain : IsPlainSecurity (held h offset)
  pub flink : security.fields.flink ≡ offset
  pub blink : security.fields.blink ≡ offset
  pub count : security.fields.count ≡ 1
  pub some : 1 ≤ length security.descriptor
  pub short : length security.descriptor ≤ DESCRIPTOR_LIMIT

-- a new root's cells, which are all that are allocated, each once
pub record IsFreshRoot (h : Heap) (root : ℕ) : Type 0 where
  pub key : KeyRecord
  pub security : KeySecurityRecord
  pub key_is : key_at h root ≡ Some key
  pub plain : IsPlainKey (held h root)
  pub name : is_key_name key.name ≡ true
  pub fields : IsRootFields key.fields
  pub only : IsOnlySecurity h key.fields.security security
  pub exact : (offset : ℕ) → times offset (root ∷ key.fields.security ∷ []) ≡ allocated h offset
