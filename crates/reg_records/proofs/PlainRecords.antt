-- What a record holds beside what is read of it stays through the writers of its fields.
use Rattle.std.proofs.Common.{◌≡◌, ℕ, ◌+◌, ◌≤◌, ◌⊎◌, inl, inr, List, [], ◌++◌, length, drop, Option, IsSome, refl, sym, ap, ◌∙◌, subst, arith}
use Rattle.std.specs.Prelude.{unwrap_or}
use Rattle.byteorder.specs.Endian.{little_bytes}
use Rattle.reg_heap.specs.ByteWords.{half, word, splice}
use Rattle.reg_arena.specs.Arena.{Bins, heap_of}
use Rattle.reg_records.specs.declared.nk.KeyFields.{KeyFields}
use Rattle.reg_records.specs.declared.vk.ValueFields.{ValueFields}
use Rattle.reg_records.specs.declared.sk.SecurityFields.{SecurityFields}
use Rattle.reg_records.specs.RecordCells.{held, WritesCell, WritesPart, WritesRecord}
use Rattle.reg_records.specs.KeyNodes.{key_at, nk_bytes, IsPlainKey}
use Rattle.reg_records.specs.KeyValues.{value_record_at, vk_bytes, IsPlainValue}
use Rattle.reg_records.specs.KeySecurities.{sk_bytes, security_at, IsPlainSecurity}
use Rattle.reg_records.proofs.SplicedNumbers.{number-below, number-above}
use Rattle.reg_records.proofs.KeyNodeCodec.{key-room}
use Rattle.reg_records.proofs.KeyValueCodec.{value-room}
use Rattle.reg_records.proofs.KeySecurityCodec.{security-room}

-- what was written is what the cell holds
pub held-written : (old new : Bins) (cell : ℕ) (content : List ℕ) → WritesCell old new cell content → held (heap_of new) cell ≡ content
held-written old new cell content w = ap (λ (o : Option (List ℕ)). unwrap_or o []) w.here

module _ (at : ℕ) (piece xs : List ℕ) (fits : at + length piece ≤ length xs) where
  word-kept : (p : ℕ) → (p + 4 ≤ at) ⊎ (at + length piece ≤ p) → word (splice at piece xs) p ≡ word xs p
  unfolding word
  word-kept p (inl l) = number-below at piece xs fits 4 p l
  word-kept p (inr l) = number-above at piece xs fits 4 p l

  half-kept : (p : ℕ) → (p + 2 ≤ at) ⊎ (at + length piece ≤ p) → half (splice at piece xs) p ≡ half xs p
  unfolding half
  half-kept p (inl l) = number-below at piece xs fits 2 p l
  half-kept p (inr l) = number-above at piece xs fits 2 p l

  key-kept : (12 + 4 ≤ at) ⊎ (at + length piece ≤ 12) → (24 + 4 ≤ at) ⊎ (at + length piece ≤ 24) → (32 + 4 ≤ at) ⊎ (at + length piece ≤ 32) →
      (68 + 4 ≤ at) ⊎ (at + length piece ≤ 68) → IsPlainKey xs → IsPlainKey (splice at piece xs)
  key-kept a b c d k = record {
    access = word-kept 12 a ∙ k.access;
    volatile_subkeys = word-kept 24 b ∙ k.volatile_subkeys;
    volatile_list = word-kept 32 c ∙ k.volatile_list;
    work = word-kept 68 d ∙ k.work;
  }

-- ---- key nodes

pub plain-timed : (old new : Bins) (cell time : ℕ) → IsSome (key_at (heap_of old) cell) → WritesPart old new cell 4 (little_bytes 8 time) →
    IsPlainKey (held (heap_of old) cell) → IsPlainKey (held (heap_of new) cell)
plain-timed old new cell time s w k =
    let room = key-room (heap_of old) cell 76 (omega arith) s in
    subst IsPlainKey (sym (held-written old new cell _ w))
    (key-kept 4 (little_bytes 8 time) (held (heap_of old) cell) (omega (arith, room.enough)) (inr (omega arith)) (inr (omega arith)) (inr (omega arith)) (inr (omega arith)) k)

pub plain-valued : (old new : Bins) (cell values list : ℕ) → IsSome (key_at (heap_of old) cell) →
    WritesPart old new cell 36 (little_bytes 4 values ++ little_bytes 4 list) → IsPlainKey (held (heap_of old) cell) →
    IsPlainKey (held (heap_of new) cell)
plain-valued old new cell values list s w k =
    let room = key-room (heap_of old) cell 76 (omega arith) s in
    subst IsPlainKey (sym (held-written old new cell _ w))
    (key-kept 36 (little_bytes 4 values ++ little_bytes 4 list) (held (heap_of old) cell) (omega (arith, room.enough)) (inl (omega arith))
    (inl (omega arith)) (inl (omega arith)) (inr (omega arith)) k)

pub plain-sized : (old new : Bins) (cell largest : ℕ) → IsSome (key_at (heap_of old) cell) →
    WritesPart old new cell 64 (little_bytes 4 largest) → IsPlainKey (held (heap_of old) cell) → IsPlainKey (held (heap_of new) cell)
plain-sized old new cell largest s w k =
    let room = key-room (heap_of old) cell 76 (omega arith) s in
    subst IsPlainKey (sym (held-written old new cell _ w))
    (key-kept 64 (little_bytes 4 largest) (held (heap_of old) cell) (omega (arith, room.enough)) (inl (omega arith)) (inl (omega arith)) (inl (omega arith)) (inr (omega arith)) k)

nk-plain : (fields : KeyFields) (name rest : List ℕ) → IsPlainKey (nk_bytes fields name ++ rest)
unfolding nk_bytes word
nk-plain fields name rest = record { access = refl; volatile_subkeys = refl; volatile_list = refl; work = refl }

pub plain-key : (old new : Bins) (cell size : ℕ) (fields : KeyFields) (name : List ℕ) → WritesRecord old new cell size (nk_bytes fields name) → IsPlainKey (held (heap_of new) cell)
plain-key old new cell size fields name w = subst IsPlainKey (sym (held-written old new cell _ w)) (nk-plain fields name (drop size (held (heap_of old) cell)))

pub plain-named : (old new : Bins) (cell largest : ℕ) → IsSome (key_at (heap_of old) cell) →
    WritesPart old new cell 60 (little_bytes 4 largest) → IsPlainKey (held (heap_of old) cell) → IsPlainKey (held (heap_of new) cell)
plain-named old new cell largest s w k =
    let room = key-room (heap_of old) cell 76 (omega arith) s in
    subst IsPlainKey (sym (held-written old new cell _ w))
    (key-kept 60 (little_bytes 4 largest) (held (heap_of old) cell) (omega (arith, room.enough)) (inl (omega arith)) (inl (omega arith)) (inl (omega arith)) (inr (omega arith)) k)

pub plain-counted : (old new : Bins) (cell subkeys : ℕ) → IsSome (key_at (heap_of old) cell) →
    WritesPart old new cell 20 (little_bytes 4 subkeys) → IsPlainKey (held (heap_of old) cell) → IsPlainKey (held (heap_of new) cell)
plain-counted old new cell subkeys s w k =
    let room = key-room (heap_of old) cell 76 (omega arith) s in
    subst IsPlainKey (sym (held-written old new cell _ w))
    (key-kept 20 (little_bytes 4 subkeys) (held (heap_of old) cell) (omega (arith, room.enough)) (inl (omega arith)) (inr (omega arith)) (inr (omega arith)) (inr (omega arith)) k)

pub plain-listed : (old new : Bins) (cell list : ℕ) → IsSome (key_at (heap_of old) cell) → WritesPart old new cell 28 (little_bytes 4 list) →
    IsPlainKey (held (heap_of old) cell) → IsPlainKey (held (heap_of new) cell)
plain-listed old new cell list s w k =
    let room = key-room (heap_of old) cell 76 (omega arith) s in
    subst IsPlainKey (sym (held-written old new cell _ w))
    (key-kept 28 (little_bytes 4 list) (held (heap_of old) cell) (omega (arith, room.enough)) (inl (omega arith)) (inl (omega arith)) (inr (omega arith)) (inr (omega arith)) k)

pub plain-secured : (old new : Bins) (cell security : ℕ) → IsSome (key_at (heap_of old) cell) → WritesPart old new cell 44 (little_bytes 4 security) →
    IsPlainKey (held (heap_of old) cell) → IsPlainKey (held (heap_of new) cell)
plain-secured old new cell security s w k =
    let room = key-room (heap_of old) cell 76 (omega arith) s in
    subst IsPlainKey (sym (held-written old new cell _ w))
    (key-kept 44 (little_bytes 4 security) (held (heap_of old) cell) (omega (arith, room.enough)) (inl (omega arith)) (inl (omega arith)) (inl (omega arith)) (inr (omega arith)) k)

pub plain-widened : (old new : Bins) (cell largest : ℕ) → IsSome (key_at (heap_of old) cell) →
    WritesPart old new cell 52 (little_bytes 4 largest) → IsPlainKey (held (heap_of old) cell) → IsPlainKey (held (heap_of new) cell)
plain-widened old new cell largest s w k =
    let room = key-room (heap_of old) cell 76 (omega arith) s in
    subst IsPlainKey (sym (held-written old new cell _ w))
    (key-kept 52 (little_bytes 4 largest) (held (heap_of old) cell) (omega (arith, room.enough)) (inl (omega arith)) (inl (omega arith)) (inl (omega arith)) (inr (omega arith)) k)

-- ---- key values

pub plain-data : (old new : Bins) (cell size offset kind : ℕ) → IsSome (value_record_at (heap_of old) cell) →
    WritesPart old new cell 4 (little_bytes 4 size ++ little_bytes 4 offset ++ little_bytes 4 kind) → IsPlainValue (held (heap_of old) cell) →
    IsPlainValue (held (heap_of new) cell)
plain-data old new cell size offset kind s w k =
    let room = value-room (heap_of old) cell 20 (omega arith) s in
    ap (λ c. half c 18) (held-written old new cell _ w)
    ∙ (half-kept 4 (little_bytes 4 size ++ little_bytes 4 offset ++ little_bytes 4 kind) (held (heap_of old) cell) (omega (arith, room.enough)) 18 (inr (omega arith)) ∙ k)

vk-plain : (fields : ValueFields) (name rest : List ℕ) → IsPlainValue (vk_bytes fields name ++ rest)
unfolding vk_bytes half
vk-plain fields name rest = refl

pub plain-value : (old new : Bins) (cell size : ℕ) (fields : ValueFields) (name : List ℕ) → WritesRecord old new cell size (vk_bytes fields name) → IsPlainValue (held (heap_of new) cell)
plain-value old new cell size fields name w = ap (λ c. half c 18) (held-written old new cell _ w) ∙ vk-plain fields name (drop size (held (heap_of old) cell))

-- ---- key securities

sk-plain : (fields : SecurityFields) (descriptor rest : List ℕ) → IsPlainSecurity (sk_bytes fields descriptor ++ rest)
unfolding sk_bytes half
sk-plain fields descriptor rest = refl

pub plain-security : (old new : Bins) (cell size : ℕ) (fields : SecurityFields) (descriptor : List ℕ) →
    WritesRecord old new cell size (sk_bytes fields descriptor) → IsPlainSecurity (held (heap_of new) cell)
plain-security old new cell size fields descriptor w = ap (λ c. half c 2) (held-written old new cell _ w) ∙ sk-plain fields descriptor (drop size (held (heap_of old) cell))

pub plain-shared : (old new : Bins) (cell count : ℕ) → IsSome (security_at (heap_of old) cell) →
    WritesPart old new cell 12 (little_bytes 4 count) → IsPlainSecurity (held (heap_of old) cell) →
    IsPlainSecurity (held (heap_of new) cell)
plain-shared old new cell count s w k =
    let room = security-room (heap_of old) cell 20 (omega arith) s in
    ap (λ c. half c 2) (held-written old new cell _ w)
    ∙ (half-kept 12 (little_bytes 4 count) (held (heap_of old) cell) (omega (arith, room.enough)) 2 (inl (omega arith)) ∙ k)

pub plain-led : (old new : Bins) (cell flink : ℕ) → IsSome (security_at (heap_of old) cell) →
    WritesPart old new cell 4 (little_bytes 4 flink) → IsPlainSecurity (held (heap_of old) cell) →
    IsPlainSecurity (held (heap_of new) cell)
plain-led old new cell flink s w k =
    let room = security-room (heap_of old) cell 20 (omega arith) s in
    ap (λ c. half c 2) (held-written old new cell _ w)
    ∙ (half-kept 4 (little_bytes 4 flink) (held (heap_of old) cell) (omega (arith, room.enough)) 2 (inl (omega arith)) ∙ k)

pub plain-led_back : (old new : Bins) (cell blink : ℕ) → IsSome (security_at (heap_of old) cell) →
    WritesPart old new cell 8 (little_bytes 4 blink) → IsPlainSecurity (held (heap_of old) cell) →
    IsPlainSecurity (held (heap_of new) cell)
plain-led_back old new cell blink s w k =
    let room = security-room (heap_of old) cell 20 (omega arith) s in
    ap (λ c. half c 2) (held-written old new cell _ w)
    ∙ (half-kept 8 (little_bytes 4 blink) (held (heap_of old) cell) (omega (arith, room.enough)) 2 (inl (omega arith)) ∙ k)
