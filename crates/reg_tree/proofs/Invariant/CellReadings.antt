-- What a reading of a cell tells of its content.
use Rattle.std.proofs.Common.{◌≡◌, ◌≢◌, ap, ℕ, List, Option, Some, None, IsSome, arith, refl, sym, ◌∙◌}
use Rattle.std.specs.Prelude.{Ok, Err}
use Rattle.std.specs.Option.{option_and_then}
use Rattle.std.specs.Result.{result_ok}
use Rattle.reg_shape.specs.Nodes.{Node}
use Rattle.reg_shape.proofs.Walking.WalkRefinement.{IsLooked}
use Rattle.reg_records.specs.RecordCells.{Heap, held}
use Rattle.reg_records.specs.KeySecurities.{KeySecurityRecord, security_at}
use Rattle.reg_records.proofs.KeySecurityCodec.{security_at-open, security-room}
use Rattle.reg_records.specs.KeyNodes.{KeyRecord, key_at, nk_of}
use Rattle.reg_records.specs.KeyValues.{KeyValueRecord, value_record_at, vk_of}
use Rattle.reg_records.specs.declared.RecordFault.{RecordFault}
use Rattle.reg_records.proofs.RecordWriting.{same_ok}
use Rattle.reg_records.proofs.KeyNodeCodec.{key-room, key_at-open}
use Rattle.reg_records.proofs.KeyValueCodec.{value-room, value_record_at-open}

pub some_of : {A : Type 0} (o : Option A) → IsSome o → (x : A) × (o ≡ Some x)
some_of None s = absurd (cc)
some_of (Some x) s = (x, refl)

pub is_some_of : {A : Type 0} (o : Option A) (x : A) → o ≡ Some x → IsSome o
is_some_of None x e = absurd (cc)
is_some_of (Some y) x e = refl

pub key-exists : (h : Heap) (o : ℕ) → IsSome (key_at h o) → IsSome (h o)
key-exists h o s = (key-room h o 0 (omega arith) s).exists

pub value-exists : (h : Heap) (o : ℕ) → IsSome (value_record_at h o) → IsSome (h o)
value-exists h o s = (value-room h o 0 (omega arith) s).exists

-- a content of the cell reads as the key node does
pub key-read : (h : Heap) (o : ℕ) (content : List ℕ) (r : KeyRecord) → key_at h o ≡ Some r → h o ≡ Some content → nk_of content ≡ Ok r
key-read h o content r e f = let open_is = key_at-open h o r e in let there = open_is.1 in let reads = open_is.2 in cc

pub value-read : (h : Heap) (o : ℕ) (content : List ℕ) (r : KeyValueRecord) → value_record_at h o ≡ Some r → h o ≡ Some content → vk_of content ≡ Ok r
value-read h o content r e f = let open_is = value_record_at-open h o r e in let there = open_is.1 in let reads = open_is.2 in cc

pub security-exists : (h : Heap) (o : ℕ) → IsSome (security_at h o) → IsSome (h o)
security-exists h o s = (security-room h o 0 (omega arith) s).exists

-- it reads without a fault
pub key-reads : (h : Heap) (o : ℕ) (content : List ℕ) → IsSome (key_at h o) → h o ≡ Some content → (r : KeyRecord) × (nk_of content ≡ Ok r)
key-reads h o content s f = let found = some_of (key_at h o) s in (found.0, key-read h o content found.0 found.1 f)

pub key-no_fault : (h : Heap) (o : ℕ) (content : List ℕ) (fault : RecordFault) → IsSome (key_at h o) → h o ≡ Some content → nk_of content ≡ Err fault → ⊥
key-no_fault h o content fault s f e = let found = some_of (key_at h o) s in let reads = key-read h o content found.0 found.1 f in cc

pub value-no_fault : (h : Heap) (o : ℕ) (content : List ℕ) (fault : RecordFault) → IsSome (value_record_at h o) → h o ≡ Some content → vk_of content ≡ Err fault → ⊥
value-no_fault h o content fault s f e = let found = some_of (value_record_at h o) s in let reads = value-read h o content found.0 found.1 f in cc

-- what was read of the key node are its fields
pub key-fields : (h : Heap) (o : ℕ) (content : List ℕ) (key read : KeyRecord) → key_at h o ≡ Some key → h o ≡ Some content → nk_of content ≡ Ok read → read ≡ key
key-fields h o content key read e f r = same_ok read key (sym r ∙ key-read h o content key e f)

pub value-fields : (h : Heap) (o : ℕ) (content : List ℕ) (value read : KeyValueRecord) → value_record_at h o ≡ Some value → h o ≡ Some content → vk_of content ≡ Ok read → read ≡ value
value-fields h o content value read e f r = same_ok read value (sym r ∙ value-read h o content value e f)

pub held-is : (h : Heap) (o : ℕ) (content : List ℕ) → h o ≡ Some content → held h o ≡ content
held-is h o content e = rw e refl

-- a new cell is none that holds a key node or a security
pub key-not_fresh : (h : Heap) (o root : ℕ) (key : KeyRecord) → h o ≡ None → key_at h root ≡ Some key → root ≢ o
key-not_fresh h o root key f e = λ same. let there = (key_at-open h root key e).1 in let g = ap h same in cc

pub security-not_fresh : (h : Heap) (o at : ℕ) (security : KeySecurityRecord) → h o ≡ None → security_at h at ≡ Some security → at ≢ o
security-not_fresh h o at security f e = λ same. let there = (security_at-open h at security e).1 in let g = ap h same in cc

-- a key node of a cell that holds the same
pub key-moved : (h k : Heap) (o : ℕ) → k o ≡ h o → key_at k o ≡ key_at h o
unfolding key_at
key-moved h k o e = ap (λ (c : Option (List ℕ)). option_and_then (λ content. result_ok (nk_of content)) c) e

-- the key node of a key that was looked at
pub look-key : (h : Heap) (offset : ℕ) (node : Node) → IsLooked h offset node → key_at h offset ≡ Some node.key
unfolding key_at
look-key h offset node l = ap (λ (c : Option (List ℕ)). option_and_then (λ content. result_ok (nk_of content)) c) l.here ∙ l.key_is
