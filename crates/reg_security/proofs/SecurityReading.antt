-- What a reading of a security's cell tells of its content.
use Rattle.std.proofs.Common.{◌≡◌, ap, ℕ, List, Option, Some, None, IsSome, arith, refl}
use Rattle.std.specs.Prelude.{Err}
use Rattle.std.specs.Option.{option_map}
use Rattle.reg_records.specs.RecordCells.{Heap}
use Rattle.reg_records.specs.KeySecurities.{KeySecurityRecord, security_at, sk_of}
use Rattle.reg_records.specs.declared.RecordFault.{RecordFault}
use Rattle.reg_records.proofs.KeySecurityCodec.{security_at-open, security-room}
use Rattle.reg_shape.specs.Whole.{descriptor_at, count_at}

pub some_of : {A : Type 0} (o : Option A) → IsSome o → (x : A) × (o ≡ Some x)
some_of None s = absurd (cc)
some_of (Some x) s = (x, refl)

pub security-exists : (h : Heap) (o : ℕ) → IsSome (security_at h o) → IsSome (h o)
security-exists h o s = (security-room h o 0 (omega arith) s).exists

-- it reads without a fault
pub security-no_fault : (h : Heap) (o : ℕ) (content : List ℕ) (fault : RecordFault) → IsSome (security_at h o) → h o ≡ Some content → sk_of content ≡ Err fault → ⊥
security-no_fault h o content fault s f e =
    let found = some_of (security_at h o) s in
    let open_is = security_at-open h o found.0 found.1 in
    let there = open_is.1 in
    let reads = open_is.2 in
    cc

-- what a security that reads so describes, and how often it counts that it is used
pub descriptor-of : (h : Heap) (o : ℕ) (s : KeySecurityRecord) → security_at h o ≡ Some s → descriptor_at h o ≡ Some s.descriptor
descriptor-of h o s e = ap (option_map (λ (s : KeySecurityRecord). s.descriptor)) e

pub count-of : (h : Heap) (o : ℕ) (s : KeySecurityRecord) → security_at h o ≡ Some s → count_at h o ≡ Some s.fields.count
count-of h o s e = ap (option_map (λ (s : KeySecurityRecord). s.fields.count)) e
