-- Marks beside the flags of a key node that are no marks; and what its cell has room for.
use Rattle.std.proofs.Common.{◌≡◌, ℕ, ◌+◌, ◌^◌, ◌<◌, ◌==◌, true, Some, IsSome, List, length, drop, bit_and}
use Rattle.std.proofs.Common.{lit≤, length-take, length-drop, refl, sym, ap, ◌∙◌, arith}
use Rattle.std.specs.Prelude.{IsTrue}
use Rattle.reg_records.specs.declared.nk.KeyFields.{KeyFields}
use Rattle.std.proofs.lemmas.Bool.{eqb-true}
use Rattle.std.proofs.lemmas.Nat.{and_or_apart, and_assoc, and_comm, or_comm, and-not}
use Rattle.reg_heap.specs.ByteWords.{half}
use Rattle.reg_heap.specs.Heaps.{Heap}
use Rattle.reg_records.specs.RecordCells.{HasRoom}
use Rattle.reg_records.specs.KeyNodes.{KeyRecord, key_at, is_in_profile}
use Rattle.reg_records.proofs.KeyNodeCodec.{nk-open, key-room, key_at-open, key-profile}
use Rattle.reg_shape.specs.Spelt.{marks_of}
use Rattle.reg_tree.specs.Internal.KeyBuilding.{flags_with}
use Rattle.reg_tree.proofs.Invariant.CellReadings.{held-is, some_of}

-- ---- flags

-- what is no mark stays
pub form-kept : (marks flags : ℕ) → bit_and marks 103 ≡ 0 → bit_and (flags_with marks flags) 103 ≡ bit_and flags 103
form-kept marks flags e = and_or_apart 103 (bit_and flags 103) marks e ∙ and_assoc 103 flags 103

-- a part of it stays too
part-kept : (part marks flags : ℕ) → bit_and 103 part ≡ part → bit_and marks 103 ≡ 0 → bit_and (flags_with marks flags) part ≡ bit_and flags part
part-kept part marks flags within e =
    ap (bit_and (flags_with marks flags)) (sym within)
    ∙ (sym (and_assoc part (flags_with marks flags) 103)
    ∙ (ap (λ x. bit_and x part) (form-kept marks flags e)
    ∙ (and_assoc part flags 103
    ∙ ap (bit_and flags) within)))

pub profile-kept : (marks flags : ℕ) → bit_and marks 103 ≡ 0 → is_in_profile flags ≡ true → is_in_profile (flags_with marks flags) ≡ true
profile-kept marks flags e p = ap (λ x. x == 0) (part-kept 64 marks flags refl e) ∙ p

-- ---- the name

-- a key node has room for itself, written anew
pub node-room : (h : Heap) (cell : ℕ) (name : List ℕ) → IsSome (key_at h cell) → ((k : KeyRecord) → key_at h cell ≡ Some k → k.name ≡ name) → HasRoom h cell (76 + length name)
node-room h cell name some same =
    let k = some_of (key_at h cell) some in
    let o = key_at-open h cell k.0 k.1 in
    let is = nk-open o.0 k.0 o.2 in
    let content = ap length (held-is h cell o.0 o.1) in
    let long = ap length (sym (same k.0 k.1) ∙ ap (λ (k : KeyRecord). k.name) is.same) in
    let enough = is.enough in
    let taken = length-take (half o.0 72) (drop 76 o.0) in
    let dropped = length-drop 76 o.0 in
    record {
      exists = (key-room h cell 0 (lit≤ tt) some).exists;
      enough = omega (arith, content, long, enough, taken, dropped);
    }

-- the flags that were read, with marks, can be written
pub its-profile : (h : Heap) (cell marks : ℕ) (fields : KeyFields) → bit_and marks 103 ≡ 0 → IsSome (key_at h cell) →
    ((k : KeyRecord) → key_at h cell ≡ Some k → fields ≡ k.fields) → IsTrue (is_in_profile (flags_with marks fields.flags))
its-profile h cell marks fields e some are =
    let k = some_of (key_at h cell) some in
    profile-kept marks fields.flags e (ap (λ (f : KeyFields). is_in_profile f.flags) (are k.0 k.1) ∙ key-profile h cell k.0 k.1)

-- the marks told of these flags are the marks
pub marks-told : (marks flags : ℕ) → bit_and marks 103 ≡ 0 → marks < 2 ^ 16 → is_in_profile flags ≡ true → marks_of (flags_with marks flags) ≡ marks
marks-told marks flags e small p =
    let form : ℕ = bit_and flags 103 in
    let none : bit_and form 65496 ≡ 0 = and_assoc 65496 flags 103 ∙ eqb-true (bit_and flags 64) 0 p in
    let other : bit_and marks 39 ≡ 0 = sym (and_assoc 39 marks 103) ∙ (ap (λ x. bit_and x 39) e ∙ refl) in
    let all = and-not 16 39 marks (lit≤ tt) small in
    let turned = and_comm 39 marks in
    let low = and_comm 65496 marks in
    ap (λ x. bit_and x 65496) (or_comm form marks)
    ∙ (and_or_apart 65496 marks form none
    ∙ (let same : bit_and marks 65496 ≡ marks = omega (arith, all, turned, low, other) in same))
