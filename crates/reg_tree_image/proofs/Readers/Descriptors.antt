-- A security's descriptor, read.
use Rattle.std.proofs.Common.{◌≡◌, ℕ, ◌<◌, ◌≤◌, nat_lt, nat_le, true, false, Result, Ok, Err, List, length, refl, sym, ap, ◌∙◌, subst, arith}
use Rattle.std.specs.Result.{IsErrAnd}
use Rattle.std.proofs.lemmas.Bool.Decides.{nat_tests}
use Rattle.reg_heap.specs.Heaps.{Heap}
use Rattle.reg_heap.specs.Kinds.Kind.{Security}
use Rattle.reg_records.specs.declared.RecordFault.{RecordFault}
use Rattle.reg_records.specs.KeySecurities.{KeySecurityRecord, sk_of}
use Rattle.reg_tree_image.specs.declared.LoadFault.{LoadFault}
use Rattle.reg_tree_image.specs.declared.LoadFault.TheVariants.{Record, Limit}
use Rattle.reg_tree_image.specs.declared.table.CellState.{CellState}
use Rattle.reg_tree_image.specs.WalkSteps.{Seen, Step, ◌>>=◌, ◌>>◌, onward, give, check, cell}
use Rattle.reg_tree_image.specs.LoadingWalk.{read, fault_of_record, descriptor_from}
use Rattle.reg_tree_image.specs.Internal.CellStates.{IsTable}
use Rattle.reg_tree_image.specs.Internal.ReaderOutcomes.{IsDone, Fails, Follows}
use Rattle.reg_tree_image.proofs.Readers.ReaderSteps.{exit-follows, fails-at}

module _ {X : Type 0} (heap : Heap) (path : List ℕ) (offset : ℕ) (view : X → List ℕ) (old mid : List CellState) where
  abbrev then : List ℕ → Step (List ℕ)
  then content = do
    security ← read (sk_of content)
    check Record (nat_lt 0 (length security.descriptor))
    check Limit (nat_le (length security.descriptor) 65535)
    give security.descriptor

  pub descriptor-exit : {Y : Type 0} (told : Y → List ℕ) (fault : LoadFault) (r : Result Y LoadFault) → IsErrAnd r (λ e. e ≡ fault) →
      Follows heap path view (cell heap path (λ _. Security) offset) old mid (Err fault) → Follows heap path told (descriptor_from heap path offset) old mid r
  descriptor-exit told fault r i a = exit-follows heap path view told (cell heap path (λ _. Security) offset) then old mid mid fault r i a

  module _ (x : X) (a : Follows heap path view (cell heap path (λ _. Security) offset) old mid (Ok x)) where
    pub descriptor-bad : (fault : RecordFault) (as-fault : LoadFault) → as-fault ≡ fault_of_record fault → sk_of (view x) ≡ Err fault → (seen : Seen) → IsTable heap seen.found path old →
        Fails as-fault (descriptor_from heap path offset) seen
    descriptor-bad fault as-fault q e seen t =
        let d = a seen t in
        subst (λ f. Fails f (descriptor_from heap path offset) seen) (sym q)
        (fails-at (fault_of_record fault) (descriptor_from heap path offset) seen (ap (onward then) d.gives ∙ rw e refl))

    pub descriptor-none : (security : KeySecurityRecord) → sk_of (view x) ≡ Ok security → length security.descriptor ≡ 0 → (seen : Seen) → IsTable heap seen.found path old →
        descriptor_from heap path offset seen ≡ Err Record
    descriptor-none security e z seen t =
        let d = a seen t in
        let b : nat_lt 0 (length security.descriptor) ≡ false = grind (arith, nat_tests) in
        ap (onward then) d.gives ∙ rw (e, b) refl

    pub descriptor-long : (security : KeySecurityRecord) → sk_of (view x) ≡ Ok security → 65535 < length security.descriptor → (seen : Seen) → IsTable heap seen.found path old →
        descriptor_from heap path offset seen ≡ Err Limit
    descriptor-long security e l seen t =
        let d = a seen t in
        let b : nat_lt 0 (length security.descriptor) ≡ true = grind (arith, nat_tests) in
        let c : nat_le (length security.descriptor) 65535 ≡ false = grind (arith, nat_tests) in
        ap (onward then) d.gives ∙ rw (e, b, c) refl

    pub descriptor-done : (security : KeySecurityRecord) → sk_of (view x) ≡ Ok security → 0 < length security.descriptor → length security.descriptor ≤ 65535 → (seen : Seen) →
        IsTable heap seen.found path old → IsDone heap path (descriptor_from heap path offset) seen security.descriptor mid
    descriptor-done security e s l seen t =
        let d = a seen t in
        let b : nat_lt 0 (length security.descriptor) ≡ true = grind (arith, nat_tests) in
        let c : nat_le (length security.descriptor) 65535 ≡ true = grind (arith, nat_tests) in
        record { after = d.after; gives = ap (onward then) d.gives ∙ rw (e, b, c) refl; table = d.table; told = d.told }
