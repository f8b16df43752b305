-- How often a reader failed, over several reads.
use Rattle.std.proofs.Common.{Bool, true, false, cond, ◌==◌, ◌≡◌, ℕ, Option, Result, Ok, Err, sym, subst}
use Rattle.std.specs.Prelude.{MatchResult}
use Rattle.std.specs.Result.{IsErrAnd}
use Rattle.reg_text.specs.Failures.{Stays, Fails}
use Rattle.reg_text.proofs.FailureCounts.{stays-then, fails-then}
use Rattle.reg_tree_image.specs.declared.LoadFault.{LoadFault}
use Rattle.reg_tree_image.specs.declared.LoadFault.TheVariants.{Read, Short}
use Rattle.reg_tree_image.specs.WalkSteps.{Seen}
use Rattle.reg_tree_image.specs.Loads.{IsBlamed}
use Rattle.reg_tree_image.specs.Internal.InputParts.{told_by}
use Rattle.reg_tree_image.specs.Internal.Stacks.{FailsAs}
use Rattle.reg_tree_image.proofs.Devices.FaultsOfSteps.{IsOfImage}

-- what holds of the fault that a `?` passes on
pub exit-either : {A E : Type 0} (P : A → Type 0) (Q : E → Type 0) (r : Result A E) (e : E) → IsErrAnd r (λ y. y ≡ e) → Q e →
    MatchResult r P Q
exit-either P Q (Ok x) e i q = absurd i
exit-either P Q (Err y) e i q = subst Q (sym i) q

-- a fault of the reader, behind reads that didn't fail
pub blamed-then : (fault : LoadFault) (old mid new : Option ℕ) → Stays old mid → IsBlamed fault mid new → IsBlamed fault old new
blamed-then Read old mid new a b = fails-then old mid new a b
blamed-then fault old mid new a b = stays-then old mid new a b

-- a fault that an image shows is none of the reader's
pub image-stays : (fault : LoadFault) (old new : Option ℕ) → IsOfImage fault → Stays old new → IsBlamed fault old new
image-stays Read old new i s = absurd i
image-stays fault old new i s = s

-- a read that was no good
pub read-blamed : {E : Type 0} (r : Result ℕ E) (fault : LoadFault) (old new : Option ℕ) → Err fault ≡ told_by r →
    MatchResult r (λ _. Stays old new) (λ _. Fails old new) → IsBlamed fault old new
read-blamed (Ok n) fault old new e s = by (n == 0) e
  where
    by : (b : Bool) → Err fault ≡ cond b (Err Short) (Ok n) → IsBlamed fault old new
    by true e = let same : fault ≡ Short = cc in subst (λ f. IsBlamed f old new) (sym same) s
    by false e = absurd (cc)
read-blamed (Err x) fault old new e f = let same : fault ≡ Read = cc in subst (λ f. IsBlamed f old new) (sym same) f

-- nor is one that ends the building of an image's keys
pub walk-stays : (crowded : Type 0) (fault : LoadFault) (r : Result (Unit {0} × Seen) LoadFault) (old new : Option ℕ) →
    (r ≡ Err Read → ⊥) → FailsAs crowded fault r → Stays old new → IsBlamed fault old new
walk-stays crowded Read r old new n w s = absurd (n w)
walk-stays crowded fault r old new n w s = s
