-- How C comes to hold a hive.
use Rattle.std.proofs.Common.{◌≡◌, ◌≤◌, ◌+◌, subst, ◌⊎◌, ℕ, ◌<◌, List, Option, Some, None, Bool, true, false, refl, sym, ◌∙◌, inl, inr, true≢false, length}
use Rattle.std.proofs.Common.{arith, is_some, nat_lt, not, ◌||◌, ◌==◌}
use Rattle.reg_names.specs.Names.{is_key_name}
use Rattle.reg_heap.specs.declared.limits.TheConstants.{BINS_LIMIT, DESCRIPTOR_LIMIT}
use Rattle.reg_model.specs.Causes.{is_bad_descriptor}
use Rattle.reg_tree_image.specs.declared.LoadFault.{LoadFault}
use Rattle.reg_tree_image.specs.declared.LoadFault.TheVariants.{Read, Memory}
use Rattle.std.specs.Io.KnownBytes.{Consumes}
use Rattle.std.proofs.lemmas.Option.{same_Some}
use Rattle.reg_tree_image.specs.Loads.{fault_number, IsRefused, IsBlamed, SparesOwn}
use Rattle.std.proofs.lemmas.Bool.Decides.{nat_tests}
use Rattle.zugmeled.specs.Held.{HeldHive}
use Rattle.zugmeled.specs.declared.statuses.TheConstants.{ALREADY_EXISTS, NOT_REGISTRY_FILE}
use Rattle.zugmeled.specs.Lives.{IsFresh, IsNewRefused, IsNewTold, IsLoadedFrom, IsLoadRefused, IsFaultTold, IsLoadTold, is_bad_root}

module _ (root_name descriptor : List ℕ) (moment : ℕ) (new : Option HeldHive) where
  pub new-there : (old : Option HeldHive) → is_some old ≡ true → new ≡ old → IsNewTold root_name descriptor moment old new ALREADY_EXISTS
  new-there None held same = absurd (true≢false (sym held))
  new-there (Some x) held same = (refl, same)

  pub new-begun : (old : Option HeldHive) (held : HeldHive) → is_some old ≡ false → new ≡ Some held → IsFresh root_name descriptor moment held →
      IsNewTold root_name descriptor moment old new 0
  new-begun None held none is fresh = inl (refl, held, is, fresh)
  new-begun (Some x) held none is fresh = absurd (true≢false none)

  pub new-refused : (old : Option HeldHive) (status : ℕ) → is_some old ≡ false → new ≡ old → IsNewRefused root_name descriptor status →
      IsNewTold root_name descriptor moment old new status
  new-refused None status none same why = inr (why, same)
  new-refused (Some x) status none same why = absurd (true≢false none)

module _ (bytes : List ℕ) (new : Option HeldHive) where
  pub load-there : (old : Option HeldHive) → is_some old ≡ true → new ≡ old → IsLoadTold bytes old new ALREADY_EXISTS 0
  load-there None held same = absurd (true≢false (sym held))
  load-there (Some x) held same = (refl, refl, same)

  pub load-begun : (old : Option HeldHive) (held : HeldHive) → is_some old ≡ false → new ≡ Some held → IsLoadedFrom bytes held →
      IsLoadTold bytes old new 0 0
  load-begun None held none is loaded = inl (refl, refl, held, is, loaded)
  load-begun (Some x) held none is loaded = absurd (true≢false none)

  pub load-refused : (old : Option HeldHive) (met : LoadFault) (status fault : ℕ) → is_some old ≡ false → new ≡ old → IsLoadRefused bytes met →
      IsFaultTold met status fault → IsLoadTold bytes old new status fault
  load-refused None met status fault none same why told = inr (met, why, told, same)
  load-refused (Some x) met status fault none same why told = absurd (true≢false none)

-- of a fault but want of memory
pub other-told : (met : LoadFault) (number : ℕ) → (met ≡ Memory → ⊥) → number ≡ fault_number met → IsFaultTold met NOT_REGISTRY_FILE number
other-told Memory number other is = absurd (other refl)
other-told met number other is = (refl, is)

neither : (a b : Bool) → (a ≡ true → ⊥) → (b ≡ true → ⊥) → a || b ≡ false
neither true b not-a not-b = absurd (not-a refl)
neither false true not-a not-b = absurd (not-b refl)
neither false false not-a not-b = refl

so : (a : Bool) → (a ≡ false → ⊥) → a ≡ true
so true never = refl
so false never = absurd (never refl)

not-so : (a : Bool) → (a ≡ false → ⊥) → not a ≡ true → ⊥
not-so true never e = true≢false (sym e)
not-so false never e = never refl

-- a name that a key may have, and a descriptor that one may have
pub good-root : (root_name descriptor : List ℕ) → (is_key_name root_name ≡ false → ⊥) →
    ((is_key_name root_name ≡ true) × ((length descriptor ≡ 0) ⊎ (DESCRIPTOR_LIMIT < length descriptor)) → ⊥) → is_bad_root root_name descriptor ≡ false
good-root root_name descriptor name rest =
    let good = so (is_key_name root_name) name in
    let sized = neither (length descriptor == 0) (nat_lt DESCRIPTOR_LIMIT (length descriptor)) (λ e. rest (good, inl (grind (arith, nat_tests, e))))
    (λ e. rest (good, inr (grind (arith, nat_tests, e)))) in
    neither (not (is_key_name root_name)) (is_bad_descriptor descriptor) (not-so (is_key_name root_name) name) (λ e. true≢false (sym e ∙ sized))

-- the caller's bytes are read without a failure
not-read : (fault : LoadFault) → IsBlamed fault (Some 0) (Some 0) → fault ≡ Read → ⊥
not-read fault blamed e =
    let failed = subst (λ (f : LoadFault). IsBlamed f (Some 0) (Some 0)) e blamed in
    let other : 0 ≡ 1 = same_Some 0 1 failed in omega (arith, other)

pub refused-of : (bytes : List ℕ) (left : Option (List ℕ)) (fault : LoadFault) →
    ((image : List ℕ) × Consumes (Some bytes) left image × (length image ≤ 4096 + BINS_LIMIT) × IsRefused fault image left) →
    IsBlamed fault (Some 0) (Some 0) → SparesOwn fault (Some bytes) → IsLoadRefused bytes fault
refused-of bytes left fault met blamed own =
    inl (left, record { image = met.0; consumed = met.1; within = met.2; refused = met.3 }, own, not-read fault blamed)
