-- A copy lacked memory: it takes some.
use Rattle.std.proofs.Common.{◌≡◌, ℕ, ◌<◌, List, [], Bool, false, Option, Some, None, Result, Ok, Err, IfOk, OnErr, length, nat_eq, sym, subst, inl, inr, arith}
use Rattle.std.specs.Prelude.{if◌then◌else◌, unwrap_or}
use Rattle.std.proofs.lemmas.Bool.Decides.{nat_tests}
use Rattle.std.specs.declared.alloc.AllocError.{AllocError}
use Rattle.reg_model.specs.declared.call.Change.{Change}
use Rattle.reg_model.specs.declared.call.Change.TheVariants.{CreateKey, SetValue}
use Rattle.zugmeled.specs.Calls.{IsLong, ChangeTakesMemory}
use Rattle.zugmeled.specs.Causes.{MayTakeMemory}
use Rattle.zugmeled.specs.Makers.{given_of, change_of}

pub on-err : {A E P : Type 0} (result : Result A E) → P → OnErr result P
on-err (Ok x) why = tt
on-err (Err lack) why = why

pub long-path : (handle : ℕ) (path : List ℕ) (mask : ℕ) (descriptor : Option (List ℕ)) → IsLong path →
    ChangeTakesMemory (CreateKey handle path mask descriptor)
unfolding ChangeTakesMemory
long-path handle path mask descriptor long = inl long

some-length : (n : ℕ) → 16 < n → nat_eq n 0 ≡ false
some-length n long = grind (arith, nat_tests, long)

-- a long descriptor has a byte, so it is given
pub long-descriptor : (handle : ℕ) (path : List ℕ) (mask : ℕ) (descriptor : List ℕ) → IsLong descriptor →
    ChangeTakesMemory (CreateKey handle path mask (given_of descriptor))
unfolding ChangeTakesMemory
long-descriptor handle path mask descriptor long =
    inr (subst (λ (none : Bool). IsLong (unwrap_or (if none then None else Some descriptor) [])) (sym (some-length (length descriptor) long)) long)

pub long-name : (handle : ℕ) (name : List ℕ) (kind : ℕ) (bytes : List ℕ) → IsLong name → ChangeTakesMemory (SetValue handle name kind bytes)
unfolding ChangeTakesMemory
long-name handle name kind bytes long = inl long

pub long-bytes : (handle : ℕ) (name : List ℕ) (kind : ℕ) (bytes : List ℕ) → IsLong bytes → ChangeTakesMemory (SetValue handle name kind bytes)
unfolding ChangeTakesMemory
long-bytes handle name kind bytes long = inr long

-- a change that was made or not, handed on
pub lack-of : {P Q : Type 0} (made : Result Change AllocError) (result : Result (Option Change) AllocError) →
    IfOk made (λ change. result ≡ Ok (Some change)) → OnErr made P → (P → Q) → OnErr result Q
lack-of {P} {Q} (Ok change) result is why turn = subst (λ (r : Result (Option Change) AllocError). OnErr r Q) (sym is) tt
lack-of {P} {Q} (Err lack) result is why turn = on-err result (turn why)

-- the change that has this number
pub of-number : (change n : ℕ) (handle : ℕ) (text : List ℕ) (number : ℕ) (bytes : List ℕ) (below : Bool) (made : Change) → change ≡ n →
    change_of n handle text number bytes below ≡ Some made → ChangeTakesMemory made → MayTakeMemory (change_of change handle text number bytes below)
unfolding MayTakeMemory
of-number change n handle text number bytes below made is of takes =
    subst (λ (k : ℕ). MayTakeMemory (change_of k handle text number bytes below)) (sym is)
    (subst MayTakeMemory (sym of) takes)
