-- What is true at each key of a table, and the table with no rows.
use Rattle.std.proofs.Common.{◌≡◌, ◌≢◌, ℕ, ◌<◌, ◌==◌, Bool, true, false, List, [], Option, Some, None, refl, sym, subst, ◌∙◌, arith, replicate}
use Rattle.std.proofs.lemmas.Bool.Decides.{nat_tests}
use Rattle.std.proofs.lemmas.List.Elements.{All-from_recursion}
use Rattle.slab.specs.Slab.{Slab, get}
use Rattle.reg_names.specs.Names.{path_of}
use Rattle.reg_model.specs.declared.limits.TheConstants.{SESSIONS_LIMIT}
use Rattle.reg_model.specs.Worlds.{At}
use Rattle.reg_handles.specs.HandleTables.{IsFoldedPath}
use Rattle.reg_handles.specs.Internal.OpenKeySlab.{rows_of, destination_of, IsOpenAt}
use Rattle.reg_handles.specs.Internal.HandleRows.{IsUsed, IsTable}
use Rattle.reg_handles.specs.declared.keys.OpenKey.{OpenKey}
use Rattle.reg_handles.proofs.HandleList.{counts_none}

-- ---- what is true at each key

-- what is true at the key that was changed, and at each other one of what it was, is true at each
pub at_each : {K : Type 0} (P : ℕ → Option (OpenKey K) → Type 0) (s s' : Slab (OpenKey K)) (key : ℕ) (slot : Option (OpenKey K)) → get s' key ≡ slot →
    ((q : ℕ) → q ≢ key → get s' q ≡ get s q) → P key slot → ((q : ℕ) → q ≢ key → P q (get s q)) → (q : ℕ) → P q (get s' q)
at_each P s s' key slot changed others here other q = by (q == key) refl
  where
    by : (b : Bool) → (q == key) ≡ b → P q (get s' q)
    by true e =
        let same : key ≡ q = grind (arith, nat_tests) in
        subst (λ k. P k (get s' k)) same (subst (P key) (sym changed) here)
    by false e =
        let apart : q ≢ key = grind (arith, nat_tests) in
        subst (P q) (sym (others q apart)) (other q apart)

pub rows_is : {K : Type 0} (o : Option (OpenKey K)) (n : ℕ) → IsUsed o n → rows_of o ≡ n
rows_is None n e = sym e
rows_is (Some k) n e = e.0

pub open_destination : {K : Type 0} (o : Option (OpenKey K)) (text : List ℕ) → IsOpenAt o text → destination_of o ≡ At (path_of text)
open_destination None text is = absurd is
open_destination (Some k) text is = rw (is.1, is.0) refl

-- ---- no rows

pub none_table : {K : Type 0} (s : Slab (OpenKey K)) (paths : List ℕ → Option ℕ) → ((key : ℕ) → get s key ≡ None) → ((text : List ℕ) → paths text ≡ None) →
    IsTable s paths [] (replicate SESSIONS_LIMIT 0)
none_table s paths none empty = record {
  counts = counts_none;
  keys = λ key. subst (λ o. IsUsed o 0) (sym (none key)) refl;
  found = λ text key is. absurd (let no : paths text ≡ None = empty text in cc);
  listed = λ text key is. absurd (subst (λ o. IsOpenAt o text) (none key) is);
  fit = All-from_recursion _ [] tt;
}

-- ---- keys that stand open

pub open_one : {K : Type 0} (o : Option (OpenKey K)) (a b : List ℕ) → IsOpenAt o a → IsOpenAt o b → a ≡ b
open_one None a b is also = absurd is
open_one (Some k) a b is also = sym is.0 ∙ also.0

pub open_some : {K : Type 0} (o : Option (OpenKey K)) (text : List ℕ) → IsOpenAt o text → (k : OpenKey K) × (o ≡ Some k)
open_some None text is = absurd is
open_some (Some k) text is = (k, refl)

pub used_some : {K : Type 0} (o : Option (OpenKey K)) (rows : ℕ) → IsUsed o rows → 0 < rows → (k : OpenKey K) × (o ≡ Some k)
used_some None rows used some = absurd (omega (arith, used, some))
used_some (Some k) rows used some = (k, refl)

pub used_open : {K : Type 0} (o : Option (OpenKey K)) (text : List ℕ) (rows : ℕ) → IsOpenAt o text → rows_of o ≡ rows → 0 < rows → IsFoldedPath text → IsUsed o rows
used_open None text rows is count some folded = absurd is
used_open (Some k) text rows is count some folded = (count, some, subst IsFoldedPath (sym is.0) folded)

pub same_key : (a b : ℕ) → Some a ≡ Some b → a ≡ b
same_key a b e = cc
