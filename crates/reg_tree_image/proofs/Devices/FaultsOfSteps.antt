-- Which faults a step may meet: none of those of a reader, and no want of memory.
use Rattle.std.proofs.Common.{◌≡◌, Bool, true, false, Option, Some, None, Result, Ok, Err, refl, subst}
use Rattle.reg_tree_image.specs.declared.LoadFault.{LoadFault}
use Rattle.reg_tree_image.specs.declared.LoadFault.TheVariants.{Read, Short, Memory}
use Rattle.reg_tree_image.specs.WalkSteps.{Seen, Step, ◌>>=◌, ◌>>◌, onward, give, check, given}

-- a fault that a whole image shows
abbrev pub IsOfImage : LoadFault → Type 0
IsOfImage Read = ⊥
IsOfImage Short = ⊥
IsOfImage Memory = ⊥
IsOfImage fault = Unit {0}

-- the faults of a step are such
abbrev pub Meets : {A : Type 0} → Step A → Type 0
Meets s = (seen : Seen) → (fault : LoadFault) → s seen ≡ Err fault → IsOfImage fault

same-fault : {A : Type 0} (f g : LoadFault) (r : Result A LoadFault) → r ≡ Err f → r ≡ Err g → IsOfImage f → IsOfImage g
same-fault f g r e h i = let s : f ≡ g = cc in subst IsOfImage s i

pub meets-give : {A : Type 0} (x : A) → Meets (give x)
meets-give x seen fault e = absurd (cc)

pub meets-check : (f : LoadFault) (b : Bool) → IsOfImage f → Meets (check f b)
meets-check f true i seen fault e = absurd (cc)
meets-check f false i seen fault e = same-fault f fault (check f false seen) refl e i

pub meets-given : {A : Type 0} (f : LoadFault) (o : Option A) → IsOfImage f → Meets (given f o)
meets-given f (Some x) i seen fault e = absurd (cc)
meets-given f None i seen fault e = same-fault f fault (given f None seen) refl e i

pub meets-bind : {A B : Type 0} (s : Step A) (f : A → Step B) → Meets s → ((x : A) → Meets (f x)) → Meets (s >>= f)
meets-bind s f a b seen fault e = by (s seen) (a seen) e
  where
    by : (r : Result (_ × Seen) LoadFault) → ((g : LoadFault) → r ≡ Err g → IsOfImage g) → onward f r ≡ Err fault → IsOfImage fault
    by (Ok x) k e = b x.0 x.1 fault e
    by (Err g) k e = same-fault g fault (onward f (Err g)) refl e (k g refl)

pub meets-then : {A B : Type 0} (s : Step A) (t : Step B) → Meets s → Meets t → Meets (s >> t)
meets-then s t a b = meets-bind s (λ _. t) a (λ _. b)

pub meets-fault : {A : Type 0} (f : LoadFault) (s : Step A) → IsOfImage f → ((seen : Seen) → s seen ≡ Err f) → Meets s
meets-fault f s i h seen fault e = same-fault f fault (s seen) (h seen) e i
