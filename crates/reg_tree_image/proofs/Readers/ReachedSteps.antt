-- How far a reader has come: what is left of a step.
use Rattle.std.proofs.Common.{◌≡◌, Result, Ok, Err, List, ℕ, refl, sym, ap, ◌∙◌, subst}
use Rattle.std.specs.Result.{IsErrAnd, MatchResult}
use Rattle.reg_heap.specs.Heaps.{Heap}
use Rattle.reg_tree_image.specs.declared.LoadFault.{LoadFault}
use Rattle.reg_tree_image.specs.declared.LoadFault.TheVariants.{Memory}
use Rattle.reg_tree_image.specs.declared.table.CellState.{CellState}
use Rattle.reg_tree_image.specs.WalkSteps.{Seen, Step, ◌>>=◌, onward}
use Rattle.reg_tree_image.specs.Internal.CellStates.{IsTable}
use Rattle.reg_tree_image.specs.Internal.ReaderOutcomes.{Fails, Gives, Follows}
use Rattle.reg_tree_image.proofs.Readers.ReaderSteps.{fails-on, fails-same}

-- the whole gives what the rest gives from what was seen by then, of which the table tells; no key was told
pub record Comes {A : Type 0} (heap : Heap) (path : List ℕ) (whole rest : Step A) (seen : Seen) (now : List CellState) : Type 0 where
  pub after : Seen
  pub gives : whole seen ≡ rest after
  pub table : IsTable heap after.found path now
  pub told : after.told ≡ seen.told

-- from any state of which the old table tells
abbrev pub Reaches : {A : Type 0} → Heap → List ℕ → Step A → Step A → List CellState → List CellState → Type 0
Reaches heap path whole rest old now = (seen : Seen) → IsTable heap seen.found path old → Comes heap path whole rest seen now

-- nothing is named, and what is left is the whole by another name
pub reaches-same : {A : Type 0} (heap : Heap) (path : List ℕ) (whole rest : Step A) (old : List CellState) →
    ((seen : Seen) → whole seen ≡ rest seen) → Reaches heap path whole rest old old
reaches-same heap path whole rest old e seen t = record { after = seen; gives = e seen; table = t; told = refl }

-- what is left, by another name
pub reaches-more : {A : Type 0} (heap : Heap) (path : List ℕ) (whole rest left : Step A) (old now : List CellState) →
    Reaches heap path whole rest old now → ((seen : Seen) → rest seen ≡ left seen) →
    Reaches heap path whole left old now
reaches-more heap path whole rest left old now a e seen t =
    let w = a seen t in
    record { after = w.after; gives = w.gives ∙ e w.after; table = w.table; told = w.told }

-- what is left is read
pub reaches-follows : {X A : Type 0} (heap : Heap) (path : List ℕ) (view : X → A) (whole rest : Step A) (old mid new : List CellState)
    (r : Result X LoadFault) →
    Reaches heap path whole rest old mid → Follows heap path view rest mid new r → Follows heap path view whole old new r
reaches-follows heap path view whole rest old mid new (Ok x) a b seen t =
    let w = a seen t in
    let d = b w.after w.table in
    record { after = d.after; gives = w.gives ∙ d.gives; table = d.table; told = d.told ∙ w.told }
reaches-follows heap path view whole rest old mid new (Err fault) a b seen t =
    let w = a seen t in
    fails-same fault whole rest seen w.after w.gives (b w.after w.table)

-- what is left fails
pub reaches-fault : {A : Type 0} (heap : Heap) (path : List ℕ) (whole rest : Step A) (old mid : List CellState) (fault : LoadFault) →
    Reaches heap path whole rest old mid → ((seen : Seen) → rest seen ≡ Err fault) → (seen : Seen) → IsTable heap seen.found path old →
    whole seen ≡ Err fault
reaches-fault heap path whole rest old mid fault a e seen t = let w = a seen t in w.gives ∙ e w.after

-- the first step of what is left is done
pub reaches-then : {X A B : Type 0} (heap : Heap) (path : List ℕ) (first : X → A) (whole : Step B) (s : Step A) (f : A → Step B)
    (old mid new : List CellState) (x : X) →
    Reaches heap path whole (s >>= f) old mid → Follows heap path first s mid new (Ok x) → Reaches heap path whole (f (first x)) old new
reaches-then heap path first whole s f old mid new x a b seen t =
    let w = a seen t in
    let d = b w.after w.table in
    record { after = d.after; gives = w.gives ∙ ap (onward f) d.gives; table = d.table; told = d.told ∙ w.told }

-- the first step of what is left fails: the exit of a `?`
pub reaches-exit : {X Y A B : Type 0} (heap : Heap) (path : List ℕ) (first : X → A) (then : Y → B) (whole : Step B) (s : Step A)
    (f : A → Step B) (old mid new : List CellState) (fault : LoadFault)
    (r : Result Y LoadFault) → IsErrAnd r (λ e. e ≡ fault) → Reaches heap path whole (s >>= f) old mid →
    Follows heap path first s mid new (Err fault) → Follows heap path then whole old new r
reaches-exit heap path first then whole s f old mid new fault (Ok y) i a b seen t = absurd i
reaches-exit heap path first then whole s f old mid new fault (Err e) i a b seen t =
    let w = a seen t in
    subst (λ e. Fails e whole seen) (sym i)
    (fails-same fault whole (s >>= f) seen w.after w.gives (fails-on fault s f w.after (b w.after w.table)))

-- ---- what was read, handed on

-- a step that names nothing
pub gives-follows : {X A : Type 0} (heap : Heap) (path : List ℕ) (view : X → A) (s : Step A) (old : List CellState)
    (r : Result X LoadFault) → Gives view s r → Follows heap path view s old old r
gives-follows heap path view s old (Ok x) g seen t = record { after = seen; gives = g seen; table = t; told = refl }
gives-follows heap path view s old (Err fault) g seen t = g seen

-- another value that looks the same, or none for want of memory
pub follows-as : {X Y A : Type 0} (heap : Heap) (path : List ℕ) (first : X → A) (then : Y → A) (s : Step A) (old new : List CellState)
    (x : X) (r : Result Y LoadFault) →
    MatchResult r (λ y. then y ≡ first x) (λ fault. fault ≡ Memory) → Follows heap path first s old new (Ok x) →
    Follows heap path then s old new r
follows-as heap path first then s old new x (Ok y) e a seen t =
    let d = a seen t in
    record { after = d.after; gives = d.gives ∙ ap (λ v. Ok (v, d.after)) (sym e); table = d.table; told = d.told }
follows-as heap path first then s old new x (Err fault) e a seen t = subst (λ f. Fails f s seen) (sym e) tt
