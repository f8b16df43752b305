-- What a reader of the code makes of a step of the walk.
use Rattle.std.specs.Prelude.{◌≡◌, ℕ, Result, Ok, Err, List, ⊤}
use Rattle.reg_heap.specs.Heaps.{Heap}
use Rattle.reg_tree_image.specs.declared.LoadFault.{LoadFault}
use Rattle.reg_tree_image.specs.declared.LoadFault.TheVariants.{Memory}
use Rattle.reg_tree_image.specs.declared.table.CellState.{CellState}
use Rattle.reg_tree_image.specs.WalkSteps.{Seen, Step}
use Rattle.reg_tree_image.specs.Internal.CellStates.{IsTable}

-- the step gives this, and the table then says what was named by then; no key was told
pub record IsDone {A : Type 0} (heap : Heap) (path : List ℕ) (step : Step A) (seen : Seen) (value : A) (new : List CellState) : Type 0 where
  pub after : Seen
  pub gives : step seen ≡ Ok (value, after)
  pub table : IsTable heap after.found path new
  pub told : after.told ≡ seen.told

-- the step meets this fault, if it isn't want of memory
abbrev pub Fails : {A : Type 0} → LoadFault → Step A → Seen → Type 0
Fails Memory step seen = ⊤
Fails fault step seen = step seen ≡ Err fault

abbrev pub Outcome : {X A : Type 0} → Heap → List ℕ → (X → A) → Step A → List CellState → Seen → Result X LoadFault → Type 0
Outcome heap path view step new seen (Ok x) = IsDone heap path step seen (view x) new
Outcome heap path view step new seen (Err fault) = Fails fault step seen

-- from a table that says what was named so far, what was returned, seen by view, is what the step gives
abbrev pub Follows : {X A : Type 0} → Heap → List ℕ → (X → A) → Step A → List CellState → List CellState → Result X LoadFault → Type 0
Follows heap path view step old new result = (seen : Seen) → IsTable heap seen.found path old → Outcome heap path view step new seen result

-- what was returned, seen by view, is what a step gives that names and tells nothing
abbrev pub Gives : {X A : Type 0} → (X → A) → Step A → Result X LoadFault → Type 0
Gives view step (Ok x) = (seen : Seen) → step seen ≡ Ok (view x, seen)
Gives view step (Err fault) = (seen : Seen) → Fails fault step seen

-- what was returned is what a step gives that names and tells nothing, each fault too: memory never lacks
abbrev pub GivesExactly : {A : Type 0} → Step A → Result A LoadFault → Type 0
GivesExactly step (Ok x) = (seen : Seen) → step seen ≡ Ok (x, seen)
GivesExactly step (Err fault) = (seen : Seen) → step seen ≡ Err fault
