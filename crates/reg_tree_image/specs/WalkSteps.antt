-- Steps of the walk that loads an image: each meets a fault, or gives what it read, with what was seen by then.
use Rattle.std.specs.Prelude.{ℕ, ◌==◌, ◌&&◌, ◌||◌, Bool, true, false, Option, Some, None, Result, Ok, Err, List, [], ◌∷◌, ◌++◌}
use Rattle.reg_heap.specs.Paths.{Path, Rec}
use Rattle.reg_heap.specs.Heaps.{Heap}
use Rattle.reg_heap.specs.Kinds.{Kind, Found, is_security, times, owned, shared}
use Rattle.reg_tree_image.specs.declared.LoadFault.{LoadFault}
use Rattle.reg_tree_image.specs.declared.LoadFault.TheVariants.{Record, Loop, Twice}

-- the records named so far, and the keys told so far, each with its path; both in order
pub record Seen : Type 0 where
  pub found : List Found
  pub told : List (Path × Rec)

-- from what was seen before a step to its result, with what was seen then, or to the first fault that it meets
abbrev pub Step : Type 0 → Type 0
Step A = Seen → Result (A × Seen) LoadFault

-- what is done with the result of a step
abbrev pub onward : {A B : Type 0} → (A → Step B) → Result (A × Seen) LoadFault → Result (B × Seen) LoadFault
onward f (Ok x) = f x.0 x.1
onward f (Err fault) = Err fault

-- one step, and then the one that its result asks for
infixl 10 ◌>>=◌
abbrev pub ◌>>=◌ : {A B : Type 0} → Step A → (A → Step B) → Step B
◌>>=◌ s f seen = onward f (s seen)

-- one step, and then the other
infixl 10 ◌>>◌
abbrev pub ◌>>◌ : {A B : Type 0} → Step A → Step B → Step B
◌>>◌ s t seen = onward (λ _. t) (s seen)

-- a result, for which nothing is named
abbrev pub give : {A : Type 0} → A → Step A
give x seen = Ok (x, seen)

-- a test: where it is false, that fault
abbrev pub check : LoadFault → Bool → Step (Unit {0})
check fault true seen = Ok (tt, seen)
check fault false seen = Err fault

-- a result that may be missing: where it is, that fault
abbrev pub given : {A : Type 0} → LoadFault → Option A → Step A
given fault (Some x) seen = Ok (x, seen)
given fault None seen = Err fault

-- a record is named
abbrev pub note : Found → Step (Unit {0})
note f seen = Ok (tt, record seen { found = seen.found ++ f ∷ [] })

-- a key is told, at its path
abbrev pub tell : Path → Rec → Step (Unit {0})
tell path rec seen = Ok (tt, record seen { told = seen.told ++ (path, rec) ∷ [] })

-- an offset was not named before, save as a security where it is named as one now
abbrev pub is_new : Kind → ℕ → List Found → Bool
is_new kind offset found = (owned offset found == 0) && (is_security kind || (shared offset found == 0))

-- none of these numbers is this one
abbrev pub is_absent : ℕ → List ℕ → Bool
is_absent x xs = times x xs == 0

-- a cell that was named before as another record is named twice
abbrev pub not_named : Kind → ℕ → Step (Unit {0})
not_named kind offset seen = check Twice (is_new kind offset seen.found) seen

-- what the cell at an offset holds, named as a record of a kind. Naming tests, in this order, that an allocated cell begins there, that it
-- is no key of the present path, and that it was not named before
abbrev pub cell : Heap → List ℕ → (List ℕ → Kind) → ℕ → Step (List ℕ)
cell heap path kind offset = do
  content ← given Record (heap offset)
  check Loop (is_absent offset path)
  not_named (kind content) offset
  note (record { kind = kind content; offset = offset })
  give content
