-- Readings of a heap, each with the records that it meets, in order.
use Rattle.std.specs.Prelude.{ℕ, Bool, cond, Option, Some, None, List, [], ◌∷◌, ◌++◌}
use Rattle.std.specs.Option.{option_map, option_and_then}
use Rattle.reg_heap.specs.Heaps.{Heap}
use Rattle.reg_heap.specs.Kinds.{Kind, Found}

abbrev pub Reading : Type 0 → Type 0
Reading A = Heap → Option (A × List Found)

-- behind what was met before
abbrev pub noted : {B : Type 0} → List Found → B × List Found → B × List Found
noted before y = (y.0, before ++ y.1)

-- one reading, and then the one that its result asks for
infixl 10 ◌>>=◌
abbrev pub ◌>>=◌ : {A B : Type 0} → Reading A → (A → Reading B) → Reading B
◌>>=◌ r f heap = option_and_then (λ x. option_map (noted x.1) (f x.0 heap)) (r heap)

-- a result, of which no cell is read
abbrev pub give : {A : Type 0} → A → Reading A
give x heap = Some (x, [])

-- a result that may be missing
abbrev pub given : {A : Type 0} → Option A → Reading A
given x heap = option_map (λ a. (a, [])) x

-- what an allocated cell holds, met as a record of a kind
abbrev pub cell : Kind → ℕ → Reading (List ℕ)
cell kind offset heap = option_map (λ content. (content, record { kind = kind; offset = offset } ∷ [])) (heap offset)

-- nothing, where the test fails
abbrev pub guard : {A : Type 0} → Bool → Reading A → Reading A
guard test r heap = cond test (r heap) None

-- the same reading of each, in order
abbrev pub each : {A B : Type 0} → (A → Reading B) → List A → Reading (List B)
each r [] = give []
each r (x ∷ xs) = do
  y ← r x
  ys ← each r xs
  give (y ∷ ys)
