-- Cells that stay, and hold as many bytes as before.
use Rattle.std.proofs.Common.{◌≡◌, ◌≢◌, ℕ, ◌+◌, ◌<◌, ◌≤◌, ◌==◌, eqb, cond, Bool, true, false, Option, Some, None, IsSome}
use Rattle.std.proofs.Common.{List, [], length, take, refl, sym, ap, ◌∙◌, subst, arith, length-take, is_some}
use Rattle.std.specs.Prelude.{unwrap_or}
use Rattle.std.proofs.lemmas.Bool.{eqb-true, eqb-false, true≢false}
use Rattle.reg_heap.specs.Heaps.{Heap}
use Rattle.reg_heap.specs.ByteWords.{splice}
use Rattle.reg_arena.specs.Arena.{Bins, heap_of}
use Rattle.reg_records.specs.RecordCells.{held, WritesCell}
use Rattle.reg_index.specs.Subkeys.{KeepsCells}
use Rattle.reg_index.proofs.LeafGaps.{changed-here, changed-others, spliced-long}

pub kept-then : (h i j : Heap) → KeepsCells h i → KeepsCells i j → KeepsCells h j
kept-then h i j a b z some =
    let q = b z some in
    let p = a z q.0 in
    (p.0, q.1 ∙ p.1)

-- one cell changed
pub kept-but-one : (old new : Heap) (cell : ℕ) → ((z : ℕ) → z ≢ cell → new z ≡ old z) →
    (IsSome (new cell) → IsSome (old cell) × (length (held new cell) ≡ length (held old cell))) → KeepsCells old new
kept-but-one old new cell others here z some = by (eqb z cell) refl
  where
    by : (b : Bool) → eqb z cell ≡ b → IsSome (old z) × (length (held new z) ≡ length (held old z))
    by true e =
        let is = eqb-true z cell e in
        subst (λ c. IsSome (old c) × (length (held new c) ≡ length (held old c))) (sym is) (here (subst (λ c. IsSome (new c)) is some))
    by false e =
        let same = others z (eqb-false z cell e) in
        (subst IsSome same some, ap (λ (o : Option (List ℕ)). length (unwrap_or o [])) same)

pub kept-written : (old new : Bins) (cell : ℕ) (content : List ℕ) → IsSome (heap_of old cell) → WritesCell old new cell content → KeepsCells (heap_of old) (heap_of new)
kept-written old new cell content there w =
    kept-but-one (heap_of old) (heap_of new) cell w.others
    (λ some. (there, ap (λ (o : Option (List ℕ)). length (unwrap_or o [])) w.here ∙ w.as_many))

pub kept-copied : (old new : Heap) (cell at size : ℕ) (bytes : List ℕ) → IsSome (old cell) → at + size ≤ length (held old cell) →
    ((offset : ℕ) → new offset ≡ cond (offset == cell) (Some (splice at (take size bytes) (held old cell))) (old offset)) → KeepsCells old new
kept-copied old new cell at size bytes there fits written =
    kept-but-one old new cell (changed-others old new cell (Some (splice at (take size bytes) (held old cell))) written)
    (λ some. (there, spliced-long old new cell at (take size bytes) (omega (arith, fits, length-take size bytes)) written))

pub kept-freed : (old new : Heap) (cell : ℕ) → IsSome (old cell) → ((offset : ℕ) → new offset ≡ cond (offset == cell) None (old offset)) → KeepsCells old new
kept-freed old new cell there gone = kept-but-one old new cell (changed-others old new cell None gone) (λ some. absurd (true≢false (sym some ∙ ap is_some (changed-here old new cell None gone))))

-- a cell that holds something is there
pub long-there : (heap : Heap) (cell : ℕ) → 0 < length (held heap cell) → IsSome (heap cell)
long-there heap cell long = by (heap cell) long
  where
    by : (o : Option (List ℕ)) → 0 < length (unwrap_or o []) → IsSome o
    by None l = absurd (omega (arith, l))
    by (Some content) l = refl

pub is-there : (new old : Heap) (cell : ℕ) → new cell ≡ old cell → IsSome (old cell) → IsSome (new cell)
is-there new old cell same there = subst IsSome (sym same) there

pub here-there : (heap : Heap) (cell : ℕ) (content : List ℕ) → heap cell ≡ Some content → IsSome (heap cell)
here-there heap cell content e = ap is_some e
