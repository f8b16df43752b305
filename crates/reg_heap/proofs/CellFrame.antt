-- Cells that were written, given up or added.
use Rattle.std.proofs.Common.{◌≡◌, ℕ, ◌+◌, Bool, true, false, cond, ◌⊎◌, inl, inr, Option, Some, None, List, [], ◌∷◌, refl, sym, ap, ◌∙◌, subst, arith, eqb, is_some}
use Rattle.std.proofs.lemmas.Bool.{cases_eq, eq-eqb, ne_eqb}
use Rattle.reg_heap.specs.Kinds.{times}
use Rattle.reg_heap.specs.Heaps.{Heap, allocated, Writes, GivesUp}

-- one cell is named once, and no other
times-same : (cell : ℕ) → times cell (cell ∷ []) ≡ 1
times-same cell = rw (eq-eqb cell cell refl) (omega arith)

times-other : (offset cell : ℕ) → (offset ≡ cell → ⊥) → times offset (cell ∷ []) ≡ 0
times-other offset cell n = rw (ne_eqb cell offset (λ e. n (sym e))) (omega arith)

-- one cell became another option, and nothing else changed
module _ (old new : Heap) (cell : ℕ) (now : Option (List ℕ)) (some : is_some (old cell) ≡ true) (is : (offset : ℕ) → new offset ≡ cond (eqb offset cell) now (old offset)) where
  here : new cell ≡ now
  here = is cell ∙ rw (eq-eqb cell cell refl) refl

  others : (offset : ℕ) → (offset ≡ cell → ⊥) → new offset ≡ old offset
  others offset n = is offset ∙ rw (ne_eqb offset cell n) refl

  was : allocated old cell ≡ 1
  was = ap (λ b. cond b 1 0) some

  same-by : (offset : ℕ) → times offset (cell ∷ []) ≡ 0 → (offset ≡ cell) ⊎ (offset ≡ cell → ⊥) → new offset ≡ old offset
  same-by offset none (inl e) = let one = subst (λ k. times k (cell ∷ []) ≡ 1) (sym e) (times-same cell) in absurd (omega arith)
  same-by offset none (inr n) = others offset n

  pub changed-same : (offset : ℕ) → times offset (cell ∷ []) ≡ 0 → new offset ≡ old offset
  changed-same offset none = same-by offset none (cases_eq offset cell)

  count-by : (offset : ℕ) → (offset ≡ cell) ⊎ (offset ≡ cell → ⊥) → allocated new offset + times offset (cell ∷ []) ≡ allocated old offset + cond (is_some now) (times offset (cell ∷ [])) 0
  count-by offset (inl e) =
      subst (λ k. allocated new k + times k (cell ∷ []) ≡ allocated old k + cond (is_some now) (times k (cell ∷ [])) 0) (sym e) (rw (here, some, times-same cell) (either (is_some now)))
    where
      either : (b : Bool) → cond b 1 0 + 1 ≡ 1 + cond b 1 0
      either true = refl
      either false = refl
  count-by offset (inr n) = rw (others offset n, times-other offset cell n) (either (is_some now))
    where
      either : (b : Bool) → allocated old offset + 0 ≡ allocated old offset + cond b 0 0
      either true = refl
      either false = refl

  pub changed-count : (offset : ℕ) → allocated new offset + times offset (cell ∷ []) ≡ allocated old offset + cond (is_some now) (times offset (cell ∷ [])) 0
  changed-count offset = count-by offset (cases_eq offset cell)

-- one cell holds other bytes
pub writes_one : (old new : Heap) (cell : ℕ) (content : List ℕ) → is_some (old cell) ≡ true →
    ((offset : ℕ) → new offset ≡ cond (eqb offset cell) (Some content) (old offset)) → Writes old new (cell ∷ [])
writes_one old new cell content some is = record {
  count = λ offset. changed-count old new cell (Some content) some is offset;
  same = λ offset gone came. changed-same old new cell (Some content) some is offset gone;
}

-- one cell was given up
pub gives_up_one : (old new : Heap) (cell : ℕ) → is_some (old cell) ≡ true → ((offset : ℕ) → new offset ≡ cond (eqb offset cell) None (old offset)) → GivesUp old new (cell ∷ [])
gives_up_one old new cell some is = record {
  count = λ offset. changed-count old new cell None some is offset;
  same = λ offset gone came. changed-same old new cell None some is offset gone;
}

-- the same cells written twice
pub writes_twice : (old between new : Heap) (offsets : List ℕ) → Writes old between offsets → Writes between new offsets → Writes old new offsets
writes_twice old between new offsets first second = record {
  count = λ offset. omega (arith, first.count offset, second.count offset);
  same = λ offset gone came. second.same offset gone came ∙ first.same offset gone came;
}
