-- Cells that go and come, one change after another.
use Rattle.std.proofs.Common.{◌≡◌, ℕ, zero, suc, ◌+◌, ◌<◌, ◌≤◌, true, false, cond, Option, Some, None, IsSome, List, [], ◌∷◌, ◌++◌, refl, sym, ap, ◌∙◌, arith, is_some}
use Rattle.std.proofs.lemmas.Bool.{eq-eqb}
use Rattle.reg_heap.specs.Kinds.{Found, times, owned, is_own}
use Rattle.reg_heap.specs.Heaps.{Heap, CellFrame, Writes, allocated}
use Rattle.reg_shape.proofs.Walking.InnerReadings.{AreInner}
use Rattle.reg_shape.proofs.Frame.ReadingFrame.{Agree}
use Rattle.reg_shape.proofs.Frame.KeyFrame.{agree-inner}
use Rattle.reg_shape.proofs.Wholeness.ShapeCounts.{tally-append}

pub times-same : (cell : ℕ) → times cell (cell ∷ []) ≡ 1
times-same cell = rw (eq-eqb cell cell refl) (omega arith)

pub times-append : (x : ℕ) (xs ys : List ℕ) → times x (xs ++ ys) ≡ times x xs + times x ys
times-append x [] ys = omega arith
times-append x (y ∷ xs) ys = omega (arith, times-append x xs ys)

pub owned-append : (x : ℕ) (xs ys : List Found) → owned x (xs ++ ys) ≡ owned x xs + owned x ys
owned-append x xs ys = tally-append (is_own x) xs ys

pub allocated-le : (h : Heap) (z : ℕ) → allocated h z ≤ 1
allocated-le h z = elim (is_some (h z)) as (λ b. cond b 1 0 ≤ 1) [ true ↦ omega arith | false ↦ omega arith ]

pub none-there : (r : Option (List ℕ)) → ◌≡◌ {A = ℕ} (cond (is_some r) 1 0) 0 → r ≡ None
none-there None e = refl
none-there (Some x) e = absurd (omega arith)

pub one-there : (r : Option (List ℕ)) → 0 < cond (is_some r) 1 0 → IsSome r
one-there None e = absurd (omega arith)
one-there (Some x) e = refl

pub there-one : (h : Heap) (z : ℕ) → IsSome (h z) → allocated h z ≡ 1
there-one h z e = ap (λ b. cond b 1 0) e

pub frame-none : (h : Heap) → CellFrame h h (λ z. 0) (λ z. 0)
frame-none h = record { count = λ z. refl; same = λ z i j. refl }

pub frame-then : (a b c : Heap) (f g k : ℕ → ℕ) → CellFrame a b f g → CellFrame b c g k → CellFrame a c f k
frame-then a b c f g k p q = record {
  count = λ z. (let x = p.count z in let y = q.count z in omega (arith, x, y));
  same = λ z e i. by z (g z) refl e i;
}
  where
    by : (z n : ℕ) → g z ≡ n → f z ≡ 0 → k z ≡ 0 → c z ≡ a z
    by z zero j e i = q.same z j i ∙ p.same z e j
    by z (suc n) j e i =
        let x = allocated-le b z in
        let y = p.count z in
        let w = q.count z in
        none-there (c z) (omega (arith, x, y, w)) ∙ sym (none-there (a z) (omega (arith, x, y, w)))

-- a change with what it leaves alone on both sides
pub frame-with : (h k : Heap) (f g r f' g' : ℕ → ℕ) → CellFrame h k f g → ((z : ℕ) → f' z ≡ f z + r z) → ((z : ℕ) → g' z ≡ g z + r z) → CellFrame h k f' g'
frame-with h k f g r f' g' s p q = record {
  count = λ z. (let x = s.count z in let y = p z in let w = q z in omega (arith, x, y, w));
  same = λ z i j. (let y = p z in let w = q z in s.same z (omega (arith, y, i)) (omega (arith, w, j)));
}

pub writes-in : (h k : Heap) (os : List ℕ) (T : ℕ → ℕ) → Writes h k os → ((z : ℕ) → times z os ≤ T z) → CellFrame h k T T
writes-in h k os T w l = record {
  count = λ z. (let x = w.count z in omega (arith, x));
  same = λ z i j. (let x = l z in w.same z (omega (arith, x, i)) (omega (arith, x, i)));
}

-- a change that meets none of these cells leaves them
pub kept-apart : (h k : Heap) (f g : ℕ → ℕ) → CellFrame h k f g → (z : ℕ) → 0 < allocated h z → f z ≡ 0 → k z ≡ h z
kept-apart h k f g s z l e = let c = s.count z in let a = allocated-le k z in s.same z e (omega (arith, c, a, l, e))

pub agree-apart : (h k : Heap) (f g : ℕ → ℕ) → CellFrame h k f g → (zs : List Found) → AreInner zs → ((z : ℕ) → owned z zs + f z ≤ allocated h z) → Agree h k zs
agree-apart h k f g s zs i l =
    agree-inner h k zs i (λ z p. let x = l z in let a = allocated-le h z in kept-apart h k f g s z (omega (arith, x, p)) (omega (arith, x, p, a)))
