-- The members of a class, and a list's links by heads.
use Rattle.std.proofs.Common.{◌≡◌, ℕ, ◌<◌, ◌≤◌, Bool, true, false, cond, ◌&&◌, refl, ap, arith, eqb}
use Rattle.std.proofs.lemmas.Bool.{eqb-true, eq-eqb, ne_eqb, and_right, lt-ltb, ltb-true, le-ltb}
use lib.Dec.{ltb}
use Rattle.reg_arena.specs.Internal.CellThreads.{link, is_of}

pub link-some : (N : ℕ → ℕ) (h x : ℕ) → (x ≡ 4294967295 → ⊥) → link N h x ≡ N x
link-some N h x some = let t : eqb x 4294967295 ≡ false = ne_eqb x 4294967295 some in rw t

pub link-none : (N : ℕ → ℕ) (h x : ℕ) → x ≡ 4294967295 → link N h x ≡ h
link-none N h x none = let t : eqb x 4294967295 ≡ true = eq-eqb x 4294967295 none in rw t

pub of-some : (class_of S : ℕ → ℕ) (k x : ℕ) → 0 < S x → class_of (S x) ≡ k → is_of class_of S k x ≡ 1
of-some class_of S k x some e =
    let t : ltb 0 (S x) ≡ true = lt-ltb 0 (S x) some in
    let u : eqb (class_of (S x)) k ≡ true = eq-eqb (class_of (S x)) k e in
    rw (t, u) refl

pub of-zero : (class_of S : ℕ → ℕ) (k x : ℕ) → S x ≡ 0 → is_of class_of S k x ≡ 0
of-zero class_of S k x none = let t : ltb 0 (S x) ≡ false = le-ltb 0 (S x) (omega arith) in rw t refl

pub of-other : (class_of S : ℕ → ℕ) (k x : ℕ) → (class_of (S x) ≡ k → ⊥) → is_of class_of S k x ≡ 0
of-other class_of S k x other =
    let u : eqb (class_of (S x)) k ≡ false = ne_eqb (class_of (S x)) k other in
    ap (λ b. cond b 1 0) (and_right (ltb 0 (S x)) (eqb (class_of (S x)) k) u)

pub of-same : (class_of S S' : ℕ → ℕ) (k x : ℕ) → S' x ≡ S x → is_of class_of S' k x ≡ is_of class_of S k x
of-same class_of S S' k x e = ap (λ s. cond (ltb 0 s && eqb (class_of s) k) 1 0) e

pub of-member : (class_of S : ℕ → ℕ) (k x : ℕ) → 0 < is_of class_of S k x → (0 < S x) × (class_of (S x) ≡ k)
of-member class_of S k x h = by (ltb 0 (S x)) (eqb (class_of (S x)) k) refl refl h
  where
    by : (a b : Bool) → ltb 0 (S x) ≡ a → eqb (class_of (S x)) k ≡ b → 0 < cond (a && b) 1 0 → (0 < S x) × (class_of (S x) ≡ k)
    by true true e f h = (ltb-true 0 (S x) e, eqb-true (class_of (S x)) k f)
    by true false e f h = absurd (omega arith)
    by false b e f h = absurd (omega arith)

pub of-most : (class_of S : ℕ → ℕ) (k x : ℕ) → is_of class_of S k x ≤ 1
of-most class_of S k x = by (ltb 0 (S x) && eqb (class_of (S x)) k)
  where
    by : (b : Bool) → cond b 1 0 ≤ 1
    by true = omega arith
    by false = omega arith
