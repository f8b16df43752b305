-- Cells that stay as they are where others are written, given up or come.
use Rattle.std.proofs.Common.{◌≡◌, ◌≢◌, ℕ, ◌+◌, ◌<◌, Bool, true, false, cond, eqb, ◌⊎◌, inl, inr, Option, Some, IsSome, is_some, List, [], ◌∷◌, ◌++◌, map, refl, sym, ap, ◌∙◌, subst, arith}
use Rattle.std.specs.List.{AllByRecursion}
use Rattle.std.proofs.lemmas.Bool.{cases_eq, eqb-true}
use Rattle.reg_heap.specs.Heaps.{Heap, allocated}
use Rattle.reg_heap.specs.Kinds.{Found, times, owned}
use Rattle.reg_shape.specs.Internal.Forests.{Forest, heads, total, Stand}
use Rattle.reg_shape.specs.Internal.Forests.Forest.{End, Rooted as Hangs}
use Rattle.reg_shape.specs.Nodes.{Node, look}
use Rattle.reg_shape.specs.Written.{Fits}
use Rattle.reg_shape.specs.Internal.Shapes.{index_cells, cells_of, owns, IsSeen}
use Rattle.reg_shape.proofs.Walking.WalkRefinement.{look-open}
use Rattle.reg_shape.proofs.Wholeness.FewerNumbers.{same-number}
use Rattle.reg_shape.proofs.Wholeness.ShapeRecords.{at-most-one, allocated-is}
use Rattle.reg_index.specs.Subkeys.{Moves}
use Rattle.reg_tree.proofs.Invariant.OwnCells.{own-parts, key-here}

-- a number stands once in a list of itself, and in a list of another it doesn't stand
pub times-one : (z : ℕ) → times z (z ∷ []) ≡ 1
times-one z = let one : ◌≡◌ {A = ℕ} (cond (eqb z z) 1 0) 1 = ap (λ b. cond b 1 0) (same-number z) in omega (arith, one)

pub not-there : (z x : ℕ) → times z (x ∷ []) ≡ 0 → z ≢ x
not-there z x none e = let one = times-one z in let t = ap (λ y. times z (y ∷ [])) e in omega (arith, none, one, t)

pub there-is : (z x : ℕ) → 0 < times z (x ∷ []) → z ≡ x
there-is z x some = by (eqb x z) refl some
  where
    by : (b : Bool) → eqb x z ≡ b → 0 < cond b 1 0 + 0 → z ≡ x
    by true e s = sym (eqb-true x z e)
    by false e s = absurd (omega (arith, s))

-- one cell written over: as many cells are allocated as before
pub written-allocated : (h k : Heap) (cell : ℕ) → ((z : ℕ) → z ≢ cell → k z ≡ h z) → IsSome (h cell) → IsSome (k cell) → (z : ℕ) → allocated k z ≡ allocated h z
written-allocated h k cell others was is z = by (cases_eq z cell)
  where
    by : (z ≡ cell) ⊎ (z ≢ cell) → allocated k z ≡ allocated h z
    by (inl e) = subst (λ x. allocated k x ≡ allocated h x) (sym e) (allocated-is k cell is ∙ sym (allocated-is h cell was))
    by (inr n) = ap (λ (c : Option (List ℕ)). cond (is_some c) 1 0) (others z n)

-- an allocated cell that is not among those that gave way holds what it held, and doesn't come
pub moved-none : (h k : Heap) (before after : List ℕ) → Moves h k before after → (z : ℕ) → 0 < allocated h z → times z before ≡ 0 → times z after ≡ 0
moved-none h k before after m z some none = let c = m.count z in let a = at-most-one k z in omega (arith, c, a, some, none)

pub moved-calm : (h k : Heap) (before after : List ℕ) → Moves h k before after → (z : ℕ) → 0 < allocated h z → times z before ≡ 0 → k z ≡ h z
moved-calm h k before after m z some none = m.same z none (moved-none h k before after m z some none)

-- a key has its own cell
pub offset-own : (h : Heap) (offset : ℕ) (node : Node) → look h offset ≡ Some node → 0 < owned offset (cells_of node)
offset-own h offset node e =
    let l = look-open h offset node e in
    let o = ap (λ (found : List Found). owned offset (found ++ index_cells node.index)) l.cells ∙ own-parts offset offset node.key l.class_cells l.value_cells node.index in
    let one = key-here offset offset refl in
    omega (arith, o, one)

-- what holds of the cells of keys side by side holds of their offsets
pub all-heads : (h : Heap) (root : ℕ) (Q : ℕ → Type 0) (F : Forest Node) → Stand (IsSeen h root) Fits F →
    ((z : ℕ) → 0 < total (owns z) F → Q z) → AllByRecursion (λ (e : ℕ × Node). Q e.0) (heads F)
all-heads h root Q End a q = tt
all-heads h root Q (Hangs offset node below beside) a q = (
  q offset (let o = offset-own h offset node a.0.0.reads in omega (arith, o)),
  all-heads h root Q beside a.1 (λ z l. q z (omega (arith, l))),
)

pub all-of : {A B : Type 0} (f : A → B) (P : B → Type 0) (xs : List A) → AllByRecursion (λ x. P (f x)) xs → AllByRecursion P (map f xs)
all-of f P [] a = tt
all-of f P (x ∷ xs) a = (a.0, all-of f P xs a.1)
