-- The key at a path, with all below it.
use Rattle.std.proofs.Common.{◌≡◌, ℕ, ◌+◌, ◌≤◌, Bool, true, false, cond, Some, List, [], ◌∷◌, ◌++◌, length, refl, sym, ap, ◌∙◌, subst, arith}
use Rattle.std.specs.Option.{option_map}
use Rattle.std.proofs.lemmas.Option.{none-some, same_Some}
use Rattle.reg_heap.specs.Paths.{Path}
use Rattle.reg_heap.specs.Heaps.{Heap}
use Rattle.reg_shape.specs.Internal.Forests.{Forest, Branch, total, total_of, Stand}
use Rattle.reg_shape.specs.Internal.Forests.Forest.{End, Rooted as Hangs}
use Rattle.reg_shape.specs.Nodes.{Node}
use Rattle.reg_shape.specs.Written.{Fits}
use Rattle.reg_shape.specs.Internal.Shapes.{IsSeen, StandsIn, depth, IsWholeShape}
use Rattle.reg_shape.specs.Internal.Exchanges.{is_named, found_in, found_at}
use Rattle.reg_shape.specs.Internal.Grafts.{IsShape, branch_in, branch_at, graft_in}

-- ---- shapes without spare cells

pub shape-whole : (heap : Heap) (root : ℕ) (keys : Branch Node) (ring : List ℕ) → IsShape heap root keys ring [] → IsWholeShape heap root keys ring
shape-whole heap root keys ring w = record {
  offset = w.offset;
  stands = w.stands;
  exact = λ z. (let e = w.exact z in omega (arith, e));
  closed = w.closed;
  ringed = w.ringed;
  counts = w.counts;
  shallow = w.shallow;
}

pub whole-shape : (heap : Heap) (root : ℕ) (keys : Branch Node) (ring : List ℕ) → IsWholeShape heap root keys ring → IsShape heap root keys ring []
whole-shape heap root keys ring w = record {
  offset = w.offset;
  stands = w.stands;
  exact = λ z. (let e = w.exact z in omega (arith, e));
  closed = w.closed;
  ringed = w.ringed;
  counts = w.counts;
  shallow = w.shallow;
}

-- ---- the way to a key

-- what holds where the key stands, and goes on from the keys below and beside, holds of the whole way
module _ (was : Branch Node) (m : Node) (c : Forest Node) (P : Path → Forest Node → Forest Node → Type 0)
    (here : (x : List ℕ) (s : Forest Node) → is_named x was.node ≡ true → P (x ∷ []) (Hangs was.offset was.node was.below s) (Hangs was.offset m c s))
    (under : (x y : List ℕ) (p : Path) (o : ℕ) (k : Node) (b d s : Forest Node) → is_named x k ≡ true → P (y ∷ p) b d → P (x ∷ y ∷ p) (Hangs o k b s) (Hangs o k d s))
    (next : (x : List ℕ) (p : Path) (o : ℕ) (k : Node) (b s t : Forest Node) → is_named x k ≡ false → P (x ∷ p) s t → P (x ∷ p) (Hangs o k b s) (Hangs o k b t)) where
  pub graft-way : (p : Path) (F : Forest Node) → branch_in p F ≡ Some was → P p F (graft_in p m c F)
  graft-way [] F e = absurd (none-some _ e)
  graft-way (x ∷ p) End e = absurd (none-some _ e)
  graft-way (x ∷ []) (Hangs o k b s) e = by (graft-way (x ∷ []) s) (is_named x k) refl e
    where
      by : (branch_in (x ∷ []) s ≡ Some was → P (x ∷ []) s (graft_in (x ∷ []) m c s)) → (t : Bool) → is_named x k ≡ t →
          cond t (Some (record { offset = o; node = k; below = b })) (branch_in (x ∷ []) s) ≡ Some was →
          P (x ∷ []) (Hangs o k b s) (cond t (Hangs o m c s) (Hangs o k b (graft_in (x ∷ []) m c s)))
      by rest true t e =
          let q : ◌≡◌ {A = Branch Node} (record { offset = o; node = k; below = b }) was = same_Some _ _ e in
          subst (λ (z : Branch Node). P (x ∷ []) (Hangs z.offset z.node z.below s) (Hangs z.offset m c s)) (sym q) (here x s (ap (λ (z : Branch Node). is_named x z.node) (sym q) ∙ t))
      by rest false t e = next x [] o k b s (graft_in (x ∷ []) m c s) t (rest e)
  graft-way (x ∷ y ∷ p) (Hangs o k b s) e = by (graft-way (y ∷ p) b) (graft-way (x ∷ y ∷ p) s) (is_named x k) refl e
    where
      by : (branch_in (y ∷ p) b ≡ Some was → P (y ∷ p) b (graft_in (y ∷ p) m c b)) →
          (branch_in (x ∷ y ∷ p) s ≡ Some was → P (x ∷ y ∷ p) s (graft_in (x ∷ y ∷ p) m c s)) → (t : Bool) → is_named x k ≡ t →
          cond t (branch_in (y ∷ p) b) (branch_in (x ∷ y ∷ p) s) ≡ Some was →
          P (x ∷ y ∷ p) (Hangs o k b s) (cond t (Hangs o k (graft_in (y ∷ p) m c b) s) (Hangs o k b (graft_in (x ∷ y ∷ p) m c s)))
      by down along true t e = under x y p o k b (graft_in (y ∷ p) m c b) s t (down e)
      by down along false t e = next x (y ∷ p) o k b s (graft_in (x ∷ y ∷ p) m c s) t (along e)

-- ---- what a branch has of the whole

forest-branch-stands : (h : Heap) (root : ℕ) (b : Branch Node) (p : Path) (F : Forest Node) → branch_in p F ≡ Some b → Stand (IsSeen h root) Fits F → StandsIn h root b
forest-branch-stands h root b = graft-way b b.node b.below (λ p F G. Stand (IsSeen h root) Fits F → StandsIn h root b)
    (λ x s e a. a.0) (λ x y p o k f d s e r a. r a.0.2) (λ x p o k f s t e r a. r a.1)

pub branch-stands : (h : Heap) (root : ℕ) (b : Branch Node) (p : Path) (keys : Branch Node) → branch_at p keys ≡ Some b → StandsIn h root keys → StandsIn h root b
branch-stands h root b [] keys e a = subst (StandsIn h root) (same_Some _ _ e) a
branch-stands h root b (x ∷ p) keys e a = forest-branch-stands h root b (x ∷ p) keys.below e a.2

pub forest-branch-total : (m : ℕ → Node → ℕ) (b : Branch Node) (p : Path) (F : Forest Node) → branch_in p F ≡ Some b → total_of m b ≤ total m F
forest-branch-total m b = graft-way b b.node b.below (λ p F G. total_of m b ≤ total m F)
    (λ x s e. omega arith) (λ x y p o k f d s e r. omega (arith, r)) (λ x p o k f s t e r. omega (arith, r))

pub branch-total : (m : ℕ → Node → ℕ) (b : Branch Node) (p : Path) (keys : Branch Node) → branch_at p keys ≡ Some b → total_of m b ≤ total_of m keys
branch-total m b [] keys e = let q = ap (total_of m) (same_Some _ _ e) in omega (arith, q)
branch-total m b (x ∷ p) keys e = let t = forest-branch-total m b (x ∷ p) keys.below e in omega (arith, t)

forest-branch-depth : (b : Branch Node) (p : Path) (F : Forest Node) → branch_in p F ≡ Some b → length p + depth b.below ≤ depth F
forest-branch-depth b = graft-way b b.node b.below (λ p F G. length p + depth b.below ≤ depth F)
    (λ x s e. omega arith) (λ x y p o k f d s e r. omega (arith, r)) (λ x p o k f s t e r. omega (arith, r))

pub branch-depth : (b : Branch Node) (p : Path) (keys : Branch Node) → branch_at p keys ≡ Some b → length p + depth b.below ≤ depth keys.below
branch-depth b [] keys e = let q = ap (λ (b : Branch Node). depth b.below) (same_Some _ _ e) in omega (arith, q)
branch-depth b (x ∷ p) keys e = forest-branch-depth b (x ∷ p) keys.below e

-- ---- the key alone, and further down

abbrev pub its_key : Branch Node → ℕ × Node
its_key b = (b.offset, b.node)

pub forest-branch-found : (p : Path) (F : Forest Node) → found_in p F ≡ option_map its_key (branch_in p F)
forest-branch-found [] F = refl
forest-branch-found (x ∷ p) End = refl
forest-branch-found (x ∷ []) (Hangs o k b s) = by (is_named x k) (forest-branch-found (x ∷ []) s)
  where
    by : (t : Bool) → found_in (x ∷ []) s ≡ option_map its_key (branch_in (x ∷ []) s) →
        cond t (Some (o, k)) (found_in (x ∷ []) s) ≡ option_map its_key (cond t (Some (record { offset = o; node = k; below = b }))
        (branch_in (x ∷ []) s))
    by true e = refl
    by false e = e
forest-branch-found (x ∷ y ∷ p) (Hangs o k b s) = by (is_named x k) (forest-branch-found (y ∷ p) b) (forest-branch-found (x ∷ y ∷ p) s)
  where
    by : (t : Bool) → found_in (y ∷ p) b ≡ option_map its_key (branch_in (y ∷ p) b) →
        found_in (x ∷ y ∷ p) s ≡ option_map its_key (branch_in (x ∷ y ∷ p) s) →
        cond t (found_in (y ∷ p) b) (found_in (x ∷ y ∷ p) s) ≡ option_map its_key (cond t (branch_in (y ∷ p) b) (branch_in (x ∷ y ∷ p) s))
    by true d e = d
    by false d e = e

pub branch-found : (p : Path) (keys : Branch Node) → found_at p keys ≡ option_map its_key (branch_at p keys)
branch-found [] keys = refl
branch-found (x ∷ p) keys = forest-branch-found (x ∷ p) keys.below

forest-branch-append : (b : Branch Node) (q p : Path) (F : Forest Node) → branch_in p F ≡ Some b → branch_in (p ++ q) F ≡ branch_at q b
forest-branch-append b q = graft-way b b.node b.below (λ p F G. branch_in (p ++ q) F ≡ branch_at q b)
    (λ x s e. at-end x s e q)
    (λ x y p o k f d s e r. ap (λ t. cond t (branch_in (y ∷ p ++ q) f) (branch_in (x ∷ y ∷ p ++ q) s)) e ∙ r)
    (λ x p o k f s t e r. beside x p o k f s e (p ++ q) ∙ r)
  where
    at-end : (x : List ℕ) (s : Forest Node) → is_named x b.node ≡ true → (q : Path) → branch_in (x ∷ q) (Hangs b.offset b.node b.below s) ≡ branch_at q b
    at-end x s e [] = ap (λ t. cond t (Some b) (branch_in (x ∷ []) s)) e
    at-end x s e (y ∷ q) = ap (λ t. cond t (branch_in (y ∷ q) b.below) (branch_in (x ∷ y ∷ q) s)) e

    beside : (x : List ℕ) (p : Path) (o : ℕ) (k : Node) (f s : Forest Node) → is_named x k ≡ false → (r : Path) → branch_in (x ∷ r) (Hangs o k f s) ≡ branch_in (x ∷ r) s
    beside x p o k f s e [] = ap (λ t. cond t (Some (record { offset = o; node = k; below = f })) (branch_in (x ∷ []) s)) e
    beside x p o k f s e (y ∷ r) = ap (λ t. cond t (branch_in (y ∷ r) f) (branch_in (x ∷ y ∷ r) s)) e

pub branch-append : (b : Branch Node) (q p : Path) (keys : Branch Node) → branch_at p keys ≡ Some b → branch_at (p ++ q) keys ≡ branch_at q b
branch-append b q [] keys e = ap (branch_at q) (same_Some _ _ e)
branch-append b q (x ∷ p) keys e = forest-branch-append b q (x ∷ p) keys.below e
