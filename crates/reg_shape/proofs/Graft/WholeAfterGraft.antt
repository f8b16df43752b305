-- A hive stays whole where a key and all below it give way to others.
use Rattle.std.proofs.Common.{◌≡◌, ◌↔◌, ℕ, zero, suc, ◌+◌, ◌<◌, ◌≤◌, max, Option, Some, None, List, [], ◌∷◌, length, refl, sym, ap, ◌∙◌, subst, arith}
use Rattle.std.specs.Prelude.{unwrap_or}
use Rattle.std.proofs.lemmas.Option.{same_Some}
use Rattle.reg_names.specs.declared.TheConstants.{PATH_LIMIT}
use Rattle.reg_heap.specs.Paths.{Path}
use Rattle.reg_heap.specs.Heaps.{Heap}
use Rattle.reg_heap.specs.Kinds.{times}
use Rattle.reg_shape.specs.Internal.Forests.{Forest, Branch, heads, total, total_of, Stand}
use Rattle.reg_shape.specs.Internal.Forests.Forest.{Rooted as Hangs}
use Rattle.reg_shape.specs.Nodes.{Node}
use Rattle.reg_shape.specs.Written.{Fits}
use Rattle.reg_shape.specs.Whole.{count_at}
use Rattle.reg_shape.specs.Internal.Shapes.{owns, shares, IsSeen, StandsIn, depth}
use Rattle.reg_shape.specs.Internal.Exchanges.{IsAlike}
use Rattle.reg_shape.specs.Internal.Grafts.{IsShape, branch_in, branch_at, graft_in, graft_at, where_in, uses_in, IsGrafted}
use Rattle.reg_shape.proofs.Wholeness.ShapeRecords.{all-at, at-most-one}
use Rattle.reg_shape.proofs.Frame.WrittenFrame.{seen-kept}
use Rattle.reg_shape.proofs.Wholeness.WholeAfterExchange.{AreAlike, alike-self, fits-alike, forest-kept, all-members}
use Rattle.reg_shape.proofs.Graft.Branches.{graft-way}

-- ---- numbers of all keys

pub forest-graft-total : (f : ℕ → Node → ℕ) (was : Branch Node) (m : Node) (c : Forest Node) (p : Path) (F : Forest Node) →
    branch_in p F ≡ Some was → total f (graft_in p m c F) + total_of f was ≡ total f F + (f was.offset m + total f c)
forest-graft-total f was m c = graft-way was m c (λ p F G. total f G + total_of f was ≡ total f F + (f was.offset m + total f c))
    (λ x s e. omega arith) (λ x y p o k b d s e h. omega (arith, h)) (λ x p o k b s t e h. omega (arith, h))

-- what the others have, and the branch that came
pub graft-total : (f : ℕ → Node → ℕ) (was : Branch Node) (m : Node) (c : Forest Node) (p : Path) (keys : Branch Node) → branch_at p keys ≡ Some was →
    total_of f (graft_at p m c keys) + total_of f was ≡ total_of f keys + (f was.offset m + total f c)
graft-total f was m c [] keys e =
    let q : keys ≡ was = same_Some _ _ e in
    let a : total_of f keys ≡ total_of f was = ap (total_of f) q in
    let b : f keys.offset m ≡ f was.offset m = ap (λ (b : Branch Node). f b.offset m) q in
    omega (arith, a, b)
graft-total f was m c (y ∷ p) keys e = let t = forest-graft-total f was m c (y ∷ p) keys.below e in omega (arith, t)

forest-graft-has : (f : ℕ → Node → ℕ) (was : Branch Node) (m : Node) (c : Forest Node) (p : Path) (F : Forest Node) → branch_in p F ≡ Some was → f was.offset m + total f c ≤ total f (graft_in p m c F)
forest-graft-has f was m c = graft-way was m c (λ p F G. f was.offset m + total f c ≤ total f G)
    (λ x s e. omega arith) (λ x y p o k b d s e h. omega (arith, h)) (λ x p o k b s t e h. omega (arith, h))

graft-has : (f : ℕ → Node → ℕ) (was : Branch Node) (m : Node) (c : Forest Node) (p : Path) (keys : Branch Node) → branch_at p keys ≡ Some was →
    f was.offset m + total f c ≤ total_of f (graft_at p m c keys)
graft-has f was m c [] keys e =
    let b : f keys.offset m ≡ f was.offset m = ap (λ (b : Branch Node). f b.offset m) (same_Some _ _ e) in
    omega (arith, b)
graft-has f was m c (y ∷ p) keys e = let t = forest-graft-has f was m c (y ∷ p) keys.below e in omega (arith, t)

forest-graft-depth : (was : Branch Node) (m : Node) (c : Forest Node) (p : Path) (F : Forest Node) → branch_in p F ≡ Some was → depth (graft_in p m c F) ≤ max (depth F) (length p + depth c)
forest-graft-depth was m c = graft-way was m c (λ p F G. depth G ≤ max (depth F) (length p + depth c))
    (λ x s e. omega arith) (λ x y p o k b d s e h. omega (arith, h)) (λ x p o k b s t e h. omega (arith, h))

pub graft-depth : (was : Branch Node) (m : Node) (c : Forest Node) (p : Path) (keys : Branch Node) → branch_at p keys ≡ Some was →
    depth (graft_at p m c keys).below ≤ max (depth keys.below) (length p + depth c)
graft-depth was m c [] keys e = omega arith
graft-depth was m c (y ∷ p) keys e = forest-graft-depth was m c (y ∷ p) keys.below e

pub graft-offset : (m : Node) (c : Forest Node) (p : Path) (keys : Branch Node) → (graft_at p m c keys).offset ≡ keys.offset
graft-offset m c [] keys = refl
graft-offset m c (y ∷ p) keys = refl

-- ---- the keys stand

module _ (h k : Heap) (root : ℕ) (was : Branch Node) (m : Node) (c : Forest Node) (alike : IsAlike was.node m) (stands : StandsIn k root (record { offset = was.offset; node = m; below = c })) where
  -- what a graft in a forest does
  record Grows (F G : Forest Node) : Type 0 where
    has : (z : ℕ) → total_of (owns z) was ≤ total (owns z) F
    shows : AreAlike (heads F) (heads G)
    stand : Stand (IsSeen h root) Fits F → ((z : ℕ) → 0 < total (owns z) F → total_of (owns z) was ≡ 0 → k z ≡ h z) → ((z : ℕ) → total (owns z) F ≤ 1) → Stand (IsSeen k root) Fits G

  grows-here : (s : Forest Node) → Grows (Hangs was.offset was.node was.below s) (Hangs was.offset m c s)
  grows-here s = record {
    has = λ z. omega arith;
    shows = (refl, alike, alike-self (heads s));
    stand = λ a t one. (stands, forest-kept h k root s a.1 (λ z l. (let o = one z in t z (omega (arith, l)) (omega (arith, o, l)))));
  }

  grows-under : (o : ℕ) (key : Node) (b d s : Forest Node) → Grows b d → Grows (Hangs o key b s) (Hangs o key d s)
  grows-under o key b d s g = record {
    has = λ z. (let u = g.has z in omega (arith, u));
    shows = (refl, record { name = refl; parent = refl; class_length = refl }, alike-self (heads s));
    stand = λ a t one. (
      (
        seen-kept h k root o key a.0.0 (λ z l. (let w = one z in let u = g.has z in t z (omega (arith, l)) (omega (arith, w, u, l)))),
        fits-alike o key (heads b) (heads d) g.shows a.0.1,
        g.stand a.0.2 (λ z l n. t z (omega (arith, l)) n) (λ z. (let w = one z in omega (arith, w))),
      ),
      forest-kept h k root s a.1 (λ z l. (let w = one z in let u = g.has z in t z (omega (arith, l)) (omega (arith, w, u, l)))),
    );
  }

  grows-next : (o : ℕ) (key : Node) (b s f : Forest Node) → Grows s f → Grows (Hangs o key b s) (Hangs o key b f)
  grows-next o key b s f g = record {
    has = λ z. (let u = g.has z in omega (arith, u));
    shows = (refl, record { name = refl; parent = refl; class_length = refl }, g.shows);
    stand = λ a t one. (
      (
        seen-kept h k root o key a.0.0 (λ z l. (let w = one z in let u = g.has z in t z (omega (arith, l)) (omega (arith, w, u, l)))),
        a.0.1,
        forest-kept h k root b a.0.2 (λ z l. (let w = one z in let u = g.has z in t z (omega (arith, l)) (omega (arith, w, u, l)))),
      ),
      g.stand a.1 (λ z l n. t z (omega (arith, l)) n) (λ z. (let w = one z in omega (arith, w))),
    );
  }

  grows : (p : Path) (F : Forest Node) → branch_in p F ≡ Some was → Grows F (graft_in p m c F)
  grows = graft-way was m c (λ p F G. Grows F G) (λ x s e. grows-here s) (λ x y p o key b d s e g. grows-under o key b d s g) (λ x p o key b s t e g. grows-next o key b s t g)

  -- the keys of a branch
  pub graft-stands : (p : Path) (keys : Branch Node) → branch_at p keys ≡ Some was → StandsIn h root keys →
      ((z : ℕ) → 0 < total_of (owns z) keys → total_of (owns z) was ≡ 0 → k z ≡ h z) → ((z : ℕ) → total_of (owns z) keys ≤ 1) →
      StandsIn k root (graft_at p m c keys)
  graft-stands [] keys e a t one =
      subst (λ o. StandsIn k root (record { offset = o; node = m; below = c })) (sym (ap (λ (b : Branch Node). b.offset) (same_Some _ _ e))) stands
  graft-stands (y ∷ p) keys e a t one =
      let g = grows (y ∷ p) keys.below e in (
        seen-kept h k root keys.offset keys.node a.0 (λ z l. (let w = one z in let u = g.has z in t z (omega (arith, l)) (omega (arith, w, u, l)))),
        fits-alike keys.offset keys.node (heads keys.below) (heads (graft_in (y ∷ p) m c keys.below)) g.shows a.1,
        g.stand a.2 (λ z l n. t z (omega (arith, l)) n) (λ z. (let w = one z in omega (arith, w))),
      )

-- ---- what the ring says

-- a number stands where its list has it
where-some : (t n : ℕ) → 0 < where_in t n → 0 < t
where-some zero n l = absurd (omega (arith, l))
where-some (suc t) n l = omega arith

pub where-there : (t n : ℕ) → 0 < t → where_in t n ≡ n
where-there zero n l = absurd (omega (arith, l))
where-there (suc t) n l = refl

pub where-none : (t n : ℕ) → t ≡ 0 → where_in t n ≡ 0
where-none zero n e = refl
where-none (suc t) n e = absurd (omega (arith, e))

-- a ring's security says how often it is named
pub uses-counted : (h : Heap) (ring : List ℕ) (z n : ℕ) → 0 < times z ring → count_at h z ≡ Some n → uses_in h ring z ≡ n
uses-counted h ring z n l c = where-there (times z ring) (unwrap_or (count_at h z) 0) l ∙ ap (λ o. unwrap_or o 0) c

pub uses-named : (h : Heap) (root : ℕ) (keys : Branch Node) (ring spare : List ℕ) → IsShape h root keys ring spare → (z : ℕ) → uses_in h ring z ≡ total_of (shares z) keys
uses-named h root keys ring spare w z = by (times z ring) refl
  where
    by : (t : ℕ) → times z ring ≡ t → uses_in h ring z ≡ total_of (shares z) keys
    by zero e =
        let u = where-none (times z ring) (unwrap_or (count_at h z) 0) e in
        u ∙ sym (unnamed (total_of (shares z) keys) (w.ringed z).0)
      where
        unnamed : (n : ℕ) → (0 < n → 0 < times z ring) → n ≡ 0
        unnamed zero f = refl
        unnamed (suc n) f = absurd (let l = f (omega arith) in omega (arith, e, l))
    by (suc t) e =
        let l : 0 < times z ring = omega (arith, e) in
        uses-counted h ring z (total_of (shares z) keys) l (all-at (λ z. count_at h z ≡ Some (total_of (shares z) keys)) ring z w.counts l)

-- a number is what it is with as much beside it
same-more : (a b c : ℕ) → a + c ≡ b + c → a ≡ b
same-more a b c e = omega (arith, e)

-- a count that says more than 0 can be read
read-count : (o : Option ℕ) (n : ℕ) → 0 < n → unwrap_or o 0 ≡ n → o ≡ Some n
read-count None n l e = absurd (omega (arith, l, e))
read-count (Some m) n l e = ap Some e

-- ---- whole

-- the rows of a graft that its shape needs, as they follow from the counts before and after
module _ (h k : Heap) (root : ℕ) (p : Path) (keys was is : Branch Node) (ring spare after left : List ℕ) (e : branch_at p keys ≡ Some was)
    (g : IsGrafted h k root was is ring spare after left) (w : IsShape h root keys ring spare) where
  placed-there : StandsIn k root (record { offset = was.offset; node = is.node; below = is.below })
  placed-there = subst (λ o. StandsIn k root (record { offset = o; node = is.node; below = is.below })) g.offset g.stands

  -- numbers that don't ask for the offset, or ask for the one offset that stays
  has-all : (f : ℕ → Node → ℕ) → total_of f (graft_at p is.node is.below keys) + total_of f was ≡ total_of f keys + total_of f is
  has-all f = let t = graft-total f was is.node is.below p keys e in let o : f is.offset is.node ≡ f was.offset is.node = ap (λ o. f o is.node) g.offset in omega (arith, t, o)

  -- the keys stand, however deep
  pub grafted-stands : StandsIn k root (graft_at p is.node is.below keys)
  grafted-stands =
      graft-stands h k root was is.node is.below g.alike placed-there p keys e w.stands
      (λ z l n. (let x = w.exact z in let a = at-most-one h z in g.same z (omega (arith, x, l)) n (omega (arith, x, a, l)) (omega (arith, x, a, l))))
      (λ z. (let x = w.exact z in let a = at-most-one h z in omega (arith, x, a)))

  -- each security says how often it is named
  pub grafted-uses : (z : ℕ) → uses_in k after z ≡ total_of (shares z) (graft_at p is.node is.below keys)
  grafted-uses z =
      let u = uses-named h root keys ring spare w z in
      let c = g.recounted z in
      let t = has-all (shares z) in
      let n : uses_in k after z + total_of (shares z) was ≡ total_of (shares z) keys + total_of (shares z) is = c ∙ ap (λ n. n + total_of (shares z) is) u in
      same-more (uses_in k after z) (total_of (shares z) (graft_at p is.node is.below keys)) (total_of (shares z) was) (n ∙ sym t)

  pub grafted-ringed : (z : ℕ) → 0 < total_of (shares z) (graft_at p is.node is.below keys) ↔ 0 < times z after
  grafted-ringed z = (
    (λ l. where-some (times z after) (unwrap_or (count_at k z) 0) (subst (λ n. 0 < n) (sym (grafted-uses z)) l)),
    λ l. subst (λ n. 0 < n) (grafted-uses z) (g.used z l),
  )

  grafted-count : (z : ℕ) → 0 < times z after → count_at k z ≡ Some (total_of (shares z) (graft_at p is.node is.below keys))
  grafted-count z l =
      read-count (count_at k z) (total_of (shares z) (graft_at p is.node is.below keys)) ((grafted-ringed z).1 l)
      (sym (where-there (times z after) (unwrap_or (count_at k z) 0) l) ∙ grafted-uses z)

  pub grafted-whole : length p + depth is.below ≤ PATH_LIMIT → IsShape k root (graft_at p is.node is.below keys) after left
  grafted-whole deep = record {
    offset = graft-offset is.node is.below p keys ∙ w.offset;
    stands = grafted-stands;
    exact = λ z. (let x = w.exact z in let t = has-all (owns z) in let c = g.count z in omega (arith, x, t, c));
    closed = g.closed;
    ringed = grafted-ringed;
    counts = all-members (λ z. count_at k z ≡ Some (total_of (shares z) (graft_at p is.node is.below keys))) after grafted-count;
    shallow = (let d = graft-depth was is.node is.below p keys e in let s = w.shallow in omega (arith, d, s, deep));
  }

-- the hive is whole with the branch that came
pub grafted : (h k : Heap) (root : ℕ) (p : Path) (keys was is : Branch Node) (ring spare after left : List ℕ) → branch_at p keys ≡ Some was →
    IsGrafted h k root was is ring spare after left → length p + depth is.below ≤ PATH_LIMIT → IsShape h root keys ring spare →
    IsShape k root (graft_at p is.node is.below keys) after left
grafted h k root p keys was is ring spare after left e g deep w = grafted-whole h k root p keys was is ring spare after left e g w deep
