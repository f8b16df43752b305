-- One of some keys side by side that has another class: the keys stand, and fit the key above where it notes the class's length.
use Rattle.std.proofs.Common.{◌≡◌, ℕ, ◌+◌, ◌*◌, ◌%◌, ◌≤◌, false, cond, Some, List, [], ◌∷◌, ◌++◌, map, length, refl, sym, ap, ◌∙◌, subst, arith}
use Rattle.std.specs.List.{AllByRecursion}
use Rattle.std.proofs.lemmas.Option.{same_Some}
use Rattle.reg_names.specs.Names.{hash}
use Rattle.reg_heap.specs.Paths.{Path}
use Rattle.reg_heap.specs.Heaps.{Heap}
use Rattle.reg_heap.specs.Kinds.{times, owned}
use Rattle.reg_shape.specs.Nodes.{Node}
use Rattle.reg_shape.specs.Written.{Pairwise, Precedes, Fits}
use Rattle.reg_shape.specs.Internal.Forests.{Forest, Branch, heads, total, total_of, Stand}
use Rattle.reg_shape.specs.Internal.Forests.Forest.{Rooted as Hangs}
use Rattle.reg_shape.specs.Internal.Shapes.{cells_of, owns, IsSeen, StandsIn}
use Rattle.reg_shape.specs.Internal.Exchanges.{is_named}
use Rattle.reg_shape.specs.Internal.Grafts.{branch_in, branch_at, graft_in, graft_at}
use Rattle.reg_shape.proofs.Frame.WrittenFrame.{seen-kept}
use Rattle.reg_shape.proofs.Graft.Branches.{graft-way}
use Rattle.reg_shape.proofs.Wholeness.WholeAfterExchange.{all-weaker, forest-kept}

-- ---- what the keys show

-- a key shows the same above, but for its class, which is no longer than a size
pub record IsNear (size : ℕ) (a b : ℕ × Node) : Type 0 where
  pub offset : b.0 ≡ a.0
  pub name : b.1.key.name ≡ a.1.key.name
  pub parent : b.1.key.fields.parent ≡ a.1.key.fields.parent
  pub class : (most : ℕ) → size ≤ most → a.1.key.fields.class_length ≤ most → b.1.key.fields.class_length ≤ most

near-self : (size : ℕ) (a : ℕ × Node) → IsNear size a a
near-self size a = record { offset = refl; name = refl; parent = refl; class = λ most s l. l }

abbrev pub AreNear : ℕ → List (ℕ × Node) → List (ℕ × Node) → Type 0
AreNear size [] [] = Unit {0}
AreNear size (a ∷ us) (b ∷ bs) = IsNear size a b × AreNear size us bs
AreNear size [] (b ∷ bs) = ⊥
AreNear size (a ∷ us) [] = ⊥

near-all : (size : ℕ) (us : List (ℕ × Node)) → AreNear size us us
near-all size [] = tt
near-all size (a ∷ us) = (near-self size a, near-all size us)

module _ (size : ℕ) where
  map-near : {B : Type 0} (f : ℕ × Node → B) → ((a b : ℕ × Node) → IsNear size a b → f b ≡ f a) → (us bs : List (ℕ × Node)) → AreNear size us bs → map f bs ≡ map f us
  map-near f h [] [] a = refl
  map-near f h [] (y ∷ ys) a = absurd a
  map-near f h (x ∷ xs) [] a = absurd a
  map-near f h (x ∷ xs) (y ∷ ys) a = ap (λ b. b ∷ map f ys) (h x y a.0) ∙ ap (λ bs. f x ∷ bs) (map-near f h xs ys a.1)

  all-near : (P : ℕ × Node → Type 0) → ((a b : ℕ × Node) → IsNear size a b → P a → P b) → (us bs : List (ℕ × Node)) → AreNear size us bs → AllByRecursion P us → AllByRecursion P bs
  all-near P h [] [] a l = tt
  all-near P h [] (y ∷ ys) a l = absurd a
  all-near P h (x ∷ xs) [] a l = absurd a
  all-near P h (x ∷ xs) (y ∷ ys) a l = (h x y a.0 l.0, all-near P h xs ys a.1 l.1)

  abbrev Before : ℕ × Node → ℕ × Node → Type 0
  Before a b = Precedes a.1.key.name b.1.key.name

  order-near : (us bs : List (ℕ × Node)) → AreNear size us bs → Pairwise Before us → Pairwise Before bs
  order-near [] [] a l = tt
  order-near [] (y ∷ ys) a l = absurd a
  order-near (x ∷ xs) [] a l = absurd a
  order-near (x ∷ xs) (y ∷ ys) a l = (
    all-weaker (Before x) (Before y) (λ b t. subst (λ name. Precedes name b.1.key.name) (sym a.0.name) t) ys
        (all-near (Before x) (λ b c f t. subst (λ name. Precedes x.1.key.name name) (sym f.name) t) xs ys a.1 l.0),
    order-near xs ys a.1 l.1,
  )

  pub fits-near : (o : ℕ) (k : Node) (us bs : List (ℕ × Node)) → AreNear size us bs → size ≤ k.key.fields.largest_subkey_class → Fits o k us → Fits o k bs
  fits-near o k us bs a enough f = record {
    offsets = map-near (λ (e : ℕ × Node). e.0) (λ x y s. s.offset) us bs a ∙ f.offsets;
    hashes = map-near (λ (e : ℕ × Node). hash e.1.key.name) (λ x y s. ap hash s.name) us bs a ∙ f.hashes;
    order = order-near us bs a f.order;
    parents = all-near (λ (e : ℕ × Node). e.1.key.fields.parent ≡ o) (λ x y s t. s.parent ∙ t) us bs a f.parents;
    longest_name = all-near (λ (e : ℕ × Node). 2 * length e.1.key.name ≤ k.key.fields.largest_subkey_name % 65536)
        (λ x y s t. subst (λ name. 2 * length name ≤ k.key.fields.largest_subkey_name % 65536) (sym s.name) t) us bs a f.longest_name;
    longest_class = all-near (λ (e : ℕ × Node). e.1.key.fields.class_length ≤ k.key.fields.largest_subkey_class)
        (λ x y s t. s.class k.key.fields.largest_subkey_class enough t) us bs a f.longest_class;
  }

-- ---- the keys stand

-- `h` before, `k` after: a key has other cells of its own beside those that it had, which were spare
module _ (h k : Heap) (root : ℕ) (was : Branch Node) (m : Node) (came : List ℕ) (size : ℕ) (near : IsNear size (was.offset, was.node) (was.offset, m))
    (seen : IsSeen k root was.offset m) (fits : (below : List (ℕ × Node)) → Fits was.offset was.node below → Fits was.offset m below)
    (calm : (z : ℕ) → times z came ≡ 0 → owned z (cells_of was.node) ≡ 0 → k z ≡ h z) where
  record Stays (F G : Forest Node) : Type 0 where
    has : (z : ℕ) → total_of (owns z) was ≤ total (owns z) F
    shows : AreNear size (heads F) (heads G)
    stand : Stand (IsSeen h root) Fits F → ((z : ℕ) → total (owns z) F + times z came ≤ 1) → Stand (IsSeen k root) Fits G

  abbrev one-name : Path → Type 0
  one-name p = length p ≡ 1

  here : (x : List ℕ) (s : Forest Node) → Stays (Hangs was.offset was.node was.below s) (Hangs was.offset m was.below s)
  here x s = record {
    has = λ z. omega arith;
    shows = (near, near-all size (heads s));
    stand = λ a one. (
      (
        seen,
        fits (heads was.below) a.0.1,
        forest-kept h k root was.below a.0.2 (λ z l. (let o = one z in calm z (omega (arith, o, l)) (omega (arith, o, l)))),
      ),
      forest-kept h k root s a.1 (λ z l. (let o = one z in calm z (omega (arith, o, l)) (omega (arith, o, l)))),
    );
  }

  next : (o : ℕ) (n : Node) (b s t : Forest Node) → Stays s t → Stays (Hangs o n b s) (Hangs o n b t)
  next o n b s t g = record {
    has = λ z. (let u = g.has z in omega (arith, u));
    shows = (near-self size (o, n), g.shows);
    stand = λ a one. (
      (
        seen-kept h k root o n a.0.0 (λ z l. (let w = one z in let u = g.has z in calm z (omega (arith, w, l)) (omega (arith, w, u, l)))),
        a.0.1,
        forest-kept h k root b a.0.2 (λ z l. (let w = one z in let u = g.has z in calm z (omega (arith, w, l)) (omega (arith, w, u, l)))),
      ),
      g.stand a.1 (λ z. (let w = one z in omega (arith, w))),
    );
  }

  stays : (p : Path) (F : Forest Node) → branch_in p F ≡ Some was → one-name p → Stays F (graft_in p m was.below F)
  stays = graft-way was m was.below (λ p F G. one-name p → Stays F G) (λ x s e one. here x s)
      (λ x y p o n b d s e g one. absurd (omega (arith, one))) (λ x p o n b s t e g one. next o n b s t (g one))

  -- right below a key that stays as it is
  pub row-stands : (above : Branch Node) (x : List ℕ) → branch_at (x ∷ []) above ≡ Some was → size ≤ above.node.key.fields.largest_subkey_class →
      StandsIn h root above → ((z : ℕ) → total_of (owns z) above + times z came ≤ 1) →
      StandsIn k root (record above { below = graft_in (x ∷ []) m was.below above.below })
  row-stands above x e enough a one =
      let g = stays (x ∷ []) above.below e refl in (
        seen-kept h k root above.offset above.node a.0 (λ z l. (let w = one z in let u = g.has z in calm z (omega (arith, w, l)) (omega (arith, w, u, l)))),
        fits-near size above.offset above.node (heads above.below) (heads (graft_in (x ∷ []) m was.below above.below)) g.shows enough a.1,
        g.stand a.2 (λ z. (let w = one z in omega (arith, w))),
      )

-- ---- two paths, one behind the other

graft-beside : (m : Node) (c : Forest Node) (x : List ℕ) (r : Path) (o : ℕ) (n : Node) (b s : Forest Node) → is_named x n ≡ false →
    graft_in (x ∷ r) m c (Hangs o n b s) ≡ Hangs o n b (graft_in (x ∷ r) m c s)
graft-beside m c x [] o n b s e = ap (λ t. cond t (Hangs o m c s) (Hangs o n b (graft_in (x ∷ []) m c s))) e
graft-beside m c x (y ∷ r) o n b s e = ap (λ t. cond t (Hangs o n (graft_in (y ∷ r) m c b) s) (Hangs o n b (graft_in (x ∷ y ∷ r) m c s))) e

-- a graft one name further is a graft of the row there
forest-further : (b : Branch Node) (m : Node) (c : Forest Node) (x : List ℕ) (p : Path) (F : Forest Node) → branch_in p F ≡ Some b →
    graft_in (p ++ x ∷ []) m c F ≡ graft_in p b.node (graft_in (x ∷ []) m c b.below) F
forest-further b m c x =
    graft-way b b.node (graft_in (x ∷ []) m c b.below) (λ p F G. graft_in (p ++ x ∷ []) m c F ≡ G)
    (λ y s e. ap (λ t. cond t (Hangs b.offset b.node (graft_in (x ∷ []) m c b.below) s) (Hangs b.offset b.node b.below (graft_in (y ∷ x ∷ []) m c s))) e)
    (λ y v p o k f d s e r. ap (λ t. cond t (Hangs o k (graft_in (v ∷ p ++ x ∷ []) m c f) s) (Hangs o k f (graft_in (y ∷ v ∷ p ++ x ∷ []) m c s))) e
    ∙ ap (λ d. Hangs o k d s) r)
    (λ y p o k f s t e r. graft-beside m c y (p ++ x ∷ []) o k f s e ∙ ap (Hangs o k f) r)

pub graft-further : (b : Branch Node) (m : Node) (c : Forest Node) (x : List ℕ) (p : Path) (keys : Branch Node) → branch_at p keys ≡ Some b →
    graft_at (p ++ x ∷ []) m c keys ≡ graft_at p b.node (graft_in (x ∷ []) m c b.below) keys
graft-further b m c x [] keys e =
    let q : keys ≡ b = same_Some _ _ e in
    subst (λ (b : Branch Node). graft_at (x ∷ []) m c keys ≡ graft_at [] b.node (graft_in (x ∷ []) m c b.below) keys) q refl
graft-further b m c x (y ∷ p) keys e = ap (λ F. record keys { below = F }) (forest-further b m c x (y ∷ p) keys.below e)
