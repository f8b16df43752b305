-- A graft where the ring keeps its securities, each named before and after, as a graft of a ring before and a ring after.
use Rattle.std.proofs.Common.{◌≡◌, ℕ, zero, suc, ◌+◌, ◌<◌, ◌≤◌, Some, None, List, [], ◌∷◌, ◌++◌, length, refl, sym, ap, ◌∙◌, subst, arith}
use Rattle.std.specs.Prelude.{unwrap_or}
use Rattle.std.specs.List.{AllByRecursion}
use Rattle.std.specs.Option.{option_map}
use Rattle.std.specs.FinMap.{insert, remove}
use Rattle.std.proofs.lemmas.Option.{same_Some}
use Rattle.reg_names.specs.Names.{folded}
use Rattle.reg_heap.specs.declared.limits.TheConstants.{DESCRIPTOR_LIMIT}
use Rattle.reg_heap.specs.Paths.{Path}
use Rattle.reg_heap.specs.Heaps.{Heap}
use Rattle.reg_heap.specs.Kinds.{times}
use Rattle.reg_shape.specs.Internal.Forests.{Forest, Branch, total, total_of, Stand}
use Rattle.reg_shape.specs.Internal.Forests.Forest.{End, Rooted as Hangs}
use Rattle.reg_records.specs.KeySecurities.{KeySecurityRecord}
use Rattle.reg_shape.specs.Nodes.{Node}
use Rattle.reg_shape.specs.Spelt.{name_of, rec_of}
use Rattle.reg_shape.specs.Written.{Pairwise, Fits, IsWrittenSecurity}
use Rattle.reg_shape.specs.Whole.{IsRing, Links, Leads, Circles, count_at, descriptor_at}
use Rattle.reg_shape.specs.Internal.Shapes.{shares, IsSeen, descriptor_in, tree_of}
use Rattle.reg_shape.specs.Internal.Grafts.{IsShape, branch_at, graft_at, hang, unhang, IsLeafAt, IsRecounted, uses_in, IsGrafted, IsGraftedInRing}
use Rattle.reg_shape.proofs.Wholeness.ShapeRecords.{shares-own}
use Rattle.reg_shape.proofs.Wholeness.WholeAfterExchange.{all-members}
use Rattle.reg_shape.proofs.Graft.Branches.{branch-total}
use Rattle.reg_shape.proofs.Graft.ForestInsert.{total-hang}
use Rattle.reg_shape.proofs.Graft.WholeAfterGraft.{where-none, uses-counted, uses-named}
use Rattle.reg_shape.proofs.Refinement.RefinementAfterGraft.{tree-same-below, tree-hung, tree-unhung}

-- ---- the ring

module _ (h k : Heap) (was is : Branch Node) where
  abbrev Recounts : ℕ → Type 0
  Recounts z = IsRecounted h k (total_of (shares z) was) (total_of (shares z) is) z

  links-recounted : (a b : ℕ) → Recounts a → Recounts b → Links h a b → Links k a b
  links-recounted a b ra rb l = record {
    forward = ap (option_map (λ (s : KeySecurityRecord). s.fields.flink)) ra.now ∙ (sym (ap (option_map (λ (s : KeySecurityRecord). s.fields.flink)) ra.reads) ∙ l.forward);
    back = ap (option_map (λ (s : KeySecurityRecord). s.fields.blink)) rb.now ∙ (sym (ap (option_map (λ (s : KeySecurityRecord). s.fields.blink)) rb.reads) ∙ l.back);
  }

  leads-recounted : (y end : ℕ) (rest : List ℕ) → Recounts y → AllByRecursion Recounts rest → Recounts end → Leads h y rest end → Leads k y rest end
  leads-recounted y end [] e a f c = links-recounted y end e f c
  leads-recounted y end (z ∷ rest) e a f c = (links-recounted y z e a.0 c.0, leads-recounted z end rest a.0 a.1 f c.1)

  circles-recounted : (ring : List ℕ) → AllByRecursion Recounts ring → Circles h ring → Circles k ring
  circles-recounted [] a c = c
  circles-recounted (first ∷ rest) a c = leads-recounted first first rest a.0 a.1 a.0 c

  pub descriptor-recounted : (z : ℕ) → Recounts z → descriptor_at k z ≡ descriptor_at h z
  descriptor-recounted z r = ap (option_map (λ (s : KeySecurityRecord). s.descriptor)) r.now ∙ sym (ap (option_map (λ (s : KeySecurityRecord). s.descriptor)) r.reads)

  abbrev Differs : Heap → ℕ → ℕ → Type 0
  Differs heap a b = descriptor_at heap a ≡ descriptor_at heap b → ⊥

  differs-one : (y : ℕ) → Recounts y → (ring : List ℕ) → AllByRecursion Recounts ring → AllByRecursion (Differs h y) ring → AllByRecursion (Differs k y) ring
  differs-one y r [] a d = tt
  differs-one y r (z ∷ ring) a d = ((λ same. d.0 (sym (descriptor-recounted y r) ∙ (same ∙ descriptor-recounted z a.0))), differs-one y r ring a.1 d.1)

  differs-recounted : (ring : List ℕ) → AllByRecursion Recounts ring → Pairwise (Differs h) ring → Pairwise (Differs k) ring
  differs-recounted [] a d = tt
  differs-recounted (z ∷ ring) a d = (differs-one z a.0 ring a.1 d.0, differs-recounted ring a.1 d.1)

  security-recounted : (z : ℕ) → Recounts z → IsWrittenSecurity h z → IsWrittenSecurity k z
  security-recounted z r w =
      let same : w.security ≡ r.security = same_Some _ _ (sym w.reads ∙ r.reads) in
      record {
        security = record r.security { fields = record r.security.fields { count = r.count } };
        reads = r.now;
        plain = r.plain w.plain;
        some = subst (λ (s : KeySecurityRecord). 1 ≤ length s.descriptor) same w.some;
        short = subst (λ (s : KeySecurityRecord). length s.descriptor ≤ DESCRIPTOR_LIMIT) same w.short;
      }

  securities-recounted : (ring : List ℕ) → AllByRecursion Recounts ring → AllByRecursion (IsWrittenSecurity h) ring → AllByRecursion (IsWrittenSecurity k) ring
  securities-recounted [] a w = tt
  securities-recounted (z ∷ ring) a w = (security-recounted z a.0 w.0, securities-recounted ring a.1 w.1)

  pub ring-recounted : (ring : List ℕ) → AllByRecursion Recounts ring → IsRing h ring → IsRing k ring
  ring-recounted ring a r = record {
    circles = circles-recounted ring a r.circles;
    apart = differs-recounted ring a r.apart;
    written = securities-recounted ring a r.written;
  }

-- ---- numbers

-- who was named is named still, beside the others that name it
still-used : (all was is n : ℕ) → n + was ≡ all + is → was ≤ all → 0 < all → (0 < was → 0 < is) → 0 < n
still-used all zero is n e b a s = omega (arith, e, a)
still-used all (suc was) is n e b a s = let l = s (omega arith) in omega (arith, e, b, l)

none-comes : (was is : ℕ) → was ≡ 0 → (0 < is → 0 < was) → is ≡ 0
none-comes was zero e s = refl
none-comes was (suc is) e s = absurd (let l = s (omega arith) in omega (arith, e, l))

none-either : (a b was is : ℕ) → a ≡ 0 → b ≡ 0 → was ≡ 0 → is ≡ 0 → a + was ≡ b + is
none-either a b was is ea eb ew ei = omega (arith, ea, eb, ew, ei)

-- a key that was put among others stands
hung-seen : (Sees : ℕ → Node → Type 0) (Suits : ℕ → Node → List (ℕ × Node) → Type 0) (i o : ℕ) (n : Node) (F : Forest Node) → Stand Sees Suits (hang i o n F) → Sees o n
hung-seen Sees Suits zero o n F a = a.0.0
hung-seen Sees Suits (suc i) o n End a = a.0.0
hung-seen Sees Suits (suc i) o n (Hangs v m b s) a = hung-seen Sees Suits i o n s a.1

-- ---- the graft

module _ (h k : Heap) (root : ℕ) (p : Path) (keys was is : Branch Node) (ring spare left : List ℕ) (e : branch_at p keys ≡ Some was)
    (g : IsGraftedInRing h k root was is ring spare left) (w : IsShape h root keys ring spare) where
  -- what a security of the ring counts, before and now
  counted-before : (z : ℕ) (l : 0 < times z ring) → (g.recounted z l).security.fields.count ≡ uses_in h ring z
  counted-before z l = sym (uses-counted h ring z (g.recounted z l).security.fields.count l (ap (option_map (λ (s : KeySecurityRecord). s.fields.count)) (g.recounted z l).reads))

  counted-now : (z : ℕ) (l : 0 < times z ring) → uses_in k ring z ≡ (g.recounted z l).count
  counted-now z l = uses-counted k ring z (g.recounted z l).count l (ap (option_map (λ (s : KeySecurityRecord). s.fields.count)) (g.recounted z l).now)

  uses-there : (z : ℕ) → 0 < times z ring → uses_in k ring z + total_of (shares z) was ≡ uses_in h ring z + total_of (shares z) is
  uses-there z l =
      ap (λ n. n + total_of (shares z) was) (counted-now z l)
      ∙ ((g.recounted z l).counted
      ∙ ap (λ n. n + total_of (shares z) is) (counted-before z l))

  uses-now : (z : ℕ) → uses_in k ring z + total_of (shares z) was ≡ uses_in h ring z + total_of (shares z) is
  uses-now z = by (times z ring) refl
    where
      by : (t : ℕ) → times z ring ≡ t → uses_in k ring z + total_of (shares z) was ≡ uses_in h ring z + total_of (shares z) is
      by zero t =
          let before = where-none (times z ring) (unwrap_or (count_at h z) 0) t in
          let now = where-none (times z ring) (unwrap_or (count_at k z) 0) t in
          let all : total_of (shares z) keys ≡ 0 = sym (uses-named h root keys ring spare w z) ∙ before in
          let part = branch-total (shares z) was p keys e in
          let none : total_of (shares z) was ≡ 0 = omega (arith, all, part) in
          none-either (uses_in k ring z) (uses_in h ring z) (total_of (shares z) was) (total_of (shares z) is) now before none
          (none-comes (total_of (shares z) was) (total_of (shares z) is) none (g.securities z).0)
      by (suc t) f = uses-there z (omega (arith, f))

  used-now : (z : ℕ) → 0 < times z ring → 0 < uses_in k ring z
  used-now z l =
      still-used (total_of (shares z) keys) (total_of (shares z) was) (total_of (shares z) is) (uses_in k ring z)
      (uses-there z l ∙ ap (λ n. n + total_of (shares z) is) (uses-named h root keys ring spare w z)) (branch-total (shares z) was p keys e)
      ((w.ringed z).1 l) (g.securities z).1

  pub graft-in-ring : IsGrafted h k root was is ring spare ring left
  graft-in-ring = record {
    offset = g.offset;
    alike = g.alike;
    stands = g.stands;
    count = λ z. (let c = g.count z in omega (arith, c));
    same = g.same;
    closed = ring-recounted h k was is ring (all-members (Recounts h k was is) ring g.recounted) w.closed;
    described = λ z l m. descriptor-recounted h k was is z (g.recounted z l);
    used = used-now;
    recounted = uses-now;
  }

  -- ---- the tree, by what the securities described before

  described-before : (z : ℕ) → 0 < total_of (shares z) is → descriptor_in k z ≡ descriptor_in h z
  described-before z l =
      let part = branch-total (shares z) was p keys e in
      let some = (g.securities z).0 l in
      ap (λ d. unwrap_or d []) (descriptor-recounted h k was is z (g.recounted z ((w.ringed z).0 (omega (arith, part, some)))))

  described-node : descriptor_in k is.node.key.fields.security ≡ descriptor_in h is.node.key.fields.security
  described-node = described-before is.node.key.fields.security (let own = shares-own k root is.offset is.node g.stands.0.reads in omega (arith, own))

  pub tree-same-below-in-ring : is.below ≡ was.below →
      tree_of k (graft_at p is.node is.below keys) ≡ insert (tree_of h keys) p (rec_of is.node (descriptor_in h is.node.key.fields.security))
  tree-same-below-in-ring below =
      tree-same-below h k root p keys was is ring spare ring left e graft-in-ring w below
      ∙ ap (λ d. insert (tree_of h keys) p (rec_of is.node d)) described-node

  module _ (i o : ℕ) (n : Node) (x : List ℕ) (name : folded (name_of n.key) ≡ x) where
    described-hung : is.below ≡ hang i o n was.below → descriptor_in k n.key.fields.security ≡ descriptor_in h n.key.fields.security
    described-hung below =
        let z = n.key.fields.security in
        let stand : Stand (IsSeen k root) Fits (hang i o n was.below) = subst (Stand (IsSeen k root) Fits) below g.stands.2 in
        let own = shares-own k root o n (hung-seen (IsSeen k root) Fits i o n was.below stand).reads in
        let all = total-hang (shares z) i o n was.below in
        let same : total (shares z) is.below ≡ total (shares z) (hang i o n was.below) = ap (total (shares z)) below in
        described-before z (omega (arith, own, all, same))

    pub tree-hung-in-ring : is.below ≡ hang i o n was.below → branch_at (x ∷ []) was ≡ None →
        tree_of k (graft_at p is.node is.below keys) ≡ insert
        (insert (tree_of h keys) p (rec_of is.node (descriptor_in h is.node.key.fields.security))) (p ++ x ∷ [])
        (rec_of n (descriptor_in h n.key.fields.security))
    tree-hung-in-ring below free =
        tree-hung h k root p keys was is ring spare ring left e graft-in-ring w i o n x name below free
        ∙ (ap (λ d. insert (insert (tree_of h keys) p (rec_of is.node d)) (p ++ x ∷ []) (rec_of n (descriptor_in k n.key.fields.security))) described-node
        ∙ ap (λ d. insert (insert (tree_of h keys) p (rec_of is.node (descriptor_in h is.node.key.fields.security))) (p ++ x ∷ []) (rec_of n d))
        (described-hung below))

    pub tree-unhung-in-ring : is.below ≡ unhang i was.below → IsLeafAt i o n was.below →
        tree_of k (graft_at p is.node is.below keys) ≡ remove
        (insert (tree_of h keys) p (rec_of is.node (descriptor_in h is.node.key.fields.security))) (p ++ x ∷ [])
    tree-unhung-in-ring below leaf =
        tree-unhung h k root p keys was is ring spare ring left e graft-in-ring w i o n x name below leaf
        ∙ ap (λ d. remove (insert (tree_of h keys) p (rec_of is.node d)) (p ++ x ∷ [])) described-node
