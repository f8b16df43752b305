-- A hive whose keys stand in the cells, and whose cells are all theirs, is whole.
use Rattle.std.proofs.Common.{◌≡◌, ◌↔◌, ℕ, zero, suc, ◌+◌, ◌<◌, ◌≤◌, cond, IsSome, Some, List, [], ◌∷◌, ◌++◌, map, length, refl, sym, ap, ◌∙◌}
use Rattle.std.proofs.Common.{subst, arith}
use Rattle.std.specs.List.{AllByRecursion}
use Rattle.std.specs.Option.{option_map}
use Rattle.std.specs.FinMap.{from_entries}
use Rattle.std.proofs.lemmas.List.{append-nil}
use Rattle.std.proofs.lemmas.Option.{same_Some}
use Rattle.reg_heap.specs.Paths.{Path, Rec}
use Rattle.reg_heap.specs.Heaps.{Heap, allocated}
use Rattle.reg_heap.specs.Kinds.{is_security, is_own, is_shared, times, owned, shared}
use Rattle.reg_heap.specs.Kinds.Kind.{Key}
use Rattle.reg_shape.specs.Internal.Forests.{Branch, total_of}
use Rattle.reg_records.specs.BigData.{plainly}
use Rattle.reg_shape.specs.Nodes.{Node}
use Rattle.reg_shape.specs.Walk.{walk}
use Rattle.reg_shape.specs.Spelt.{keys_from, rec_of, behind, below_root, spelt}
use Rattle.reg_shape.specs.Written.{IsWrittenSecurity}
use Rattle.reg_shape.specs.Whole.{Meets, count_at, IsWhole}
use Rattle.reg_shape.specs.Internal.Shapes.{trace, owns, shares, depth, descriptor_in, spelled, tree_of, IsWholeShape}
use Rattle.reg_shape.proofs.Walking.WalkParts.{Walks, gather-open, walk-more}
use Rattle.reg_shape.proofs.Walking.WalkFuel.{load, walk-enough}
use Rattle.reg_shape.proofs.Wholeness.FewerNumbers.{fewer, one-among}
use Rattle.reg_shape.proofs.Walking.WalkRefinement.{AreSecured, branch-walks}
use Rattle.reg_shape.proofs.Wholeness.ShapeCounts.{tally-branch}
use Rattle.reg_shape.proofs.Refinement.SpeltShapes.{keys-one, keys-more, branch-spelt, longer, behind-short, spelled-short}
use Rattle.reg_shape.proofs.Wholeness.ShapeRecords.{all-at, once, branch-fine, shares-own, forest-secured, forest-deep, own_offsets, own-times, own-length, AreAtMost, at-most-one}
use Rattle.reg_shape.proofs.Wholeness.ShapeRecords.{is-allocated, allocated-is}

-- ---- whole

module _ (heap : Heap) (root : ℕ) (keys : Branch Node) (ring : List ℕ) (w : IsWholeShape heap root keys ring) where
  owned-is : (z : ℕ) → owned z (trace keys) ≡ total_of (owns z) keys
  owned-is z = tally-branch (is_own z) heap root keys w.stands

  shared-is : (z : ℕ) → shared z (trace keys) ≡ total_of (shares z) keys
  shared-is z = tally-branch (is_shared z) heap root keys w.stands

  secured : (z : ℕ) → 0 < total_of (shares z) keys → IsWrittenSecurity heap z
  secured z l = all-at (IsWrittenSecurity heap) ring z w.closed.written ((w.ringed z).0 l)

  -- the root's security is in the ring
  root-ringed : 0 < times keys.node.key.fields.security ring
  root-ringed = (w.ringed keys.node.key.fields.security).0 (let l = shares-own heap root keys.offset keys.node w.stands.0.reads in omega arith)

  one-secured : IsWrittenSecurity heap keys.node.key.fields.security
  one-secured = secured keys.node.key.fields.security (let l = shares-own heap root keys.offset keys.node w.stands.0.reads in omega arith)

  all-secured : AreSecured heap keys.below
  all-secured = forest-secured heap root keys.below w.stands.2 (λ z l. secured z (omega arith))

  walks : Walks heap (plainly Key keys.offset ∷ []) (trace keys)
  walks = branch-walks heap root keys w.stands one-secured all-secured

  -- some fuel walks it
  walked : walk walks.fuel heap (plainly Key keys.offset) ≡ Some (trace keys)
  walked =
      let o = gather-open (walk walks.fuel heap) (plainly Key keys.offset) [] (trace keys) walks.walked in
      o.head_is ∙ ap Some (sym (append-nil o.head) ∙ (ap (λ t. o.head ++ t) (same_Some _ _ o.tail_is) ∙ o.all))

  -- the records met that are no securities, and one security, are as many cells
  roomy : (cells : ℕ) → AreAtMost heap cells → suc (load (trace keys)) ≤ cells
  roomy cells a =
      let s = keys.node.key.fields.security in
      let less : length (s ∷ own_offsets (trace keys)) ≤ length a.offsets = fewer (s ∷ own_offsets (trace keys)) a.offsets (λ z.
      let o = own-times z (trace keys) ∙ owned-is z in
      let e = w.exact z in
      let l = a.all z in
      let r = one-among s z ring root-ringed in
      omega (arith, o, e, l, r)) in
      let n = own-length (trace keys) in
      omega (arith, less, n, a.few)

  owned-once : (z : ℕ) → owned z (trace keys) ≤ 1
  owned-once z = let o = owned-is z in let e = w.exact z in let a = at-most-one heap z in omega (arith, o, e, a)

  owned-unshared : (z : ℕ) → 0 < owned z (trace keys) → shared z (trace keys) ≡ 0
  owned-unshared z l = by (shared z (trace keys)) refl
    where
      by : (n : ℕ) → shared z (trace keys) ≡ n → n ≡ 0
      by zero e = refl
      by (suc n) e =
          let named = (w.ringed z).0 (let s = shared-is z in omega (arith, s, e)) in
          let o = owned-is z in
          let x = w.exact z in
          let a = at-most-one heap z in
          absurd (omega (arith, named, o, x, a, l))

  exact : (z : ℕ) → Meets (trace keys) z ↔ IsSome (heap z)
  exact z = (there, here)
    where
      there : 0 < owned z (trace keys) + shared z (trace keys) → IsSome (heap z)
      there l = is-allocated heap z (by (shared z (trace keys)) refl)
        where
          by : (n : ℕ) → shared z (trace keys) ≡ n → 0 < allocated heap z
          by zero e = let o = owned-is z in let x = w.exact z in omega (arith, e, o, x, l)
          by (suc n) e = let named = (w.ringed z).0 (let s = shared-is z in omega (arith, s, e)) in let x = w.exact z in omega (arith, named, x)

      here : IsSome (heap z) → 0 < owned z (trace keys) + shared z (trace keys)
      here s = by (times z ring) refl
        where
          by : (n : ℕ) → times z ring ≡ n → 0 < owned z (trace keys) + shared z (trace keys)
          by zero e = let a = allocated-is heap z s in let x = w.exact z in let o = owned-is z in omega (arith, a, x, o, e)
          by (suc n) e = let l = (w.ringed z).1 (omega (arith, e)) in let h = shared-is z in omega (arith, l, h)

  counts : (zs : List ℕ) → AllByRecursion (λ z. count_at heap z ≡ Some (total_of (shares z) keys)) zs → AllByRecursion (λ z. count_at heap z ≡ Some (shared z (trace keys))) zs
  counts [] a = tt
  counts (z ∷ zs) a = (a.0 ∙ ap Some (sym (shared-is z)), counts zs a.1)

  deep-enough : (cells : ℕ) → AreAtMost heap cells → suc (depth keys.below) ≤ cells
  deep-enough cells a =
      let r = roomy cells a in
      let d = forest-deep heap root keys.below w.stands.2 in
      let t = tally-branch (λ f. cond (is_security f.kind) 0 1) heap root keys w.stands in
      omega (arith, r, d, t)

  abbrev its_keys : List (Path × Rec)
  its_keys = behind (rec_of keys.node (descriptor_in heap keys.node.key.fields.security)) (spelled heap keys.below)

  keys-are : keys_from (suc (depth keys.below)) heap root ≡ Some its_keys
  keys-are = ap (keys_from (suc (depth keys.below)) heap) (sym w.offset) ∙ branch-spelt heap root (depth keys.below) keys w.stands one-secured all-secured (omega arith)

  short : AllByRecursion (λ (e : Path × Rec). length e.0 ≤ 513) its_keys
  short = longer (suc (depth keys.below)) 513 (let s = w.shallow in omega arith) its_keys
      (behind-short (rec_of keys.node (descriptor_in heap keys.node.key.fields.security)) (depth keys.below) (spelled heap keys.below) (spelled-short heap keys.below))

  -- a whole shape makes a whole hive
  pub whole-from-shape : (cells : ℕ) → AreAtMost heap cells → IsWhole heap cells root
  whole-from-shape cells a = record {
    found = trace keys;
    walked = ap (λ z. walk cells heap (plainly Key z)) (sym w.offset) ∙ walk-more (suc (load (trace keys))) cells heap (roomy cells a)
        (plainly Key keys.offset) (trace keys) (walk-enough walks.fuel heap (plainly Key keys.offset) (trace keys) walked);
    once = once (trace keys) owned-once owned-unshared;
    exact = exact;
    ring = ring;
    closed = w.closed;
    ringed = λ z. ((λ l. (w.ringed z).0 (let s = shared-is z in omega (arith, s, l))), λ l. (let r = (w.ringed z).1 l in let s = shared-is z in omega (arith, r, s)));
    counts = counts ring w.counts;
    keys = branch-fine heap root keys w.stands;
    depth = λ ks e. subst (λ ks. AllByRecursion (λ (e : Path × Rec). length e.0 ≤ 513) ks) (keys-one (suc (depth keys.below)) cells heap root its_keys ks keys-are e) short;
  }

  -- and spells its tree
  pub spelt-from-shape : (cells : ℕ) → AreAtMost heap cells → spelt cells heap root ≡ Some (tree_of heap keys)
  unfolding spelt
  spelt-from-shape cells a =
      ap (option_map (λ ks. from_entries (map below_root ks))) (keys-more (suc (depth keys.below)) cells heap (deep-enough cells a) root its_keys keys-are)
