-- A tree of which one key got marks and a class.
use Rattle.std.proofs.Common.{◌≡◌, inl, inr, ℕ, ◌+◌, ◌<◌, ◌≤◌, Bool, true, false, cond, Option, Some, None, IsSome, List, [], ◌∷◌, ◌++◌, length, bit_and, refl, sym, ap, ◌∙◌, subst, arith}
use Rattle.std.specs.Prelude.{unwrap_or, ◌^◌}
use Rattle.std.specs.Option.{option_map}
use Rattle.std.specs.FinMap.{get, insert, get-insert, same_map}
use Rattle.std.proofs.lemmas.List.{append-nil}
use Rattle.std.proofs.lemmas.Option.{same_Some}
use Rattle.reg_heap.specs.Paths.{Path, Rec}
use Rattle.reg_heap.specs.Edits.{edited}
use Rattle.reg_heap.specs.Heaps.{Heap, allocated}
use Rattle.reg_heap.specs.Kinds.{times, owned, shared}
use Rattle.reg_arena.proofs.FreeList.ThreadLinks.{times-append}
use Rattle.reg_arena.specs.Cells.{cell_at}
use Rattle.reg_records.specs.KeyNodes.{KeyRecord, key_at, is_in_profile}
use Rattle.reg_records.proofs.KeyNodeCodec.{key-profile}
use Rattle.reg_records.specs.KeySecurities.{KeySecurityRecord}
use Rattle.reg_records.proofs.KeySecurityCodec.{security_at-same}
use Rattle.reg_shape.specs.Nodes.{Node}
use Rattle.reg_shape.specs.Spelt.{name_of, marks_of, rec_of}
use Rattle.reg_shape.specs.Written.{IsWrittenSecurity, Fits}
use Rattle.reg_shape.specs.Whole.{IsRing, count_at, descriptor_at}
use Rattle.reg_shape.specs.Internal.Forests.{Branch, heads, total_of}
use Rattle.reg_shape.specs.Internal.Shapes.{cells_of, owns, shares, IsSeen, StandsIn, descriptor_in, tree_of}
use Rattle.reg_shape.specs.Internal.Exchanges.{found_at}
use Rattle.reg_shape.specs.Internal.Grafts.{IsShape, IsRecounted, branch_at, graft_in, graft_at}
use Rattle.reg_shape.specs.PathLookup.{key_offset_at}
use Rattle.reg_shape.proofs.Graft.Branches.{branch-append, branch-total}
use Rattle.reg_shape.proofs.Graft.GraftInRing.{ring-recounted}
use Rattle.reg_shape.proofs.Graft.GraftOfExchange.{recounted-same}
use Rattle.reg_shape.proofs.Graft.GraftPaths.{rest_of, same_rest, same-rest, by_rest, grafted_branch, found-graft, found-rest}
use Rattle.reg_shape.proofs.Graft.WholeAfterGraft.{graft-total, graft-depth, graft-offset, graft-stands}
use Rattle.reg_shape.proofs.Lookup.LookupAfterGraft.{offset-found}
use Rattle.reg_shape.proofs.Refinement.RefinementAfterEdit.{same_path}
use Rattle.reg_shape.proofs.Refinement.RefinementAfterGraft.{names-found}
use Rattle.reg_shape.proofs.Refinement.RefinementAtPath.{name-written, apart-stands, tells, told-found}
use Rattle.reg_shape.proofs.Refinement.SpeltTrees.{path_total, path_same}
use Rattle.reg_shape.proofs.Wholeness.ShapeRecords.{all-at, at-most-one}
use Rattle.reg_shape.proofs.Wholeness.WholeAfterExchange.{all-members, forest-kept}
use Rattle.reg_index.specs.Subkeys.{taken}
use Rattle.reg_tree.specs.Internal.KeyBuilding.{IsMarkable, IsNotedAbove, MayHaveClass, PutsClass, marked, noted_marks}
use Rattle.reg_tree.specs.Internal.KeyNodeChanges.{Notes}
use Rattle.reg_tree.specs.Internal.LengthChanges.{LengthsStay}
use Rattle.reg_tree.specs.Internal.SpareCells.{StillStand}
use Rattle.reg_tree.proofs.Invariant.KeyOfShape as keyed
use Rattle.reg_tree.proofs.Invariant.LengthsAfterGraft.{lengths_stay}
use Rattle.reg_tree.proofs.InsertKey.PathGrowth.{path-self}
use Rattle.reg_tree.proofs.ValueChange.TreeAfterValueChange.{edited-at}
use Rattle.reg_tree.proofs.BuildKey.KeyMarks.{marks-told}
use Rattle.reg_tree.proofs.Invariant.CellReadings.{is_some_of, key-moved}
use Rattle.reg_tree.proofs.Invariant.UntouchedCells.{offset-own}
use Rattle.reg_tree.proofs.BuildKey.MarkedKey.{class-calm}
use Rattle.reg_tree.proofs.BuildKey.MarkedKey as key_of
use Rattle.reg_tree.proofs.BuildKey.RowMarked.{IsNear, row-stands, graft-further}

abbrev its_offset : Option (ℕ × Node) → Option ℕ
its_offset o = option_map (λ (z : ℕ × Node). z.0) o

-- when the class was put, the key node is as it was
module _ (old mid : List ℕ) (key : ℕ) (name : List ℕ) (cell : Option ℕ) (class left : List ℕ) (d : IsMarkable old key name cell class left)
    (puts : PutsClass (cell_at old) (cell_at mid) cell class) where
  key-same : key_at (cell_at mid) key ≡ key_at (cell_at old) key
  key-same =
      let h : Heap = cell_at old in
      let b : Branch Node = keyed.branch h d.root d.keys d.ring (taken cell ++ left) d.shape d.path key d.at in
      let own = offset-own h b.offset b.node (keyed.seen h d.root d.keys d.ring (taken cell ++ left) d.shape d.path key d.at).reads in
      let room = keyed.branch_once h d.root d.keys d.ring (taken cell ++ left) d.shape d.path key d.at b.offset in
      let o = at-most-one h b.offset in
      let t = times-append b.offset (taken cell) left in
      let same = keyed.offset h d.root d.keys d.ring (taken cell ++ left) d.shape d.path key d.at in
      key-moved h (cell_at mid) key
      (subst (λ z. cell_at mid z ≡ h z) same (class-calm h (cell_at mid) cell class puts b.offset (omega (arith, own, room, o, t))))

  pub key-mid : IsSome (key_at (cell_at mid) key)
  key-mid = is_some_of _ _ (key-same ∙ keyed.key_is (cell_at old) d.root d.keys d.ring (taken cell ++ left) d.shape d.path key d.at)

  pub name-mid : (k : KeyRecord) → key_at (cell_at mid) key ≡ Some k → k.name ≡ name
  name-mid k e = (d.bare k (sym key-same ∙ e)).0

module _ (old mid new : List ℕ) (key : ℕ) (name : List ℕ) (cell : Option ℕ) (class left : List ℕ) (d : IsMarkable old key name cell class left) (marks : ℕ)
    (apart : bit_and marks 103 ≡ 0) (puts : PutsClass (cell_at old) (cell_at mid) cell class)
    (notes : Notes (cell_at mid) (cell_at new) key (noted_marks marks cell (length class))) where
  abbrev h : Heap
  h = cell_at old

  abbrev k : Heap
  k = cell_at new

  abbrev root : ℕ
  root = d.root

  abbrev keys : Branch Node
  keys = d.keys

  abbrev ring : List ℕ
  ring = d.ring

  abbrev p : Path
  p = d.path

  abbrev w : IsShape h root keys ring (taken cell ++ left)
  w = d.shape

  abbrev was : Branch Node
  was = key_of.was h (cell_at mid) k root keys ring cell left w p key d.at name class d.cell_is d.bare puts marks apart notes

  abbrev n : Node
  n = was.node

  was-is : branch_at p keys ≡ Some was
  was-is = keyed.branch_is h root keys ring (taken cell ++ left) w p key d.at

  stands-before : StandsIn h root was
  stands-before = keyed.stands h root keys ring (taken cell ++ left) w p key d.at

  abbrev m : Node
  m = key_of.after h (cell_at mid) k root keys ring cell left w p key d.at name class d.cell_is d.bare puts marks apart notes

  seen-now : IsSeen k root was.offset m
  seen-now = key_of.sees-after h (cell_at mid) k root keys ring cell left w p key d.at name class d.cell_is d.bare puts marks apart notes

  fits-now : (below : List (ℕ × Node)) → Fits was.offset n below → Fits was.offset m below
  fits-now = key_of.fits-after h (cell_at mid) k root keys ring cell left w p key d.at name class d.cell_is d.bare puts marks apart notes

  owned-now : (z : ℕ) → owned z (cells_of m) ≡ owned z (cells_of n) + times z (taken cell)
  owned-now = key_of.owned-after h (cell_at mid) k root keys ring cell left w p key d.at name class d.cell_is d.bare puts marks apart notes

  shared-now : (z : ℕ) → shared z (cells_of m) ≡ shared z (cells_of n)
  shared-now = key_of.shared-after h (cell_at mid) k root keys ring cell left w p key d.at name class d.cell_is d.bare puts marks apart notes

  allocated-now : (z : ℕ) → allocated k z ≡ allocated h z
  allocated-now = key_of.allocated-after h (cell_at mid) k root keys ring cell left w p key d.at name class d.cell_is d.bare puts marks apart notes

  calm : (z : ℕ) → times z (taken cell) ≡ 0 → owned z (cells_of n) ≡ 0 → k z ≡ h z
  calm = key_of.calm-others h (cell_at mid) k root keys ring cell left w p key d.at name class d.cell_is d.bare puts marks apart notes

  room : (z : ℕ) → total_of (owns z) was + (times z ring + (times z (taken cell) + times z left)) ≤ allocated h z
  room = key_of.room h (cell_at mid) k root keys ring cell left w p key d.at name class d.cell_is d.bare puts marks apart notes

  calm-ring : (z : ℕ) → 0 < times z ring → k z ≡ h z
  calm-ring z l = let r = room z in let o = at-most-one h z in calm z (omega (arith, r, o, l)) (omega (arith, r, o, l))

  -- a cell that is left too
  calm-left : (z : ℕ) → 0 < times z left → k z ≡ h z
  calm-left z l = let r = room z in let o = at-most-one h z in calm z (omega (arith, r, o, l)) (omega (arith, r, o, l))

  -- ---- the keys stand

  abbrev now : Branch Node
  now = graft_at p m was.below keys

  once : (z : ℕ) → total_of (owns z) keys + times z (taken cell) ≤ 1
  once z = let x = w.exact z in let o = at-most-one h z in let t = times-append z (taken cell) left in omega (arith, x, o, t)

  -- at the root
  at-root : p ≡ [] → StandsIn k root now
  at-root e =
      let q : keys ≡ was = same_Some _ _ (ap (λ p. branch_at p keys) (sym e) ∙ was-is) in
      subst (λ p. StandsIn k root (graft_at p m was.below keys)) (sym e)
      (subst (λ (b : Branch Node). StandsIn k root (record b { node = m; below = was.below })) (sym q) (
        seen-now,
        fits-now (heads was.below) stands-before.1,
        forest-kept h k root was.below stands-before.2 (λ z l. (let r = room z in let o = at-most-one h z in calm z (omega (arith, r, o, l)) (omega (arith, r, o, l)))),
      ))

  -- below another
  module _ (a : IsNotedAbove h root p (length class)) where
    abbrev above : Branch Node
    above = keyed.branch h root keys ring (taken cell ++ left) w a.above a.offset a.at

    above-is : branch_at a.above keys ≡ Some above
    above-is = keyed.branch_is h root keys ring (taken cell ++ left) w a.above a.offset a.at

    enough : length class ≤ above.node.key.fields.largest_subkey_class
    enough =
        let same : a.key ≡ above.node.key = same_Some _ _ (sym a.reads ∙ keyed.key_is h root keys ring (taken cell ++ left) w a.above a.offset a.at) in
        subst (λ (r : KeyRecord). length class ≤ r.fields.largest_subkey_class) same a.enough

    right-below : branch_at (a.name ∷ []) above ≡ Some was
    right-below =
        sym (branch-append above (a.name ∷ []) a.above keys above-is)
        ∙ (ap (λ p. branch_at p keys) (sym a.parts) ∙ was-is)

    near : IsNear (length class) (was.offset, n) (was.offset, m)
    near = record { offset = refl; name = refl; parent = refl; class = λ most s l. s }

    above-stands : StandsIn k root (record above { below = graft_in (a.name ∷ []) m was.below above.below })
    above-stands =
        row-stands h k root was m (taken cell) (length class) near seen-now fits-now calm above a.name right-below enough
        (keyed.stands h root keys ring (taken cell ++ left) w a.above a.offset a.at)
        (λ z. (let b = branch-total (owns z) above a.above keys above-is in let o = once z in omega (arith, b, o)))

    at-below : StandsIn k root now
    at-below =
        subst (λ p. StandsIn k root (graft_at p m was.below keys)) (sym a.parts)
        (subst (StandsIn k root) (sym (graft-further above m was.below a.name a.above keys above-is))
        (graft-stands h k root above above.node (graft_in (a.name ∷ []) m was.below above.below)
        (record { name = refl; parent = refl; class_length = refl }) above-stands a.above keys above-is w.stands
        (λ z l none. (
        let o = once z in
        let b = branch-total (owns z) was (a.name ∷ []) above right-below in
        calm z (omega (arith, o, l)) (omega (arith, b, none))))
        (λ z. (let o = once z in omega (arith, o)))))

  stands-now : StandsIn k root now
  stands-now = by d.above
    where
      by : MayHaveClass h root p (length class) → StandsIn k root now
      by (inl e) = at-root e
      by (inr a) = at-below a

  -- ---- whole

  owns-all : (z : ℕ) → total_of (owns z) now ≡ total_of (owns z) keys + times z (taken cell)
  owns-all z = let t = graft-total (owns z) was m was.below p keys was-is in let o = owned-now z in omega (arith, t, o)

  shares-all : (z : ℕ) → total_of (shares z) now ≡ total_of (shares z) keys
  shares-all z = let t = graft-total (shares z) was m was.below p keys was-is in let o = shared-now z in omega (arith, t, o)

  recounted : (z : ℕ) → 0 < times z ring → IsRecounted h k (total_of (shares z) was) (total_of (shares z) was) z
  recounted z l = recounted-same h k (total_of (shares z) was) (total_of (shares z) was) z (calm-ring z l) refl (all-at (IsWrittenSecurity h) ring z w.closed.written l)

  closed-now : IsRing k ring
  closed-now =
      ring-recounted h k was was ring
      (all-members (λ z. IsRecounted h k (total_of (shares z) was) (total_of (shares z) was) z) ring recounted) w.closed

  shape-now : IsShape k root now ring left
  shape-now = record {
    offset = graft-offset m was.below p keys ∙ w.offset;
    stands = stands-now;
    exact = λ z. (let x = w.exact z in let t = times-append z (taken cell) left in let o = owns-all z in let a = allocated-now z in omega (arith, x, t, o, a));
    closed = closed-now;
    ringed = λ z. (
      (λ l. (w.ringed z).0 (let s = shares-all z in omega (arith, s, l))),
      λ l. (let r = (w.ringed z).1 l in let s = shares-all z in omega (arith, r, s)),
    );
    counts = all-members (λ z. count_at k z ≡ Some (total_of (shares z) now)) ring
        (λ z l. ap (option_map (λ (s : KeySecurityRecord). s.fields.count)) (security_at-same h k z (calm-ring z l)) ∙
        (all-at (λ z. count_at h z ≡ Some (total_of (shares z) keys)) ring z w.counts l ∙ ap Some (sym (shares-all z))));
    shallow = (
        let g = graft-depth was m was.below p keys was-is in
        let s = w.shallow in
        let q = keyed.shallow h root keys ring (taken cell ++ left) w p key d.at in
        omega (arith, g, s, q));
  }

  describes-now : (z : ℕ) → 0 < times z ring → descriptor_at k z ≡ descriptor_at h z
  describes-now z l = ap (option_map (λ (s : KeySecurityRecord). s.descriptor)) (security_at-same h k z (calm-ring z l))

  -- ---- what is found

  named-now : name_of m.key ≡ name_of n.key
  named-now = name-written k root was.offset m seen-now.written ∙ sym (name-written h root was.offset n stands-before.0.written)

  abbrev came : Branch Node
  came = grafted_branch was m was.below named-now

  found-now : (q : Path) → found_at q now ≡ by_rest (λ r. found_at r came) (found_at q keys) (rest_of p q)
  found-now q = found-graft was m was.below named-now p keys was-is q

  -- elsewhere the same key is found
  found-other : (q : Path) → same_rest (rest_of p q) [] ≡ false → found_at q now ≡ found_at q keys
  found-other q = by (rest_of p q) refl
    where
      by : (o : Option Path) → rest_of p q ≡ o → same_rest o [] ≡ false → found_at q now ≡ found_at q keys
      by None e f = found-now q ∙ ap (by_rest (λ r. found_at r came) (found_at q keys)) e
      by (Some []) e f = absurd (let t : ◌≡◌ {A = Bool} true false = f in cc)
      by (Some (x ∷ r)) e f =
          found-now q
          ∙ (ap (by_rest (λ r. found_at r came) (found_at q keys)) e
          ∙ sym (found-rest was p keys was-is q (x ∷ r) e))

  -- and at the path the one that changed
  found-here : (q : Path) → same_rest (rest_of p q) [] ≡ true → (found_at q now ≡ Some (was.offset, m)) × (found_at q keys ≡ Some (was.offset, n))
  found-here q = by (rest_of p q) refl
    where
      by : (o : Option Path) → rest_of p q ≡ o → same_rest o [] ≡ true → (found_at q now ≡ Some (was.offset, m)) × (found_at q keys ≡ Some (was.offset, n))
      by None e f = absurd (let t : ◌≡◌ {A = Bool} false true = f in cc)
      by (Some []) e f = (found-now q ∙ ap (by_rest (λ r. found_at r came) (found_at q keys)) e, found-rest was p keys was-is q [] e)
      by (Some (x ∷ r)) e f = absurd (let t : ◌≡◌ {A = Bool} false true = f in cc)

  offsets-now : (q : Path) → key_offset_at k root q ≡ key_offset_at h root q
  offsets-now q =
      offset-found k root now (graft-offset m was.below p keys ∙ w.offset) stands-now q
      ∙ (by (same_rest (rest_of p q) []) refl
      ∙ sym (offset-found h root keys w.offset w.stands q))
    where
      by : (b : Bool) → same_rest (rest_of p q) [] ≡ b → its_offset (found_at q now) ≡ its_offset (found_at q keys)
      by true e = let f = found-here q e in ap its_offset f.0 ∙ sym (ap its_offset f.1)
      by false e = ap its_offset (found-other q e)

  -- each key has the largest lengths that it had
  pub lengths-now : LengthsStay h k root
  lengths-now =
      lengths_stay h k root p keys was (record was { node = m }) was-is named-now w.offset w.stands (graft-offset m was.below p keys ∙ w.offset) stands-now
      (λ y r o a b e f. ap (λ (z : ℕ × Node). z.1) (same_Some _ _ (sym f ∙ e))) refl

  -- ---- the tree

  abbrev rec : Rec
  rec = rec_of n (descriptor_in h n.key.fields.security)

  -- a key that is found names a security that describes what it did
  described : (z : ℕ) → 0 < total_of (shares z) keys → descriptor_in k z ≡ descriptor_in h z
  described z l = ap (λ o. unwrap_or o []) (describes-now z ((w.ringed z).0 l))

  told-same : (q : Path) (o : Option (ℕ × Node)) → found_at q keys ≡ o → option_map (tells k) o ≡ option_map (tells h) o
  told-same q None e = refl
  told-same q (Some v) e = ap (λ t. Some (rec_of v.1 t)) (described v.1.key.fields.security (names-found h root keys w.stands q v e))

  module _ (small : marks < 2 ^ 16) where
    profile : is_in_profile n.key.fields.flags ≡ true
    profile = key-profile h key n.key (keyed.key_is h root keys ring (taken cell ++ left) w p key d.at)

    -- it is told with its marks and its class
    told-marked : tells k (was.offset, m) ≡ marked marks class rec
    told-marked =
        let here = found-here p (sym (same-rest p p []) ∙ ap (same_path p) (append-nil p) ∙ path-self p) in
        let sec = described n.key.fields.security (names-found h root keys w.stands p (was.offset, n) here.1) in
        ap (rec_of m) sec
        ∙ (ap (λ name. record rec { name = name; marks = marks_of m.key.fields.flags; class = class }) named-now
        ∙ ap (λ marks. record rec { marks = marks; class = class }) (marks-told marks n.key.fields.flags apart small profile))

    tree-at : (q : Path) → get (tree_of k now) q ≡ get (insert (tree_of h keys) p (marked marks class rec)) q
    tree-at q =
        told-found k now (apart-stands k root now stands-now) q
        ∙ (by (same_rest (rest_of p q) []) refl
        ∙ (ap (λ t. cond t (Some (marked marks class rec)) (get (tree_of h keys) q)) (sym (ap (same_path q) (sym (append-nil p)) ∙ same-rest p q []))
        ∙ sym (get-insert path_total (tree_of h keys) p (marked marks class rec) q)))
      where
        by : (b : Bool) → same_rest (rest_of p q) [] ≡ b →
            option_map (tells k) (found_at q now) ≡ cond (same_rest (rest_of p q) []) (Some (marked marks class rec)) (get (tree_of h keys) q)
        by true e = ap (option_map (tells k)) (found-here q e).0 ∙ (ap Some told-marked ∙ sym (ap (λ t. cond t (Some (marked marks class rec)) (get (tree_of h keys) q)) e))
        by false e =
            ap (option_map (tells k)) (found-other q e)
            ∙ (told-same q (found_at q keys) refl
            ∙ (sym (told-found h keys (apart-stands h root keys w.stands) q)
            ∙ sym (ap (λ t. cond t (Some (marked marks class rec)) (get (tree_of h keys) q)) e)))

    pub is-marked : StillStand h k root ring left (edited (tree_of h keys) p (marked marks class))
    is-marked = record {
      now = now;
      shape = shape-now;
      spells = same_map path_total path_same (tree_of k now) (insert (tree_of h keys) p (marked marks class rec)) tree-at
          ∙ sym (edited-at (tree_of h keys) p rec (marked marks class) (keyed.rec_there h root keys ring (taken cell ++ left) w p key d.at));
      offsets = offsets-now;
      described = describes-now;
      spare = calm-left;
    }
