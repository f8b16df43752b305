-- Which cells stay, and what reads as before, when a security was joined and named in a key's key node.
use Rattle.std.proofs.Common.{◌≡◌, ◌≢◌, ℕ, zero, suc, ◌+◌, ◌<◌, ◌≤◌, ◌==◌, cond, Option, Some, List, [], ◌∷◌, ◌++◌, refl, ap, ◌∙◌, arith}
use Rattle.std.specs.Option.{option_map}
use Rattle.reg_heap.specs.Paths.{Path}
use Rattle.reg_heap.specs.Heaps.{Heap, allocated}
use Rattle.reg_heap.specs.Kinds.{Found, times, is_own, owned}
use Rattle.reg_heap.specs.Kinds.Kind.{Key}
use Rattle.reg_arena.proofs.FreeList.ThreadLinks.{times-append}
use Rattle.reg_records.specs.KeyNodes.{key_at}
use Rattle.reg_records.specs.KeySecurities.{KeySecurityRecord}
use Rattle.reg_records.proofs.KeySecurityCodec.{security_at-same}
use Rattle.reg_shape.specs.Internal.Forests.{Branch, total_of}
use Rattle.reg_shape.specs.Nodes.{Node}
use Rattle.reg_shape.specs.Written.{IsWrittenSecurity}
use Rattle.reg_shape.specs.Whole.{IsRing, count_at, descriptor_at}
use Rattle.reg_shape.specs.Internal.Shapes.{index_cells, cells_of, owns, shares, StandsIn}
use Rattle.reg_shape.specs.Internal.Grafts.{IsShape, IsRecounted, branch_at, uses_in}
use Rattle.reg_shape.proofs.Graft.Branches.{branch-stands, branch-total}
use Rattle.reg_shape.proofs.Graft.GraftInRing.{ring-recounted}
use Rattle.reg_shape.proofs.Graft.GraftOfExchange.{recounted-same}
use Rattle.reg_shape.proofs.Graft.WholeAfterGraft.{uses-named, uses-counted}
use Rattle.reg_shape.proofs.Lookup.LookupOfShape.{key-looked}
use Rattle.reg_shape.proofs.Walking.WalkRefinement.{IsLooked, look-open}
use Rattle.reg_shape.proofs.Wholeness.ShapeRecords.{all-at, at-most-one, shares-own}
use Rattle.reg_shape.proofs.Wholeness.WholeAfterExchange.{all-members}
use Rattle.reg_values.proofs.ValueFreeing.FrameChains.{times-same}
use Rattle.reg_index.specs.Subkeys.{taken}
use Rattle.reg_security.specs.Rings.{DescriptorCells, Finds}
use Rattle.reg_security.proofs.TableCells.{finds-same}
use Rattle.reg_tree.specs.Internal.KeyNodeChanges.{Notes, noted_security}
use Rattle.reg_tree.specs.Internal.DescriptorChange.{Joins}
use Rattle.reg_tree.proofs.DeleteKey.SecurityReleased.{same-uses}
use Rattle.reg_tree.proofs.Invariant.CellReadings.{is_some_of, key-moved, key-exists}
use Rattle.reg_tree.proofs.Invariant.OwnCells.{own-parts}
use Rattle.reg_tree.proofs.Invariant.UntouchedCells.{written-allocated}

module _ (h : Heap) (root : ℕ) (keys : Branch Node) (ring : List ℕ) (cell : Option ℕ) (w : IsShape h root keys ring (taken cell)) (p : Path)
    (b : Branch Node) (e : branch_at p keys ≡ Some b) where
  abbrev n : Node
  n = b.node

  -- the security that the key names
  abbrev gone : ℕ
  gone = n.key.fields.security

  pub stands : StandsIn h root b
  stands = branch-stands h root b p keys e w.stands

  abbrev pub l : IsLooked h b.offset n
  l = look-open h b.offset n stands.0.reads

  -- all that a cell is, at most once
  pub room : (z : ℕ) → total_of (owns z) b + (times z ring + times z (taken cell)) ≤ allocated h z
  room z = let t = branch-total (owns z) b p keys e in let x = w.exact z in omega (arith, t, x)

  pub parts : (z : ℕ) → owned z (cells_of n) ≡ times z (b.offset ∷ []) + (owned z l.class_cells + owned z l.value_cells) + owned z (index_cells n.index)
  parts z =
      let a = ap (λ (found : List Found). owned z (found ++ index_cells n.index)) l.cells ∙ own-parts z b.offset n.key l.class_cells l.value_cells n.index in
      let k : ◌≡◌ {A = ℕ} (is_own z (record { kind = Key; offset = b.offset })) (cond (b.offset == z) 1 0) = refl in
      omega (arith, a, k)

  pub secured : 0 < times gone ring
  secured =
      let own = shares-own h root b.offset n stands.0.reads in
      let all = branch-total (shares gone) b p keys e in
      (w.ringed gone).0 (omega (arith, own, all))

  -- ---- when a security was joined

  module _ (h1 : Heap) (after : List ℕ) (s : ℕ) (descriptor : List ℕ) (j : Joins h h1 ring after cell s descriptor) where
    pub calm-joined : (z : ℕ) → times z (taken cell) ≡ 0 → times z ring ≡ 0 → h1 z ≡ h z
    calm-joined z a c = let t = times-append z (taken cell) ring in j.frame.same z (omega (arith, t, a, c)) (omega (arith, t, a, c))

    pub allocated-joined : (z : ℕ) → allocated h1 z ≡ allocated h z
    allocated-joined z = let c = j.frame.count z in omega (arith, c)

    pub offset-mid : h1 b.offset ≡ h b.offset
    offset-mid =
        let z = b.offset in let r = room z in let q = parts z in let t = times-same z in let o = at-most-one h z in
        calm-joined z (omega (arith, r, q, t, o)) (omega (arith, r, q, t, o))

    pub key-mid : key_at h1 b.offset ≡ Some n.key
    key-mid = key-moved h h1 b.offset offset-mid ∙ key-looked h b.offset n stands.0.reads

    -- ---- when the key node names it

    module _ (h2 : Heap) (moment : ℕ) (notes : Notes h1 h2 b.offset (noted_security s moment)) where
      pub key-then : key_at h2 b.offset ≡ Some (noted_security s moment n.key)
      key-then = notes.reads n.key key-mid

      pub allocated-then : (z : ℕ) → allocated h2 z ≡ allocated h z
      allocated-then z =
          let a = written-allocated h1 h2 b.offset notes.others (key-exists h1 b.offset (is_some_of _ _ key-mid)) (key-exists h2 b.offset (is_some_of _ _ key-then)) z in
          let c = allocated-joined z in
          omega (arith, a, c)

      -- the ring is as it was

      off-ring : (z : ℕ) → 0 < times z after → z ≢ b.offset
      off-ring z some is =
          let y = b.offset in
          let same = ap (λ z. times z after) is in
          let m = j.members y in let r = room y in let q = parts y in let t = times-same y in let o = at-most-one h y in
          omega (arith, same, some, m, r, q, t, o)

      pub ring-calm : (z : ℕ) → 0 < times z after → h2 z ≡ h1 z
      ring-calm z some = notes.others z (off-ring z some)

      pub ring-then : IsRing h2 after
      ring-then =
          ring-recounted h1 h2 b b after
          (all-members (λ z. IsRecounted h1 h2 (total_of (shares z) b) (total_of (shares z) b) z) after
          (λ z l. recounted-same h1 h2 (total_of (shares z) b) (total_of (shares z) b) z (ring-calm z l) refl
          (all-at (IsWrittenSecurity h1) after z j.closed.written l)))
          j.closed

      pub described-then : (z : ℕ) → 0 < times z after → descriptor_at h2 z ≡ descriptor_at h1 z
      described-then z l = ap (option_map (λ (s : KeySecurityRecord). s.descriptor)) (security_at-same h1 h2 z (ring-calm z l))

      pub finds-then : (table : DescriptorCells) → Finds table h1 after → Finds table h2 after
      finds-then table f = finds-same table h1 h2 after f described-then

      -- one key more uses it
      pub uses-then : (z : ℕ) → uses_in h2 after z ≡ uses_in h ring z + times z (s ∷ [])
      uses-then z =
          same-uses h1 h2 after after z refl (λ l. ap (option_map (λ (s : KeySecurityRecord). s.fields.count)) (security_at-same h1 h2 z (ring-calm z l)))
          ∙ j.used z

      pub uses-before : (z : ℕ) → uses_in h ring z ≡ total_of (shares z) keys
      uses-before z = uses-named h root keys ring (taken cell) w z

      pub used-then : (z : ℕ) → 0 < times z after → 0 < uses_in h2 after z
      used-then z some = by (times z ring) refl
        where
          by : (t : ℕ) → times z ring ≡ t → 0 < uses_in h2 after z
          by zero none =
              let a = uses-then z in
              let m = j.members z in
              let q = j.newest z in
              omega (arith, a, m, q, some, none)
          by (suc t) is =
              let a = uses-then z in
              let c = uses-before z in
              let u = (w.ringed z).1 (omega (arith, is)) in
              omega (arith, a, c, u)

      -- the security that it named

      pub gone-then : 0 < times gone after
      gone-then = let m = j.members gone in let r = secured in omega (arith, m, r)

      pub count-then : (m : ℕ) × (count_at h2 gone ≡ Some m)
      count-then =
          let r = all-at (IsWrittenSecurity h2) after gone ring-then.written gone-then in
          (r.security.fields.count, ap (option_map (λ (s : KeySecurityRecord). s.fields.count)) r.reads)

      pub some-then : (m : ℕ) → count_at h2 gone ≡ Some m → 1 ≤ m
      some-then m c = let a = uses-counted h2 after gone m gone-then c in let u = used-then gone gone-then in omega (arith, a, u)
