-- Which cells stay, and what reads as before, when a key was taken from its parent and its cells were given up.
use Rattle.std.proofs.Common.{◌≡◌, inl, inr, ℕ, ◌+◌, ◌<◌, ◌≤◌, ◌==◌, cond, is_some, Option, Some, List, [], ◌∷◌, ◌++◌, refl, sym, ap, ◌∙◌, subst, arith}
use Rattle.std.specs.Option.{option_map}
use Rattle.std.proofs.lemmas.Bool.{cases_eq}
use Rattle.std.proofs.lemmas.Option.{same_Some}
use Rattle.reg_heap.specs.Paths.{Path}
use Rattle.reg_heap.specs.Heaps.{Heap, CellFrame, allocated}
use Rattle.reg_heap.specs.Kinds.{Found, times, is_own, is_shared, owned, shared}
use Rattle.reg_heap.specs.Kinds.Kind.{Security}
use Rattle.reg_shape.specs.Internal.Forests.{Forest, Branch, total, total_of}
use Rattle.reg_records.specs.KeyNodes.{key_at}
use Rattle.reg_records.specs.KeySecurities.{KeySecurityRecord}
use Rattle.reg_records.specs.SubkeyLists.{Entry}
use Rattle.reg_shape.specs.Nodes.{Node, entries_of, look}
use Rattle.reg_shape.specs.Nodes.Index.{Unlisted}
use Rattle.reg_shape.specs.Written.{IsWrittenSecurity}
use Rattle.reg_shape.specs.Internal.Shapes.{index_cells, cells_of, owns, shares, StandsIn}
use Rattle.reg_shape.specs.Whole.{IsRing, count_at, descriptor_at}
use Rattle.reg_shape.specs.Internal.Grafts.{IsShape, IsRecounted, branch_in, branch_at, unhang, uses_in}
use Rattle.reg_shape.proofs.Graft.GraftInRing.{ring-recounted}
use Rattle.reg_shape.proofs.Graft.GraftOfExchange.{recounted-same}
use Rattle.reg_shape.proofs.Graft.WholeAfterGraft.{uses-named}
use Rattle.reg_shape.proofs.Wholeness.WholeAfterExchange.{all-members}
use Rattle.reg_shape.proofs.Wholeness.ShapeCounts.{tally-append}
use Rattle.reg_shape.proofs.Walking.InnerReadings.{class-inner, members-inner}
use Rattle.reg_shape.proofs.Frame.KeyFrame.{Keeps, agree-inner, look-local}
use Rattle.reg_shape.proofs.Frame.WrittenFrame.{list-kept}
use Rattle.reg_shape.proofs.Lookup.LookupOfShape.{key-looked}
use Rattle.reg_records.proofs.KeySecurityCodec.{security_at-same}
use Rattle.reg_shape.proofs.Walking.WalkRefinement.{IsLooked}
use Rattle.reg_shape.proofs.Wholeness.ShapeRecords.{all-at, at-most-one, allocated-is}
use Rattle.reg_values.proofs.ValueFreeing.FrameChains.{times-same}
use Rattle.reg_index.specs.Subkeys.{Moves, cells_of_index, own}
use Rattle.reg_index.proofs.SubkeysOpening.{own-is}
use Rattle.reg_tree.specs.Internal.KeyNodeChanges.{noted_subkeys}
use Rattle.reg_tree.specs.Internal.KeyDeletion.{IsUnlinked, IsSole}
use Rattle.reg_tree.proofs.DeleteKey.DeletedKeyCells.{own-met}
use Rattle.reg_security.specs.Rings.{DescriptorCells, Finds}
use Rattle.reg_security.proofs.TableCells.{finds-same}
use Rattle.reg_tree.proofs.DeleteKey.DeletedKeyPosition.{IsHead}
use Rattle.reg_tree.proofs.DeleteKey.SecurityReleased.{same-uses}
use Rattle.reg_tree.proofs.Invariant.CellReadings.{is_some_of, key-moved, key-exists}
use Rattle.reg_tree.proofs.Invariant.OwnCells.{shared-parts, inner-unshared}
use Rattle.reg_tree.proofs.Invariant.UntouchedCells.{not-there}
use Rattle.reg_tree.proofs.DeleteKey.DeletedKeyParent as before

-- ---- the parent `was`, and the key `b` below it

module _ (h0 : Heap) (root : ℕ) (keys : Branch Node) (ring : List ℕ) (w : IsShape h0 root keys ring []) (p : Path) (was : Branch Node)
    (e : branch_at p keys ≡ Some was)
    (x : List ℕ) (b : Branch Node) (found : branch_in (x ∷ []) was.below ≡ Some b) (childless : b.node.key.fields.subkeys ≡ 0) where
  abbrev m : Node
  m = was.node

  abbrev n : Node
  n = b.node

  abbrev entries : List Entry
  entries = entries_of m.index

  abbrev s : ℕ
  s = n.key.fields.security

  abbrev old_list : List ℕ
  old_list = cells_of_index m.index

  -- what is known of them before

  pub stands : StandsIn h0 root was
  stands = before.stands h0 root keys ring w p was e x b found childless

  key_stands : StandsIn h0 root b
  key_stands = before.key_stands h0 root keys ring w p was e x b found childless

  abbrev pub l : IsLooked h0 was.offset m
  l = before.l h0 root keys ring w p was e x b found childless

  abbrev n_l : IsLooked h0 b.offset n
  n_l = before.n_l h0 root keys ring w p was e x b found childless

  abbrev pub spot : IsHead x was.below b
  spot = before.spot h0 root keys ring w p was e x b found childless

  abbrev rest : Forest Node
  rest = unhang spot.index was.below

  pub secured : 0 < times s ring
  secured = before.secured h0 root keys ring w p was e x b found childless

  pub index-cells : (z : ℕ) → owned z (index_cells m.index) ≡ times z old_list
  index-cells = before.index-cells h0 root keys ring w p was e x b found childless

  pub m-parts : (z : ℕ) → owned z (cells_of m) ≡ times z (was.offset ∷ []) + (owned z l.class_cells + owned z l.value_cells) + times z old_list
  m-parts = before.m-parts h0 root keys ring w p was e x b found childless

  n-unlisted : n.index ≡ Unlisted
  n-unlisted = before.n-unlisted h0 root keys ring w p was e x b found childless

  pub n-parts : (z : ℕ) → owned z (cells_of n) ≡ owned z n.cells
  n-parts = before.n-parts h0 root keys ring w p was e x b found childless

  pub below-parts : (f : ℕ → Node → ℕ) → total f rest + f b.offset n ≡ total f was.below
  below-parts = before.below-parts h0 root keys ring w p was e x b found childless

  pub room : (z : ℕ) → (times z (was.offset ∷ []) + (owned z l.class_cells + owned z l.value_cells) + times z old_list) +
      (total (owns z) rest + owned z n.cells) + times z ring ≤ allocated h0 z
  room = before.room h0 root keys ring w p was e x b found childless

  -- ---- when the key was taken from the list, and that was noted

  module _ (h2 : Heap) (moment : ℕ) (un : IsUnlinked h0 h2 was.offset m.key entries spot.index moment) where
    abbrev h1 : Heap
    h1 = un.mid

    pub moves : Moves h0 h1 old_list (own h1 un.count un.list)
    moves = subst (λ cells. Moves h0 h1 cells (own h1 un.count un.list)) (own-is h0 m.key.fields.subkeys m.key.fields.subkeys_list m.index l.index_is) un.moves

    pub calm-mid : (z : ℕ) → 0 < allocated h0 z → times z old_list ≡ 0 → h1 z ≡ h0 z
    calm-mid z some a = let c = moves.count z in let o = at-most-one h1 z in moves.same z a (omega (arith, c, o, some, a))

    pub offset-mid : h1 was.offset ≡ h0 was.offset
    offset-mid =
        let z = was.offset in let r = room z in let t = times-same z in let o = at-most-one h0 z in calm-mid z (omega (arith, r, t)) (omega (arith, r, t, o))

    key-mid : key_at h1 was.offset ≡ Some m.key
    key-mid = key-moved h0 h1 was.offset offset-mid ∙ key-looked h0 was.offset m stands.0.reads

    pub key-then : key_at h2 was.offset ≡ Some (noted_subkeys un.count un.list 0 moment m.key)
    key-then = un.notes.reads m.key key-mid

    pub same-number : (z : ℕ) → allocated h2 z ≡ allocated h1 z
    same-number z = elim (cases_eq z was.offset) [
      | inl e ↦ subst (λ x. allocated h2 x ≡ allocated h1 x) (sym e) (allocated-is h2 was.offset (key-exists h2 was.offset (is_some_of _ _ key-then)) ∙
          sym (allocated-is h1 was.offset (key-exists h1 was.offset (is_some_of _ _ key-mid))))
      | inr n ↦ ap (λ (c : Option (List ℕ)). cond (is_some c) 1 0) (un.notes.others z n)
    ]

    pub calm-then : (z : ℕ) → 0 < allocated h0 z → times z old_list ≡ 0 → times z (was.offset ∷ []) ≡ 0 → h2 z ≡ h0 z
    calm-then z some a c = un.notes.others z (not-there z was.offset c) ∙ calm-mid z some a

    key-calm : Keeps h0 h2 (cells_of n)
    key-calm z some =
        let r = room z in let o = at-most-one h0 z in let q = n-parts z in
        calm-then z (omega (arith, r, q, some)) (omega (arith, r, o, q, some)) (omega (arith, r, o, q, some))

    pub key-left : look h2 b.offset ≡ Some n
    key-left = look-local h0 h2 b.offset n key_stands.0.reads key-calm

    pub sole : IsSole h2 b.offset
    sole =
        let v = n_l.values_are in
        let k = n.key in
        record {
          node = n;
          reads = key-left;
          once = λ z. (let r = room z in let c = moves.count z in let o = at-most-one h0 z in let q = same-number z in omega (arith, r, c, o, q));
          values = list-kept h0 h2 k.fields.values k.fields.values_list n.values n_l.value_cells v
              (agree-inner h0 h2 n_l.value_cells (members-inner h0 k.fields.values k.fields.values_list (n.values, n_l.value_cells) v)
              (λ z some. key-calm z (let a = tally-append (is_own z) n.cells (index_cells n.index) in
              let c = ap (owned z) n_l.cells ∙ own-met z b.offset k n_l.class_cells n_l.value_cells in omega (arith, a, c, some))))
              key_stands.0.written.values.list;
        }

    -- ---- when its cells were given up

    module _ (h4 : Heap) (freed : CellFrame h2 h4 (λ z. owned z n.cells) (λ z. 0)) where
      pub calm-freed : (z : ℕ) → 0 < allocated h0 z → times z old_list ≡ 0 → times z (was.offset ∷ []) ≡ 0 → owned z n.cells ≡ 0 → h4 z ≡ h0 z
      calm-freed z some a c d = freed.same z d refl ∙ calm-then z some a c

      -- the ring is as it was

      pub ring-calm : (z : ℕ) → 0 < times z ring → h4 z ≡ h0 z
      ring-calm z some =
          let r = room z in let o = at-most-one h0 z in
          calm-freed z (omega (arith, r, some)) (omega (arith, r, o, some)) (omega (arith, r, o, some)) (omega (arith, r, o, some))

      pub ring-then : IsRing h4 ring
      ring-then =
          ring-recounted h0 h4 was was ring
          (all-members (λ z. IsRecounted h0 h4 (total_of (shares z) was) (total_of (shares z) was) z) ring
          (λ z l. recounted-same h0 h4 (total_of (shares z) was) (total_of (shares z) was) z (ring-calm z l) refl
          (all-at (IsWrittenSecurity h0) ring z w.closed.written l)))
          w.closed

      pub described-then : (z : ℕ) → 0 < times z ring → descriptor_at h4 z ≡ descriptor_at h0 z
      described-then z l = ap (option_map (λ (s : KeySecurityRecord). s.descriptor)) (security_at-same h0 h4 z (ring-calm z l))

      pub uses-then : (z : ℕ) → uses_in h4 ring z ≡ uses_in h0 ring z
      uses-then z = same-uses h0 h4 ring ring z refl (λ l. ap (option_map (λ (s : KeySecurityRecord). s.fields.count)) (security_at-same h0 h4 z (ring-calm z l)))

      pub used-then : (z : ℕ) → 0 < times z ring → 0 < uses_in h4 ring z
      used-then z l =
          let a = uses-then z in
          let c = uses-named h0 root keys ring [] w z in
          let s = (w.ringed z).1 l in
          omega (arith, a, c, s)

      -- the key names its security once, and no other
      pub names-once : (z : ℕ) → shared z (cells_of n) ≡ times z (s ∷ [])
      names-once z =
          let k = n.key in
          let a = ap (λ (found : List Found). shared z (found ++ index_cells n.index)) n_l.cells ∙ shared-parts z b.offset k n_l.class_cells n_l.value_cells n.index in
          let c = inner-unshared z n_l.class_cells (class-inner h0 k.fields.class_length k.fields.class (n.class, n_l.class_cells) n_l.class_is) in
          let v = inner-unshared z n_l.value_cells (members-inner h0 k.fields.values k.fields.values_list (n.values, n_l.value_cells) n_l.values_are) in
          let i : ◌≡◌ {A = ℕ} (shared z (index_cells n.index)) 0 = ap (λ i. shared z (index_cells i)) n-unlisted in
          let o : ◌≡◌ {A = ℕ} (is_shared z (record { kind = Security; offset = s })) (cond (s == z) 1 0) = refl in
          omega (arith, a, c, v, i, o)

      pub count-then : count_at h4 s ≡ Some (total_of (shares s) keys)
      count-then =
          ap (option_map (λ (s : KeySecurityRecord). s.fields.count)) (security_at-same h0 h4 s (ring-calm s secured))
          ∙ all-at (λ z. count_at h0 z ≡ Some (total_of (shares z) keys)) ring s w.counts secured

      pub some-then : (n : ℕ) → count_at h4 s ≡ Some n → 1 ≤ n
      some-then n e =
          let q = same_Some _ _ (sym count-then ∙ e) in
          let l = (w.ringed s).1 secured in
          omega (arith, q, l)

      pub finds-then : (table : DescriptorCells) → Finds table h0 ring → Finds table h4 ring
      finds-then table f = finds-same table h0 h4 ring f described-then
