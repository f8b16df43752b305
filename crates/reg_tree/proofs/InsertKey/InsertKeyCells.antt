-- A key made below another: the made key, its parent's key node and the subkeys, as they are in the cells then.
use Rattle.std.proofs.Common.{◌≡◌, ◌≢◌, ℕ, ◌+◌, ◌*◌, ◌%◌, ◌≤◌, ◌<◌, max, true, Some, None, IsSome, List, [], ◌∷◌, ◌++◌, map, length}
use Rattle.std.proofs.Common.{sym, ap, ◌∙◌, subst, arith}
use Rattle.std.specs.Prelude.{Err}
use Rattle.std.specs.List.{AllByRecursion}
use Rattle.reg_names.specs.declared.TheConstants.{KEY_NAME_LIMIT}
use Rattle.reg_names.specs.Names.{folded, is_key_name}
use Rattle.reg_heap.specs.declared.limits.TheConstants.{SUBKEYS_LIMIT}
use Rattle.reg_heap.specs.Paths.{Path}
use Rattle.reg_heap.specs.Heaps.{Heap, allocated}
use Rattle.reg_heap.specs.Kinds.{times, is_own, owned}
use Rattle.reg_heap.specs.Kinds.Kind.{Key}
use Rattle.reg_shape.specs.Internal.Forests.{Branch, heads, total}
use Rattle.reg_records.specs.RecordCells.{held}
use Rattle.reg_records.specs.KeyNodes.{KeyRecord, key_at, IsPlainKey}
use Rattle.reg_records.specs.KeySecurities.{security_at}
use Rattle.reg_records.specs.SubkeyLists.{Entry}
use Rattle.reg_shape.specs.Nodes.{Node, entries_of}
use Rattle.reg_shape.specs.Written.{IsWrittenSecurity}
use Rattle.reg_shape.specs.Internal.Shapes.{index_cells, owns, IsSeen, StandsIn}
use Rattle.reg_shape.specs.Internal.Grafts.{IsShape}
use Rattle.reg_shape.specs.PathLookup.{key_offset_at, subkey_named}
use Rattle.reg_records.proofs.KeyNodeCodec.{key_at-same}
use Rattle.reg_shape.proofs.Frame.WrittenFrame.{same-held}
use Rattle.reg_shape.proofs.Walking.WalkRefinement.{IsLooked}
use Rattle.reg_shape.proofs.Graft.ForestInsertFits.{all-inserted}
use Rattle.reg_index.specs.Subkeys.{AreSubkeys, IsIndexFor, Moves, names_in, entry_for, with_one, cells_of_index, own}
use Rattle.reg_index.proofs.SubkeysOpening.{own-is}
use Rattle.reg_index.proofs.SubkeysFrame.{own-stays}
use Rattle.reg_index.proofs.RefinementOfSubkeys.{subkeys-elsewhere}
use Rattle.reg_security.specs.Rings.{Recounts}
use Rattle.reg_tree.specs.Internal.KeyNodeChanges.{Notes, noted_subkeys, raised}
use Rattle.reg_tree.proofs.InsertKey.MadeKeyRecord.{made_record, made_node, made-seen}
use Rattle.reg_tree.proofs.InsertKey.ParentReindexed.{reindexed, sees-reindexed}
use Rattle.reg_tree.proofs.Invariant.UntouchedCells.{times-one, moved-none}
use Rattle.reg_tree.proofs.Invariant.KeyOfShape as keyed
use Rattle.reg_tree.proofs.InsertKey.InsertKeyFrame.{name_of_head, raised-low}
use Rattle.reg_tree.proofs.InsertKey.InsertKeyFrame as frame

module _ (h0 h1 h2 h3 h4 : Heap) (root : ℕ) (keys : Branch Node) (ring : List ℕ) (p : Path) (parent : ℕ)
    (carved : List ℕ) (key : ℕ) (left : List ℕ)
    (w : IsShape h0 root keys ring (carved ++ key ∷ left)) (at : key_offset_at h0 root p ≡ Some parent) where
  abbrev spare : List ℕ
  spare = carved ++ key ∷ left

  abbrev was : Branch Node
  was = keyed.branch h0 root keys ring spare w p parent at

  abbrev node : Node
  node = was.node

  abbrev above : KeyRecord
  above = node.key

  abbrev entries : List Entry
  entries = entries_of node.index

  abbrev pub looked : IsLooked h0 was.offset node
  looked = frame.looked h0 h1 h2 h3 h4 root keys ring p parent carved key left w at

  abbrev pub seen : IsSeen h0 root was.offset node
  seen = frame.seen h0 h1 h2 h3 h4 root keys ring p parent carved key left w at

  pub offset : was.offset ≡ parent
  offset = frame.offset h0 h1 h2 h3 h4 root keys ring p parent carved key left w at

  pub security-ringed : 0 < times above.fields.security ring
  security-ringed = frame.security-ringed h0 h1 h2 h3 h4 root keys ring p parent carved key left w at

  abbrev stands0 : StandsIn h0 root was
  stands0 = keyed.stands h0 root keys ring spare w p parent at

  pub names0 : names_in h0 entries ≡ map name_of_head (heads was.below)
  names0 = frame.names0 h0 h1 h2 h3 h4 root keys ring p parent carved key left w at

  abbrev K : ℕ → ℕ
  K z = is_own z (record { kind = Key; offset = was.offset })

  abbrev old_list : List ℕ
  old_list = cells_of_index node.index

  pub own-index : (z : ℕ) → owned z (index_cells node.index) ≡ times z old_list
  own-index = frame.own-index h0 h1 h2 h3 h4 root keys ring p parent carved key left w at

  not-root : key ≢ root
  not-root = frame.not-root h0 h1 h2 h3 h4 root keys ring p parent carved key left w at

  pub budget : (z : ℕ) → ((K z + (owned z looked.class_cells + owned z looked.value_cells)) + (times z old_list + total (owns z) was.below)) +
      (times z ring + (times z carved + (times z (key ∷ []) + times z left))) ≤ allocated h0 z
  budget = frame.budget h0 h1 h2 h3 h4 root keys ring p parent carved key left w at

  pub one : (z : ℕ) → allocated h0 z ≤ 1
  one = frame.one h0 h1 h2 h3 h4 root keys ring p parent carved key left w at

  module _ (others1 : (z : ℕ) → z ≢ key → h1 z ≡ h0 z) (there1 : IsSome (h1 key)) where
    calm1 : (z : ℕ) → times z (key ∷ []) ≡ 0 → h1 z ≡ h0 z
    calm1 = frame.calm1 h0 h1 h2 h3 h4 root keys ring p parent carved key left w at others1 there1

    pub allocated1 : (z : ℕ) → allocated h1 z ≡ allocated h0 z
    allocated1 = frame.allocated1 h0 h1 h2 h3 h4 root keys ring p parent carved key left w at others1 there1

    below-all : (Q : ℕ → Type 0) → ((z : ℕ) → 0 < total (owns z) was.below → Q z) → AllByRecursion (λ (e : Entry). Q e.offset) entries
    below-all = frame.below-all h0 h1 h2 h3 h4 root keys ring p parent carved key left w at others1 there1

    module _ (count1 list1 : ℕ) (moves : Moves h1 h2 (old_list ++ carved) (own h2 count1 list1)) where
      pub before : (z : ℕ) → times z (old_list ++ carved) ≡ times z old_list + times z carved
      before = frame.before h0 h1 h2 h3 h4 root keys ring p parent carved key left w at others1 there1 count1 list1 moves

      calm2 : (z : ℕ) → 0 < allocated h0 z → times z old_list ≡ 0 → times z carved ≡ 0 → h2 z ≡ h1 z
      calm2 = frame.calm2 h0 h1 h2 h3 h4 root keys ring p parent carved key left w at others1 there1 count1 list1 moves

      abbrev P : ℕ
      P = was.offset

      P-own : K P ≡ 1
      P-own = frame.P-own h0 h1 h2 h3 h4 root keys ring p parent carved key left w at others1 there1 count1 list1 moves

      P-calm : h2 P ≡ h0 P
      P-calm = frame.P-calm h0 h1 h2 h3 h4 root keys ring p parent carved key left w at others1 there1 count1 list1 moves

      pub P-then : key_at h2 P ≡ Some above
      P-then = frame.P-then h0 h1 h2 h3 h4 root keys ring p parent carved key left w at others1 there1 count1 list1 moves

      module _ (name : List ℕ) (moment : ℕ) (notes : Notes h2 h3 parent (noted_subkeys count1 list1 (length name) moment)) where
        pub its-notes : Notes h2 h3 was.offset (noted_subkeys count1 list1 (length name) moment)
        its-notes = frame.its-notes h0 h1 h2 h3 h4 root keys ring p parent carved key left w at others1 there1 count1 list1 moves name moment notes

        calm3 : (z : ℕ) → K z ≡ 0 → h3 z ≡ h2 z
        calm3 = frame.calm3 h0 h1 h2 h3 h4 root keys ring p parent carved key left w at others1 there1 count1 list1 moves name moment notes

        abbrev pub written : IsWrittenSecurity h0 above.fields.security
        written = frame.written h0 h1 h2 h3 h4 root keys ring p parent carved key left w at others1 there1 count1 list1 moves name moment notes

        pub security-calm : h3 above.fields.security ≡ h0 above.fields.security
        security-calm = frame.security-calm h0 h1 h2 h3 h4 root keys ring p parent carved key left w at others1 there1 count1 list1 moves name moment notes

        pub security-there : security_at h3 above.fields.security ≡ Some written.security
        security-there = frame.security-there h0 h1 h2 h3 h4 root keys ring p parent carved key left w at others1 there1 count1 list1 moves name moment notes

        module _ (index : ℕ) (good : is_key_name name ≡ true) (short : length name ≤ KEY_NAME_LIMIT)
            (key1 : key_at h1 key ≡ Some (made_record parent above.fields.security moment name)) (plain1 : IsPlainKey (held h1 key))
            (stands_at : IsIndexFor (names_in h0 entries) (folded name) (Err index)) (missing : subkey_named h0 (folded name) parent ≡ None)
            (subkeys2 : AreSubkeys h2 count1 list1 (with_one index (entry_for h1 key) entries)) (count_is : count1 ≡ above.fields.subkeys + 1)
            (few : above.fields.subkeys < SUBKEYS_LIMIT) (recounts : Recounts h3 h4 above.fields.security (λ n. n + 1)) where
          abbrev security : ℕ
          security = above.fields.security

          abbrev entries1 : List Entry
          entries1 = with_one index (entry_for h1 key) entries

          not-new-list : (z : ℕ) → 0 < allocated h0 z → times z old_list ≡ 0 → times z carved ≡ 0 → times z (own h2 count1 list1) ≡ 0
          not-new-list z some a b = let x = allocated1 z in let y = before z in
              moved-none h1 h2 (old_list ++ carved) (own h2 count1 list1) moves z (omega (arith, some, x)) (omega (arith, a, b, y))

          calm4 : (z : ℕ) → times z ring ≡ 0 → h4 z ≡ h3 z
          calm4 z none = recounts.others z (λ e. (let l = subst (λ s. 0 < times s ring) (sym e) security-ringed in omega (arith, l, none)))

          pub calm : (z : ℕ) → 0 < allocated h0 z → times z (key ∷ []) ≡ 0 → times z old_list ≡ 0 → times z carved ≡ 0 → K z ≡ 0 → times z ring ≡ 0 → h4 z ≡ h0 z
          calm z some k a b c d = calm4 z d ∙ (calm3 z c ∙ (calm2 z some a b ∙ calm1 z k))

          -- the other securities stay
          pub calm-ring : (z : ℕ) → 0 < times z ring → z ≢ security → h4 z ≡ h0 z
          calm-ring z l n = let b = budget z in let o = one z in recounts.others z n ∙ (calm3 z (omega (arith, b, o, l)) ∙
              (calm2 z (omega (arith, b, l)) (omega (arith, b, o, l)) (omega (arith, b, o, l)) ∙ calm1 z (omega (arith, b, o, l))))

          pub calm-below : (z : ℕ) → 0 < total (owns z) was.below → h4 z ≡ h0 z
          calm-below z l = let b = budget z in let o = one z in calm z (omega (arith, b, l)) (omega (arith, b, o, l)) (omega (arith, b, o, l))
              (omega (arith, b, o, l)) (omega (arith, b, o, l)) (omega (arith, b, o, l))

          pub calm-class : (z : ℕ) → 0 < owned z looked.class_cells → h4 z ≡ h0 z
          calm-class z l = let b = budget z in let o = one z in calm z (omega (arith, b, l)) (omega (arith, b, o, l)) (omega (arith, b, o, l))
              (omega (arith, b, o, l)) (omega (arith, b, o, l)) (omega (arith, b, o, l))

          pub calm-values : (z : ℕ) → 0 < owned z looked.value_cells → h4 z ≡ h0 z
          calm-values z l = let b = budget z in let o = one z in calm z (omega (arith, b, l)) (omega (arith, b, o, l)) (omega (arith, b, o, l))
              (omega (arith, b, o, l)) (omega (arith, b, o, l)) (omega (arith, b, o, l))

          P-last : h4 P ≡ h3 P
          P-last = let b = budget P in let o = one P in let k = P-own in calm4 P (omega (arith, b, o, k))

          abbrev new_above : KeyRecord
          new_above = noted_subkeys count1 list1 (length name) moment above

          pub key-noted : key_at h3 P ≡ Some new_above
          key-noted = its-notes.reads above P-then

          pub key-now : key_at h4 P ≡ Some new_above
          key-now = key_at-same h3 h4 P P-last ∙ key-noted

          pub plain-now : IsPlainKey (held h4 P)
          plain-now = subst IsPlainKey (sym (same-held h3 h4 P P-last)) (its-notes.plain (subst IsPlainKey (sym (same-held h0 h2 P P-calm)) seen.written.plain))

          -- ---- the made key

          key-once : times key (key ∷ []) ≡ 1
          key-once = times-one key

          pub key-calm : h4 key ≡ h1 key
          key-calm = let b = budget key in let o = one key in let k = key-once in calm4 key (omega (arith, b, o, k)) ∙
              (calm3 key (omega (arith, b, o, k)) ∙ calm2 key (omega (arith, b, k)) (omega (arith, b, o, k)) (omega (arith, b, o, k)))

          abbrev made : Node
          made = made_node key (made_record parent security moment name)

          pub made-is : IsSeen h4 root key made
          made-is = made-seen h4 key parent security moment name root not-root (key_at-same h1 h4 key key-calm ∙ key1) good (subst IsPlainKey (sym (same-held h1 h4 key key-calm)) plain1)

          -- ---- the subkeys

          list-calm : (z : ℕ) → 0 < times z (own h2 count1 list1) → h4 z ≡ h2 z
          list-calm z l =
              let b = budget P in let o = one P in let k = P-own in
              let c = budget security in let q = one security in let f = security-ringed in
              let not-P = not-new-list P (omega (arith, b, k)) (omega (arith, b, o, k)) (omega (arith, b, o, k)) in
              let not-security = not-new-list security (omega (arith, c, f)) (omega (arith, c, q, f)) (omega (arith, c, q, f)) in
              recounts.others z (λ e. (let m = subst (λ s. 0 < times s (own h2 count1 list1)) e l in omega (arith, m, not-security)))
              ∙ its-notes.others z (λ e. (let m = subst (λ s. 0 < times s (own h2 count1 list1)) e l in omega (arith, m, not-P)))

          pub subkeys4 : AreSubkeys h4 count1 list1 entries1
          subkeys4 = subkeys-elsewhere h2 h4 count1 list1 entries1 subkeys2 list-calm
              (all-inserted (λ (e : Entry). key_at h4 e.offset ≡ key_at h2 e.offset) index (entry_for h1 key) entries key-same
              (below-all (λ o. key_at h4 o ≡ key_at h2 o) (λ z l. key_at-same h2 h4 z (below-late z l))))
            where
              below-late : (z : ℕ) → 0 < total (owns z) was.below → h4 z ≡ h2 z
              below-late z l = let b = budget z in let o = one z in calm4 z (omega (arith, b, o, l)) ∙ calm3 z (omega (arith, b, o, l))

              key-same : key_at h4 key ≡ key_at h2 key
              key-same = let b = budget key in let o = one key in let k = key-once in key_at-same h2 h4 key (calm4 key (omega (arith, b, o, k)) ∙ calm3 key (omega (arith, b, o, k)))

          -- its index's cells
          pub new-list : (z : ℕ) → times z (cells_of_index subkeys4.index) ≡ times z (own h2 count1 list1)
          new-list z = ap (times z) (sym (own-is h4 count1 list1 subkeys4.index subkeys4.read) ∙ own-stays h2 h4 count1 list1 entries1 subkeys2 list-calm)

          -- ---- the parent as it is now

          abbrev now : Node
          now = reindexed h0 h4 root P node seen looked count1 list1 (length name) moment entries1 key-now plain-now calm-class calm-values subkeys4

          pub now-is : IsSeen h4 root P now
          now-is = sees-reindexed h0 h4 root P node seen looked count1 list1 (length name) moment entries1 key-now plain-now calm-class calm-values subkeys4 (omega (arith, short))
              (omega (arith, count_is, few))

          pub raised-is : raised above.fields.largest_subkey_name (2 * length name) % 65536 ≡ max (above.fields.largest_subkey_name % 65536) (2 * length name)
          raised-is = raised-low above.fields.largest_subkey_name (2 * length name) (omega (arith, short))
