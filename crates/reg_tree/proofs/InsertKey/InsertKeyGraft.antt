-- A key made below another, as a graft of its parent's branch.
use Rattle.std.proofs.Common.{◌≡◌, ◌≢◌, ℕ, zero, suc, ◌+◌, ◌*◌, ◌%◌, ◌≤◌, ◌<◌, max, true, Some, None, IsSome, List, [], ◌∷◌, ◌++◌, ◌⊎◌, inl, inr, take, drop, map, length}
use Rattle.std.proofs.Common.{refl, sym, ap, ◌∙◌, subst, arith}
use Rattle.std.specs.Prelude.{Err}
use Rattle.std.specs.List.{AllByRecursion}
use Rattle.std.specs.Ordering.{nat_cmp}
use Rattle.std.specs.declared.cmp.Ordering.TheVariants.{Less}
use Rattle.std.specs.Cmp.Lexicographic.{slice_cmp}
use Rattle.std.proofs.lemmas.Bool.{cases_eq}
use Rattle.std.proofs.lemmas.List.{take-map, drop-map}
use Rattle.reg_names.specs.declared.TheConstants.{KEY_NAME_LIMIT}
use Rattle.reg_arena.proofs.FreeList.ThreadLinks.{times-append}
use Rattle.reg_names.specs.Names.{folded, hash, is_key_name}
use Rattle.reg_heap.specs.declared.limits.TheConstants.{SUBKEYS_LIMIT}
use Rattle.reg_heap.specs.Paths.{Path}
use Rattle.reg_heap.specs.Heaps.{Heap, allocated}
use Rattle.reg_heap.specs.Kinds.{Found, times, is_own, owned}
use Rattle.reg_heap.specs.Kinds.Kind.{Key}
use Rattle.reg_shape.specs.Internal.Forests.{Branch, heads, total, total_of}
use Rattle.reg_records.specs.RecordCells.{held}
use Rattle.reg_records.specs.KeyNodes.{KeyRecord, key_at, IsPlainKey}
use Rattle.reg_records.specs.KeySecurities.{security_at, IsPlainSecurity}
use Rattle.reg_records.specs.SubkeyLists.{Entry}
use Rattle.reg_shape.specs.Nodes.{Node, entries_of}
use Rattle.reg_shape.specs.Written.{Precedes, Fits, IsWrittenSecurity}
use Rattle.reg_shape.specs.Internal.Shapes.{cells_of, index_cells, owns, shares, IsSeen, StandsIn}
use Rattle.reg_shape.specs.Internal.Grafts.{IsShape, IsGraftedInRing, IsRecounted, hang}
use Rattle.reg_shape.specs.PathLookup.{key_offset_at, subkey_named}
use Rattle.reg_shape.proofs.Frame.WrittenFrame.{same-held}
use Rattle.reg_shape.proofs.Walking.WalkRefinement.{IsLooked}
use Rattle.reg_shape.proofs.Wholeness.ShapeRecords.{all-at, shares-own}
use Rattle.reg_shape.proofs.Graft.ForestInsert.{total-hang}
use Rattle.reg_shape.proofs.Graft.GraftOfExchange.{recounted-same}
use Rattle.reg_shape.proofs.Graft.ForestInsertFits.{all-before, all-behind, all-mapped, fits-hung, stands-hung}
use Rattle.reg_index.specs.Subkeys.{AreSubkeys, IsIndexFor, Moves, names_in, name_at, name_or_none, entry_for, with_one, cells_of_index, own}
use Rattle.reg_index.proofs.SubkeysFrame.{times-not, owned-index}
use Rattle.reg_security.specs.Rings.{Recounts}
use Rattle.reg_tree.specs.Internal.KeyNodeChanges.{Notes, noted_subkeys, raised}
use Rattle.reg_tree.proofs.Invariant.CellReadings.{key-exists, security-exists, is_some_of}
use Rattle.reg_tree.proofs.Invariant.OwnCells.{own-parts}
use Rattle.reg_tree.proofs.InsertKey.MadeKeyRecord.{made_record, made_node, made-owns, made-shares}
use Rattle.reg_tree.proofs.InsertKey.ParentReindexed.{reindexed, owned-reindexed, shared-reindexed}
use Rattle.reg_tree.proofs.Invariant.UntouchedCells.{there-is, times-one, written-allocated}
use Rattle.reg_tree.proofs.Invariant.KeyOfShape as keyed
use Rattle.reg_tree.proofs.InsertKey.InsertKeyFrame.{name_of_head}
use Rattle.reg_tree.proofs.InsertKey.InsertKeyCells as cells

module _ (h0 h1 h2 h3 h4 : Heap) (root : ℕ) (keys : Branch Node) (ring : List ℕ) (p : Path) (parent : ℕ)
    (carved : List ℕ) (key : ℕ) (left : List ℕ)
    (w : IsShape h0 root keys ring (carved ++ key ∷ left)) (at : key_offset_at h0 root p ≡ Some parent) where
  abbrev spare : List ℕ
  spare = carved ++ key ∷ left

  abbrev was : Branch Node
  was = keyed.branch h0 root keys ring spare w p parent at

  abbrev node : Node
  node = was.node

  abbrev above : KeyRecord
  above = node.key

  abbrev entries : List Entry
  entries = entries_of node.index

  abbrev looked : IsLooked h0 was.offset node
  looked = cells.looked h0 h1 h2 h3 h4 root keys ring p parent carved key left w at

  abbrev seen : IsSeen h0 root was.offset node
  seen = cells.seen h0 h1 h2 h3 h4 root keys ring p parent carved key left w at

  offset : was.offset ≡ parent
  offset = cells.offset h0 h1 h2 h3 h4 root keys ring p parent carved key left w at

  security-ringed : 0 < times above.fields.security ring
  security-ringed = cells.security-ringed h0 h1 h2 h3 h4 root keys ring p parent carved key left w at

  abbrev stands0 : StandsIn h0 root was
  stands0 = keyed.stands h0 root keys ring spare w p parent at

  names0 : names_in h0 entries ≡ map name_of_head (heads was.below)
  names0 = cells.names0 h0 h1 h2 h3 h4 root keys ring p parent carved key left w at

  abbrev K : ℕ → ℕ
  K z = is_own z (record { kind = Key; offset = was.offset })

  abbrev old_list : List ℕ
  old_list = cells_of_index node.index

  own-index : (z : ℕ) → owned z (index_cells node.index) ≡ times z old_list
  own-index = cells.own-index h0 h1 h2 h3 h4 root keys ring p parent carved key left w at

  budget : (z : ℕ) → ((K z + (owned z looked.class_cells + owned z looked.value_cells)) + (times z old_list + total (owns z) was.below)) +
      (times z ring + (times z carved + (times z (key ∷ []) + times z left))) ≤ allocated h0 z
  budget = cells.budget h0 h1 h2 h3 h4 root keys ring p parent carved key left w at

  one : (z : ℕ) → allocated h0 z ≤ 1
  one = cells.one h0 h1 h2 h3 h4 root keys ring p parent carved key left w at

  module _ (others1 : (z : ℕ) → z ≢ key → h1 z ≡ h0 z) (there1 : IsSome (h1 key)) where
    allocated1 : (z : ℕ) → allocated h1 z ≡ allocated h0 z
    allocated1 = cells.allocated1 h0 h1 h2 h3 h4 root keys ring p parent carved key left w at others1 there1

    module _ (count1 list1 : ℕ) (moves : Moves h1 h2 (old_list ++ carved) (own h2 count1 list1)) where
      before : (z : ℕ) → times z (old_list ++ carved) ≡ times z old_list + times z carved
      before = cells.before h0 h1 h2 h3 h4 root keys ring p parent carved key left w at others1 there1 count1 list1 moves

      abbrev P : ℕ
      P = was.offset

      P-then : key_at h2 P ≡ Some above
      P-then = cells.P-then h0 h1 h2 h3 h4 root keys ring p parent carved key left w at others1 there1 count1 list1 moves

      module _ (name : List ℕ) (moment : ℕ) (notes : Notes h2 h3 parent (noted_subkeys count1 list1 (length name) moment)) where
        its-notes : Notes h2 h3 was.offset (noted_subkeys count1 list1 (length name) moment)
        its-notes = cells.its-notes h0 h1 h2 h3 h4 root keys ring p parent carved key left w at others1 there1 count1 list1 moves name moment notes

        abbrev written : IsWrittenSecurity h0 above.fields.security
        written = cells.written h0 h1 h2 h3 h4 root keys ring p parent carved key left w at others1 there1 count1 list1 moves name moment notes

        security-calm : h3 above.fields.security ≡ h0 above.fields.security
        security-calm = cells.security-calm h0 h1 h2 h3 h4 root keys ring p parent carved key left w at others1 there1 count1 list1 moves name moment notes

        security-there : security_at h3 above.fields.security ≡ Some written.security
        security-there = cells.security-there h0 h1 h2 h3 h4 root keys ring p parent carved key left w at others1 there1 count1 list1 moves name moment notes

        module _ (index : ℕ) (good : is_key_name name ≡ true) (short : length name ≤ KEY_NAME_LIMIT)
            (key1 : key_at h1 key ≡ Some (made_record parent above.fields.security moment name)) (plain1 : IsPlainKey (held h1 key))
            (stands_at : IsIndexFor (names_in h0 entries) (folded name) (Err index)) (missing : subkey_named h0 (folded name) parent ≡ None)
            (subkeys2 : AreSubkeys h2 count1 list1 (with_one index (entry_for h1 key) entries)) (count_is : count1 ≡ above.fields.subkeys + 1)
            (few : above.fields.subkeys < SUBKEYS_LIMIT) (recounts : Recounts h3 h4 above.fields.security (λ n. n + 1)) where
          abbrev security : ℕ
          security = above.fields.security

          abbrev entries1 : List Entry
          entries1 = with_one index (entry_for h1 key) entries

          calm : (z : ℕ) → 0 < allocated h0 z → times z (key ∷ []) ≡ 0 → times z old_list ≡ 0 → times z carved ≡ 0 → K z ≡ 0 → times z ring ≡ 0 → h4 z ≡ h0 z
          calm = cells.calm h0 h1 h2 h3 h4 root keys ring p parent carved key left w at others1 there1 count1 list1 moves name
              moment notes index good short key1 plain1 stands_at missing subkeys2 count_is few recounts

          calm-ring : (z : ℕ) → 0 < times z ring → z ≢ security → h4 z ≡ h0 z
          calm-ring = cells.calm-ring h0 h1 h2 h3 h4 root keys ring p parent carved key left w at others1 there1 count1 list1
              moves name moment notes index good short key1 plain1 stands_at missing subkeys2 count_is few recounts

          calm-below : (z : ℕ) → 0 < total (owns z) was.below → h4 z ≡ h0 z
          calm-below = cells.calm-below h0 h1 h2 h3 h4 root keys ring p parent carved key left w at others1 there1 count1 list1
              moves name moment notes index good short key1 plain1 stands_at missing subkeys2 count_is few recounts

          pub calm-class : (z : ℕ) → 0 < owned z looked.class_cells → h4 z ≡ h0 z
          calm-class = cells.calm-class h0 h1 h2 h3 h4 root keys ring p parent carved key left w at others1 there1 count1 list1
              moves name moment notes index good short key1 plain1 stands_at missing subkeys2 count_is few recounts

          pub calm-values : (z : ℕ) → 0 < owned z looked.value_cells → h4 z ≡ h0 z
          calm-values = cells.calm-values h0 h1 h2 h3 h4 root keys ring p parent carved key left w at others1 there1 count1 list1
              moves name moment notes index good short key1 plain1 stands_at missing subkeys2 count_is few recounts

          abbrev new_above : KeyRecord
          new_above = noted_subkeys count1 list1 (length name) moment above

          key-noted : key_at h3 P ≡ Some new_above
          key-noted = cells.key-noted h0 h1 h2 h3 h4 root keys ring p parent carved key left w at others1 there1 count1 list1 moves
              name moment notes index good short key1 plain1 stands_at missing subkeys2 count_is few recounts

          pub key-now : key_at h4 P ≡ Some new_above
          key-now = cells.key-now h0 h1 h2 h3 h4 root keys ring p parent carved key left w at others1 there1 count1 list1 moves
              name moment notes index good short key1 plain1 stands_at missing subkeys2 count_is few recounts

          pub plain-now : IsPlainKey (held h4 P)
          plain-now = cells.plain-now h0 h1 h2 h3 h4 root keys ring p parent carved key left w at others1 there1 count1 list1 moves
              name moment notes index good short key1 plain1 stands_at missing subkeys2 count_is few recounts

          abbrev made : Node
          made = made_node key (made_record parent security moment name)

          made-is : IsSeen h4 root key made
          made-is = cells.made-is h0 h1 h2 h3 h4 root keys ring p parent carved key left w at others1 there1 count1 list1 moves
              name moment notes index good short key1 plain1 stands_at missing subkeys2 count_is few recounts

          abbrev pub subkeys4 : AreSubkeys h4 count1 list1 entries1
          subkeys4 = cells.subkeys4 h0 h1 h2 h3 h4 root keys ring p parent carved key left w at others1 there1 count1 list1 moves
              name moment notes index good short key1 plain1 stands_at missing subkeys2 count_is few recounts

          new-list : (z : ℕ) → times z (cells_of_index subkeys4.index) ≡ times z (own h2 count1 list1)
          new-list = cells.new-list h0 h1 h2 h3 h4 root keys ring p parent carved key left w at others1 there1 count1 list1 moves
              name moment notes index good short key1 plain1 stands_at missing subkeys2 count_is few recounts

          abbrev now : Node
          now = reindexed h0 h4 root P node seen looked count1 list1 (length name) moment entries1 key-now plain-now calm-class calm-values subkeys4

          now-is : IsSeen h4 root P now
          now-is = cells.now-is h0 h1 h2 h3 h4 root keys ring p parent carved key left w at others1 there1 count1 list1 moves name
              moment notes index good short key1 plain1 stands_at missing subkeys2 count_is few recounts

          raised-is : raised above.fields.largest_subkey_name (2 * length name) % 65536 ≡ max (above.fields.largest_subkey_name % 65536) (2 * length name)
          raised-is = cells.raised-is h0 h1 h2 h3 h4 root keys ring p parent carved key left w at others1 there1 count1 list1 moves
              name moment notes index good short key1 plain1 stands_at missing subkeys2 count_is few recounts

          ordered-before : AllByRecursion (λ (e : ℕ × Node). Precedes e.1.key.name name) (take index (heads was.below))
          ordered-before =
              all-mapped name_of_head (λ y. slice_cmp nat_cmp y (folded name) ≡ Less) (take index (heads was.below))
              (subst (AllByRecursion (λ y. slice_cmp nat_cmp y (folded name) ≡ Less)) (ap (take index) names0 ∙ take-map name_of_head index (heads was.below))
              (all-before (λ y. slice_cmp nat_cmp y (folded name) ≡ Less) [] index (names_in h0 entries) stands_at.0 stands_at.1))

          ordered-behind : AllByRecursion (λ (e : ℕ × Node). Precedes name e.1.key.name) (drop index (heads was.below))
          ordered-behind =
              all-mapped name_of_head (λ y. slice_cmp nat_cmp (folded name) y ≡ Less) (drop index (heads was.below))
              (subst (AllByRecursion (λ y. slice_cmp nat_cmp (folded name) y ≡ Less)) (ap (drop index) names0 ∙ drop-map name_of_head index (heads was.below))
              (all-behind (λ y. slice_cmp nat_cmp (folded name) y ≡ Less) [] index (names_in h0 entries) stands_at.2))

          its-name : name_at h1 key ≡ name
          its-name = ap name_or_none key1

          fits-now : Fits P now (heads (hang index key made was.below))
          fits-now = fits-hung P index key node now made (entry_for h1 key) subkeys4.entries_are refl (ap hash its-name) (sym offset)
              (let r = raised-is in omega (arith, r)) (let r = raised-is in omega (arith, r)) (omega arith) (omega arith) was.below ordered-before ordered-behind stands0.1

          abbrev is : Branch Node
          is = record { offset = P; node = now; below = hang index key made was.below }

          stands-now : StandsIn h4 root is
          stands-now = stands-hung h0 h4 root was now index now-is stands0.2 key made fits-now made-is refl calm-below

          allocated-now : (z : ℕ) → allocated h4 z ≡ allocated h2 z
          allocated-now z =
              written-allocated h3 h4 security recounts.others (security-exists h3 security (is_some_of _ _ security-there))
              (security-exists h4 security (is_some_of _ _ (recounts.reads written.security security-there))) z
              ∙ written-allocated h2 h3 P its-notes.others (key-exists h2 P (is_some_of _ _ P-then)) (key-exists h3 P (is_some_of _ _ key-noted)) z

          owned-now : (z : ℕ) → owned z (cells_of now) + times z old_list ≡ owned z (cells_of node) + times z (own h2 count1 list1)
          owned-now z =
              let o = owned-reindexed h0 h4 root P node seen looked count1 list1 (length name) moment entries1 key-now plain-now calm-class calm-values subkeys4 z in
              let a = own-index z in
              let b = owned-index z subkeys4.index in
              let c = new-list z in
              omega (arith, o, a, b, c)

          count-now : (z : ℕ) → allocated h4 z + (total_of (owns z) was + times z spare) ≡ allocated h0 z + (total_of (owns z) is + times z left)
          count-now z =
              let a = allocated-now z in
              let b = allocated1 z in
              let m = moves.count z in
              let x = before z in
              let o = owned-now z in
              let t = total-hang (owns z) index key made was.below in
              let k = made-owns h4 key parent security moment name z in
              let s = times-append z carved (key ∷ left) in
              omega (arith, a, b, m, x, o, t, k, s)

          same-now : (z : ℕ) → 0 < allocated h0 z → total_of (owns z) was ≡ 0 → times z spare ≡ 0 → times z ring ≡ 0 → h4 z ≡ h0 z
          same-now z some none no_spare no_ring =
              let s = times-append z carved (key ∷ left) in
              let o = ap (λ (found : List Found). owned z (found ++ index_cells node.index)) looked.cells ∙ own-parts z P above looked.class_cells looked.value_cells node.index in
              let i = own-index z in
              calm z some (omega (arith, s, no_spare)) (omega (arith, o, i, none)) (omega (arith, s, no_spare)) (omega (arith, o, none)) no_ring

          -- ---- securities

          shares-now : (z : ℕ) → total_of (shares z) is ≡ total_of (shares z) was + times z (security ∷ [])
          shares-now z =
              let r = shared-reindexed h0 h4 root P node seen looked count1 list1 (length name) moment entries1 key-now plain-now calm-class calm-values subkeys4 z in
              let t = total-hang (shares z) index key made was.below in
              let k = made-shares h4 key parent security moment name z in
              omega (arith, r, t, k)

          named-above : (z : ℕ) → 0 < times z (security ∷ []) → 0 < total_of (shares z) was
          named-above z l =
              let own = shares-own h0 root P node seen.reads in
              subst (λ s. 0 < total_of (shares s) was) (sym (there-is z security l)) (omega (arith, own))

          -- the security counts one key more, and the others of the ring as many as before
          recounted : (z : ℕ) → 0 < times z ring → IsRecounted h0 h4 (total_of (shares z) was) (total_of (shares z) is) z
          recounted z l = by (cases_eq z security)
            where
              by : (z ≡ security) ⊎ (z ≢ security) → IsRecounted h0 h4 (total_of (shares z) was) (total_of (shares z) is) z
              by (inl e) = subst (λ z. IsRecounted h0 h4 (total_of (shares z) was) (total_of (shares z) is) z) (sym e) (record {
                security = written.security;
                count = written.security.fields.count + 1;
                reads = written.reads;
                now = recounts.reads written.security security-there;
                plain = λ q. recounts.plain (subst IsPlainSecurity (sym (same-held h0 h3 security security-calm)) q);
                counted = (let s = shares-now security in let o = times-one security in omega (arith, s, o));
              })
              by (inr n) = recounted-same h0 h4 (total_of (shares z) was) (total_of (shares z) is) z (calm-ring z l n)
                  (let s = shares-now z in let t = times-not z security [] (λ e. n (sym e)) refl in omega (arith, s, t))
                  (all-at (IsWrittenSecurity h0) ring z w.closed.written l)

          pub grafts : IsGraftedInRing h0 h4 root was is ring spare left
          grafts = record {
            offset = refl;
            alike = record { name = refl; parent = refl; class_length = refl };
            stands = stands-now;
            count = count-now;
            same = same-now;
            securities = λ z. ((λ l. (let s = shares-now z in by-share z (named-above z) (omega (arith, s, l)))), λ l. (let s = shares-now z in omega (arith, s, l)));
            recounted = recounted;
          }
            where
              by-share : (z : ℕ) → (0 < times z (security ∷ []) → 0 < total_of (shares z) was) → 0 < total_of (shares z) was + times z (security ∷ []) → 0 < total_of (shares z) was
              by-share z n l = cases (total_of (shares z) was) refl
                where
                  cases : (k : ℕ) → total_of (shares z) was ≡ k → 0 < total_of (shares z) was
                  cases zero e = n (omega (arith, l, e))
                  cases (suc k) e = omega (arith, e)

          -- the other spare cells stay
          pub spare-made : (z : ℕ) → 0 < times z left → h4 z ≡ h0 z
          spare-made z l = let b = budget z in let o = one z in calm z (omega (arith, b, l)) (omega (arith, b, o, l)) (omega (arith, b, o, l))
              (omega (arith, b, o, l)) (omega (arith, b, o, l)) (omega (arith, b, o, l))
