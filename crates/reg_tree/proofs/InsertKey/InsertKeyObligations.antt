-- What each step of making a key asks, and what all of them make.
use Rattle.std.proofs.Common.{◌≡◌, ◌≢◌, ℕ, ◌+◌, ◌≤◌, ◌<◌, true, Some, IsSome, List, [], ◌∷◌, ◌++◌, length, sym, ap, ◌∙◌, subst, arith}
use Rattle.std.specs.Prelude.{Err}
use Rattle.reg_names.specs.declared.TheConstants.{KEY_NAME_LIMIT}
use Rattle.reg_arena.proofs.FreeList.ThreadLinks.{times-append}
use Rattle.reg_names.specs.Names.{folded, is_key_name}
use Rattle.reg_heap.specs.declared.limits.TheConstants.{SUBKEYS_LIMIT}
use Rattle.reg_heap.specs.Heaps.{Heap}
use Rattle.reg_heap.specs.Kinds.{times}
use Rattle.reg_arena.specs.Cells.{cell_at}
use Rattle.reg_records.specs.declared.nk.KeyFields.{KeyFields}
use Rattle.reg_records.specs.RecordCells.{held}
use Rattle.reg_records.specs.KeyNodes.{KeyRecord, key_at, IsPlainKey}
use Rattle.reg_records.specs.KeySecurities.{KeySecurityRecord, security_at}
use Rattle.reg_records.specs.SubkeyLists.{Entry}
use Rattle.reg_shape.specs.Nodes.{Node, entries_of}
use Rattle.reg_records.proofs.KeySecurityCodec.{security_at-same}
use Rattle.reg_index.specs.declared.IndexCells.{IndexCells}
use Rattle.reg_index.specs.declared.Place.{Place}
use Rattle.reg_index.specs.Subkeys.{AreSubkeys, IsIndexFor, IsPlaceIn, IsReady, Moves, cells_of_index, each_of, entry_for, flat, index_of, insert_sizes, name_at, name_or_none, names_in, own, with_one}
use Rattle.reg_index.proofs.SubkeysFrame.{own-stays}
use Rattle.reg_index.proofs.PlannedSizes.{flat-elsewhere, place-elsewhere, sizes-elsewhere}
use Rattle.reg_security.specs.Rings.{Recounts}
use Rattle.reg_tree.specs.Internal.KeyNodeChanges.{Notes, noted_subkeys, made_fields}
use Rattle.reg_tree.specs.Internal.ReachedPlaces.{BelongsAt}
use Rattle.reg_tree.specs.CellSizes.{planned, planned_by}
use Rattle.reg_tree.specs.Internal.SpareCells.{IsGrowing, MayGrow, Grows}
use Rattle.reg_tree.proofs.Invariant.CellReadings.{is_some_of}
use Rattle.reg_tree.proofs.Invariant.KeyOfShape as keyed
use Rattle.reg_tree.proofs.InsertKey.ParentReindexed.{branch-subkeys}
use Rattle.reg_tree.proofs.Invariant.KeyCountBound.{count-few}
use Rattle.reg_tree.proofs.InsertKey.SpareCellsKept.{ready-same}
use Rattle.reg_tree.proofs.InsertKey.InsertKeyFrame as frame
use Rattle.reg_tree.proofs.InsertKey.InsertKeyLemmas as made

module _ (bytes : List ℕ) (parent : ℕ) (cells : IndexCells) (key : ℕ) (name left : List ℕ) (m : MayGrow bytes parent (each_of cells ++ key ∷ left) name) where
  abbrev pub h : Heap
  h = cell_at bytes

  abbrev pub g : IsGrowing bytes parent (each_of cells ++ key ∷ left)
  g = m.growing

  abbrev spare : List ℕ
  spare = each_of cells ++ key ∷ left

  abbrev pub node : Node
  node = (keyed.branch h g.root g.keys g.ring spare g.shape g.path parent g.at).node

  abbrev pub entries : List Entry
  entries = entries_of node.index

  pub key_is : key_at h parent ≡ Some node.key
  key_is = keyed.key_is h g.root g.keys g.ring spare g.shape g.path parent g.at

  pub key_there : IsSome (key_at h parent)
  key_there = is_some_of _ _ key_is

  pub plan_is : (place : Place) → planned h parent place ≡ insert_sizes h node.key.fields.subkeys node.key.fields.subkeys_list place
  plan_is place = ap (planned_by h place) key_is

  security_ringed : 0 < times node.key.fields.security g.ring
  security_ringed = frame.security-ringed h h h h h g.root g.keys g.ring g.path parent (each_of cells) key left g.shape g.at

  -- ---- by the fields that were read

  module _ (fields : KeyFields) (are : (r : KeyRecord) → key_at h parent ≡ Some r → fields ≡ r.fields) where
    pub fields_are : node.key.fields ≡ fields
    fields_are = sym (are node.key key_is)

    users_few : (s : KeySecurityRecord) → security_at h fields.security ≡ Some s → s.fields.count < length bytes
    users_few = subst (λ (f : KeyFields). (s : KeySecurityRecord) → security_at h f.security ≡ Some s → s.fields.count < length bytes) fields_are
        (count-few bytes g.root g.keys g.ring spare g.shape node.key.fields.security security_ringed)

    own_subkeys : AreSubkeys h node.key.fields.subkeys node.key.fields.subkeys_list entries
    own_subkeys = branch-subkeys h g.root (keyed.branch h g.root g.keys g.ring spare g.shape g.path parent g.at) (keyed.stands h g.root g.keys g.ring spare g.shape g.path parent g.at)

    pub subkeys0 : AreSubkeys h fields.subkeys fields.subkeys_list entries
    subkeys0 = subst (λ (f : KeyFields). AreSubkeys h f.subkeys f.subkeys_list entries) fields_are own_subkeys

    -- the name belongs at a place, by the list that was read
    module _ (place : Place) (belongs : BelongsAt h parent name place) where
      within : IsPlaceIn (index_of h fields.subkeys fields.subkeys_list) place
      within = subst (λ (f : KeyFields). IsPlaceIn (index_of h f.subkeys f.subkeys_list) place) fields_are (belongs node.key key_is).0

      found : IsIndexFor (names_in h entries) (folded name) (Err (flat h fields.subkeys fields.subkeys_list place))
      found = subst (λ (f : KeyFields). IsIndexFor (names_in h entries) (folded name) (Err (flat h f.subkeys f.subkeys_list place))) fields_are ((belongs node.key key_is).1 entries own_subkeys)

    pub few_subkeys : fields.subkeys < SUBKEYS_LIMIT
    few_subkeys = subst (λ (f : KeyFields). f.subkeys < SUBKEYS_LIMIT) fields_are (m.few node.key key_is)

    -- ---- the key node was written

    module _ (h1 : Heap) (others1 : (z : ℕ) → z ≢ key → h1 z ≡ h z) (there1 : IsSome (h1 key)) (new_fields : KeyFields)
        (key1 : key_at h1 key ≡ Some (record { fields = new_fields; name = name })) where
      calm1 : (z : ℕ) → times z (key ∷ []) ≡ 0 → h1 z ≡ h z
      calm1 = frame.calm1 h h1 h1 h1 h1 g.root g.keys g.ring g.path parent (each_of cells) key left g.shape g.at others1 there1

      pub subkeys1 : AreSubkeys h1 fields.subkeys fields.subkeys_list entries
      subkeys1 = subst (λ (f : KeyFields). AreSubkeys h1 f.subkeys f.subkeys_list entries) fields_are
          (frame.subkeys1 h h1 h1 h1 h1 g.root g.keys g.ring g.path parent (each_of cells) key left g.shape g.at others1 there1)

      its_name : name_at h1 key ≡ name
      its_name = ap name_or_none key1

      -- the cells of its index hold what they held
      list_calm : (z : ℕ) → 0 < times z (own h fields.subkeys fields.subkeys_list) → h1 z ≡ h z
      list_calm = subst (λ (f : KeyFields). (z : ℕ) → 0 < times z (own h f.subkeys f.subkeys_list) → h1 z ≡ h z) fields_are
          (frame.list-calm h h1 h1 h1 h1 g.root g.keys g.ring g.path parent (each_of cells) key left g.shape g.at others1 there1)

      own1 : own h1 fields.subkeys fields.subkeys_list ≡ cells_of_index node.index
      own1 = subst (λ (f : KeyFields). own h1 f.subkeys f.subkeys_list ≡ cells_of_index node.index) fields_are
          (frame.own1 h h1 h1 h1 h1 g.root g.keys g.ring g.path parent (each_of cells) key left g.shape g.at others1 there1)

      pub own_same : own h1 fields.subkeys fields.subkeys_list ≡ own h fields.subkeys fields.subkeys_list
      own_same = own-stays h h1 fields.subkeys fields.subkeys_list entries subkeys0 list_calm

      pub once1 : (z : ℕ) → times z (own h1 fields.subkeys fields.subkeys_list ++ each_of cells) ≤ 1
      once1 z =
          let budget = frame.budget h h1 h1 h1 h1 g.root g.keys g.ring g.path parent (each_of cells) key left g.shape g.at z in
          let one = frame.one h h1 h1 h1 h1 g.root g.keys g.ring g.path parent (each_of cells) key left g.shape g.at z in
          let parts = times-append z (own h1 fields.subkeys fields.subkeys_list) (each_of cells) in
          let same = ap (times z) own1 in
          omega (arith, budget, one, parts, same)

      pub key1_there : IsSome (key_at h1 key)
      key1_there = is_some_of _ _ key1

      ready_same : (plan : IndexCells) → IsReady h plan cells → IsReady h1 plan cells
      ready_same plan r =
          ready-same h h1 plan cells (λ z l. calm1 z
          (let budget = frame.budget h h1 h1 h1 h1 g.root g.keys g.ring g.path parent (each_of cells) key left g.shape g.at z in
          let one = frame.one h h1 h1 h1 h1 g.root g.keys g.ring g.path parent (each_of cells) key left g.shape g.at z in
          omega (arith, budget, one, l))) r

      module _ (place : Place) (belongs : BelongsAt h parent name place) where
        index_is : flat h1 fields.subkeys fields.subkeys_list place ≡ flat h fields.subkeys fields.subkeys_list place
        index_is = flat-elsewhere h h1 fields.subkeys fields.subkeys_list entries subkeys0 list_calm place

        pub within1 : IsPlaceIn (index_of h1 fields.subkeys fields.subkeys_list) place
        within1 = place-elsewhere h h1 fields.subkeys fields.subkeys_list entries subkeys0 list_calm place (within place belongs)

        found1 : IsIndexFor (names_in h entries) (folded name) (Err (flat h1 fields.subkeys fields.subkeys_list place))
        found1 = subst (λ i. IsIndexFor (names_in h entries) (folded name) (Err i)) (sym index_is) (found place belongs)

        pub inserts : (es : List Entry) × AreSubkeys h1 fields.subkeys fields.subkeys_list es
            × IsIndexFor (names_in h1 es) (folded (name_at h1 key)) (Err (flat h1 fields.subkeys fields.subkeys_list place))
        inserts = (
          entries,
          subkeys1,
          subst (λ n. IsIndexFor (names_in h1 entries) (folded n) (Err (flat h1 fields.subkeys fields.subkeys_list place))) (sym its_name)
              (subst (λ ns. IsIndexFor ns (folded name) (Err (flat h1 fields.subkeys fields.subkeys_list place)))
              (sym (frame.names1 h h1 h1 h1 h1 g.root g.keys g.ring g.path parent (each_of cells) key left g.shape g.at others1 there1))
              found1),
        )

        size_is : planned h parent place ≡ insert_sizes h fields.subkeys fields.subkeys_list place
        size_is = plan_is place ∙ ap (λ (f : KeyFields). insert_sizes h f.subkeys f.subkeys_list place) fields_are

        size1 : insert_sizes h1 fields.subkeys fields.subkeys_list place ≡ planned h parent place
        size1 = sizes-elsewhere h h1 fields.subkeys fields.subkeys_list entries subkeys0 list_calm place (within place belongs) ∙ sym size_is

        pub ready1 : IsReady h (planned h parent place) cells → IsReady h1 (insert_sizes h1 fields.subkeys fields.subkeys_list place) cells
        ready1 r = subst (λ plan. IsReady h1 plan cells) (sym size1) (ready_same (planned h parent place) r)

      -- ---- the key is among the subkeys

      module _ (h2 : Heap) (count1 list1 : ℕ)
          (moves : Moves h1 h2 (own h1 fields.subkeys fields.subkeys_list ++ each_of cells) (own h2 count1 list1)) where
        pub moved : Moves h1 h2 (cells_of_index node.index ++ each_of cells) (own h2 count1 list1)
        moved =
            subst (λ before. Moves h1 h2 (before ++ each_of cells) (own h2 count1 list1))
            (frame.own1 h h1 h1 h1 h1 g.root g.keys g.ring g.path parent (each_of cells) key left g.shape g.at others1 there1)
            (subst (λ (f : KeyFields). Moves h1 h2 (own h1 f.subkeys f.subkeys_list ++ each_of cells) (own h2 count1 list1)) (sym fields_are) moves)

        pub parent2 : IsSome (key_at h2 parent)
        parent2 =
            subst (λ o. IsSome (key_at h2 o)) (keyed.offset h g.root g.keys g.ring spare g.shape g.path parent g.at)
            (is_some_of _ _ (frame.P-then h h1 h2 h2 h2 g.root g.keys g.ring g.path parent (each_of cells) key left g.shape g.at others1 there1 count1 list1 moved))

        module _ (h3 : Heap) (moment : ℕ) (notes : Notes h2 h3 parent (noted_subkeys count1 list1 (length name) moment)) where
          pub security3 : IsSome (security_at h3 fields.security)
          security3 =
              subst (λ (f : KeyFields). IsSome (security_at h3 f.security)) fields_are
              (is_some_of _ _ (frame.security-there h h1 h2 h3 h3 g.root g.keys g.ring g.path parent (each_of cells) key left g.shape g.at
              others1 there1 count1 list1 moved name moment notes))

          -- it counts as many keys as before, and the bins are as long
          security_same : security_at h3 fields.security ≡ security_at h fields.security
          security_same =
              subst (λ (f : KeyFields). security_at h3 f.security ≡ security_at h f.security) fields_are
              (security_at-same h h3 node.key.fields.security
              (frame.security-calm h h1 h2 h3 h3 g.root g.keys g.ring g.path parent (each_of cells) key left g.shape g.at
              others1 there1 count1 list1 moved name moment notes))

          pub users_few3 : (size : ℕ) → size ≡ length bytes → (s : KeySecurityRecord) → security_at h3 fields.security ≡ Some s → s.fields.count < size
          users_few3 size long s reads = let few = users_few s (sym security_same ∙ reads) in omega (arith, long, few)

          module _ (h4 : Heap) (good : is_key_name name ≡ true) (short : length name ≤ KEY_NAME_LIMIT) (made_so : new_fields ≡ made_fields parent fields.security moment)
              (plain1 : IsPlainKey (held h1 key))
              (place : Place) (belongs : BelongsAt h parent name place)
              (subkeys2 : (es : List Entry) → AreSubkeys h1 fields.subkeys fields.subkeys_list es →
              AreSubkeys h2 count1 list1 (with_one (flat h1 fields.subkeys fields.subkeys_list place) (entry_for h1 key) es)) (count2 : count1 ≡ fields.subkeys + 1)
              (recounts : Recounts h3 h4 fields.security (λ n. n + 1)) where
            pub grown : Grows h h4 g.root g.path g.keys g.ring key left name moment
            grown =
                made.grows h h1 h2 h3 h4 g.root g.keys g.ring g.path parent (each_of cells) key left g.shape g.at others1 there1 count1 list1 moved name moment notes
                (flat h1 fields.subkeys fields.subkeys_list place) good short
                (key1 ∙ ap (λ (f : KeyFields). Some (record { fields = f; name = name })) (made_so ∙ ap (λ (f : KeyFields). made_fields parent f.security moment) (sym fields_are)))
                plain1 (found1 place belongs) m.missing (subkeys2 entries subkeys1) (count2 ∙ ap (λ (f : KeyFields). f.subkeys + 1) (sym fields_are))
                (m.few node.key key_is)
                (subst (λ (f : KeyFields). Recounts h3 h4 f.security (λ n. n + 1)) (sym fields_are) recounts)
                m.deep
