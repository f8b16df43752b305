-- A full list that gave way to two.
use Rattle.std.proofs.Common.{◌≡◌, ℕ, zero, suc, ◌+◌, ◌*◌, ◌<◌, ◌≤◌, Option, Some, None, IsSome, List, [], ◌∷◌, ◌++◌, length, take, drop, refl, sym, ap, ◌∙◌, subst, arith, length-drop}
use Rattle.std.specs.Prelude.{unwrap_or}
use Rattle.std.proofs.lemmas.List.{append-nil, length-map, length-take-le}
use Rattle.reg_heap.specs.Heaps.{Heap, Writes}
use Rattle.reg_heap.specs.Kinds.{times}
use Rattle.reg_records.specs.RecordCells.{HasRoom}
use Rattle.reg_records.specs.SubkeyLists.{Entry}
use Rattle.reg_shape.specs.Nodes.{KeyList}
use Rattle.reg_index.specs.declared.Place.{Place}
use Rattle.reg_index.specs.declared.plan.TheConstants.{FIRST_HALF}
use Rattle.reg_index.specs.Internal.HashLeaves.{IsLeaf}
use Rattle.reg_index.specs.Internal.IndexLists.{AreExchanged, HasRoomFor, HasRoomForTwo, HasRootRoom, IsOnce, IsRoot, Stands, cells_under, halves, offsets_of}
use Rattle.reg_index.specs.Subkeys.{Moves, exchanged, leaf_list, numbered, taken, with_one}
use Rattle.reg_index.proofs.CellCounts.{times-append, times-self}
use Rattle.reg_index.proofs.EntryKeys.{length-with}
use Rattle.reg_index.proofs.ListPlaces.{leaf-of}
use Rattle.reg_index.proofs.ListsExchanged.{cells-are, exchange, head-two, length-exchanged, list-stays, offsets-exchanged, offsets-parted, root-stands, root-still, roots-none, roots-some, roots-two, root_cells}
use Rattle.reg_index.proofs.ListsRead.{list-there}
use Rattle.reg_index.proofs.SubkeysFrame.{cell-stays}

room-stays : (old new : Heap) (cell size : ℕ) → new cell ≡ old cell → HasRoom old cell size → HasRoom new cell size
room-stays old new cell size same r = record {
  exists = subst IsSome (sym same) r.exists;
  enough = subst (λ (o : Option (List ℕ)). size ≤ length (unwrap_or o [])) (sym same) r.enough;
}

-- room for a root, by how many lists there are
room-one : (heap : Heap) (offset cell : ℕ) (lists : List KeyList) → length lists ≡ 1 → HasRootRoom heap offset lists (Some cell) → HasRoom heap cell 12
room-one heap offset cell [] one r = absurd (omega (arith, one))
room-one heap offset cell (list ∷ []) one r = r
room-one heap offset cell (first ∷ second ∷ others) one r = absurd (omega (arith, one))

room-more : (heap : Heap) (offset : ℕ) (root : Option ℕ) (lists : List KeyList) → 2 ≤ length lists → HasRootRoom heap offset lists root → HasRoomFor heap offset root (4 + 4 * suc (length lists))
room-more heap offset root [] two r = absurd (omega (arith, two))
room-more heap offset root (list ∷ []) two r = absurd (omega (arith, two))
room-more heap offset root (first ∷ second ∷ others) two r = r

-- of one list nothing is left beside the two
only-two : (number : ℕ) (others lists : List KeyList) → length lists ≡ 1 → number < length lists → offsets_of (exchanged number others lists) ≡ offsets_of others
only-two number others [] one l = absurd (omega (arith, one))
only-two zero others (list ∷ []) one l = ap offsets_of (append-nil others)
only-two (suc number) others (list ∷ []) one l = absurd (omega (arith, l))
only-two number others (first ∷ second ∷ more) one l = absurd (omega (arith, one))

module _ (h0 h1 : Heap) (offset leaf : ℕ) (place : Place) (first second : ℕ) (root : Option ℕ) (entry : Entry) (lists : List KeyList)
    (r : HasRoomForTwo h0 offset lists place first second root) (leaf_is : (numbered place.list lists).offset ≡ leaf) where
  -- all cells, each once
  once : (z : ℕ) → times z (root_cells offset lists) + (times z (leaf ∷ []) + (times z (first ∷ []) + (times z (second ∷ []) + times z (taken root)))) ≤ 1
  once z = omega (
    arith,
    r.once z,
    cells-are offset lists z,
    offsets-parted lists place.list r.within z,
    ap (λ o. times z (o ∷ [])) leaf_is,
    times-append z (cells_under offset lists) (first ∷ second ∷ taken root),
  )

  pub halved-once : IsOnce (leaf ∷ first ∷ second ∷ [])
  halved-once z = omega (arith, once z)

  pub full-leaf : IsLeaf h0 leaf (numbered place.list lists).list.entries
  full-leaf = leaf-of h0 offset lists place.list leaf r.lists_are r.within leaf_is

  -- the entries, with the new one
  abbrev all : List Entry
  all = with_one place.index entry (numbered place.list lists).list.entries

  all-number : length all ≡ 501
  all-number = omega (arith, length-with place.index entry (numbered place.list lists).list.entries r.index, r.full)

  stands-first : (heap : Heap) → IsLeaf heap first (take FIRST_HALF all) → Stands heap (leaf_list first (take FIRST_HALF all))
  stands-first heap is = record {
    leaf = is;
    written = record {
      form = refl;
      some = omega (arith, length-take-le FIRST_HALF all (omega (arith, all-number)));
      few = omega (arith, length-take-le FIRST_HALF all (omega (arith, all-number)));
    };
  }

  stands-second : (heap : Heap) → IsLeaf heap second (drop FIRST_HALF all) → Stands heap (leaf_list second (drop FIRST_HALF all))
  stands-second heap is = record {
    leaf = is;
    written = record { form = refl; some = omega (arith, length-drop FIRST_HALF all, all-number); few = omega (arith, length-drop FIRST_HALF all, all-number) };
  }

  here : (z : ℕ) → times z ((numbered place.list lists).offset ∷ first ∷ second ∷ taken root) ≡ times z (leaf ∷ first ∷ second ∷ taken root)
  here z = ap (λ o. times z (o ∷ first ∷ second ∷ taken root)) leaf_is

  module _ (moved : Moves h0 h1 (leaf ∷ first ∷ second ∷ []) (first ∷ second ∷ [])) where
    -- ---- one list, and a new root

    module _ (cell : ℕ) (root_is : root ≡ Some cell) (one : length lists ≡ 1) where
      in-root : (z : ℕ) → times z (taken root) ≡ times z (cell ∷ [])
      in-root z = ap (λ fresh. times z (taken fresh)) root_is

      pub two-room : HasRoom h1 cell 12
      two-room =
          let room : HasRoom h0 cell 12 = room-one h0 offset cell lists one (subst (HasRootRoom h0 offset lists) root_is r.root_room) in
          room-stays h0 h1 cell 12
          (cell-stays h0 h1 (λ z. times z (leaf ∷ first ∷ second ∷ [])) (λ z. times z (first ∷ second ∷ [])) cell moved room.exists
          (omega (arith, once cell, in-root cell, times-self cell [])))
          room

      module _ (h2 : Heap) (w : Writes h1 h2 (cell ∷ [])) (first_is : IsLeaf h1 first (take FIRST_HALF all)) (second_is : IsLeaf h1 second (drop FIRST_HALF all))
          (two : IsRoot h2 cell (first ∷ second ∷ [])) where
        still : (z : ℕ) → times z (cell ∷ []) ≡ 0 → h2 z ≡ h1 z
        still z none = w.same z none none

        pub halved-alone : AreExchanged h0 h2 offset lists cell (exchanged place.list (halves first second all) lists) (first ∷ second ∷ taken root)
        halved-alone =
            let long : 2 ≤ length (exchanged place.list (halves first second all) lists) = omega (arith, length-exchanged place.list (halves first second all) lists r.within, one) in
            exchange h0 h2 offset cell place.list lists (halves first second all) (first ∷ second ∷ taken root) r.within r.lists_are r.once
            (record {
              count = λ z. omega (
                arith,
                moved.count z,
                w.count z,
                here z,
                in-root z,
                roots-none offset lists ((numbered place.list lists).offset ∷ first ∷ second ∷ taken root) (omega (arith, one)) z,
                roots-some cell (exchanged place.list (halves first second all) lists) (first ∷ second ∷ []) long z,
              );
              same = λ z gone came.
                  let a = roots-none offset lists ((numbered place.list lists).offset ∷ first ∷ second ∷ taken root) (omega (arith, one)) z in
                  let b = here z in
                  w.same z (omega (arith, gone, a, b, in-root z)) (omega (arith, gone, a, b, in-root z)) ∙ moved.same z (omega (arith, gone, a, b)) (omega (arith, gone, a, b));
            }) (
              stands-first h2 (list-stays h1 h2 first _ (still first (omega (arith, once first, in-root first, times-self first []))) first_is),
              (stands-second h2 (list-stays h1 h2 second _ (still second (omega (arith, once second, in-root second, times-self second []))) second_is), tt),
            )
            (head-two h2 cell (exchanged place.list (halves first second all) lists) long
            (subst (IsRoot h2 cell) (sym (only-two place.list (halves first second all) lists one r.within)) two))

    -- ---- several lists

    module _ (two : 2 ≤ length lists) where
      roots : (z : ℕ) → times z (root_cells offset lists) ≡ times z (offset ∷ [])
      roots z = ap (times z) (roots-two offset lists two)

      pub root-after : IsRoot h1 offset (offsets_of lists)
      root-after =
          root-still h0 h1 (λ z. times z (leaf ∷ first ∷ second ∷ [])) (λ z. times z (first ∷ second ∷ [])) offset (offsets_of lists) moved
          (omega (arith, once offset, roots offset, times-self offset [])) (root-stands h0 offset lists r.lists_are two)

      pub root-after-long : (count : ℕ) → count ≡ length lists → (offsets : List ℕ) × IsRoot h1 offset offsets × (length offsets ≡ count)
      root-after-long count e = (offsets_of lists, root-after, length-map lists (λ (list : KeyList). list.offset) ∙ sym e)

      calm-root : h1 offset ≡ h0 offset
      calm-root =
          cell-stays h0 h1 (λ z. times z (leaf ∷ first ∷ second ∷ [])) (λ z. times z (first ∷ second ∷ [])) offset moved
          (list-there h0 offset _ (root-stands h0 offset lists r.lists_are two)) (omega (arith, once offset, roots offset, times-self offset []))

      pub root-room-after : (count : ℕ) → count ≡ length lists → HasRoomFor h1 offset root (4 + 4 * (count + 1))
      root-room-after count e =
          let size : 4 + 4 * suc (length lists) ≡ 4 + 4 * (count + 1) = omega (arith, e) in
          subst (HasRoomFor h1 offset root) size (by root refl (room-more h0 offset root lists two r.root_room))
        where
          by : (fresh : Option ℕ) → root ≡ fresh → HasRoomFor h0 offset fresh (4 + 4 * suc (length lists)) → HasRoomFor h1 offset fresh (4 + 4 * suc (length lists))
          by None is room = subst (λ (o : Option (List ℕ)). 4 + 4 * suc (length lists) ≤ length (unwrap_or o [])) (sym calm-root) room
          by (Some fresh) is room = (
            room-stays h0 h1 fresh (4 + 4 * suc (length lists))
                (cell-stays h0 h1 (λ z. times z (leaf ∷ first ∷ second ∷ [])) (λ z. times z (first ∷ second ∷ [])) fresh moved room.0.exists
                (omega (arith, once fresh, ap (λ cells. times fresh (taken cells)) is, times-self fresh [])))
                room.0,
            room.1,
          )

      module _ (h2 : Heap) (result : ℕ) (w : Moves h1 h2 (offset ∷ taken root) (result ∷ [])) (first_is : IsLeaf h1 first (take FIRST_HALF all))
          (second_is : IsLeaf h1 second (drop FIRST_HALF all))
          (root_is : IsRoot h2 result (take place.list (offsets_of lists) ++ first ∷ second ∷ drop (suc place.list) (offsets_of lists))) where
        waits : (z : ℕ) → IsSome (h1 z) → times z (offset ∷ taken root) ≡ 0 → h2 z ≡ h1 z
        waits z some none = cell-stays h1 h2 (λ z. times z (offset ∷ taken root)) (λ z. times z (result ∷ [])) z w some none

        pub halved-under : AreExchanged h0 h2 offset lists result (exchanged place.list (halves first second all) lists) (first ∷ second ∷ taken root)
        halved-under =
            let long : 2 ≤ length (exchanged place.list (halves first second all) lists) = omega (arith, length-exchanged place.list (halves first second all) lists r.within, two) in
            exchange h0 h2 offset result place.list lists (halves first second all) (first ∷ second ∷ taken root) r.within r.lists_are r.once
            (record {
              count = λ z. omega (
                arith,
                moved.count z,
                w.count z,
                here z,
                roots-some offset lists ((numbered place.list lists).offset ∷ first ∷ second ∷ taken root) two z,
                roots-some result (exchanged place.list (halves first second all) lists) (first ∷ second ∷ []) long z,
              );
              same = λ z gone came.
                  let a = roots-some offset lists ((numbered place.list lists).offset ∷ first ∷ second ∷ taken root) two z in
                  let b = here z in
                  let d = roots-some result (exchanged place.list (halves first second all) lists) (first ∷ second ∷ []) long z in
                  w.same z (omega (arith, gone, a, b)) (omega (arith, came, d)) ∙ moved.same z (omega (arith, gone, a, b)) (omega (arith, gone, a, b));
            }) (
              stands-first h2 (list-stays h1 h2 first _ (waits first (list-there h1 first _ first_is) (omega (arith, once first, roots first, times-self first []))) first_is),
              (stands-second h2 (list-stays h1 h2 second _ (waits second (list-there h1 second _ second_is) (omega (arith, once second, roots second, times-self second []))) second_is), tt),
            )
            (head-two h2 result (exchanged place.list (halves first second all) lists) long
            (subst (IsRoot h2 result) (sym (offsets-exchanged place.list (halves first second all) lists)) root_is))
