-- A subkey added.
use Rattle.std.proofs.Common.{◌≡◌, ℕ, zero, suc, ◌+◌, ◌<◌, ◌≤◌, Option, Some, None, IsSome, List, [], ◌∷◌, ◌++◌, length, refl, sym, ap, ◌∙◌, subst, arith}
use Rattle.std.specs.Prelude.{unwrap_or, Err}
use Rattle.reg_names.specs.Names.{folded, hash}
use Rattle.reg_heap.specs.declared.limits.TheConstants.{NONE}
use Rattle.reg_heap.specs.Heaps.{Heap, Writes}
use Rattle.reg_heap.specs.Kinds.{times}
use Rattle.reg_records.specs.KeyNodes.{key_at}
use Rattle.reg_records.specs.SubkeyLists.{Entry}
use Rattle.reg_shape.specs.Nodes.{KeyList, lists_of}
use Rattle.reg_index.specs.declared.Place.{Place}
use Rattle.reg_index.specs.declared.IndexCells.{IndexCells}
use Rattle.reg_index.specs.Internal.HashLeaves.{IsLeaf}
use Rattle.reg_index.specs.Internal.IndexLists.{AreExchanged, HasOneMore, HasRoomAt, HasRoomForTwo, cells_under, grown, halves}
use Rattle.reg_index.specs.Subkeys.{AreSubkeys, IsIndexFor, IsReady, Moves, each_of, entries_in, entry_for, exchanged, flat, index_of, index_under}
use Rattle.reg_index.specs.Subkeys.{insert_sizes, leaf_list, lists_with, name_at, names_in, numbered, own, parted, taken, with_one}
use Rattle.reg_index.proofs.EntriesExchanged.{entries-with, halves-entries, leaf-entries}
use Rattle.reg_index.proofs.EntryKeys.{keys-with, length-with}
use Rattle.reg_index.proofs.FoundPlaces.{flat-read, result-length}
use Rattle.reg_index.proofs.ListsExchanged.{cells-are, exchanged-parted, length-exchanged, roots-two}
use Rattle.reg_index.proofs.ListsParted.{parted-few, parted-many, under-same, with-parted}
use Rattle.reg_index.proofs.ReadyCells.{each-none, first-alone}
use Rattle.reg_index.proofs.SubkeysExchanged.{subkeys-exchanged, moves-exchanged}
use Rattle.reg_index.proofs.SubkeysOnce.{cells-there}
use Rattle.reg_index.proofs.SubkeysOpening.{index-is, index-under, keys-of, same-subkeys}

-- ---- the first

one-of-none : (index : ℕ) (entry : Entry) → with_one index entry [] ≡ entry ∷ []
one-of-none zero entry = refl
one-of-none (suc index) entry = refl

pub first-more : (old new : Heap) (count offset : ℕ) (place : Place) (entry : Entry) (cells : IndexCells) (cell : ℕ) → count ≡ 0 → IsReady old (insert_sizes old count offset place) cells →
    cells.list ≡ Some cell → IsLeaf new cell (entry ∷ []) → Writes old new (cell ∷ [])
    → (entries : List Entry) → AreSubkeys old count offset entries → HasOneMore old new count offset place entry entries cells cell
first-more old new zero offset place entry cells cell none ready is leaf w [] s =
    let alone = first-alone old zero offset place cells none ready cell is in
    record {
      others = leaf_list cell (entry ∷ []) ∷ [];
      others_are = ap (λ o. leaf_list (unwrap_or o NONE) (entry ∷ []) ∷ []) (sym is);
      exchanged = record {
        now = (refl, record { leaf = leaf; written = record { form = refl; some = omega arith; few = omega arith } });
        moves = subst (λ carved. Moves old new carved (cell ∷ [])) (sym alone) w;
      };
      entries_are = sym (one-of-none (flat old zero offset place) entry);
      used = λ z. omega (arith, ap (times z) alone);
      root = λ l. absurd (omega (arith, l));
    }
first-more old new zero offset place entry cells cell none ready is leaf w (e ∷ es) s = absurd (omega (arith, s.number))
first-more old new (suc count) offset place entry cells cell none ready is leaf w entries s = absurd (omega (arith, none))

-- ---- one more among some

-- the cell of a grown list
own-or-fresh : (z leaf : ℕ) (fresh : Option ℕ) → times z (taken fresh) ≤ times z (unwrap_or fresh leaf ∷ [])
own-or-fresh z leaf None = omega arith
own-or-fresh z leaf (Some cell) = omega arith

module _ (old new : Heap) (count offset result : ℕ) (place : Place) (entry : Entry) (cells : IndexCells) (entries : List Entry) (s : AreSubkeys old count offset entries) where
  index_is : lists_of (index_of old count offset) ≡ lists_of s.index
  index_is = ap lists_of (index-is old count offset s.index s.read)

  many-more : (carved : List ℕ) (others : List KeyList) → each_of cells ≡ carved → place.list < length (lists_of s.index) →
      place.index ≤ length (numbered place.list (lists_of s.index)).list.entries → entries_in others ≡ with_one place.index entry (numbered place.list (lists_of s.index)).list.entries →
      others ≡ parted cells (numbered place.list (lists_of s.index)).offset (with_one place.index entry (numbered place.list (lists_of s.index)).list.entries) →
      AreExchanged old new offset (lists_of s.index) result (exchanged place.list others (lists_of s.index)) carved →
      ((z : ℕ) → times z carved ≤ times z (cells_under result (exchanged place.list others (lists_of s.index)))) →
      (1 < length (exchanged place.list others (lists_of s.index)) → result ≡ unwrap_or cells.root offset) → HasOneMore old new count offset place entry entries cells result
  many-more carved others carved_are there within are apart x used root = record {
    others = exchanged place.list others (lists_of s.index);
    others_are = with-parted place entry cells others (lists_of s.index) there apart ∙ ap (lists_with place entry cells) (sym index_is);
    exchanged = subst (λ lists. AreExchanged old new offset lists result (exchanged place.list others (lists_of s.index)) (each_of cells)) (sym index_is)
        (subst (AreExchanged old new offset (lists_of s.index) result (exchanged place.list others (lists_of s.index))) (sym carved_are) x);
    entries_are = entries-with (lists_of s.index) others place entry there within are
        ∙ (λ i. with_one (sym (flat-read old count offset place entries s) i) entry (s.entries_are i));
    used = λ z. omega (arith, ap (times z) carved_are, used z);
    root = root;
  }

  pub grown-more : each_of cells ≡ taken cells.list → HasRoomAt old offset (lists_of s.index) place cells.list →
      cells.root ≡ None → (1 < length (lists_of s.index) → result ≡ offset) →
      AreExchanged old new offset (lists_of s.index) result
      (exchanged place.list (grown (numbered place.list (lists_of s.index)) cells.list place.index entry ∷ []) (lists_of s.index)) (taken cells.list)
      → HasOneMore old new count offset place entry entries cells result
  grown-more alone r rootless at x =
      let list : KeyList = grown (numbered place.list (lists_of s.index)) cells.list place.index entry in
      many-more (taken cells.list) (list ∷ []) alone r.within r.index
      (leaf-entries (unwrap_or cells.list (numbered place.list (lists_of s.index)).offset) (with_one place.index entry (numbered place.list (lists_of s.index)).list.entries))
      (sym (parted-few cells (numbered place.list (lists_of s.index)).offset (with_one place.index entry (numbered place.list (lists_of s.index)).list.entries)
      (omega (arith, r.few, length-with place.index entry (numbered place.list (lists_of s.index)).list.entries r.index))))
      x
      (λ z. omega (
        arith,
        cells-are result (exchanged place.list (list ∷ []) (lists_of s.index)) z,
        exchanged-parted place.list (list ∷ []) (lists_of s.index) z,
        own-or-fresh z (numbered place.list (lists_of s.index)).offset cells.list,
      ))
      (λ l. at (omega (arith, l, length-exchanged place.list (list ∷ []) (lists_of s.index) r.within)) ∙ ap (λ o. unwrap_or o offset) (sym rootless))

  pub halved-more : (first second : ℕ) → cells.list ≡ Some first → cells.second ≡ Some second → each_of cells ≡ first ∷ second ∷ taken cells.root →
      HasRoomForTwo old offset (lists_of s.index) place first second cells.root →
      result ≡ unwrap_or cells.root offset →
      AreExchanged old new offset (lists_of s.index) result
      (exchanged place.list (halves first second (with_one place.index entry (numbered place.list (lists_of s.index)).list.entries)) (lists_of s.index)) (first ∷ second ∷ taken cells.root)
      → HasOneMore old new count offset place entry entries cells result
  halved-more first second f e three r at x =
      let two : List KeyList = halves first second (with_one place.index entry (numbered place.list (lists_of s.index)).list.entries) in
      let long : 2 ≤ length (exchanged place.list two (lists_of s.index)) = omega (arith, length-exchanged place.list two (lists_of s.index) r.within, r.within) in
      many-more (first ∷ second ∷ taken cells.root) two three r.within r.index
      (halves-entries first second (with_one place.index entry (numbered place.list (lists_of s.index)).list.entries))
      (sym (parted-many cells (numbered place.list (lists_of s.index)).offset (with_one place.index entry (numbered place.list (lists_of s.index)).list.entries) first second f e
      (omega (arith, r.full, length-with place.index entry (numbered place.list (lists_of s.index)).list.entries r.index)))) x
      (λ z. omega (
        arith,
        cells-are result (exchanged place.list two (lists_of s.index)) z,
        exchanged-parted place.list two (lists_of s.index) z,
        ap (times z) (roots-two result (exchanged place.list two (lists_of s.index)) long),
        own-or-fresh z offset cells.root,
        ap (λ o. times z (o ∷ [])) at,
      ))
      (λ _. at)

-- ---- the subkeys with one more

module _ (old new : Heap) (count offset result : ℕ) (place : Place) (cells : IndexCells) (key hint : ℕ) (some : IsSome (key_at old key))
    (ready : IsReady old (insert_sizes old count offset place) cells) (hint_is : hint ≡ hash (name_at old key))
    (fits : (entries : List Entry) × AreSubkeys old count offset entries × IsIndexFor (names_in old entries) (folded (name_at old key)) (Err (flat old count offset place)))
    (added : (entries : List Entry) → AreSubkeys old count offset entries → HasOneMore old new count offset place (record { offset = key; hint = hint }) entries cells result)
    (entries : List Entry) (s : AreSubkeys old count offset entries) where
  same : fits.0 ≡ entries
  same = same-subkeys old count offset fits.0 entries fits.1 s

  index_fits : IsIndexFor (names_in old entries) (folded (name_at old key)) (Err (flat old count offset place))
  index_fits = subst (λ es. IsIndexFor (names_in old es) (folded (name_at old key)) (Err (flat old count offset place))) same fits.2

  more : HasOneMore old new count offset place (entry_for old key) entries cells result
  more = subst (λ h. HasOneMore old new count offset place (record { offset = key; hint = h }) entries cells result) hint_is (added entries s)

  changed : AreExchanged old new offset (lists_of s.index) result more.others (each_of cells)
  changed =
      subst (λ lists. AreExchanged old new offset lists result more.others (each_of cells)) (ap lists_of (index-is old count offset s.index s.read)) more.exchanged

  number : length (with_one (flat old count offset place) (entry_for old key) entries) ≡ count + 1
  number =
      omega (
        arith,
        length-with (flat old count offset place) (entry_for old key) entries (result-length old entries (folded (name_at old key)) (flat old count offset place) index_fits),
        s.number,
      )

  pub one-more : AreSubkeys new (count + 1) result (with_one (flat old count offset place) (entry_for old key) entries)
  one-more =
      subkeys-exchanged old new count offset (count + 1) result (each_of cells) entries (with_one (flat old count offset place) (entry_for old key) entries) more.others s changed
      (each-none old (insert_sizes old count offset place) cells ready) more.entries_are
      (keys-with old (flat old count offset place) key entries some (keys-of old count offset entries s) index_fits) number

  pub one-moves : Moves old new (own old count offset ++ each_of cells) (own new (count + 1) result)
  one-moves =
      moves-exchanged old new count offset (count + 1) result (each_of cells) entries (with_one (flat old count offset place) (entry_for old key) entries) more.others s changed
      (each-none old (insert_sizes old count offset place) cells ready) more.entries_are
      (keys-with old (flat old count offset place) key entries some (keys-of old count offset entries s) index_fits) number

  pub one-indexed : index_of new (count + 1) result ≡ index_under (unwrap_or cells.root offset)
      (lists_with place (entry_for old key) cells (lists_of (index_of old count offset)))
  one-indexed =
      index-under new (count + 1) result more.others more.exchanged.now (ap length more.entries_are ∙ number)
      ∙ (under-same result (unwrap_or cells.root offset) more.others more.root
      ∙ ap (index_under (unwrap_or cells.root offset)) more.others_are)

  pub one-stay : (z : ℕ) → 0 < times z (each_of cells) → IsSome (new z)
  one-stay z l = cells-there new result more.others more.exchanged.now z (omega (arith, l, more.used z))
