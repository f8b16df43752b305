-- The sizes of the cells that one subkey more takes: how large they are, and that they stay where other cells change.
use Rattle.std.proofs.Common.{◌≡◌, ℕ, zero, suc, ◌+◌, ◌*◌, ◌%◌, ◌<◌, ◌≤◌, ◌==◌, Bool, true, false, cond, nat_le, Option, Some, None, List, [], ◌∷◌, length, refl, sym, ap, ◌∙◌, subst, arith, inl, inr, ◌⊎◌}
use Rattle.std.specs.Prelude.{unwrap_or}
use Rattle.std.proofs.lemmas.Bool.{cases_eq}
use Rattle.std.proofs.lemmas.Option.{none-some, same_Some}
use Rattle.reg_heap.specs.declared.limits.TheConstants.{LEAF_LIMIT, SUBKEYS_LIMIT}
use Rattle.reg_heap.specs.Heaps.{Heap}
use Rattle.reg_heap.specs.Kinds.{times}
use Rattle.reg_records.specs.RecordCells.{held}
use Rattle.reg_records.specs.SubkeyLists.{Entry}
use Rattle.reg_shape.specs.Nodes.{KeyList, Index, index_at, lists_of}
use Rattle.reg_shape.specs.Nodes.Index.{Unlisted, Listed, Rooted}
use Rattle.reg_index.specs.declared.Place.{Place}
use Rattle.reg_index.specs.declared.IndexCells.{IndexCells}
use Rattle.reg_index.specs.declared.plan.TheConstants.{FIRST_LIST_SIZE, FIRST_HALF, SECOND_HALF}
use Rattle.reg_index.specs.Subkeys.{AreSubkeys, IsPlaceIn, StandsIn, cells_of_index, flat, flat_in, grown_size, index_of, index_under, insert_sizes, list_size, numbered, own, root_size, root_sizes, sizes_in}
use Rattle.reg_index.proofs.CellCounts.{times-self}
use Rattle.reg_index.proofs.InsertSizes.{first-sizes, planned-one, planned-two, place-there}
use Rattle.reg_index.proofs.ListPlaces.{all-stand, list-stands}
use Rattle.reg_index.proofs.ListsExchanged.{offsets-parted}
use Rattle.reg_index.proofs.ReadyCells.{few-by}
use Rattle.reg_index.proofs.SubkeysFrame.{index-stays}
use Rattle.reg_index.proofs.SubkeysOpening.{index-is, own-is, lists-has}

-- ---- where other cells change

held-same : (old new : Heap) (cell : ℕ) → new cell ≡ old cell → held new cell ≡ held old cell
held-same old new cell same = ap (λ (o : Option (List ℕ)). unwrap_or o []) same

grown-same : (old new : Heap) (list : KeyList) → new list.offset ≡ old list.offset → grown_size new list ≡ grown_size old list
grown-same old new list same =
    ap (λ (bytes : List ℕ). cond (nat_le (4 + 8 * suc (length list.list.entries)) (length bytes)) None (Some (list_size (suc (length list.list.entries)))))
    (held-same old new list.offset same)

roots-same : (old new : Heap) (index : Index) → ((z : ℕ) → 0 < times z (cells_of_index index) → new z ≡ old z) → root_sizes new index ≡ root_sizes old index
roots-same old new Unlisted calm = refl
roots-same old new (Listed list) calm = refl
roots-same old new (Rooted offset lists) calm =
    ap (λ (bytes : List ℕ). cond (nat_le (4 + 4 * suc (length lists)) (length bytes)) None (Some (root_size (suc (length lists)))))
    (held-same old new offset (calm offset (omega (arith, times-self offset []))))

sizes-same : (old new : Heap) (index : Index) (place : Place) → IsPlaceIn index place → ((z : ℕ) → 0 < times z (cells_of_index index) → new z ≡ old z) →
    sizes_in new index place.list ≡ sizes_in old index place.list
sizes-same old new Unlisted place p calm = refl
sizes-same old new (Listed list) place p calm =
    let l : KeyList = numbered place.list (list ∷ []) in
    let there : new l.offset ≡ old l.offset = calm l.offset (omega (arith, offsets-parted (list ∷ []) place.list p.0 l.offset, times-self l.offset [])) in
    (λ i. cond (length l.list.entries == LEAF_LIMIT)
    (record { list = Some (list_size FIRST_HALF); second = Some (list_size SECOND_HALF); root = roots-same old new (Listed list) calm i })
    (record { list = grown-same old new l there i; second = None; root = None }))
sizes-same old new (Rooted offset lists) place p calm =
    let l : KeyList = numbered place.list lists in
    let there : new l.offset ≡ old l.offset = calm l.offset (omega (arith, offsets-parted lists place.list p.0 l.offset, times-self l.offset [])) in
    (λ i. cond (length l.list.entries == LEAF_LIMIT)
    (record { list = Some (list_size FIRST_HALF); second = Some (list_size SECOND_HALF); root = roots-same old new (Rooted offset lists) calm i })
    (record { list = grown-same old new l there i; second = None; root = None }))

module _ (old new : Heap) (count offset : ℕ) (entries : List Entry) (s : AreSubkeys old count offset entries) (same : (z : ℕ) → 0 < times z (own old count offset) → new z ≡ old z) where
  calm : (z : ℕ) → 0 < times z (cells_of_index s.index) → new z ≡ old z
  calm z l = same z (subst (λ cells. 0 < times z cells) (sym (own-is old count offset s.index s.read)) l)

  read : index_at new count offset ≡ Some s.index
  read = index-stays old new count offset s.index s.read calm

  -- the index is what it was, and so is each place in it
  pub index-elsewhere : index_of new count offset ≡ index_of old count offset
  index-elsewhere = index-is new count offset s.index read ∙ sym (index-is old count offset s.index s.read)

  pub flat-elsewhere : (place : Place) → flat new count offset place ≡ flat old count offset place
  flat-elsewhere place = ap (λ i. flat_in i place) index-elsewhere

  pub place-elsewhere : (place : Place) → IsPlaceIn (index_of old count offset) place → IsPlaceIn (index_of new count offset) place
  place-elsewhere place p = subst (λ i. IsPlaceIn i place) (sym index-elsewhere) p

  pub stands-elsewhere : (place : Place) → StandsIn (index_of old count offset) place → StandsIn (index_of new count offset) place
  stands-elsewhere place p = subst (λ i. StandsIn i place) (sym index-elsewhere) p

  -- and so are the sizes that a subkey there takes
  pub sizes-elsewhere : (place : Place) → IsPlaceIn (index_of old count offset) place → insert_sizes new count offset place ≡ insert_sizes old count offset place
  unfolding insert_sizes
  sizes-elsewhere place p =
      ap (λ i. sizes_in new i place.list) (index-is new count offset s.index read)
      ∙ (sizes-same old new s.index place (subst (λ i. IsPlaceIn i place) (index-is old count offset s.index s.read) p) calm
      ∙ ap (λ i. sizes_in old i place.list) (sym (index-is old count offset s.index s.read)))

-- ---- how large they are

-- a size of a cell, of so many bytes at most
abbrev pub IsSizeTo : ℕ → Option ℕ → Type 0
IsSizeTo most size = (n : ℕ) → size ≡ Some n → (n % 8 ≡ 0) × (16 ≤ n) × (n ≤ most)

-- those of a list of 500 subkeys, of the second half of one, and of an index root of 60,000 lists
pub record AreSizesTo (sizes : IndexCells) : Type 0 where
  pub list : IsSizeTo 4008 sizes.list
  pub second : IsSizeTo 2016 sizes.second
  pub root : IsSizeTo 240008 sizes.root

no-size : (most : ℕ) → IsSizeTo most None
no-size most n e = absurd (none-some _ e)

some-size : (most size : ℕ) → (size % 8 ≡ 0) × (16 ≤ size) × (size ≤ most) → IsSizeTo most (Some size)
some-size most size l n e = subst (λ n. (n % 8 ≡ 0) × (16 ≤ n) × (n ≤ most)) (same_Some _ _ e) l

pub test-size : (most size : ℕ) (b : Bool) → (size % 8 ≡ 0) × (16 ≤ size) × (size ≤ most) → IsSizeTo most (cond b None (Some size))
test-size most size true l = no-size most
test-size most size false l = some-size most size l

grown-to : (heap : Heap) (list : KeyList) → length list.list.entries < LEAF_LIMIT → IsSizeTo 4008 (grown_size heap list)
grown-to heap list l =
    test-size 4008 (list_size (suc (length list.list.entries))) (nat_le (4 + 8 * suc (length list.list.entries)) (length (held heap list.offset))) (omega arith, omega arith, omega (arith, l))

root-to : (heap : Heap) (offset : ℕ) (lists : List KeyList) → length lists < SUBKEYS_LIMIT → IsSizeTo 240008 (root_sizes heap (index_under offset lists))
root-to heap offset [] few = no-size 240008
root-to heap offset (list ∷ []) few = some-size 240008 16 (refl, omega arith, omega arith)
root-to heap offset (first ∷ second ∷ others) few =
    let k : ℕ = suc (length (first ∷ second ∷ others)) in
    test-size 240008 (root_size k) (nat_le (4 + 4 * k) (length (held heap offset))) (omega arith, omega arith, omega (arith, few))

pub sizes-to : (heap : Heap) (count offset : ℕ) (entries : List Entry) → AreSubkeys heap count offset entries → count < SUBKEYS_LIMIT →
    (place : Place) → IsPlaceIn (index_of heap count offset) place → AreSizesTo (insert_sizes heap count offset place)
sizes-to heap zero offset entries s few place p =
    subst AreSizesTo (first-sizes heap zero offset place refl)
    (record { list = some-size 4008 FIRST_LIST_SIZE (refl, omega arith, omega arith); second = no-size 2016; root = no-size 240008 })
sizes-to heap (suc count) offset entries s few place p =
    by (cases_eq (length (numbered place.list (lists_of s.index)).list.entries) LEAF_LIMIT)
  where
    some : suc count ≡ 0 → ⊥
    some e = absurd (omega (arith, e))

    by : (length (numbered place.list (lists_of s.index)).list.entries ≡ LEAF_LIMIT) ⊎ (length (numbered place.list (lists_of s.index)).list.entries ≡ LEAF_LIMIT → ⊥) →
        AreSizesTo (insert_sizes heap (suc count) offset place)
    by (inl e) =
        let h = lists-has heap (suc count) offset entries s in
        let lists_few = few-by heap (lists_of s.index) (all-stand heap offset (lists_of s.index) h) in
        subst AreSizesTo (planned-two heap (suc count) offset place entries s some _ e refl)
        (record {
          list = some-size 4008 (list_size FIRST_HALF) (refl, omega arith, omega arith);
          second = some-size 2016 (list_size SECOND_HALF) (refl, omega arith, omega arith);
          root = root-to heap offset (lists_of s.index) (omega (arith, lists_few, ap length s.entries_are, s.number, few));
        })
    by (inr n) =
        let h = lists-has heap (suc count) offset entries s in
        let l = (place-there heap (suc count) offset place entries s some p).0 in
        subst AreSizesTo (planned-one heap (suc count) offset place entries s some _ n refl)
        (record {
          list = grown-to heap (numbered place.list (lists_of s.index)) (omega (arith, (list-stands heap offset (lists_of s.index) place.list h l).written.few, n));
          second = no-size 2016;
          root = no-size 240008;
        })
