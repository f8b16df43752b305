-- Where the name of a key to be made belongs, while cells are carved and keys are made.
use Rattle.std.proofs.Common.{◌≡◌, ℕ, Some, List, refl, sym, subst, arith}
use Rattle.std.specs.Prelude.{Err}
use Rattle.reg_names.specs.Names.{folded}
use Rattle.reg_heap.specs.Heaps.{Heap}
use Rattle.reg_records.specs.KeyNodes.{KeyRecord, key_at}
use Rattle.reg_records.specs.SubkeyLists.{Entry}
use Rattle.reg_index.specs.Subkeys.{AreSubkeys, IsIndexFor, IsPlaceIn, flat, index_of, names_in}
use Rattle.reg_index.proofs.NameSearch.{length-names}
use Rattle.reg_tree.specs.CellSizes.{first_place}
use Rattle.reg_tree.specs.Internal.ReachedPlaces.{BelongsFirst}

-- below a key without subkeys it is the first
pub belongs_only : (h : Heap) (key : ℕ) → ((k : KeyRecord) → key_at h key ≡ Some k → k.fields.subkeys ≡ 0) → (names : List (List ℕ)) → BelongsFirst h key names first_place
belongs_only h key none names name others e k reads =
    let n = none k reads in
    subst (λ count. IsPlaceIn (index_of h count k.fields.subkeys_list) first_place
    × ((entries : List Entry) → AreSubkeys h count k.fields.subkeys_list entries →
    IsIndexFor (names_in h entries) (folded name) (Err (flat h count k.fields.subkeys_list first_place)))) (sym n)
    ((refl, refl), by)
  where
    by : (entries : List Entry) → AreSubkeys h 0 k.fields.subkeys_list entries → IsIndexFor (names_in h entries) (folded name) (Err 0)
    by entries s =
        let m = s.number in
        let l = length-names h entries in
        (omega arith, (λ i low. absurd (omega (arith, low))), (λ i low high. absurd (omega (arith, high, m, l))))
