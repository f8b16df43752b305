-- The key that a path leads to, read for its listing, at stores of cells that were worked out by hand.
use Rattle.std.proofs.Common.{◌≡◌, ℕ, [], ◌∷◌, ◌++◌, Some, None, Ok, Err, refl}
use Rattle.byteorder.specs.Endian.{little_bytes}
use Rattle.reg_heap.specs.ByteWords.{half, word, long}
use Rattle.reg_heap.specs.Heaps.{Heap}
use Rattle.reg_heap.specs.Kinds.Kind.{Key, SubList, Leaf, ValueList, Value}
use Rattle.reg_records.specs.KeyNodes.{nk_of}
use Rattle.reg_records.specs.KeyValues.{vk_of}
use Rattle.reg_records.specs.OffsetRows.{row_in, offsets_at}
use Rattle.reg_records.specs.SubkeyLists.{list_of}
use Rattle.reg_tree_image.specs.declared.LoadFault.TheVariants.{Record, Loop, Twice, Short}
use Rattle.reg_tree_image.specs.KeyListing.{key_on_path}
use Rattle.reg_tree_image.specs.PathLoads.{image_path, looked_up, key_walk}
use Rattle.reg_tree_image.specs.Images.{nothing}
use Rattle.reg_tree_image.proofs.Computed.RowsOfWalks.{store, met}
use Rattle.reg_tree_image.proofs.Computed.RowsOfPaths.{key, value, hive}

-- a root with a value y of one byte, and three subkeys in two lists of an index root, of which the first names b and a, the second C;
-- a second value, at an offset that is given; the third subkey at another
abbrev wide : ℕ → ℕ → Heap
wide other third = store
    ((32, key 3 100 2 700 (82 ∷ []))
    ∷ (100, (114 ∷ 105 ∷ 2 ∷ 0 ∷ []) ++ (little_bytes 4 200 ++ little_bytes 4 240))
    ∷ (200, (108 ∷ 105 ∷ 2 ∷ 0 ∷ []) ++ (little_bytes 4 300 ++ little_bytes 4 400))
    ∷ (240, (108 ∷ 105 ∷ 1 ∷ 0 ∷ []) ++ little_bytes 4 third)
    ∷ (300, key 5 0 5 0 (98 ∷ []))
    ∷ (400, key 0 4294967295 0 4294967295 (97 ∷ []))
    ∷ (500, key 0 4294967295 0 4294967295 (67 ∷ []))
    ∷ (700, little_bytes 4 820 ++ little_bytes 4 other)
    ∷ (820, value 2147483649 9 4 (121 ∷ []))
    ∷ (860, value 2147483650 513 3 (90 ∷ []))
    ∷ (900, value 2147483653 0 3 (120 ∷ []))
    ∷ (940, value 2147483649 9 4 (89 ∷ []))
    ∷ [])

-- its values in their order, and the names in the order of the lists; what is below the subkeys isn't looked at
listed : key_on_path (wide 860 500) 5 [] 32 nothing ≡ Ok (
  Some
      (record {
        values = record { name = 121 ∷ []; kind = 4; bytes = 9 ∷ [] } ∷ record { name = 90 ∷ []; kind = 3; bytes = 1 ∷ 2 ∷ [] } ∷ [];
        subkeys = (98 ∷ []) ∷ (97 ∷ []) ∷ (67 ∷ []) ∷ [];
      }),
  record {
    found = met Key 32 ∷ met ValueList 700 ∷ met Value 820 ∷ met Value 860 ∷ met SubList 100 ∷ met Leaf 200 ∷ met Key 300 ∷ met Key 400 ∷ met Leaf 240
        ∷ met Key 500 ∷ [];
    told = [];
  },
)
unfolding nk_of vk_of list_of row_in offsets_at half word long
listed = refl

-- a value whose data can't be read, and one of the same folded name; both before a subkey that is nowhere
bad-value : key_on_path (wide 900 0) 5 [] 32 nothing ≡ Err Record
unfolding nk_of vk_of list_of row_in offsets_at half word long
bad-value = refl

same-value : key_on_path (wide 940 0) 5 [] 32 nothing ≡ Err Twice
unfolding nk_of vk_of list_of row_in offsets_at half word long
same-value = refl

-- a subkey that is the key itself, and one that is a list
itself : key_on_path (wide 860 32) 5 [] 32 nothing ≡ Err Loop
unfolding nk_of vk_of list_of row_in offsets_at half word long
itself = refl

named-twice : key_on_path (wide 860 200) 5 [] 32 nothing ≡ Err Twice
unfolding nk_of vk_of list_of row_in offsets_at half word long
named-twice = refl

-- a key below the root that has no subkeys; there is no key c, and none below a
alone : key_on_path (wide 860 500) 5 ((65 ∷ []) ∷ []) 32 nothing ≡ Ok (
  Some (record { values = []; subkeys = [] }),
  record { found = met Key 32 ∷ met SubList 100 ∷ met Leaf 200 ∷ met Key 300 ∷ met Key 400 ∷ []; told = [] },
)
unfolding nk_of vk_of list_of row_in offsets_at half word long
alone = refl

no-key : key_on_path hive 5 ((98 ∷ []) ∷ []) 32 nothing ≡ Ok (None, record { found = met Key 32 ∷ met Leaf 100 ∷ met Key 300 ∷ []; told = [] })
unfolding nk_of vk_of list_of row_in offsets_at half word long
no-key = refl

-- an image without a base block
no-image : looked_up (key_walk []) [] ≡ Err Short
unfolding image_path looked_up
no-image = refl
