-- Where the walk fails, at stores of cells and at images that were worked out by hand.
use Rattle.std.proofs.Common.{◌≡◌, ℕ, ◌+◌, List, [], ◌∷◌, ◌++◌, length, replicate, Some, None, refl}
use Rattle.byteorder.specs.Endian.{little_bytes}
use Rattle.reg_heap.specs.ByteWords.{half, word, long, splice}
use Rattle.reg_heap.specs.Heaps.{Heap}
use Rattle.reg_records.specs.KeyNodes.{nk_of}
use Rattle.reg_records.specs.KeyValues.{vk_of}
use Rattle.reg_records.specs.KeySecurities.{sk_of}
use Rattle.reg_records.specs.OffsetRows.{row_in, offsets_at}
use Rattle.reg_records.specs.SubkeyLists.{list_of}
use Rattle.reg_records.specs.BigData.{segment_size}
use Rattle.reg_tree_image.specs.LoadingWalk.{root_path, key_from}
use Rattle.reg_tree_image.specs.BaseBlock.{checksum_of, block_of}
use Rattle.reg_tree_image.specs.Images.{image_of, nothing}
use Rattle.reg_tree_image.specs.FaultPlaces.{Spot, key_spot, key_text, keyless, hive_place, image_place, place_of}
use Rattle.reg_tree_image.proofs.Computed.RowsOfWalks.{store}
use Rattle.reg_tree_image.proofs.Computed.RowsOfImages.{first_image}

abbrev at : ℕ → List ℕ → Spot
at offset path = record { offset = offset; path = path }

-- a key node of one byte a character, whose security is at 500
abbrev key : (subkeys list values values_list class class_length : ℕ) → List ℕ → List ℕ
key subkeys list values values_list class class_length name =
    (110 ∷ 107 ∷ 32 ∷ 0 ∷ []) ++ (replicate 8 0 ++ (little_bytes 4 0 ++ (little_bytes 4 32 ++ (little_bytes 4 subkeys ++ (little_bytes 4 0 ++ (little_bytes 4 list ++ (little_bytes 4 4294967295
    ++ (little_bytes 4 values ++ (little_bytes 4 values_list ++ (little_bytes 4 500 ++ (little_bytes 4 class ++
    (replicate 20 0 ++ (little_bytes 2 (length name) ++ (little_bytes 2 class_length ++ name))))))))))))))

abbrev security : List ℕ
security = (115 ∷ 107 ∷ 0 ∷ 0 ∷ []) ++ (little_bytes 4 500 ++ (little_bytes 4 500 ++ (little_bytes 4 3 ++ (little_bytes 4 1 ++ (7 ∷ [])))))

-- a value of a size and an offset, named `v`
abbrev value : ℕ → ℕ → List ℕ
value size offset = (118 ∷ 107 ∷ []) ++ (little_bytes 2 1 ++ (little_bytes 4 size ++ (little_bytes 4 offset ++ (little_bytes 4 1 ++ (little_bytes 2 1 ++ (0 ∷ 0 ∷ 118 ∷ []))))))

-- a root with these subkeys, the first of them `a`, and what else stands there
abbrev family : List ℕ → List ℕ → List (ℕ × List ℕ) → Heap
family first second cells =
    store ((32, key 2 100 0 0 0 0 (82 ∷ []))
    ∷ (100, (108 ∷ 105 ∷ 2 ∷ 0 ∷ []) ++ (little_bytes 4 200 ++ little_bytes 4 300))
    ∷ (200, first)
    ∷ (300, second)
    ∷ (500, security)
    ∷ cells)

abbrev plain : List ℕ → List ℕ
plain name = key 0 0 0 0 0 0 name

whole : key_spot (family (plain (97 ∷ [])) (plain (98 ∷ [])) []) 5 513 [] root_path 32 nothing ≡ None
unfolding key_spot key_from nk_of sk_of vk_of list_of row_in half word long
whole = refl

-- the root's own node
bad-root : key_spot (store ((32, 110 ∷ 107 ∷ []) ∷ [])) 5 513 [] root_path 32 nothing ≡ Some (at 32 [])
unfolding key_spot key_from nk_of sk_of vk_of list_of row_in half word long
bad-root = refl

no-root : key_spot (store []) 5 513 [] root_path 32 nothing ≡ Some (at 32 [])
unfolding key_spot key_from nk_of sk_of vk_of list_of row_in half word long
no-root = refl

-- `b` can't be read
bad-second : key_spot (family (plain (97 ∷ [])) (110 ∷ 107 ∷ []) []) 5 513 [] root_path 32 nothing ≡ Some (at 300 (32 ∷ []))
unfolding key_spot key_from nk_of sk_of vk_of list_of row_in half word long
bad-second = refl

-- `a` and `A`: the second one
twice : key_spot (family (plain (97 ∷ [])) (plain (65 ∷ [])) []) 5 513 [] root_path 32 nothing ≡ Some (at 300 (32 ∷ []))
unfolding key_spot key_from nk_of sk_of vk_of list_of row_in half word long
twice = refl

-- no level is left for `a`
deep : key_spot (family (plain (97 ∷ [])) (plain (98 ∷ [])) []) 5 1 [] root_path 32 nothing ≡ Some (at 200 (32 ∷ []))
unfolding key_spot key_from nk_of sk_of vk_of list_of row_in half word long
deep = refl

-- the class of `b` has 3 bytes of 4
bad-class : key_spot (family (plain (97 ∷ [])) (key 0 0 0 0 700 4 (98 ∷ [])) ((700, 1 ∷ 2 ∷ 3 ∷ []) ∷ [])) 5 513 [] root_path 32 nothing ≡ Some (at 700 (300 ∷ 32 ∷ []))
unfolding key_spot key_from nk_of sk_of vk_of list_of row_in half word long
bad-class = refl

-- the root has no security
no-security : key_spot (store ((32, plain (82 ∷ [])) ∷ [])) 5 513 [] root_path 32 nothing ≡ Some (at 500 (32 ∷ []))
unfolding key_spot key_from nk_of sk_of vk_of list_of row_in half word long
no-security = refl

-- `b` has a list of a value that names two
short-list : key_spot (family (plain (97 ∷ [])) (key 0 0 2 700 0 0 (98 ∷ [])) ((700, little_bytes 4 800) ∷ [])) 5 513 [] root_path 32 nothing ≡ Some (at 700 (300 ∷ 32 ∷ []))
unfolding key_spot key_from nk_of sk_of vk_of list_of row_in half word long
short-list = refl

-- too many values, whatever stands at the list's offset
many-values : key_spot (family (plain (97 ∷ [])) (key 0 0 16385 700 0 0 (98 ∷ [])) []) 5 513 [] root_path 32 nothing ≡ Some (at 700 (300 ∷ 32 ∷ []))
unfolding key_spot key_from nk_of sk_of vk_of list_of row_in half word long
many-values = refl

-- the second value of `b` has no data cell, which is to be at 1000
bad-data : key_spot (family (plain (97 ∷ [])) (key 0 0 2 700 0 0 (98 ∷ [])) ((700, little_bytes 4 800 ++ little_bytes 4 900) ∷ (800, value 0 0) ∷ (
  900,
  (118 ∷ 107 ∷ []) ++ (little_bytes 2 1
      ++ (little_bytes 4 5 ++ (little_bytes 4 1000 ++ (little_bytes 4 1 ++ (little_bytes 2 1 ++ (0 ∷ 0 ∷ 119 ∷ [])))))),
) ∷ [])) 5 513 [] root_path 32 nothing ≡ Some (at 1000 (300 ∷ 32 ∷ []))
unfolding key_spot key_from nk_of sk_of vk_of list_of row_in offsets_at half word long segment_size
bad-data = refl

-- data of 5 bytes in the record, and data that is too long
inline-data : key_spot (family (plain (97 ∷ [])) (key 0 0 1 700 0 0 (98 ∷ [])) ((700, little_bytes 4 800) ∷ (800, value 2147483653 0) ∷ [])) 5 513 [] root_path 32 nothing
    ≡ Some (at 800 (300 ∷ 32 ∷ []))
unfolding key_spot key_from nk_of sk_of vk_of list_of row_in offsets_at half word long segment_size
inline-data = refl

long-data : key_spot (family (plain (97 ∷ [])) (key 0 0 1 700 0 0 (98 ∷ [])) ((700, little_bytes 4 800) ∷ (800, value 1048577 900) ∷ [])) 5 513 [] root_path 32 nothing
    ≡ Some (at 800 (300 ∷ 32 ∷ []))
unfolding key_spot key_from nk_of sk_of vk_of list_of row_in offsets_at half word long segment_size
long-data = refl

-- a value of the name of the one before it
value-twice : key_spot (family (plain (97 ∷ [])) (key 0 0 2 700 0 0 (98 ∷ [])) ((700, little_bytes 4 800 ++ little_bytes 4 900) ∷ (800, value 0 0) ∷ (900, value 0 0) ∷ [])) 5 513 [] root_path 32 nothing
    ≡ Some (at 900 (300 ∷ 32 ∷ []))
unfolding key_spot key_from nk_of sk_of vk_of list_of row_in offsets_at half word long segment_size
value-twice = refl

-- the list of the subkeys of `a`, which is met before `b`
bad-list : key_spot (family (key 1 700 0 0 0 0 (97 ∷ [])) (110 ∷ 107 ∷ []) ((700, 108 ∷ 105 ∷ []) ∷ [])) 5 513 [] root_path 32 nothing ≡ Some (at 700 (200 ∷ 32 ∷ []))
unfolding key_spot key_from nk_of sk_of vk_of list_of row_in half word long
bad-list = refl

-- an index root below `a` whose second list can't be read
bad-leaf : key_spot (family (key 1 700 0 0 0 0 (97 ∷ [])) (plain (98 ∷ [])) ((700, (114 ∷ 105 ∷ 2 ∷ 0 ∷ []) ++ (little_bytes 4 800 ++ little_bytes 4 900))
    ∷ (800, 108 ∷ 105 ∷ 0 ∷ 0 ∷ []) ∷ (900, (114 ∷ 105 ∷ 0 ∷ 0 ∷ [])) ∷ [])) 5 513 [] root_path 32 nothing ≡ Some (at 900 (200 ∷ 32 ∷ []))
unfolding key_spot key_from nk_of sk_of vk_of list_of row_in half word long
bad-leaf = refl

-- a key below itself
below-itself : key_spot (family (key 1 700 0 0 0 0 (97 ∷ [])) (plain (98 ∷ [])) ((700, (108 ∷ 105 ∷ 1 ∷ 0 ∷ []) ++ little_bytes 4 200) ∷ [])) 5 513 [] root_path 32 nothing
    ≡ Some (at 200 (200 ∷ 32 ∷ []))
unfolding key_spot key_from nk_of sk_of vk_of list_of row_in half word long
below-itself = refl

-- ---- paths

-- the names as they are spelt, but the root's
path : key_text (family (plain (97 ∷ [])) (plain (66 ∷ 98 ∷ [])) []) (200 ∷ 300 ∷ 32 ∷ []) ≡ Some (66 ∷ 98 ∷ 92 ∷ 97 ∷ [])
unfolding nk_of half word long
path = refl

path-of-root : key_text (family (plain (97 ∷ [])) (plain (98 ∷ [])) []) (32 ∷ []) ≡ Some []
unfolding nk_of half word long
path-of-root = refl

-- ---- images

first-place : place_of first_image ≡ None
unfolding image_of block_of checksum_of word half long place_of image_place hive_place key_spot key_from nk_of sk_of
first-place = refl

-- a base block has no place
no-signature : place_of (splice 0 (0 ∷ []) first_image) ≡ None
unfolding image_of block_of checksum_of word half long splice place_of image_place hive_place key_spot key_from nk_of sk_of
no-signature = refl

no-bin : place_of (splice 4096 (0 ∷ []) first_image) ≡ Some (keyless 0)
unfolding image_of block_of checksum_of word half long splice place_of image_place hive_place key_spot key_from nk_of sk_of
no-bin = refl

-- the free cell behind the two others
odd-cell : place_of (splice (4096 + 168) (little_bytes 4 3927) first_image) ≡ Some (keyless 168)
unfolding image_of block_of checksum_of word half long splice place_of image_place hive_place key_spot key_from nk_of sk_of
odd-cell = refl

-- the root's node, and its security
no-node : place_of (splice (4096 + 36) (0 ∷ []) first_image) ≡ Some (keyless 32)
unfolding image_of block_of checksum_of word half long splice place_of image_place hive_place key_spot key_from nk_of sk_of
no-node = refl

no-descriptor : place_of (splice (4096 + 124) (0 ∷ []) first_image) ≡ Some (record { offset = 120; key = Some [] })
unfolding image_of block_of checksum_of word half long splice place_of image_place hive_place key_spot key_from nk_of sk_of
no-descriptor = refl
