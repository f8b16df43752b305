-- The walk along a path at stores of cells that were worked out by hand.
use Rattle.std.proofs.Common.{◌≡◌, ℕ, List, [], ◌∷◌, ◌++◌, length, replicate, Some, None, Ok, Err, refl}
use Rattle.byteorder.specs.Endian.{little_bytes}
use Rattle.reg_heap.specs.ByteWords.{half, word, long}
use Rattle.reg_heap.specs.Heaps.{Heap}
use Rattle.reg_heap.specs.Kinds.Kind.{Key, Leaf, ValueList, Value}
use Rattle.reg_records.specs.KeyNodes.{nk_of}
use Rattle.reg_records.specs.KeyValues.{vk_of}
use Rattle.reg_records.specs.OffsetRows.{row_in, offsets_at}
use Rattle.reg_records.specs.SubkeyLists.{list_of}
use Rattle.reg_tree_image.specs.declared.LoadFault.TheVariants.{Record, Loop, Twice, Short, Limit}
use Rattle.reg_tree_image.specs.PathWalk.{key_of_path, value_from, value_of_path}
use Rattle.reg_tree_image.specs.PathLoads.{image_path, looked_up, value_walk}
use Rattle.reg_tree_image.specs.Images.{nothing}
use Rattle.reg_tree_image.proofs.Computed.RowsOfWalks.{store, met}

-- a key node of one byte a character: so many subkeys in a list, so many values in a row; its security, at 500, is nowhere
abbrev pub key : ℕ → ℕ → ℕ → ℕ → List ℕ → List ℕ
key subkeys list values row name =
    (110 ∷ 107 ∷ 32 ∷ 0 ∷ []) ++ (replicate 8 0 ++ (little_bytes 4 0 ++ (little_bytes 4 32 ++ (little_bytes 4 subkeys ++ (little_bytes 4 0 ++ (little_bytes 4 list
    ++ (little_bytes 4 4294967295 ++ (little_bytes 4 values ++ (little_bytes 4 row ++ (little_bytes 4 500 ++ (little_bytes 4 4294967295 ++
    (replicate 20 0 ++ (little_bytes 2 (length name) ++ (little_bytes 2 0 ++ name))))))))))))))

-- a value of one byte a character
abbrev pub value : ℕ → ℕ → ℕ → List ℕ → List ℕ
value size place kind name =
    (118 ∷ 107 ∷ []) ++ (little_bytes 2 (length name) ++ (little_bytes 4 size ++ (little_bytes 4 place ++ (little_bytes 4 kind ++ (little_bytes 4 1 ++ name)))))

-- a key R, and below it a key a with the values x, whose data of five bytes can't stand in a field, and y, whose data of one byte does
abbrev pub hive : Heap
hive = store
    ((32, key 1 100 0 4294967295 (82 ∷ []))
    ∷ (100, (108 ∷ 104 ∷ 1 ∷ 0 ∷ []) ++ (little_bytes 4 300 ++ little_bytes 4 66))
    ∷ (300, key 0 4294967295 2 700 (97 ∷ []))
    ∷ (700, little_bytes 4 800 ++ little_bytes 4 820)
    ∷ (800, value 2147483653 0 3 (120 ∷ []))
    ∷ (820, value 2147483649 9 4 (121 ∷ []))
    ∷ [])

-- A and Y lead to y; the data of x isn't read
there : value_of_path hive 5 ((65 ∷ []) ∷ []) 32 (89 ∷ []) nothing ≡ Ok (
  Some (Some (record { name = 121 ∷ []; kind = 4; bytes = 9 ∷ [] })),
  record { found = met Key 32 ∷ met Leaf 100 ∷ met Key 300 ∷ met ValueList 700 ∷ met Value 800 ∷ met Value 820 ∷ []; told = [] },
)
unfolding nk_of vk_of list_of row_in offsets_at half word long
there = refl

-- A and X lead to data that can't be read
bad-data : value_of_path hive 5 ((65 ∷ []) ∷ []) 32 (88 ∷ []) nothing ≡ Err Record
unfolding nk_of vk_of list_of row_in offsets_at half word long
bad-data = refl

-- there is no value z, no key b, and no value of the root
no-value : value_of_path hive 5 ((65 ∷ []) ∷ []) 32 (122 ∷ []) nothing ≡ Ok (
  Some None,
  record { found = met Key 32 ∷ met Leaf 100 ∷ met Key 300 ∷ met ValueList 700 ∷ met Value 800 ∷ met Value 820 ∷ []; told = [] },
)
unfolding nk_of vk_of list_of row_in offsets_at half word long
no-value = refl

no-key : value_of_path hive 5 ((98 ∷ []) ∷ []) 32 (121 ∷ []) nothing ≡ Ok (None, record { found = met Key 32 ∷ met Leaf 100 ∷ met Key 300 ∷ []; told = [] })
unfolding nk_of vk_of list_of row_in offsets_at half word long
no-key = refl

of-the-root : value_of_path hive 5 [] 32 (121 ∷ []) nothing ≡ Ok (Some None, record { found = met Key 32 ∷ []; told = [] })
unfolding nk_of vk_of list_of row_in offsets_at half word long
of-the-root = refl

-- a root with two subkeys A and B at these offsets, of which the first has one subkey, in a list that names a third offset
abbrev three : ℕ → ℕ → ℕ → Heap
three a b below = store
    ((32, key 2 100 0 4294967295 (82 ∷ []))
    ∷ (100, (108 ∷ 105 ∷ 2 ∷ 0 ∷ []) ++ (little_bytes 4 a ++ little_bytes 4 b))
    ∷ (300, key 1 640 1 300 (65 ∷ []))
    ∷ (400, key 0 4294967295 0 4294967295 (66 ∷ []))
    ∷ (640, (108 ∷ 105 ∷ 1 ∷ 0 ∷ []) ++ little_bytes 4 below)
    ∷ [])

-- what is behind the key that is found isn't looked at; what is before it is
found-first : value_of_path (three 300 0 32) 5 ((65 ∷ []) ∷ (65 ∷ []) ∷ []) 32 [] nothing ≡ Err Loop
unfolding nk_of vk_of list_of row_in offsets_at half word long
found-first = refl

bad-before : key_of_path (three 0 400 32) ((66 ∷ []) ∷ []) 32 nothing ≡ Err Record
unfolding nk_of list_of half word long
bad-before = refl

-- a key that is named twice, a key below itself, and one below its sibling that was passed
named-twice : key_of_path (three 300 300 32) ((66 ∷ []) ∷ []) 32 nothing ≡ Err Twice
unfolding nk_of list_of half word long
named-twice = refl

itself : key_of_path (three 300 400 300) ((65 ∷ []) ∷ (65 ∷ []) ∷ []) 32 nothing ≡ Err Loop
unfolding nk_of list_of half word long
itself = refl

-- a key as its own row of values
own-row : value_of_path (three 300 400 32) 5 ((65 ∷ []) ∷ []) 32 [] nothing ≡ Err Loop
unfolding nk_of vk_of list_of row_in offsets_at half word long
own-row = refl

-- too many values in a row that is nowhere
too-many : value_from hive 5 [] (121 ∷ []) 16385 0 nothing ≡ Err Limit
too-many = refl

-- an image without a base block
no-image : looked_up (value_walk [] []) [] ≡ Err Short
unfolding image_path looked_up
no-image = refl
