-- The walk and the tree spelt, at stores of cells that were worked out by hand.
use Rattle.std.proofs.Common.{◌≡◌, ℕ, ◌==◌, cond, List, [], ◌∷◌, ◌++◌, length, replicate, Some, None, refl}
use Rattle.byteorder.specs.Endian.{little_bytes}
use Rattle.reg_heap.specs.ByteWords.{half, word, long}
use Rattle.reg_heap.specs.Paths.{Rec}
use Rattle.reg_heap.specs.Heaps.{Heap}
use Rattle.reg_heap.specs.Kinds.{Kind, Found}
use Rattle.reg_heap.specs.Kinds.Kind.{Key, Class, SubList, Leaf, Value, Data, BigHead, BigList, Segment, Security}
use Rattle.reg_arena.specs.Cells.{cells_of, cell_at}
use Rattle.reg_records.specs.KeyNodes.{nk_of, key_at}
use Rattle.reg_records.specs.KeyValues.{vk_of}
use Rattle.reg_records.specs.KeySecurities.{sk_of, security_at}
use Rattle.reg_records.specs.OffsetRows.{row_in, offsets_at}
use Rattle.reg_records.specs.SubkeyLists.{list_of}
use Rattle.reg_records.specs.BigData.{plainly, segment_size, db_of, db_in}
use Rattle.reg_shape.specs.Walk.{walk}
use Rattle.reg_shape.specs.Nodes.{look}
use Rattle.reg_shape.specs.Spelt.{keys_from}
use Rattle.reg_shape.proofs.Computed.RowsOfHives.{fresh}

-- a store of these cells, the first at an offset if there are two
abbrev store : List (ℕ × List ℕ) → Heap
store [] offset = None
store (c ∷ cells) offset = cond (c.0 == offset) (Some c.1) (store cells offset)

abbrev met : Kind → ℕ → Found
met kind offset = record { kind = kind; offset = offset }

-- a key node of one byte a character: so many subkeys in a list, values in a list, a class of a length; its security is at 500
abbrev key : ℕ → ℕ → ℕ → ℕ → ℕ → ℕ → List ℕ → List ℕ
key subkeys list values values_list class_length class name =
    (110 ∷ 107 ∷ 32 ∷ 0 ∷ []) ++ (replicate 8 0 ++ (little_bytes 4 0 ++ (little_bytes 4 32 ++ (little_bytes 4 subkeys ++ (little_bytes 4 0 ++ (little_bytes 4 list ++ (little_bytes 4 4294967295
    ++ (little_bytes 4 values ++
    (little_bytes 4 values_list ++
    (little_bytes 4 500 ++
    (little_bytes 4 class ++ (replicate 20 0 ++ (little_bytes 2 (length name) ++ (little_bytes 2 class_length ++ name))))))))))))))

-- a key security with a descriptor of one byte
abbrev security : List ℕ
security = (115 ∷ 107 ∷ 0 ∷ 0 ∷ []) ++ (little_bytes 4 500 ++ (little_bytes 4 500 ++ (little_bytes 4 3 ++ (little_bytes 4 1 ++ (7 ∷ [])))))

-- a value without a name
abbrev value : ℕ → ℕ → List ℕ
value size offset = (118 ∷ 107 ∷ 0 ∷ 0 ∷ []) ++ (little_bytes 4 size ++ (little_bytes 4 offset ++ (little_bytes 4 3 ++ little_bytes 4 0)))

-- ---- lists of subkeys: an index root of an index leaf and a hash leaf, and a fast leaf alone

abbrev rooted : Heap
rooted = store
    ((32, key 2 100 0 4294967295 0 4294967295 (82 ∷ []))
    ∷ (100, (114 ∷ 105 ∷ 2 ∷ 0 ∷ []) ++ (little_bytes 4 200 ++ little_bytes 4 220))
    ∷ (200, (108 ∷ 105 ∷ 1 ∷ 0 ∷ []) ++ little_bytes 4 300)
    ∷ (220, (108 ∷ 104 ∷ 1 ∷ 0 ∷ []) ++ (little_bytes 4 400 ++ little_bytes 4 66))
    ∷ (300, key 1 600 0 4294967295 0 4294967295 (97 ∷ []))
    ∷ (400, key 0 4294967295 0 4294967295 3 700 (66 ∷ []))
    ∷ (500, security)
    ∷ (600, (108 ∷ 102 ∷ 1 ∷ 0 ∷ []) ++ (little_bytes 4 640 ++ little_bytes 4 0))
    ∷ (640, key 0 4294967295 0 4294967295 0 4294967295 (99 ∷ []))
    ∷ (700, 1 ∷ 2 ∷ 3 ∷ 4 ∷ [])
    ∷ [])

-- each list is met before its keys, and each key is walked to its end before the next
rooted-walk : walk 10 rooted (plainly Key 32) ≡ Some
    (met Key 32 ∷ met Security 500 ∷ met SubList 100
    ∷ met Leaf 200 ∷ met Key 300 ∷ met Security 500 ∷ met Leaf 600 ∷ met Key 640 ∷ met Security 500
    ∷ met Leaf 220 ∷ met Key 400 ∷ met Class 700 ∷ met Security 500 ∷ [])
unfolding walk half word long nk_of sk_of list_of
rooted-walk = refl

abbrev plain_rec : List ℕ → List ℕ → Rec
plain_rec name class = record { name = name; marks = 0; class = class; descriptor = 7 ∷ []; time = 0; values = [] }

-- names stay as given and are folded in paths; the class is its first three bytes
rooted-keys : keys_from 10 rooted 32 ≡ Some
    (((82 ∷ []) ∷ [], plain_rec (82 ∷ []) [])
    ∷ ((82 ∷ []) ∷ (65 ∷ []) ∷ [], plain_rec (97 ∷ []) [])
    ∷ ((82 ∷ []) ∷ (65 ∷ []) ∷ (67 ∷ []) ∷ [], plain_rec (99 ∷ []) [])
    ∷ ((82 ∷ []) ∷ (66 ∷ []) ∷ [], plain_rec (66 ∷ []) (1 ∷ 2 ∷ 3 ∷ []))
    ∷ [])
unfolding keys_from look key_at security_at half word long nk_of sk_of list_of
rooted-keys = refl

-- ---- data: 16,344 bytes in one cell; 16,345 behind a big data record, with two segments

abbrev far : ℕ → ℕ → Heap
far size offset = store
    ((32, value size offset)
    ∷ (100, replicate 16348 5)
    ∷ (200, (100 ∷ 98 ∷ 2 ∷ 0 ∷ []) ++ little_bytes 4 300)
    ∷ (300, little_bytes 4 400 ++ little_bytes 4 100)
    ∷ (400, replicate 16348 6)
    ∷ [])

one_cell : walk 2 (far 16344 100) (plainly Value 32) ≡ Some (met Value 32 ∷ met Data 100 ∷ [])
unfolding walk half word vk_of segment_size
one_cell = refl

two_segments : walk 5 (far 16345 200) (plainly Value 32) ≡ Some (met Value 32 ∷ met BigHead 200 ∷ met BigList 300 ∷ met Segment 400 ∷ met Segment 100 ∷ [])
unfolding walk half word vk_of segment_size db_of db_in row_in offsets_at
two_segments = refl

-- each step down takes one of fuel
too_little_fuel : walk 3 (far 16345 200) (plainly Value 32) ≡ None
unfolding walk half word vk_of segment_size db_of db_in row_in offsets_at
too_little_fuel = refl

-- data of 16,345 bytes is in no single cell
no_big_record : walk 5 (far 16345 100) (plainly Value 32) ≡ None
unfolding walk half word vk_of segment_size db_of db_in row_in offsets_at
no_big_record = refl

-- three segments are asked for, and the record has two
few_segments : walk 5 (far 32689 200) (plainly Value 32) ≡ None
unfolding walk half word vk_of segment_size db_of db_in row_in offsets_at
few_segments = refl

-- 5 bytes don't stand in the value
five_inline : walk 5 (far 2147483653 100) (plainly Value 32) ≡ None
unfolding walk half word vk_of
five_inline = refl

-- ---- what is no hive

-- the middle of a cell
middle : walk 3 (cell_at fresh) (plainly Key 40) ≡ None
unfolding cell_at cells_of word walk
middle = refl

-- a key whose list names the key itself: fuel ends
looped : walk 3 (store ((32, key 1 100 0 4294967295 0 4294967295 (82 ∷ [])) ∷ (100, (108 ∷ 105 ∷ 1 ∷ 0 ∷ []) ++ little_bytes 4 32) ∷ (500, security) ∷ [])) (plainly Key 32) ≡ None
unfolding walk half word long nk_of sk_of list_of
looped = refl

-- an index root that names an index root
nested_roots : walk 5 (store ((32, key 1 100 0 4294967295 0 4294967295 (82 ∷ [])) ∷ (100, (114 ∷ 105 ∷ 1 ∷ 0 ∷ []) ++ little_bytes 4 100) ∷ (500, security) ∷ [])) (plainly Key 32) ≡ None
unfolding walk half word long nk_of sk_of list_of
nested_roots = refl

-- a security without a descriptor
no_descriptor : walk 2 (store ((500, (115 ∷ 107 ∷ 0 ∷ 0 ∷ []) ++ (little_bytes 4 500 ++ (little_bytes 4 500 ++ (little_bytes 4 1 ++ little_bytes 4 0)))) ∷ [])) (plainly Security 500) ≡ None
unfolding walk half word sk_of
no_descriptor = refl

-- a list whose entries pass its end
long_list : walk 2 (store ((100, (108 ∷ 104 ∷ 2 ∷ 0 ∷ []) ++ little_bytes 4 32) ∷ [])) (plainly Leaf 100) ≡ None
unfolding walk half word list_of
long_list = refl
