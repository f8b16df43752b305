-- The walk at stores of cells that were worked out by hand.
use Rattle.std.proofs.Common.{◌≡◌, ℕ, ◌==◌, cond, List, [], ◌∷◌, ◌++◌, length, replicate, Some, None, Ok, Err, refl}
use Rattle.byteorder.specs.Endian.{little_bytes}
use Rattle.reg_heap.specs.ByteWords.{half, word, long}
use Rattle.reg_heap.specs.Paths.{Rec}
use Rattle.reg_heap.specs.Heaps.{Heap}
use Rattle.reg_heap.specs.Kinds.{Kind, Found}
use Rattle.reg_heap.specs.Kinds.Kind.{Key, Class, SubList, Leaf, Value, Data, Security}
use Rattle.reg_records.specs.KeyNodes.{nk_of}
use Rattle.reg_records.specs.KeyValues.{vk_of}
use Rattle.reg_records.specs.KeySecurities.{sk_of}
use Rattle.reg_records.specs.SubkeyLists.{list_of}
use Rattle.reg_records.specs.BigData.{segment_size, db_of, db_in}
use Rattle.reg_tree_image.specs.declared.LoadFault.TheVariants.{Record, Twice, NotInProfile, Limit}
use Rattle.reg_tree_image.specs.LoadingWalk.{root_path, key_from, value_from}
use Rattle.reg_tree_image.specs.Images.{nothing}

abbrev pub store : List (ℕ × List ℕ) → Heap
store [] offset = None
store (c ∷ cells) offset = cond (c.0 == offset) (Some c.1) (store cells offset)

abbrev pub met : Kind → ℕ → Found
met kind offset = record { kind = kind; offset = offset }

-- a key node of one byte a character: so many subkeys in a list, a class of a length; its security is at 500
abbrev key : ℕ → ℕ → ℕ → ℕ → List ℕ → List ℕ
key subkeys list class_length class name =
    (110 ∷ 107 ∷ 32 ∷ 0 ∷ []) ++ (replicate 8 0 ++ (little_bytes 4 0 ++ (little_bytes 4 32 ++ (little_bytes 4 subkeys ++ (little_bytes 4 0 ++ (little_bytes 4 list ++ (little_bytes 4 4294967295
    ++ (little_bytes 4 0 ++ (little_bytes 4 4294967295 ++ (little_bytes 4 500 ++ (little_bytes 4 class ++
    (replicate 20 0 ++ (little_bytes 2 (length name) ++ (little_bytes 2 class_length ++ name))))))))))))))

abbrev security : List ℕ
security = (115 ∷ 107 ∷ 0 ∷ 0 ∷ []) ++ (little_bytes 4 500 ++ (little_bytes 4 500 ++ (little_bytes 4 3 ++ (little_bytes 4 1 ++ (7 ∷ [])))))

abbrev pub plain_rec : List ℕ → List ℕ → Rec
plain_rec name class = record { name = name; marks = 0; class = class; descriptor = 7 ∷ []; time = 0; values = [] }

-- an index root of an `li` and an `lh`, and an `lf` alone; the root says 1 subkey and its lists name two
abbrev rooted : Heap
rooted = store
    ((32, key 1 100 0 4294967295 (82 ∷ []))
    ∷ (100, (114 ∷ 105 ∷ 2 ∷ 0 ∷ []) ++ (little_bytes 4 200 ++ little_bytes 4 220))
    ∷ (200, (108 ∷ 105 ∷ 1 ∷ 0 ∷ []) ++ little_bytes 4 300)
    ∷ (220, (108 ∷ 104 ∷ 1 ∷ 0 ∷ []) ++ (little_bytes 4 400 ++ little_bytes 4 66))
    ∷ (300, key 1 600 0 4294967295 (97 ∷ []))
    ∷ (400, key 0 4294967295 3 700 (66 ∷ []))
    ∷ (500, security)
    ∷ (600, (108 ∷ 102 ∷ 1 ∷ 0 ∷ []) ++ (little_bytes 4 640 ++ little_bytes 4 0))
    ∷ (640, key 0 4294967295 0 4294967295 (99 ∷ []))
    ∷ (700, 1 ∷ 2 ∷ 3 ∷ 4 ∷ [])
    ∷ [])

rooted-walk : key_from rooted 5 513 [] root_path 32 nothing ≡ Ok (
  tt,
  record {
    found = met Key 32 ∷ met Security 500 ∷ met SubList 100
        ∷ met Leaf 200 ∷ met Key 300 ∷ met Security 500 ∷ met Leaf 600 ∷ met Key 640 ∷ met Security 500
        ∷ met Leaf 220 ∷ met Key 400 ∷ met Class 700 ∷ met Security 500 ∷ [];
    told = ([], plain_rec (82 ∷ []) [])
        ∷ ((65 ∷ []) ∷ [], plain_rec (97 ∷ []) [])
        ∷ ((65 ∷ []) ∷ (67 ∷ []) ∷ [], plain_rec (99 ∷ []) [])
        ∷ ((66 ∷ []) ∷ [], plain_rec (66 ∷ []) (1 ∷ 2 ∷ 3 ∷ []))
        ∷ [];
  },
)
unfolding key_from nk_of sk_of list_of half word long
rooted-walk = refl

-- of two levels only: the third key is too deep
too-deep : key_from rooted 5 2 [] root_path 32 nothing ≡ Err Limit
unfolding key_from nk_of sk_of list_of half word long
too-deep = refl

-- a root with two subkeys, of these names
abbrev pub two : ℕ → ℕ → List ℕ → List ℕ → Heap
two a b x y = store
    ((32, key 2 100 0 4294967295 (82 ∷ []))
    ∷ (100, (108 ∷ 105 ∷ 2 ∷ 0 ∷ []) ++ (little_bytes 4 a ++ little_bytes 4 b))
    ∷ (300, key 0 4294967295 0 4294967295 x)
    ∷ (400, key 0 4294967295 0 4294967295 y)
    ∷ (500, security)
    ∷ [])

-- a key that is named twice, and two names that fold alike
named-twice : key_from (two 300 300 (65 ∷ []) (66 ∷ [])) 5 513 [] root_path 32 nothing ≡ Err Twice
unfolding key_from nk_of sk_of list_of half word long
named-twice = refl

folded-alike : key_from (two 300 400 (65 ∷ []) (97 ∷ [])) 5 513 [] root_path 32 nothing ≡ Err Twice
unfolding key_from nk_of sk_of list_of half word long
folded-alike = refl

-- a byte 0xE9 in a name, and a security that is named as a key
past-profile : key_from (two 300 400 (65 ∷ []) (233 ∷ [])) 5 513 [] root_path 32 nothing ≡ Err NotInProfile
unfolding key_from nk_of sk_of list_of half word long
past-profile = refl

security-as-key : key_from (two 300 500 (65 ∷ []) (66 ∷ [])) 5 513 [] root_path 32 nothing ≡ Err Twice
unfolding key_from nk_of sk_of list_of half word long
security-as-key = refl

-- an index root that names itself, and one that names another
abbrev nested : ℕ → Heap
nested place = store
    ((32, key 1 100 0 4294967295 (82 ∷ []))
    ∷ (100, (114 ∷ 105 ∷ 1 ∷ 0 ∷ []) ++ little_bytes 4 place)
    ∷ (200, (114 ∷ 105 ∷ 0 ∷ 0 ∷ []))
    ∷ (500, security)
    ∷ [])

itself : key_from (nested 100) 5 513 [] root_path 32 nothing ≡ Err Twice
unfolding key_from nk_of sk_of list_of half word long
itself = refl

another : key_from (nested 200) 5 513 [] root_path 32 nothing ≡ Err Record
unfolding key_from nk_of sk_of list_of half word long
another = refl

-- ---- values

-- a value without a name, and cells that it may name
abbrev value : ℕ → ℕ → Heap
value size place = store
    ((32, (118 ∷ 107 ∷ 0 ∷ 0 ∷ []) ++ (little_bytes 4 size ++ (little_bytes 4 place ++ (little_bytes 4 3 ++ little_bytes 4 0))))
    ∷ (100, replicate 16348 5)
    ∷ [])

-- 16,345 bytes in one cell are read in minor version 3 alone
old-version : value_from (value 16345 100) 3 [] [] 32 nothing ≡ Ok (record { name = []; kind = 3; bytes = replicate 16345 5 }, record { found = met Value 32 ∷ met Data 100 ∷ []; told = [] })
unfolding half word vk_of segment_size
old-version = refl

new-version : value_from (value 16345 100) 5 [] [] 32 nothing ≡ Err Record
unfolding half word vk_of segment_size db_of db_in
new-version = refl

five-inline : value_from (value 2147483653 100) 5 [] [] 32 nothing ≡ Err Record
unfolding half word vk_of
five-inline = refl

too-large : value_from (value 1048577 100) 5 [] [] 32 nothing ≡ Err Limit
unfolding half word vk_of
too-large = refl
