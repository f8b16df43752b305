-- The walk at keys that were worked out by hand: names, marks, classes, securities and loops.
use Rattle.std.proofs.Common.{◌≡◌, ℕ, ◌==◌, cond, List, [], ◌∷◌, ◌++◌, length, replicate, Some, None, Ok, Err, refl}
use Rattle.byteorder.specs.Endian.{little_bytes}
use Rattle.reg_heap.specs.ByteWords.{half, word, long}
use Rattle.reg_heap.specs.Paths.{Rec}
use Rattle.reg_heap.specs.Heaps.{Heap}
use Rattle.reg_heap.specs.Kinds.{Kind, Found}
use Rattle.reg_heap.specs.Kinds.Kind.{Key, Class, SubList, Leaf, ValueList, Value, Security}
use Rattle.reg_records.specs.KeyNodes.{nk_of}
use Rattle.reg_records.specs.KeyValues.{vk_of}
use Rattle.reg_records.specs.KeySecurities.{sk_of}
use Rattle.reg_records.specs.OffsetRows.{row_in, offsets_at}
use Rattle.reg_records.specs.SubkeyLists.{Entry, list_of}
use Rattle.reg_tree_image.specs.declared.LoadFault.TheVariants.{Record, Loop, Twice, NotInProfile, Limit}
use Rattle.reg_tree_image.specs.WalkSteps.{Step, Seen, give}
use Rattle.reg_tree_image.specs.LoadingWalk.{root_path, keys_each, lists_each, descriptor_from, key_from, values_from}
use Rattle.reg_tree_image.specs.Images.{nothing}

abbrev store : List (ℕ × List ℕ) → Heap
store [] offset = None
store (c ∷ cells) offset = cond (c.0 == offset) (Some c.1) (store cells offset)

abbrev met : Kind → ℕ → Found
met kind offset = record { kind = kind; offset = offset }

-- a key node's fields that the walk reads; the time is 9
abbrev key : (flags subkeys list values values_list security class class_length : ℕ) → List ℕ → List ℕ
key flags subkeys list values values_list security class class_length name =
    (110 ∷ 107 ∷ little_bytes 2 flags) ++ (little_bytes 8 9 ++ (little_bytes 4 0 ++ (little_bytes 4 32 ++ (little_bytes 4 subkeys
    ++ (little_bytes 4 7 ++ (little_bytes 4 list ++ (little_bytes 4 4294967295 ++ (little_bytes 4 values ++ (little_bytes 4 values_list
    ++ (little_bytes 4 security ++ (little_bytes 4 class ++ (replicate 20 0 ++ (little_bytes 2 (length name) ++ (little_bytes 2 class_length ++ name))))))))))))))

abbrev security : List ℕ → List ℕ
security descriptor = (115 ∷ 107 ∷ 0 ∷ 0 ∷ []) ++ (little_bytes 4 1 ++ (little_bytes 4 2 ++ (little_bytes 4 3 ++ (little_bytes 4 (length descriptor) ++ descriptor))))

-- a root alone, of these flags and this name
abbrev lone : ℕ → List ℕ → Heap
lone flags name = store ((32, key flags 0 1 0 1 500 1 0 name) ∷ (500, security (7 ∷ [])) ∷ [])

abbrev told_as : List ℕ → ℕ → Rec
told_as name marks = record { name = name; marks = marks; class = []; descriptor = 7 ∷ []; time = 9; values = [] }

-- what is seen of a root alone
abbrev lone_seen : List ℕ → ℕ → Seen
lone_seen name marks = record { found = met Key 32 ∷ met Security 500 ∷ []; told = ([], told_as name marks) ∷ [] }

-- ---- names

plain-name : key_from (lone 32 (82 ∷ 97 ∷ [])) 5 513 [] root_path 32 nothing ≡ Ok (tt, lone_seen (82 ∷ 97 ∷ []) 0)
unfolding key_from nk_of sk_of vk_of list_of row_in half word long
plain-name = refl

-- a name in UTF-16LE
wide-name : key_from (lone 0 (82 ∷ 0 ∷ 97 ∷ 0 ∷ [])) 5 513 [] root_path 32 nothing ≡ Ok (tt, lone_seen (82 ∷ 97 ∷ []) 0)
unfolding key_from nk_of sk_of vk_of list_of row_in half word long
wide-name = refl

odd-name : key_from (lone 0 (82 ∷ 0 ∷ 97 ∷ [])) 5 513 [] root_path 32 nothing ≡ Err Record
unfolding key_from nk_of sk_of vk_of list_of row_in half word long
odd-name = refl

-- U+0141
far-unit : key_from (lone 0 (65 ∷ 1 ∷ [])) 5 513 [] root_path 32 nothing ≡ Err NotInProfile
unfolding key_from nk_of sk_of vk_of list_of row_in half word long
far-unit = refl

longest-name : key_from (lone 32 (replicate 255 65)) 5 513 [] root_path 32 nothing ≡ Ok (tt, lone_seen (replicate 255 65) 0)
unfolding key_from nk_of sk_of vk_of list_of row_in half word long
longest-name = refl

too-long : key_from (lone 32 (replicate 256 65)) 5 513 [] root_path 32 nothing ≡ Err Limit
unfolding key_from nk_of sk_of vk_of list_of row_in half word long
too-long = refl

-- the length comes before the characters
too-long-first : key_from (lone 32 (replicate 256 233)) 5 513 [] root_path 32 nothing ≡ Err Limit
unfolding key_from nk_of sk_of vk_of list_of row_in half word long
too-long-first = refl

-- 256 units
too-long-wide : key_from (lone 0 (replicate 512 1)) 5 513 [] root_path 32 nothing ≡ Err Limit
unfolding key_from nk_of sk_of vk_of list_of row_in half word long
too-long-wide = refl

-- 255 units, U+0101 each
long-wide : key_from (lone 0 (replicate 510 1)) 5 513 [] root_path 32 nothing ≡ Err NotInProfile
unfolding key_from nk_of sk_of vk_of list_of row_in half word long
long-wide = refl

empty-name : key_from (lone 32 []) 5 513 [] root_path 32 nothing ≡ Err Record
unfolding key_from nk_of sk_of vk_of list_of row_in half word long
empty-name = refl

byte-0 : key_from (lone 32 (0 ∷ [])) 5 513 [] root_path 32 nothing ≡ Err NotInProfile
unfolding key_from nk_of sk_of vk_of list_of row_in half word long
byte-0 = refl

byte-1 : key_from (lone 32 (1 ∷ [])) 5 513 [] root_path 32 nothing ≡ Ok (tt, lone_seen (1 ∷ []) 0)
unfolding key_from nk_of sk_of vk_of list_of row_in half word long
byte-1 = refl

byte-127 : key_from (lone 32 (127 ∷ [])) 5 513 [] root_path 32 nothing ≡ Ok (tt, lone_seen (127 ∷ []) 0)
unfolding key_from nk_of sk_of vk_of list_of row_in half word long
byte-127 = refl

byte-128 : key_from (lone 32 (128 ∷ [])) 5 513 [] root_path 32 nothing ≡ Err NotInProfile
unfolding key_from nk_of sk_of vk_of list_of row_in half word long
byte-128 = refl

backslash : key_from (lone 32 (92 ∷ [])) 5 513 [] root_path 32 nothing ≡ Err NotInProfile
unfolding key_from nk_of sk_of vk_of list_of row_in half word long
backslash = refl

-- ---- flags

predefined : key_from (lone 96 (82 ∷ [])) 5 513 [] root_path 32 nothing ≡ Err NotInProfile
unfolding key_from nk_of sk_of vk_of list_of row_in half word long
predefined = refl

-- before the name
predefined-first : key_from (lone 96 []) 5 513 [] root_path 32 nothing ≡ Err NotInProfile
unfolding key_from nk_of sk_of vk_of list_of row_in half word long
predefined-first = refl

marked : key_from (lone 44 (82 ∷ [])) 5 513 [] root_path 32 nothing ≡ Ok (tt, lone_seen (82 ∷ []) 8)
unfolding key_from nk_of sk_of vk_of list_of row_in half word long
marked = refl

-- volatile, hive exit, hive entry
dropped : key_from (lone 39 (82 ∷ [])) 5 513 [] root_path 32 nothing ≡ Ok (tt, lone_seen (82 ∷ []) 0)
unfolding key_from nk_of sk_of vk_of list_of row_in half word long
dropped = refl

-- 0xFFBF; 0xFF98 is kept
all-marks : key_from (lone 65471 (82 ∷ [])) 5 513 [] root_path 32 nothing ≡ Ok (tt, lone_seen (82 ∷ []) 65432)
unfolding key_from nk_of sk_of vk_of list_of row_in half word long
all-marks = refl

-- ---- classes and securities

-- a root alone, whose class has a length and whose security holds a descriptor
abbrev dressed : ℕ → ℕ → List ℕ → Heap
dressed class class_length descriptor = store ((32, key 32 0 1 0 1 500 class class_length (82 ∷ [])) ∷ (500, security descriptor) ∷ (600, 1 ∷ 2 ∷ 3 ∷ 4 ∷ []) ∷ [])

abbrev dressed_rec : List ℕ → List ℕ → Rec
dressed_rec class descriptor = record { name = 82 ∷ []; marks = 0; class = class; descriptor = descriptor; time = 9; values = [] }

classed : key_from (dressed 600 3 (7 ∷ [])) 5 513 [] root_path 32 nothing ≡ Ok (
  tt,
  record {
    found = met Key 32 ∷ met Class 600 ∷ met Security 500 ∷ [];
    told =
        ([], dressed_rec (1 ∷ 2 ∷ 3 ∷ []) (7 ∷ [])) ∷ [];
  },
)
unfolding key_from nk_of sk_of vk_of list_of row_in half word long
classed = refl

class-too-long : key_from (dressed 600 5 (7 ∷ [])) 5 513 [] root_path 32 nothing ≡ Err Record
unfolding key_from nk_of sk_of vk_of list_of row_in half word long
class-too-long = refl

class-nowhere : key_from (dressed 604 3 (7 ∷ [])) 5 513 [] root_path 32 nothing ≡ Err Record
unfolding key_from nk_of sk_of vk_of list_of row_in half word long
class-nowhere = refl

-- of length 0 its offset isn't read
class-of-none : key_from (dressed 604 0 (7 ∷ [])) 5 513 [] root_path 32 nothing ≡ Ok (tt, record { found = met Key 32 ∷ met Security 500 ∷ []; told = ([], dressed_rec [] (7 ∷ [])) ∷ [] })
unfolding key_from nk_of sk_of vk_of list_of row_in half word long
class-of-none = refl

-- the security's cell, named as a class before
class-as-security : key_from (dressed 500 3 (7 ∷ [])) 5 513 [] root_path 32 nothing ≡ Err Twice
unfolding key_from nk_of sk_of vk_of list_of row_in half word long
class-as-security = refl

class-as-key : key_from (dressed 32 3 (7 ∷ [])) 5 513 [] root_path 32 nothing ≡ Err Loop
unfolding key_from nk_of sk_of vk_of list_of row_in half word long
class-as-key = refl

descriptor-longest : descriptor_from (dressed 600 3 (replicate 65535 7)) [] 500 nothing ≡ Ok (replicate 65535 7, record { found = met Security 500 ∷ []; told = [] })
unfolding key_from nk_of sk_of vk_of list_of row_in half word long
descriptor-longest = refl

descriptor-too-long : key_from (dressed 600 3 (replicate 65536 7)) 5 513 [] root_path 32 nothing ≡ Err Limit
unfolding key_from nk_of sk_of vk_of list_of row_in half word long
descriptor-too-long = refl

descriptor-none : key_from (dressed 600 3 []) 5 513 [] root_path 32 nothing ≡ Err Record
unfolding key_from nk_of sk_of vk_of list_of row_in half word long
descriptor-none = refl

-- ---- loops, and what is named twice

-- a root with a list of keys at 100; the keys at 300 and 400 have lists at 600 and 700
abbrev family : List ℕ → List ℕ → List ℕ → Heap
family root first second = store
    ((32, key 32 1 100 0 1 500 1 0 (82 ∷ []))
    ∷ (100, root)
    ∷ (300, key 32 1 600 0 1 500 1 0 (65 ∷ []))
    ∷ (400, key 32 1 700 0 1 500 1 0 (66 ∷ []))
    ∷ (500, security (7 ∷ []))
    ∷ (600, first)
    ∷ (700, second)
    ∷ [])

abbrev li : List ℕ → List ℕ
li [] = []
li (a ∷ others) = little_bytes 4 a ++ li others

abbrev leaf : List ℕ → List ℕ
leaf offsets = (108 ∷ 105 ∷ little_bytes 2 (length offsets)) ++ li offsets

abbrev root_of : List ℕ → List ℕ
root_of offsets = (114 ∷ 105 ∷ little_bytes 2 (length offsets)) ++ li offsets

-- the root below itself
itself : key_from (family (leaf (32 ∷ [])) (leaf []) (leaf [])) 5 513 [] root_path 32 nothing ≡ Err Loop
unfolding key_from nk_of sk_of vk_of list_of row_in half word long
itself = refl

-- a key that was named before, and is on the path
above : key_from (family (leaf (300 ∷ [])) (leaf (32 ∷ [])) (leaf [])) 5 513 [] root_path 32 nothing ≡ Err Loop
unfolding key_from nk_of sk_of vk_of list_of row_in half word long
above = refl

parent : key_from (family (leaf (300 ∷ [])) (leaf (300 ∷ [])) (leaf [])) 5 513 [] root_path 32 nothing ≡ Err Loop
unfolding key_from nk_of sk_of vk_of list_of row_in half word long
parent = refl

round : key_from (family (leaf (300 ∷ [])) (leaf (400 ∷ [])) (leaf (300 ∷ []))) 5 513 [] root_path 32 nothing ≡ Err Loop
unfolding key_from nk_of sk_of vk_of list_of row_in half word long
round = refl

-- a key that was named before, and is not on the path
beside : key_from (family (leaf (300 ∷ 400 ∷ [])) (leaf []) (leaf (300 ∷ []))) 5 513 [] root_path 32 nothing ≡ Err Twice
unfolding key_from nk_of sk_of vk_of list_of row_in half word long
beside = refl

again : key_from (family (leaf (300 ∷ 300 ∷ [])) (leaf []) (leaf [])) 5 513 [] root_path 32 nothing ≡ Err Twice
unfolding key_from nk_of sk_of vk_of list_of row_in half word long
again = refl

-- a list that two keys name
same-list : key_from (family (leaf (300 ∷ [])) (leaf (400 ∷ [])) (root_of (600 ∷ []))) 5 513 [] root_path 32 nothing ≡ Err Twice
unfolding key_from nk_of sk_of vk_of list_of row_in half word long
same-list = refl

-- a root whose index root names two lists
abbrev listed : List ℕ → List ℕ → Heap
listed first second = store
    ((32, key 32 1 100 0 1 500 1 0 (82 ∷ []))
    ∷ (100, root_of (600 ∷ 700 ∷ []))
    ∷ (300, key 32 0 1 0 1 500 1 0 (65 ∷ []))
    ∷ (400, key 32 0 1 0 1 500 1 0 (66 ∷ []))
    ∷ (500, security (7 ∷ []))
    ∷ (600, first)
    ∷ (700, second)
    ∷ [])

-- a key that two lists name
in-two-lists : key_from (listed (leaf (300 ∷ [])) (leaf (300 ∷ []))) 5 513 [] root_path 32 nothing ≡ Err Twice
unfolding key_from nk_of sk_of vk_of list_of row_in half word long
in-two-lists = refl

-- all lists are read, whatever number of subkeys is said, and the order is ignored
all-lists : key_from (listed (leaf (400 ∷ [])) (leaf (300 ∷ []))) 5 513 [] root_path 32 nothing ≡ Ok (
  tt,
  record {
    found = met Key 32 ∷ met Security 500 ∷ met SubList 100 ∷ met Leaf 600 ∷ met Key 400 ∷ met Security 500 ∷ met Leaf 700 ∷ met Key 300 ∷ met Security 500 ∷ [];
    told = ([], told_as (82 ∷ []) 0) ∷ ((66 ∷ []) ∷ [], told_as (66 ∷ []) 0) ∷ ((65 ∷ []) ∷ [], told_as (65 ∷ []) 0) ∷ [];
  },
)
unfolding key_from nk_of sk_of vk_of list_of row_in half word long
all-lists = refl

empty-lists : key_from (listed (leaf []) (leaf [])) 5 513 [] root_path 32 nothing ≡ Ok (
  tt,
  record { found = met Key 32 ∷ met Security 500 ∷ met SubList 100 ∷ met Leaf 600 ∷ met Leaf 700 ∷ []; told = ([], told_as (82 ∷ []) 0) ∷ [] },
)
unfolding key_from nk_of sk_of vk_of list_of row_in half word long
empty-lists = refl

-- a root whose list is this, of so many subkeys
abbrev counted : ℕ → List ℕ → Heap
counted subkeys list = store ((32, key 32 subkeys 100 0 1 500 1 0 (82 ∷ [])) ∷ (100, list) ∷ (500, security (7 ∷ [])) ∷ [])

-- an index root that names no list
no-lists : key_from (counted 1 (root_of [])) 5 513 [] root_path 32 nothing ≡ Ok (tt, record { found = met Key 32 ∷ met Security 500 ∷ met SubList 100 ∷ []; told = ([], told_as (82 ∷ []) 0) ∷ [] })
unfolding key_from nk_of sk_of vk_of list_of row_in half word long
no-lists = refl

empty-list : key_from (counted 1 (leaf [])) 5 513 [] root_path 32 nothing ≡ Ok (tt, record { found = met Key 32 ∷ met Security 500 ∷ met Leaf 100 ∷ []; told = ([], told_as (82 ∷ []) 0) ∷ [] })
unfolding key_from nk_of sk_of vk_of list_of row_in half word long
empty-list = refl

-- where there are no subkeys their list isn't read
no-subkeys : key_from (counted 0 (1 ∷ 2 ∷ [])) 5 513 [] root_path 32 nothing ≡ Ok (tt, record { found = met Key 32 ∷ met Security 500 ∷ []; told = ([], told_as (82 ∷ []) 0) ∷ [] })
unfolding key_from nk_of sk_of vk_of list_of row_in half word long
no-subkeys = refl

bad-list : key_from (counted 1 (108 ∷ 106 ∷ 0 ∷ 0 ∷ [])) 5 513 [] root_path 32 nothing ≡ Err Record
unfolding key_from nk_of sk_of vk_of list_of row_in half word long
bad-list = refl

-- an `lh` without its hash
cut-list : key_from (counted 1 (108 ∷ 104 ∷ 1 ∷ 0 ∷ 44 ∷ 1 ∷ 0 ∷ 0 ∷ [])) 5 513 [] root_path 32 nothing ≡ Err Record
unfolding key_from nk_of sk_of vk_of list_of row_in half word long
cut-list = refl

-- ---- limits

-- the 60,001st subkey, before it is named; and the 60,000th
too-many : (go : ℕ → Step (Unit {0})) → keys_each go 60000 (record { offset = 1; hint = 0 } ∷ []) nothing ≡ Err Limit
too-many go = refl

many : keys_each (λ offset. give tt) 59999 (record { offset = 1; hint = 0 } ∷ []) nothing ≡ Ok (60000, nothing)
many = refl

abbrev two_lists : List Entry
two_lists = record { offset = 600; hint = 0 } ∷ record { offset = 700; hint = 0 } ∷ []

-- the 60,001st subkey, in the second list of an index root; and the 60,000th
too-many-in-lists : lists_each (listed (leaf (300 ∷ [])) (leaf (400 ∷ []))) (λ offset. give tt) [] 59999 two_lists nothing
    ≡ Err Limit
unfolding key_from nk_of sk_of vk_of list_of row_in offsets_at half word long
too-many-in-lists = refl

many-in-lists : lists_each (listed (leaf (300 ∷ [])) (leaf (400 ∷ []))) (λ offset. give tt) [] 59998 two_lists nothing
    ≡ Ok (tt, record { found = met Leaf 600 ∷ met Leaf 700 ∷ []; told = [] })
unfolding key_from nk_of sk_of vk_of list_of row_in offsets_at half word long
many-in-lists = refl

-- a chain of three keys, the lowest with a class that is nowhere
abbrev chain : Heap
chain = store
    ((32, key 32 1 100 0 1 500 1 0 (82 ∷ []))
    ∷ (100, leaf (300 ∷ []))
    ∷ (300, key 32 1 600 0 1 500 1 0 (65 ∷ []))
    ∷ (600, leaf (400 ∷ []))
    ∷ (400, key 32 0 1 0 1 500 1 4 (66 ∷ []))
    ∷ (500, security (7 ∷ []))
    ∷ [])

-- too deep, before its class
too-deep-first : key_from chain 5 2 [] root_path 32 nothing ≡ Err Limit
unfolding key_from nk_of sk_of vk_of list_of row_in half word long
too-deep-first = refl

deep-enough : key_from chain 5 3 [] root_path 32 nothing ≡ Err Record
unfolding key_from nk_of sk_of vk_of list_of row_in half word long
deep-enough = refl

-- 16,384 values, of a list that is nowhere, and one more
most-values : values_from (store []) 5 [] 16384 1 nothing ≡ Err Record
unfolding key_from nk_of sk_of vk_of list_of row_in half word long
most-values = refl

too-many-values : values_from (store []) 5 [] 16385 1 nothing ≡ Err Limit
unfolding key_from nk_of sk_of vk_of list_of row_in half word long
too-many-values = refl

-- ---- which fault comes first, and what is named in which order

-- 256 units and a half: an odd number comes before the limit
odd-first : key_from (lone 0 (replicate 513 1)) 5 513 [] root_path 32 nothing ≡ Err Record
unfolding key_from nk_of sk_of vk_of list_of row_in offsets_at half word long
odd-first = refl

-- too deep, behind the tests of its cell, its record and its name
deep-nowhere : key_from (store []) 5 0 [] root_path 32 nothing ≡ Err Record
unfolding key_from nk_of sk_of vk_of list_of row_in offsets_at half word long
deep-nowhere = refl

deep-predefined : key_from (lone 96 (82 ∷ [])) 5 0 [] root_path 32 nothing ≡ Err NotInProfile
unfolding key_from nk_of sk_of vk_of list_of row_in offsets_at half word long
deep-predefined = refl

deep-backslash : key_from (lone 32 (92 ∷ [])) 5 0 [] root_path 32 nothing ≡ Err NotInProfile
unfolding key_from nk_of sk_of vk_of list_of row_in offsets_at half word long
deep-backslash = refl

deep : key_from (lone 32 (82 ∷ [])) 5 0 [] root_path 32 nothing ≡ Err Limit
unfolding key_from nk_of sk_of vk_of list_of row_in offsets_at half word long
deep = refl

-- a class that is nowhere, and a descriptor that is too long
class-first : key_from (dressed 604 3 (replicate 65536 7)) 5 513 [] root_path 32 nothing ≡ Err Record
unfolding key_from nk_of sk_of vk_of list_of row_in offsets_at half word long
class-first = refl

-- a root of a descriptor, that says a subkey in a list that is nowhere, and 16,385 values
abbrev crowded : List ℕ → Heap
crowded descriptor = store ((32, key 32 1 4 16385 1 500 1 0 (82 ∷ [])) ∷ (500, security descriptor) ∷ [])

-- no descriptor, and too many values
security-first : key_from (crowded []) 5 513 [] root_path 32 nothing ≡ Err Record
unfolding key_from nk_of sk_of vk_of list_of row_in offsets_at half word long
security-first = refl

-- too many values, and no list of subkeys
values-first : key_from (crowded (7 ∷ [])) 5 513 [] root_path 32 nothing ≡ Err Limit
unfolding key_from nk_of sk_of vk_of list_of row_in offsets_at half word long
values-first = refl

-- a root with a class, a value of one byte in its record, and an empty list of subkeys
abbrev furnished : Heap
furnished = store
    ((32, key 32 1 100 1 700 500 600 2 (82 ∷ []))
    ∷ (100, leaf [])
    ∷ (500, security (7 ∷ []))
    ∷ (600, 1 ∷ 2 ∷ [])
    ∷ (700, little_bytes 4 800)
    ∷ (
      800,
      (118 ∷ 107 ∷ little_bytes 2 1) ++ (little_bytes 4 2147483649 ++ (little_bytes 4 5 ++ (little_bytes 4 3
          ++ (little_bytes 2 1 ++ (0 ∷ 0 ∷ 118 ∷ []))))),
    )
    ∷ [])

-- class, security, values, subkeys
all-parts : key_from furnished 5 513 [] root_path 32 nothing ≡ Ok (
  tt,
  record {
    found = met Key 32 ∷ met Class 600 ∷ met Security 500 ∷ met ValueList 700 ∷ met Value 800 ∷ met Leaf 100 ∷ [];
    told = (
      [],
      record {
        name = 82 ∷ [];
        marks = 0;
        class = 1 ∷ 2 ∷ [];
        descriptor = 7 ∷ [];
        time = 9;
        values = record { name = 118 ∷ []; kind = 3; bytes = 5 ∷ [] } ∷ [];
      },
    ) ∷ [];
  },
)
unfolding key_from nk_of sk_of vk_of list_of row_in offsets_at half word long
all-parts = refl
