-- The walk at values that were worked out by hand: names, data of every form, lists.
use Rattle.std.proofs.Common.{◌≡◌, ℕ, ◌==◌, cond, List, [], ◌∷◌, ◌++◌, length, replicate, Some, None, Ok, Err, refl}
use Rattle.byteorder.specs.Endian.{little_bytes}
use Rattle.reg_heap.specs.ByteWords.{half, word}
use Rattle.reg_heap.specs.Heaps.{Heap}
use Rattle.reg_heap.specs.Kinds.{Kind, Found}
use Rattle.reg_heap.specs.Kinds.Kind.{ValueList, Value, Data, BigHead, BigList, Segment}
use Rattle.reg_records.specs.KeyValues.{vk_of}
use Rattle.reg_records.specs.OffsetRows.{row_in, offsets_at}
use Rattle.reg_records.specs.BigData.{segment_size, db_of, db_in}
use Rattle.reg_tree_image.specs.declared.LoadFault.TheVariants.{Record, Twice, NotInProfile, Limit}
use Rattle.reg_tree_image.specs.LoadingWalk.{value_from, values_from}
use Rattle.reg_tree_image.specs.Images.{nothing}

abbrev store : List (ℕ × List ℕ) → Heap
store [] offset = None
store (c ∷ cells) offset = cond (c.0 == offset) (Some c.1) (store cells offset)

abbrev met : Kind → ℕ → Found
met kind offset = record { kind = kind; offset = offset }

-- a value's record, of a type 3
abbrev value : (size place flags : ℕ) → List ℕ → List ℕ
value size place flags name = (118 ∷ 107 ∷ little_bytes 2 (length name)) ++ (little_bytes 4 size ++ (little_bytes 4 place ++ (little_bytes 4 3 ++ (little_bytes 2 flags ++ (0 ∷ 0 ∷ name)))))

-- a value alone, beside two cells
abbrev lone : ℕ → ℕ → ℕ → List ℕ → Heap
lone size place flags name = store ((32, value size place flags name) ∷ (100, replicate 16348 5) ∷ (200, 1 ∷ 2 ∷ 3 ∷ 4 ∷ 5 ∷ 6 ∷ 7 ∷ 8 ∷ 9 ∷ 10 ∷ 11 ∷ 12 ∷ []) ∷ [])

-- ---- names

default : value_from (lone 2147483648 0 0 []) 5 [] [] 32 nothing ≡ Ok (record { name = []; kind = 3; bytes = [] }, record { found = met Value 32 ∷ []; told = [] })
unfolding half word vk_of segment_size db_of db_in row_in offsets_at
default = refl

default-flagged : value_from (lone 2147483648 0 1 []) 5 [] [] 32 nothing ≡ Ok (record { name = []; kind = 3; bytes = [] }, record { found = met Value 32 ∷ []; told = [] })
unfolding half word vk_of segment_size db_of db_in row_in offsets_at
default-flagged = refl

-- with a backslash
plain-name : value_from (lone 2147483648 0 1 (118 ∷ 92 ∷ [])) 5 [] [] 32 nothing ≡ Ok (record { name = 118 ∷ 92 ∷ []; kind = 3; bytes = [] }, record { found = met Value 32 ∷ []; told = [] })
unfolding half word vk_of segment_size db_of db_in row_in offsets_at
plain-name = refl

wide-name : value_from (lone 2147483648 0 0 (118 ∷ 0 ∷ 92 ∷ 0 ∷ [])) 5 [] [] 32 nothing ≡ Ok (record { name = 118 ∷ 92 ∷ []; kind = 3; bytes = [] }, record { found = met Value 32 ∷ []; told = [] })
unfolding half word vk_of segment_size db_of db_in row_in offsets_at
wide-name = refl

other-flags : value_from (lone 2147483648 0 65535 (118 ∷ [])) 5 [] [] 32 nothing ≡ Ok (record { name = 118 ∷ []; kind = 3; bytes = [] }, record { found = met Value 32 ∷ []; told = [] })
unfolding half word vk_of segment_size db_of db_in row_in offsets_at
other-flags = refl

odd-name : value_from (lone 2147483648 0 0 (118 ∷ [])) 5 [] [] 32 nothing ≡ Err Record
unfolding half word vk_of segment_size db_of db_in row_in offsets_at
odd-name = refl

past-profile : value_from (lone 2147483648 0 1 (233 ∷ [])) 5 [] [] 32 nothing ≡ Err NotInProfile
unfolding half word vk_of segment_size db_of db_in row_in offsets_at
past-profile = refl

far-unit : value_from (lone 2147483648 0 0 (65 ∷ 1 ∷ [])) 5 [] [] 32 nothing ≡ Err NotInProfile
unfolding half word vk_of segment_size db_of db_in row_in offsets_at
far-unit = refl

longest-name : value_from (lone 2147483648 0 1 (replicate 16383 65)) 5 [] [] 32 nothing ≡ Ok
    (record { name = replicate 16383 65; kind = 3; bytes = [] }, record { found = met Value 32 ∷ []; told = [] })
unfolding half word vk_of segment_size db_of db_in row_in offsets_at
longest-name = refl

too-long : value_from (lone 2147483648 0 1 (replicate 16384 65)) 5 [] [] 32 nothing ≡ Err Limit
unfolding half word vk_of segment_size db_of db_in row_in offsets_at
too-long = refl

-- the length comes before the characters
too-long-first : value_from (lone 2147483648 0 1 (replicate 16384 233)) 5 [] [] 32 nothing ≡ Err Limit
unfolding half word vk_of segment_size db_of db_in row_in offsets_at
too-long-first = refl

-- ---- data in the record, and in one cell

inline-0 : value_from (lone 2147483648 67305985 1 []) 5 [] [] 32 nothing ≡ Ok (record { name = []; kind = 3; bytes = [] }, record { found = met Value 32 ∷ []; told = [] })
unfolding half word vk_of segment_size db_of db_in row_in offsets_at
inline-0 = refl

inline-1 : value_from (lone 2147483649 67305985 1 []) 5 [] [] 32 nothing ≡ Ok (record { name = []; kind = 3; bytes = 1 ∷ [] }, record { found = met Value 32 ∷ []; told = [] })
unfolding half word vk_of segment_size db_of db_in row_in offsets_at
inline-1 = refl

inline-4 : value_from (lone 2147483652 67305985 1 []) 5 [] [] 32 nothing ≡ Ok (record { name = []; kind = 3; bytes = 1 ∷ 2 ∷ 3 ∷ 4 ∷ [] }, record { found = met Value 32 ∷ []; told = [] })
unfolding half word vk_of segment_size db_of db_in row_in offsets_at
inline-4 = refl

inline-5 : value_from (lone 2147483653 67305985 1 []) 5 [] [] 32 nothing ≡ Err Record
unfolding half word vk_of segment_size db_of db_in row_in offsets_at
inline-5 = refl

-- of size 0 the offset isn't read
nothing-far : value_from (lone 0 67305985 1 []) 5 [] [] 32 nothing ≡ Ok (record { name = []; kind = 3; bytes = [] }, record { found = met Value 32 ∷ []; told = [] })
unfolding half word vk_of segment_size db_of db_in row_in offsets_at
nothing-far = refl

few-far : value_from (lone 2 200 1 []) 5 [] [] 32 nothing ≡ Ok (record { name = []; kind = 3; bytes = 1 ∷ 2 ∷ [] }, record { found = met Value 32 ∷ met Data 200 ∷ []; told = [] })
unfolding half word vk_of segment_size db_of db_in row_in offsets_at
few-far = refl

all-of-a-cell : value_from (lone 12 200 1 []) 5 [] [] 32 nothing ≡ Ok (
  record { name = []; kind = 3; bytes = 1 ∷ 2 ∷ 3 ∷ 4 ∷ 5 ∷ 6 ∷ 7 ∷ 8 ∷ 9 ∷ 10 ∷ 11 ∷ 12 ∷ [] },
  record { found = met Value 32 ∷ met Data 200 ∷ []; told = [] },
)
unfolding half word vk_of segment_size db_of db_in row_in offsets_at
all-of-a-cell = refl

past-a-cell : value_from (lone 13 200 1 []) 5 [] [] 32 nothing ≡ Err Record
unfolding half word vk_of segment_size db_of db_in row_in offsets_at
past-a-cell = refl

nowhere : value_from (lone 12 204 1 []) 5 [] [] 32 nothing ≡ Err Record
unfolding half word vk_of segment_size db_of db_in row_in offsets_at
nowhere = refl

itself : value_from (lone 12 32 1 []) 5 [] [] 32 nothing ≡ Err Twice
unfolding half word vk_of segment_size db_of db_in row_in offsets_at
itself = refl

most-in-one : value_from (lone 16344 100 1 []) 5 [] [] 32 nothing ≡ Ok (record { name = []; kind = 3; bytes = replicate 16344 5 }, record { found = met Value 32 ∷ met Data 100 ∷ []; told = [] })
unfolding half word vk_of segment_size db_of db_in row_in offsets_at
most-in-one = refl

-- behind a big data record, which isn't there
one-more : value_from (lone 16345 100 1 []) 5 [] [] 32 nothing ≡ Err Record
unfolding half word vk_of segment_size db_of db_in row_in offsets_at
one-more = refl

one-more-in-4 : value_from (lone 16345 100 1 []) 4 [] [] 32 nothing ≡ Err Record
unfolding half word vk_of segment_size db_of db_in row_in offsets_at
one-more-in-4 = refl

-- in minor version 3 in one cell
one-more-in-3 : value_from (lone 16345 100 1 []) 3 [] [] 32 nothing ≡ Ok (record { name = []; kind = 3; bytes = replicate 16345 5 }, record { found = met Value 32 ∷ met Data 100 ∷ []; told = [] })
unfolding half word vk_of segment_size db_of db_in row_in offsets_at
one-more-in-3 = refl

too-large : value_from (lone 1048577 100 1 []) 5 [] [] 32 nothing ≡ Err Limit
unfolding half word vk_of segment_size db_of db_in row_in offsets_at
too-large = refl

too-large-in-3 : value_from (lone 1048577 100 1 []) 3 [] [] 32 nothing ≡ Err Limit
unfolding half word vk_of segment_size db_of db_in row_in offsets_at
too-large-in-3 = refl

-- which the cell doesn't hold
largest : value_from (lone 1048576 100 1 []) 3 [] [] 32 nothing ≡ Err Record
unfolding half word vk_of segment_size db_of db_in row_in offsets_at
largest = refl

-- ---- big data

-- 16,345 bytes behind a record of so many segments at 300, with their list at 400
abbrev big : ℕ → List ℕ → Heap
big count list = store
    ((32, value 16345 300 1 [])
    ∷ (300, (100 ∷ 98 ∷ little_bytes 2 count) ++ little_bytes 4 400)
    ∷ (400, list)
    ∷ (500, replicate 16348 5)
    ∷ (600, 6 ∷ 7 ∷ 8 ∷ 9 ∷ [])
    ∷ (700, replicate 16340 5)
    ∷ [])

abbrev row : List ℕ → List ℕ
row [] = []
row (a ∷ others) = little_bytes 4 a ++ row others

two-segments : value_from (big 2 (row (500 ∷ 600 ∷ []))) 5 [] [] 32 nothing ≡ Ok (
  record { name = []; kind = 3; bytes = replicate 16344 5 ++ 6 ∷ [] },
  record { found = met Value 32 ∷ met BigHead 300 ∷ met BigList 400 ∷ met Segment 500 ∷ met Segment 600 ∷ []; told = [] },
)
unfolding half word vk_of segment_size db_of db_in row_in offsets_at
two-segments = refl

two-segments-in-4 : value_from (big 2 (row (500 ∷ 600 ∷ []))) 4 [] [] 32 nothing ≡ Ok (
  record { name = []; kind = 3; bytes = replicate 16344 5 ++ 6 ∷ [] },
  record { found = met Value 32 ∷ met BigHead 300 ∷ met BigList 400 ∷ met Segment 500 ∷ met Segment 600 ∷ []; told = [] },
)
unfolding half word vk_of segment_size db_of db_in row_in offsets_at
two-segments-in-4 = refl

-- one more, which is nowhere and isn't read
spare-segments : value_from (big 3 (row (500 ∷ 600 ∷ 4 ∷ []))) 5 [] [] 32 nothing ≡ Ok (
  record { name = []; kind = 3; bytes = replicate 16344 5 ++ 6 ∷ [] },
  record { found = met Value 32 ∷ met BigHead 300 ∷ met BigList 400 ∷ met Segment 500 ∷ met Segment 600 ∷ []; told = [] },
)
unfolding half word vk_of segment_size db_of db_in row_in offsets_at
spare-segments = refl

-- many more, which the list lacks
spare-by-count : value_from (big 9 (row (500 ∷ 600 ∷ []))) 5 [] [] 32 nothing ≡ Ok (
  record { name = []; kind = 3; bytes = replicate 16344 5 ++ 6 ∷ [] },
  record { found = met Value 32 ∷ met BigHead 300 ∷ met BigList 400 ∷ met Segment 500 ∷ met Segment 600 ∷ []; told = [] },
)
unfolding half word vk_of segment_size db_of db_in row_in offsets_at
spare-by-count = refl

too-few : value_from (big 1 (row (500 ∷ 600 ∷ []))) 5 [] [] 32 nothing ≡ Err Record
unfolding half word vk_of segment_size db_of db_in row_in offsets_at
too-few = refl

too-few-first : value_from (big 1 (row [])) 5 [] [] 32 nothing ≡ Err Record
unfolding half word vk_of segment_size db_of db_in row_in offsets_at
too-few-first = refl

short-list : value_from (big 2 (row (500 ∷ []))) 5 [] [] 32 nothing ≡ Err Record
unfolding half word vk_of segment_size db_of db_in row_in offsets_at
short-list = refl

short-segment : value_from (big 2 (row (700 ∷ 600 ∷ []))) 5 [] [] 32 nothing ≡ Err Record
unfolding half word vk_of segment_size db_of db_in row_in offsets_at
short-segment = refl

same-segment : value_from (big 2 (row (500 ∷ 500 ∷ []))) 5 [] [] 32 nothing ≡ Err Twice
unfolding half word vk_of segment_size db_of db_in row_in offsets_at
same-segment = refl

-- ---- which fault comes first

-- a record whose name passes the end, with a character outside the profile
abbrev cut_name : Heap
cut_name = store ((32, (118 ∷ 107 ∷ little_bytes 2 2) ++ (little_bytes 4 0 ++ (little_bytes 4 0 ++ (little_bytes 4 3 ++ (little_bytes 2 1 ++ (0 ∷ 0 ∷ 233 ∷ [])))))) ∷ [])

record-first : value_from (cut_name) 5 [] [] 32 nothing ≡ Err Record
unfolding half word vk_of segment_size db_of db_in row_in offsets_at
record-first = refl

-- before the size of the data
name-first : value_from (lone 1048577 100 1 (233 ∷ [])) 5 [] [] 32 nothing ≡ Err NotInProfile
unfolding half word vk_of segment_size db_of db_in row_in offsets_at
name-first = refl

odd-first : value_from (lone 1048577 100 0 (233 ∷ [])) 5 [] [] 32 nothing ≡ Err Record
unfolding half word vk_of segment_size db_of db_in row_in offsets_at
odd-first = refl

-- ---- lists

-- two values, of these names and sizes, whose list is at 600
abbrev two : List ℕ → List ℕ → ℕ → ℕ → ℕ → Heap
two a b size first second = store
    ((32, value 2147483648 0 1 a)
    ∷ (40, value size first 1 b)
    ∷ (200, 1 ∷ 2 ∷ 3 ∷ 4 ∷ [])
    ∷ (600, little_bytes 4 32 ++ (little_bytes 4 40 ++ little_bytes 4 second))
    ∷ [])

-- the list may have more offsets than there are values
in-order : values_from (two (66 ∷ []) (65 ∷ []) 2 200 4) 5 [] 2 600 nothing ≡ Ok (
  record { name = 66 ∷ []; kind = 3; bytes = [] } ∷ record { name = 65 ∷ []; kind = 3; bytes = 1 ∷ 2 ∷ [] } ∷ [],
  record { found = met ValueList 600 ∷ met Value 32 ∷ met Value 40 ∷ met Data 200 ∷ []; told = [] },
)
unfolding half word vk_of segment_size db_of db_in row_in offsets_at
in-order = refl

-- B and b
alike : values_from (two (66 ∷ []) (98 ∷ []) 2 200 4) 5 [] 2 600 nothing ≡ Err Twice
unfolding half word vk_of segment_size db_of db_in row_in offsets_at
alike = refl

-- before the size of the data
alike-first : values_from (two (66 ∷ []) (98 ∷ []) 1048577 200 4) 5 [] 2 600 nothing ≡ Err Twice
unfolding half word vk_of segment_size db_of db_in row_in offsets_at
alike-first = refl

two-defaults : values_from (two [] [] 2 200 4) 5 [] 2 600 nothing ≡ Err Twice
unfolding half word vk_of segment_size db_of db_in row_in offsets_at
two-defaults = refl

value-again : values_from (two (66 ∷ []) (65 ∷ []) 2 200 32) 5 [] 3 600 nothing ≡ Err Twice
unfolding half word vk_of segment_size db_of db_in row_in offsets_at
value-again = refl

list-too-short : values_from (two (66 ∷ []) (65 ∷ []) 2 200 32) 5 [] 4 600 nothing ≡ Err Record
unfolding half word vk_of segment_size db_of db_in row_in offsets_at
list-too-short = refl

-- 16,384 units and a half: an odd number comes before the limit
odd-name-first : value_from (lone 2147483648 0 0 (replicate 32769 1)) 5 [] [] 32 nothing ≡ Err Record
unfolding half word vk_of segment_size db_of db_in row_in offsets_at
odd-name-first = refl

-- 16,345 bytes behind a record of so many segments, which is its own list
abbrev own_list : ℕ → Heap
own_list count = store ((32, value 16345 300 1 []) ∷ (300, (100 ∷ 98 ∷ little_bytes 2 count) ++ little_bytes 4 300) ∷ [])

-- too few segments, and a list that was named before
too-few-before-list : value_from (own_list 1) 5 [] [] 32 nothing ≡ Err Record
unfolding half word vk_of segment_size db_of db_in row_in offsets_at
too-few-before-list = refl

-- enough segments, and the same list
list-before-row : value_from (own_list 2) 5 [] [] 32 nothing ≡ Err Twice
unfolding half word vk_of segment_size db_of db_in row_in offsets_at
list-before-row = refl
