-- Loading at images that were worked out by hand: a fresh hive's, as it is, cut, and with one field or two changed.
use Rattle.std.proofs.Common.{◌≡◌, ◌++◌, ◌∷◌, ℕ, List, [], replicate, length, take, Some, Ok, Err, refl, arith, nat_le, false, ◌<◌}
use Rattle.std.proofs.lemmas.Bool.Decides.{nat_tests}
use Rattle.std.specs.FinMap.{insert, empty}
use Rattle.byteorder.specs.Endian.{little_bytes}
use Rattle.reg_heap.specs.ByteWords.{half, word, long, splice}
use Rattle.reg_arena.specs.declared.Cell.{Cell}
use Rattle.reg_arena.specs.Cells.{BinPlace, bins_of, cells_of_bins, content_in}
use Rattle.reg_records.specs.KeyNodes.{nk_of}
use Rattle.reg_records.specs.KeySecurities.{sk_of}
use Rattle.reg_shape.proofs.Computed.RowsOfHives.{fresh, root_name, descriptor}
use Rattle.reg_tree_image.specs.declared.LoadFault.TheVariants.{Short, Signature, Version, Checksum, Dirty, Bins, Cells, Record, Loop, NotInProfile, Limit}
use Rattle.reg_records.specs.KeyNodes.{nk_bytes}
use Rattle.reg_records.specs.KeySecurities.{sk_bytes}
use Rattle.reg_tree_image.specs.LoadingWalk.{root_path, key_from}
use Rattle.reg_tree_image.specs.BaseBlock.{checksum_of, block_of}
use Rattle.reg_tree_image.specs.Images.{image_of, image_walk, bins_walk, loaded, nothing}

-- of 4096 zero bytes
zeros-checksum : checksum_of (replicate 4096 0) ≡ 1
unfolding checksum_of word
zeros-checksum = refl

-- a fresh hive's image
abbrev pub first_image : List ℕ
first_image = image_of fresh 32 0 1

-- in digits: the base block, the bin's header, the key node, the security, and the free cell behind them
abbrev first_digits : List ℕ
first_digits =
    (114 ∷ 101 ∷ 103 ∷ 102 ∷ 1 ∷ 0 ∷ 0 ∷ 0 ∷ 1 ∷ 0 ∷ 0 ∷ 0 ∷ 0 ∷ 0 ∷ 0 ∷ 0 ∷ 0 ∷ 0 ∷ 0 ∷ 0 ∷ 1 ∷ 0 ∷ 0 ∷ 0 ∷ 5 ∷ 0 ∷ 0 ∷ 0 ∷ 0 ∷ 0 ∷ 0 ∷ 0 ∷ 1 ∷ 0 ∷ 0
    ∷ 0 ∷ 32 ∷ 0 ∷ 0 ∷ 0 ∷ 0 ∷ 16 ∷ 0 ∷ 0 ∷ 1 ∷ [])
    ++ replicate 463 0
    ++ (86 ∷ 117 ∷ 103 ∷ 102 ∷ [])
    ++ replicate 3584 0
    ++ (104 ∷ 98 ∷ 105 ∷ 110 ∷ 0 ∷ 0 ∷ 0 ∷ 0 ∷ 0 ∷ 16 ∷ 0 ∷ 0 ∷ [])
    ++ replicate 20 0
    ++ (168 ∷ 255 ∷ 255 ∷ 255 ∷ 110 ∷ 107 ∷ 44 ∷ 0 ∷ [])
    ++ replicate 12 0
    ++ (255 ∷ 255 ∷ 255 ∷ 255 ∷ 0 ∷ 0 ∷ 0 ∷ 0 ∷ 0 ∷ 0 ∷ 0 ∷ 0 ∷ 255 ∷ 255 ∷ 255 ∷ 255 ∷ 255 ∷ 255 ∷ 255 ∷ 255 ∷ 0 ∷ 0 ∷ 0 ∷ 0 ∷ 255 ∷ 255 ∷ 255 ∷ 255 ∷ 120
    ∷ 0 ∷ 0 ∷ 0 ∷ 255 ∷ 255 ∷ 255 ∷ 255 ∷ [])
    ++ replicate 20 0
    ++ (4 ∷ 0 ∷ 0 ∷ 0 ∷ 82 ∷ 79 ∷ 79 ∷ 84 ∷ 0 ∷ 0 ∷ 0 ∷ 0 ∷ [])
    ++ (208 ∷ 255 ∷ 255 ∷ 255 ∷ 115 ∷ 107 ∷ 0 ∷ 0 ∷ 120 ∷ 0 ∷ 0 ∷ 0 ∷ 120 ∷ 0 ∷ 0 ∷ 0 ∷ 1 ∷ 0 ∷ 0 ∷ 0 ∷ 20 ∷ 0 ∷ 0 ∷ 0 ∷ 1 ∷ 0 ∷ 4 ∷ 128 ∷ [])
    ++ replicate 20 0
    ++ (88 ∷ 15 ∷ 0 ∷ 0 ∷ 255 ∷ 255 ∷ 255 ∷ 255 ∷ [])
    ++ replicate 3920 0

first-bytes : first_image ≡ first_digits
unfolding image_of block_of checksum_of word nk_bytes sk_bytes
first-bytes = refl

first-length : length first_image ≡ 8192
unfolding image_of block_of checksum_of word
first-length = refl

first-checksum : word first_image 508 ≡ 1718056278
unfolding image_of block_of checksum_of word
first-checksum = refl

first-tree : loaded first_image ≡ Ok (insert empty [] (record { name = root_name; marks = 8; class = []; descriptor = descriptor; time = 0; values = [] }))
unfolding image_of block_of checksum_of word half long loaded image_walk bins_walk key_from nk_of sk_of
first-tree = refl

short_block : loaded (take 4095 first_image) ≡ Err Short
unfolding image_of block_of checksum_of word half long loaded image_walk bins_walk key_from nk_of sk_of
short_block = refl

-- the checksum of what stands there
abbrev redone : List ℕ → List ℕ
redone bytes = splice 508 (little_bytes 4 (checksum_of bytes)) bytes

size_zero : loaded (redone (splice 40 (little_bytes 4 0) first_image)) ≡ Err Bins
unfolding image_of block_of checksum_of word half long splice loaded image_walk bins_walk key_from nk_of sk_of
size_zero = refl

size_odd : loaded (redone (splice 40 (little_bytes 4 4097) first_image)) ≡ Err Bins
unfolding image_of block_of checksum_of word half long splice loaded image_walk bins_walk key_from nk_of sk_of
size_odd = refl

size_large : loaded (redone (splice 40 (little_bytes 4 268439552) first_image)) ≡ Err Limit
unfolding image_of block_of checksum_of word half long splice loaded image_walk bins_walk key_from nk_of sk_of
size_large = refl

size_past : loaded (redone (splice 40 (little_bytes 4 8192) first_image)) ≡ Err Short
unfolding image_of block_of checksum_of word half long splice loaded image_walk bins_walk key_from nk_of sk_of
size_past = refl

minor_two : loaded (redone (splice 24 (little_bytes 4 2) first_image)) ≡ Err Version
unfolding image_of block_of checksum_of word half long splice loaded image_walk bins_walk key_from nk_of sk_of
minor_two = refl

major_two : loaded (redone (splice 20 (little_bytes 4 2) first_image)) ≡ Err Version
unfolding image_of block_of checksum_of word half long splice loaded image_walk bins_walk key_from nk_of sk_of
major_two = refl

other_type : loaded (redone (splice 28 (little_bytes 4 1) first_image)) ≡ Err Version
unfolding image_of block_of checksum_of word half long splice loaded image_walk bins_walk key_from nk_of sk_of
other_type = refl

other_format : loaded (redone (splice 32 (little_bytes 4 0) first_image)) ≡ Err Version
unfolding image_of block_of checksum_of word half long splice loaded image_walk bins_walk key_from nk_of sk_of
other_format = refl

signature_other : loaded (redone (splice 0 (little_bytes 4 1718052211) first_image)) ≡ Err Signature
unfolding image_of block_of checksum_of word half long splice loaded image_walk bins_walk key_from nk_of sk_of
signature_other = refl

sequences : loaded (redone (splice 8 (little_bytes 4 2) first_image)) ≡ Err Dirty
unfolding image_of block_of checksum_of word half long splice loaded image_walk bins_walk key_from nk_of sk_of
sequences = refl

root_within : loaded (redone (splice 36 (little_bytes 4 36) first_image)) ≡ Err Record
unfolding image_of block_of checksum_of word half long splice loaded image_walk bins_walk key_from nk_of sk_of
root_within = refl

root_security : loaded (redone (splice 36 (little_bytes 4 120) first_image)) ≡ Err Record
unfolding image_of block_of checksum_of word half long splice loaded image_walk bins_walk key_from nk_of sk_of
root_security = refl

root_unallocated : loaded (redone (splice 36 (little_bytes 4 168) first_image)) ≡ Err Record
unfolding image_of block_of checksum_of word half long splice loaded image_walk bins_walk key_from nk_of sk_of
root_unallocated = refl

bin_place : loaded (redone (splice 4100 (little_bytes 4 4096) first_image)) ≡ Err Bins
unfolding image_of block_of checksum_of word half long splice loaded image_walk bins_walk key_from nk_of sk_of
bin_place = refl

bin_size_zero : loaded (redone (splice 4104 (little_bytes 4 0) first_image)) ≡ Err Bins
unfolding image_of block_of checksum_of word half long splice loaded image_walk bins_walk key_from nk_of sk_of
bin_size_zero = refl

bin_size_past : loaded (redone (splice 4104 (little_bytes 4 8192) first_image)) ≡ Err Bins
unfolding image_of block_of checksum_of word half long splice loaded image_walk bins_walk key_from nk_of sk_of
bin_size_past = refl

cell_size_zero : loaded (redone (splice 4264 (little_bytes 4 0) first_image)) ≡ Err Cells
unfolding image_of block_of checksum_of word half long splice loaded image_walk bins_walk key_from nk_of sk_of
cell_size_zero = refl

cell_size_short : loaded (redone (splice 4264 (little_bytes 4 3920) first_image)) ≡ Err Cells
unfolding image_of block_of checksum_of word half long splice loaded image_walk bins_walk key_from nk_of sk_of
cell_size_short = refl

cell_size_uneven : loaded (redone (splice 4264 (little_bytes 4 3924) first_image)) ≡ Err Cells
unfolding image_of block_of checksum_of word half long splice loaded image_walk bins_walk key_from nk_of sk_of
cell_size_uneven = refl

cell_size_past : loaded (redone (splice 4264 (little_bytes 4 3936) first_image)) ≡ Err Cells
unfolding image_of block_of checksum_of word half long splice loaded image_walk bins_walk key_from nk_of sk_of
cell_size_past = refl

cell_size_least : loaded (redone (splice 4264 (little_bytes 4 2147483648) first_image)) ≡ Err Cells
unfolding image_of block_of checksum_of word half long splice loaded image_walk bins_walk key_from nk_of sk_of
cell_size_least = refl

predefined : loaded (redone (splice 4134 (little_bytes 2 108) first_image)) ≡ Err NotInProfile
unfolding image_of block_of checksum_of word half long splice loaded image_walk bins_walk key_from nk_of sk_of
predefined = refl

wide_name : loaded (redone (splice 4134 (little_bytes 2 12) first_image)) ≡ Err NotInProfile
unfolding image_of block_of checksum_of word half long splice loaded image_walk bins_walk key_from nk_of sk_of
wide_name = refl

subkeys_none : loaded (redone (splice 4152 (little_bytes 4 1) first_image)) ≡ Err Record
unfolding image_of block_of checksum_of word half long splice loaded image_walk bins_walk key_from nk_of sk_of
subkeys_none = refl

subkeys_loop : loaded (redone (splice 4160 (little_bytes 4 32) (splice 4152 (little_bytes 4 1) first_image))) ≡ Err Loop
unfolding image_of block_of checksum_of word half long splice loaded image_walk bins_walk key_from nk_of sk_of
subkeys_loop = refl

values_many : loaded (redone (splice 4168 (little_bytes 4 16385) first_image)) ≡ Err Limit
unfolding image_of block_of checksum_of word half long splice loaded image_walk bins_walk key_from nk_of sk_of
values_many = refl

security_self : loaded (redone (splice 4176 (little_bytes 4 32) first_image)) ≡ Err Loop
unfolding image_of block_of checksum_of word half long splice loaded image_walk bins_walk key_from nk_of sk_of
security_self = refl

name_empty : loaded (redone (splice 4204 (little_bytes 2 0) first_image)) ≡ Err Record
unfolding image_of block_of checksum_of word half long splice loaded image_walk bins_walk key_from nk_of sk_of
name_empty = refl

name_long : loaded (redone (splice 4204 (little_bytes 2 9) first_image)) ≡ Err Record
unfolding image_of block_of checksum_of word half long splice loaded image_walk bins_walk key_from nk_of sk_of
name_long = refl

descriptor_empty : loaded (redone (splice 4236 (little_bytes 4 0) first_image)) ≡ Err Record
unfolding image_of block_of checksum_of word half long splice loaded image_walk bins_walk key_from nk_of sk_of
descriptor_empty = refl

descriptor_long : loaded (redone (splice 4236 (little_bytes 4 25) first_image)) ≡ Err Record
unfolding image_of block_of checksum_of word half long splice loaded image_walk bins_walk key_from nk_of sk_of
descriptor_long = refl

short_bins : loaded (take 8191 first_image) ≡ Err Short
unfolding image_of block_of checksum_of word half long loaded image_walk bins_walk key_from nk_of sk_of
short_bins = refl

checksum_other : loaded (splice 508 (little_bytes 4 0) first_image) ≡ Err Checksum
unfolding image_of block_of checksum_of word half long splice loaded image_walk bins_walk key_from nk_of sk_of
checksum_other = refl

descriptor_of_24 : loaded (redone (splice 4236 (little_bytes 4 24) first_image)) ≡ Ok (insert empty []
    (record { name = root_name; marks = 8; class = []; descriptor = descriptor ++ 0 ∷ 0 ∷ 0 ∷ 0 ∷ []; time = 0; values = [] }))
unfolding image_of block_of checksum_of word half long splice loaded image_walk bins_walk key_from nk_of sk_of
descriptor_of_24 = refl

-- ---- cut images

-- whatever stands in fewer than 4096 bytes
too-short : (bytes : List ℕ) → length bytes < 4096 → loaded bytes ≡ Err Short
unfolding loaded image_walk
too-short bytes l = rw (few (length bytes) l) refl
  where
    few : (n : ℕ) → n < 4096 → nat_le 4096 n ≡ false
    few n l = grind (arith, nat_tests)

block_alone : loaded (take 4096 first_image) ≡ Err Short
unfolding image_of block_of checksum_of word half long splice loaded image_walk bins_walk key_from nk_of sk_of
block_alone = refl

one_byte_more : loaded (take 4097 first_image) ≡ Err Short
unfolding image_of block_of checksum_of word half long splice loaded image_walk bins_walk key_from nk_of sk_of
one_byte_more = refl

half_a_key : loaded (take 4150 first_image) ≡ Err Short
unfolding image_of block_of checksum_of word half long splice loaded image_walk bins_walk key_from nk_of sk_of
half_a_key = refl

-- what follows the bins isn't read
what_follows : loaded (first_image ++ 1 ∷ 2 ∷ 3 ∷ []) ≡ Ok (insert empty [] (record { name = root_name; marks = 8; class = []; descriptor = descriptor; time = 0; values = [] }))
unfolding image_of block_of checksum_of word half long splice loaded image_walk bins_walk key_from nk_of sk_of
what_follows = refl

-- ---- minor versions, and what of the base block is ignored

minor_three : loaded (redone (splice 24 (little_bytes 4 3) first_image)) ≡ Ok (insert empty [] (record { name = root_name; marks = 8; class = []; descriptor = descriptor; time = 0; values = [] }))
unfolding image_of block_of checksum_of word half long splice loaded image_walk bins_walk key_from nk_of sk_of
minor_three = refl

minor_four : loaded (redone (splice 24 (little_bytes 4 4) first_image)) ≡ Ok (insert empty [] (record { name = root_name; marks = 8; class = []; descriptor = descriptor; time = 0; values = [] }))
unfolding image_of block_of checksum_of word half long splice loaded image_walk bins_walk key_from nk_of sk_of
minor_four = refl

minor_six : loaded (redone (splice 24 (little_bytes 4 6) first_image)) ≡ Err Version
unfolding image_of block_of checksum_of word half long splice loaded image_walk bins_walk key_from nk_of sk_of
minor_six = refl

-- the moment, the clustering factor and a file name
other_moment : loaded (redone (splice 12 (little_bytes 8 81985529216486895) first_image)) ≡ Ok
    (insert empty [] (record { name = root_name; marks = 8; class = []; descriptor = descriptor; time = 0; values = [] }))
unfolding image_of block_of checksum_of word half long splice loaded image_walk bins_walk key_from nk_of sk_of
other_moment = refl

clustered : loaded (redone (splice 44 (little_bytes 4 8) first_image)) ≡ Ok (insert empty [] (record { name = root_name; marks = 8; class = []; descriptor = descriptor; time = 0; values = [] }))
unfolding image_of block_of checksum_of word half long splice loaded image_walk bins_walk key_from nk_of sk_of
clustered = refl

named : loaded (redone (splice 48 (82 ∷ 0 ∷ 69 ∷ 0 ∷ []) first_image)) ≡ Ok (insert empty [] (record { name = root_name; marks = 8; class = []; descriptor = descriptor; time = 0; values = [] }))
unfolding image_of block_of checksum_of word half long splice loaded image_walk bins_walk key_from nk_of sk_of
named = refl

past_the_checksum : loaded (splice 512 (1 ∷ 2 ∷ 3 ∷ []) first_image) ≡ Ok (insert empty [] (record { name = root_name; marks = 8; class = []; descriptor = descriptor; time = 0; values = [] }))
unfolding image_of block_of checksum_of word half long splice loaded image_walk bins_walk key_from nk_of sk_of
past_the_checksum = refl

-- ---- which of two faults comes first

signature_first : loaded (splice 20 (little_bytes 4 2) (splice 0 (little_bytes 4 0) first_image)) ≡ Err Signature
unfolding image_of block_of checksum_of word half long splice loaded image_walk bins_walk key_from nk_of sk_of
signature_first = refl

-- with a wrong checksum
version_first : loaded (splice 24 (little_bytes 4 6) first_image) ≡ Err Version
unfolding image_of block_of checksum_of word half long splice loaded image_walk bins_walk key_from nk_of sk_of
version_first = refl

-- with other sequence numbers
checksum_first : loaded (splice 8 (little_bytes 4 2) first_image) ≡ Err Checksum
unfolding image_of block_of checksum_of word half long splice loaded image_walk bins_walk key_from nk_of sk_of
checksum_first = refl

-- with bins of no size
dirty_first : loaded (redone (splice 40 (little_bytes 4 0) (splice 8 (little_bytes 4 2) first_image))) ≡ Err Dirty
unfolding image_of block_of checksum_of word half long splice loaded image_walk bins_walk key_from nk_of sk_of
dirty_first = refl

-- with an end too early
limit_first : loaded (take 4096 (redone (splice 40 (little_bytes 4 268439552) first_image))) ≡ Err Limit
unfolding image_of block_of checksum_of word half long splice loaded image_walk bins_walk key_from nk_of sk_of
limit_first = refl

-- a second bin behind the first
abbrev second_bin : ℕ → List ℕ
second_bin start = (104 ∷ 98 ∷ 105 ∷ 110 ∷ []) ++ (little_bytes 4 start ++ (little_bytes 4 4096 ++ (replicate 20 0 ++ (little_bytes 4 4064 ++ replicate 4060 0))))

two_bins : loaded (image_of (fresh ++ second_bin 4096) 32 0 1) ≡ Ok (insert empty [] (record { name = root_name; marks = 8; class = []; descriptor = descriptor; time = 0; values = [] }))
unfolding image_of block_of checksum_of word half long splice loaded image_walk bins_walk key_from nk_of sk_of
two_bins = refl

-- a bad cell in the first bin, a bad header of the second: all bins come before all cells
bins_first : loaded (image_of (splice 168 (little_bytes 4 0) fresh ++ second_bin 0) 32 0 1) ≡ Err Bins
unfolding image_of block_of checksum_of word half long splice loaded image_walk bins_walk key_from nk_of sk_of
bins_first = refl

-- a bad cell, and a root that is none
cells_next : loaded (image_of (splice 168 (little_bytes 4 0) fresh ++ second_bin 4096) 4 0 1) ≡ Err Cells
unfolding image_of block_of checksum_of word half long splice loaded image_walk bins_walk key_from nk_of sk_of
cells_next = refl

bin_unpaged : loaded (redone (splice 4104 (little_bytes 4 4097) first_image)) ≡ Err Bins
unfolding image_of block_of checksum_of word half long splice loaded image_walk bins_walk key_from nk_of sk_of
bin_unpaged = refl

bin_signature : loaded (splice 4096 (104 ∷ 98 ∷ 105 ∷ 111 ∷ []) first_image) ≡ Err Bins
unfolding image_of block_of checksum_of word half long splice loaded image_walk bins_walk key_from nk_of sk_of
bin_signature = refl

-- ---- the checksum

-- of words that cancel out, and of the complement of 0
all-ones : checksum_of (replicate 4 255 ++ replicate 4092 0) ≡ 4294967294
unfolding checksum_of word
all-ones = refl

twice-the-same : checksum_of ((1 ∷ 2 ∷ 3 ∷ 4 ∷ 1 ∷ 2 ∷ 3 ∷ 4 ∷ []) ++ replicate 4088 0) ≡ 1
unfolding checksum_of word
twice-the-same = refl

-- the word at 508 isn't counted
not-its-own : checksum_of (replicate 508 0 ++ (1 ∷ 2 ∷ 3 ∷ 4 ∷ replicate 3584 0)) ≡ 1
unfolding checksum_of word
not-its-own = refl

-- of no whole pages, and above the limit
pages_first : loaded (redone (splice 40 (little_bytes 4 268439553) first_image)) ≡ Err Bins
unfolding image_of block_of checksum_of word half long splice loaded image_walk bins_walk key_from nk_of sk_of
pages_first = refl

-- at the limit, of which little is there
size_largest : loaded (redone (splice 40 (little_bytes 4 268435456) first_image)) ≡ Err Short
unfolding image_of block_of checksum_of word half long splice loaded image_walk bins_walk key_from nk_of sk_of
size_largest = refl

-- an end too early, and a bad header
short_first : loaded (take 8191 (splice 4096 (104 ∷ 98 ∷ 105 ∷ 111 ∷ []) first_image)) ≡ Err Short
unfolding image_of block_of checksum_of word half long splice loaded image_walk bins_walk key_from nk_of sk_of
short_first = refl

-- above 65,535, which the cell does not hold
descriptor_record_first : loaded (splice 4236 (little_bytes 4 70000) first_image) ≡ Err Record
unfolding image_of block_of checksum_of word half long splice loaded image_walk bins_walk key_from nk_of sk_of
descriptor_record_first = refl

-- a name past the record, and a predefined handle
key_record_first : loaded (splice 4204 (little_bytes 2 9) (splice 4134 (little_bytes 2 108) first_image)) ≡ Err Record
unfolding image_of block_of checksum_of word half long splice loaded image_walk bins_walk key_from nk_of sk_of
key_record_first = refl

-- a root and 512 names below it, whatever the bins hold
all_levels : (bins : List ℕ) (minor root : ℕ) (places : List BinPlace) (cells : List Cell) → bins_of bins ≡ Some places →
    cells_of_bins bins places ≡ Some cells →
    bins_walk bins minor root nothing ≡ key_from (content_in bins cells) minor 513 [] root_path root nothing
unfolding bins_walk
all_levels bins minor root places cells e f = rw (e, f) refl
