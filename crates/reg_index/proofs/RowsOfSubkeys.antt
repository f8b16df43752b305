-- Subkeys in bytes that were worked out by hand.
use Rattle.std.proofs.Common.{◌≡◌, ◌==◌, ◌+◌, Some, None, ℕ, zero, suc, List, [], ◌∷◌, ◌++◌, cond, length, refl, sym, ap, arith, replicate}
use Rattle.std.proofs.lemmas.Option.{same_Some}
use Rattle.reg_heap.specs.Heaps.{Heap}
use Rattle.reg_heap.specs.ByteWords.{half, word}
use Rattle.reg_records.specs.declared.lists.ListForm.TheVariants.{HashLeaf}
use Rattle.reg_records.specs.SubkeyLists.{Entry, list_of}
use Rattle.reg_shape.specs.Nodes.{KeyList, Index, index_at, entries_of}
use Rattle.reg_shape.specs.Nodes.Index.{Unlisted, Listed, Rooted}
use Rattle.reg_index.specs.declared.Place.{Place}
use Rattle.reg_index.specs.declared.IndexCells.{IndexCells}
use Rattle.reg_index.specs.Lengthening.{last_moved, longer_in, longer_size}
use Rattle.reg_index.specs.Subkeys.{AreSubkeys, IsPlaceIn, StandsIn, flat, index_under, insert_sizes, leaf_list, lists_with, lists_without, own, root_sizes, sizes_in}

-- the index of one list, at 120
abbrev listed : List Entry → Index
listed entries = Listed (record { offset = 120; list = record { form = HashLeaf; entries = entries } })

-- `lh` with the key at 32 and the hash of `Run`, in a cell of so many bytes more, at 120
abbrev heap_with : ℕ → Heap
heap_with more offset = cond (offset == 120) (Some (108 ∷ 104 ∷ 1 ∷ 0 ∷ 32 ∷ 0 ∷ 0 ∷ 0 ∷ 25 ∷ 195 ∷ 1 ∷ 0 ∷ replicate more 0)) None

one_subkey : index_at (heap_with 0) 1 120 ≡ Some (listed ((record { offset = 32; hint = 115481 }) ∷ []))
unfolding list_of half word
one_subkey = refl

-- the key's number and the list's are the same
two_counted : (entries : List Entry) → AreSubkeys (heap_with 0) 2 120 entries → ⊥
unfolding list_of half word
two_counted entries s =
    let one : length (entries_of s.index) ≡ 1 = ap (λ index. length (entries_of index)) (same_Some _ _ (sym s.read)) in
    omega (arith, one, ap length s.entries_are, s.number)

no_cell : index_at (heap_with 0) 1 128 ≡ None
unfolding list_of
no_cell = refl

none_counted : index_at (heap_with 0) 0 120 ≡ Some Unlisted
none_counted = refl

-- the cells of one list, and of none
one_cell : own (heap_with 0) 1 120 ≡ 120 ∷ []
unfolding list_of half word
one_cell = refl

no_cells : own (heap_with 0) 0 120 ≡ []
no_cells = refl

-- ---- an index root at 200 of two leaves, at 160 with two keys and at 120 with one, in a cell of so many bytes more

abbrev rooted : ℕ → Heap
rooted more offset =
    cond (offset == 200) (Some (114 ∷ 105 ∷ 2 ∷ 0 ∷ 160 ∷ 0 ∷ 0 ∷ 0 ∷ 120 ∷ 0 ∷ 0 ∷ 0 ∷ replicate more 0))
    (cond (offset == 160) (Some (108 ∷ 104 ∷ 2 ∷ 0 ∷ 32 ∷ 0 ∷ 0 ∷ 0 ∷ 65 ∷ 0 ∷ 0 ∷ 0 ∷ 72 ∷ 0 ∷ 0 ∷ 0 ∷ 66 ∷ 0 ∷ 0 ∷ 0 ∷ []))
    (heap_with 0 offset))

abbrev two_lists : Index
two_lists = Rooted 200 (
    record { offset = 160; list = record { form = HashLeaf; entries = record { offset = 32; hint = 65 } ∷ record { offset = 72; hint = 66 } ∷ [] } }
    ∷ record { offset = 120; list = record { form = HashLeaf; entries = record { offset = 32; hint = 115481 } ∷ [] } } ∷ []
    )

two_leaves : index_at (rooted 0) 3 200 ≡ Some two_lists
unfolding list_of half word
two_leaves = refl

root_cells : own (rooted 0) 3 200 ≡ 200 ∷ 160 ∷ 120 ∷ []
unfolding list_of half word
root_cells = refl

-- places: the second list begins at the third subkey
second_first : flat (rooted 0) 3 200 (record { list = 1; index = 0 }) ≡ 2
unfolding list_of half word
second_first = refl

first_second : flat (rooted 0) 3 200 (record { list = 0; index = 1 }) ≡ 1
unfolding list_of half word
first_second = refl

second_stands : StandsIn two_lists (record { list = 1; index = 0 })
second_stands = (omega arith, omega arith)

-- one past the last of a list is where a name may come, and stands nowhere
past_first : IsPlaceIn two_lists (record { list = 0; index = 2 })
past_first = (omega arith, omega arith)

past_stands : StandsIn two_lists (record { list = 0; index = 2 }) → ⊥
past_stands s = absurd (omega (arith, s.1))

third_list : IsPlaceIn two_lists (record { list = 2; index = 0 }) → ⊥
third_list p = absurd (omega (arith, p.0))

-- where there are no subkeys, there is one place
first_place : IsPlaceIn Unlisted (record { list = 0; index = 0 })
first_place = (refl, refl)

-- ---- sizes of cells

abbrev nothing : Place
nothing = record { list = 0; index = 0 }

abbrev one_list : ℕ → IndexCells
one_list size = record { list = Some size; second = None; root = None }

-- a cell of 16 bytes holds one entry, a second takes one of 24, in which a third has no room
first_cell : insert_sizes (heap_with 0) 0 4294967295 nothing ≡ one_list 16
unfolding insert_sizes
first_cell = refl

next_cell : insert_sizes (heap_with 0) 1 120 nothing ≡ one_list 24
unfolding insert_sizes list_of half word
next_cell = refl

one_byte_short : insert_sizes (heap_with 7) 1 120 nothing ≡ one_list 24
unfolding insert_sizes list_of half word
one_byte_short = refl

just_room : insert_sizes (heap_with 8) 1 120 nothing ≡ record { list = None; second = None; root = None }
unfolding insert_sizes list_of half word
just_room = refl

-- the list of the place, and no other
second_list : insert_sizes (rooted 0) 3 200 (record { list = 1; index = 1 }) ≡ one_list 24
unfolding insert_sizes list_of half word
second_list = refl

first_list : insert_sizes (rooted 0) 3 200 (record { list = 0; index = 1 }) ≡ one_list 32
unfolding insert_sizes list_of half word
first_list = refl

-- lists of 499 and 500 subkeys in cells that are full: the 500th takes a cell of 4008 bytes, the 501st two for 250 and 251
-- subkeys and an index root; a list of 251 then takes 2024
abbrev list_of_so_many : ℕ → ℕ → KeyList
list_of_so_many offset number = record { offset = offset; list = record { form = HashLeaf; entries = replicate number (record { offset = 32; hint = 65 }) } }

abbrev empty : Heap
empty offset = None

the_499th : sizes_in empty (Listed (list_of_so_many 120 498)) 0 ≡ one_list 4000
the_499th = refl

the_500th : sizes_in empty (Listed (list_of_so_many 120 499)) 0 ≡ one_list 4008
the_500th = refl

the_501st : sizes_in empty (Listed (list_of_so_many 120 500)) 0 ≡ record { list = Some 2008; second = Some 2016; root = Some 16 }
the_501st = refl

abbrev two_halves : Index
two_halves = Rooted 200 (list_of_so_many 160 250 ∷ list_of_so_many 120 251 ∷ [])

the_502nd : sizes_in empty two_halves 1 ≡ one_list 2024
the_502nd = refl

its_first_half : sizes_in empty two_halves 0 ≡ one_list 2016
its_first_half = refl

-- a root of two lists has room for a third in a cell of 24 bytes, and not in one of 16
abbrev full_second : Index
full_second = Rooted 200 (list_of_so_many 160 250 ∷ list_of_so_many 120 500 ∷ [])

third_of_16 : root_sizes (rooted 0) full_second ≡ Some 24
third_of_16 = refl

third_of_24 : root_sizes (rooted 8) full_second ≡ None
third_of_24 = refl

-- the second list is full: two for it, and a larger root
second_full : sizes_in (rooted 0) full_second 1 ≡ record { list = Some 2008; second = Some 2016; root = Some 24 }
second_full = refl

first_not : sizes_in (rooted 0) full_second 0 ≡ one_list 2016
first_not = refl

-- ---- what becomes of the lists

abbrev entry : ℕ → Entry
entry key = record { offset = key; hint = 65 }

abbrev place : ℕ → ℕ → Place
place list index = record { list = list; index = index }

-- so many entries, of the keys at this offset and the following ones
abbrev entries_from : ℕ → ℕ → List Entry
entries_from zero key = []
entries_from (suc number) key = entry key ∷ entries_from number (key + 1)

-- no cell was carved, one for a list, or two for the halves of a list and one for an index root
abbrev none_carved : IndexCells
none_carved = record { list = None; second = None; root = None }

abbrev list_at_300 : IndexCells
list_at_300 = record { list = Some 300; second = None; root = None }

abbrev halves_at_300 : IndexCells
halves_at_300 = record { list = Some 300; second = Some 320; root = Some 340 }

-- the first of all stands in the cell that was carved for it
first_of_all : lists_with (place 0 0) (entry 32) list_at_300 [] ≡ leaf_list 300 (entry 32 ∷ []) ∷ []
first_of_all = refl

-- three lists, at 400, 440 and 480
abbrev three : List KeyList
three = leaf_list 400 (entry 10 ∷ entry 11 ∷ []) ∷ leaf_list 440 (entry 20 ∷ entry 22 ∷ []) ∷ leaf_list 480 (entry 30 ∷ []) ∷ []

-- one more in the middle one, between its two: where its cell has room, it stays there
middle_grows : lists_with (place 1 1) (entry 21) none_carved three ≡
    leaf_list 400 (entry 10 ∷ entry 11 ∷ []) ∷ leaf_list 440 (entry 20 ∷ entry 21 ∷ entry 22 ∷ []) ∷ leaf_list 480 (entry 30 ∷ []) ∷ []
middle_grows = refl

-- and where not, it alone moves, to the cell that was carved for it
middle_moves : lists_with (place 1 2) (entry 23) list_at_300 three ≡
    leaf_list 400 (entry 10 ∷ entry 11 ∷ []) ∷ leaf_list 300 (entry 20 ∷ entry 22 ∷ entry 23 ∷ []) ∷ leaf_list 480 (entry 30 ∷ []) ∷ []
middle_moves = refl

-- a list of 499 takes a 500th and is one list still
one_list_of_500 : lists_with (place 0 499) (entry 1499) list_at_300 (leaf_list 400 (entries_from 499 1000) ∷ []) ≡ leaf_list 300 (entries_from 500 1000) ∷ []
one_list_of_500 = refl

-- a list of 500 with one more gives way to two in the two cells that were carved, of the first 250 and of the other 251: the one that comes
-- is the last of the first half, the first of the second, or the last of all
last_of_first : lists_with (place 0 249) (entry 7) halves_at_300 (leaf_list 400 (entries_from 500 1000) ∷ []) ≡
    leaf_list 300 (entries_from 249 1000 ++ entry 7 ∷ []) ∷ leaf_list 320 (entries_from 251 1249) ∷ []
last_of_first = refl

first_of_second : lists_with (place 0 250) (entry 7) halves_at_300 (leaf_list 400 (entries_from 500 1000) ∷ []) ≡
    leaf_list 300 (entries_from 250 1000) ∷ leaf_list 320 (entry 7 ∷ entries_from 250 1250) ∷ []
first_of_second = refl

last_of_second : lists_with (place 0 500) (entry 1500) halves_at_300 (leaf_list 400 (entries_from 500 1000) ∷ []) ≡
    leaf_list 300 (entries_from 250 1000) ∷ leaf_list 320 (entries_from 251 1250) ∷ []
last_of_second = refl

-- of three lists the full one gives way to two, and the others stay where they were
middle_parts : lists_with (place 1 250) (entry 7) halves_at_300
    (leaf_list 400 (entry 10 ∷ []) ∷ leaf_list 440 (entries_from 500 1000) ∷ leaf_list 480 (entry 30 ∷ []) ∷ [])
    ≡ leaf_list 400 (entry 10 ∷ []) ∷ leaf_list 300 (entries_from 250 1000) ∷ leaf_list 320 (entry 7 ∷ entries_from 250 1250)
    ∷ leaf_list 480 (entry 30 ∷ []) ∷ []
middle_parts = refl

-- one of two in the middle list goes, and the list stays in its cell
middle_shrinks : lists_without (place 1 0) three ≡
    leaf_list 400 (entry 10 ∷ entry 11 ∷ []) ∷ leaf_list 440 (entry 22 ∷ []) ∷ leaf_list 480 (entry 30 ∷ []) ∷ []
middle_shrinks = refl

-- the only one in the middle list of three goes, and its list with it: two are left under the root
two_left : index_under 200 (lists_without (place 1 0) (leaf_list 400 (entry 10 ∷ []) ∷ leaf_list 440 (entry 20 ∷ []) ∷ leaf_list 480 (entry 30 ∷ []) ∷ []))
    ≡ Rooted 200 (leaf_list 400 (entry 10 ∷ []) ∷ leaf_list 480 (entry 30 ∷ []) ∷ [])
two_left = refl

-- the only one in one of two lists goes: the other list is left in its cell, and no root
second_left : index_under 200 (lists_without (place 0 0) (leaf_list 400 (entry 10 ∷ []) ∷ leaf_list 440 (entry 20 ∷ entry 21 ∷ []) ∷ []))
    ≡ Listed (leaf_list 440 (entry 20 ∷ entry 21 ∷ []))
second_left = refl

first_left : index_under 200 (lists_without (place 1 0) (leaf_list 400 (entry 10 ∷ []) ∷ leaf_list 440 (entry 20 ∷ []) ∷ []))
    ≡ Listed (leaf_list 400 (entry 10 ∷ []))
first_left = refl

-- the last of all goes, and there is no list
none_left : index_under 400 (lists_without (place 0 0) (leaf_list 400 (entry 10 ∷ []) ∷ [])) ≡ Unlisted
none_left = refl

-- ---- a last list that is given room

-- of two lists the last one, of one subkey, in a cell of 12 bytes: for one more it takes a cell of 24 bytes
longer_by_one : longer_size (rooted 0) 3 200 1 ≡ Some 24
unfolding longer_size list_of half word
longer_by_one = refl

-- a list of one in a cell with room for two has room for one more, and not for two
room_for_one : longer_size (heap_with 8) 1 120 1 ≡ None
unfolding longer_size list_of half word
room_for_one = refl

no_room_for_two : longer_size (heap_with 8) 1 120 2 ≡ Some 32
unfolding longer_size list_of half word
no_room_for_two = refl

-- for 499 more the cell of a list of 500, and the same for all that come
longer_to_500 : longer_in (heap_with 0) (leaf_list 120 (entry 32 ∷ [])) 499 ≡ Some 4008
longer_to_500 = refl

longer_beyond_500 : longer_in (heap_with 0) (leaf_list 120 (entry 32 ∷ [])) 4294967295 ≡ Some 4008
longer_beyond_500 = refl

room_for_500 : longer_in (heap_with 3992) (leaf_list 120 (entry 32 ∷ [])) 4294967295 ≡ None
room_for_500 = refl

-- of three lists the last one moves, and of one that one
last_moves : last_moved 300 three ≡
    leaf_list 400 (entry 10 ∷ entry 11 ∷ []) ∷ leaf_list 440 (entry 20 ∷ entry 22 ∷ []) ∷ leaf_list 300 (entry 30 ∷ []) ∷ []
last_moves = refl

only_one_moves : index_under 400 (last_moved 300 (leaf_list 400 (entry 10 ∷ entry 11 ∷ []) ∷ [])) ≡ Listed (leaf_list 300 (entry 10 ∷ entry 11 ∷ []))
only_one_moves = refl
