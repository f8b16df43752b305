-- Lists of subkeys in bytes that were worked out by hand.
use Rattle.std.specs.Prelude.{◌≡◌, [], ◌∷◌, Some, None, refl}
use Rattle.reg_heap.specs.ByteWords.{half, word}
use Rattle.reg_records.specs.declared.RecordFault.TheVariants.{Short, Signature, Length}
use Rattle.reg_records.specs.declared.lists.ListForm.TheVariants.{IndexRoot, IndexLeaf, FastLeaf, HashLeaf}
use Rattle.reg_records.specs.SubkeyLists.{list_of, list_fault, list_bytes, entries_bytes}

-- `lh` with the keys at 32 and 120, with the hashes of `Run` and `ab`, and a byte that isn't the list's
hash_leaf : list_of (108 ∷ 104 ∷ 2 ∷ 0 ∷ 32 ∷ 0 ∷ 0 ∷ 0 ∷ 25 ∷ 195 ∷ 1 ∷ 0 ∷ 120 ∷ 0 ∷ 0 ∷ 0 ∷ 167 ∷ 9 ∷ 0 ∷ 0 ∷ 7 ∷ [])
    ≡ Some (record { form = HashLeaf; entries = record { offset = 32; hint = 115481 } ∷ record { offset = 120; hint = 2471 } ∷ [] })
unfolding list_of half word
hash_leaf = refl

-- `lf` with the key `Run` at 32
fast_leaf : list_of (108 ∷ 102 ∷ 1 ∷ 0 ∷ 32 ∷ 0 ∷ 0 ∷ 0 ∷ 82 ∷ 117 ∷ 110 ∷ 0 ∷ []) ≡ Some (record { form = FastLeaf; entries = record { offset = 32; hint = 7238994 } ∷ [] })
unfolding list_of half word
fast_leaf = refl

-- `li` with the keys at 32 and 120
index_leaf : list_of (108 ∷ 105 ∷ 2 ∷ 0 ∷ 32 ∷ 0 ∷ 0 ∷ 0 ∷ 120 ∷ 0 ∷ 0 ∷ 0 ∷ []) ≡ Some
    (record { form = IndexLeaf; entries = record { offset = 32; hint = 0 } ∷ record { offset = 120; hint = 0 } ∷ [] })
unfolding list_of half word
index_leaf = refl

-- `ri` with the list at 168
index_root : list_of (114 ∷ 105 ∷ 1 ∷ 0 ∷ 168 ∷ 0 ∷ 0 ∷ 0 ∷ []) ≡ Some (record { form = IndexRoot; entries = record { offset = 168; hint = 0 } ∷ [] })
unfolding list_of half word
index_root = refl

-- a list may be empty
empty_leaf : list_of (108 ∷ 104 ∷ 0 ∷ 0 ∷ []) ≡ Some (record { form = HashLeaf; entries = [] })
unfolding list_of half
empty_leaf = refl

-- ---- faults, in their order

three_bytes : list_fault (110 ∷ 107 ∷ 0 ∷ []) ≡ Some Short
unfolding list_fault
three_bytes = refl

of_a_key : list_fault (110 ∷ 107 ∷ 9 ∷ 0 ∷ []) ≡ Some Signature
unfolding list_fault half
of_a_key = refl

one_byte_less : list_fault (108 ∷ 104 ∷ 1 ∷ 0 ∷ 32 ∷ 0 ∷ 0 ∷ 0 ∷ 25 ∷ 195 ∷ 1 ∷ []) ≡ Some Length
unfolding list_fault half
one_byte_less = refl

without_fault : list_fault (108 ∷ 105 ∷ 1 ∷ 0 ∷ 32 ∷ 0 ∷ 0 ∷ 0 ∷ []) ≡ None
unfolding list_fault half
without_fault = refl

-- ---- as they are written

hash_leaf_written : list_bytes HashLeaf (record { offset = 32; hint = 115481 } ∷ []) ≡ 108 ∷ 104 ∷ 1 ∷ 0 ∷ 32 ∷ 0 ∷ 0 ∷ 0 ∷ 25 ∷ 195 ∷ 1 ∷ 0 ∷ []
unfolding list_bytes entries_bytes
hash_leaf_written = refl

index_root_written : list_bytes IndexRoot (record { offset = 168; hint = 0 } ∷ record { offset = 256; hint = 0 } ∷ []) ≡ 114 ∷ 105 ∷ 2 ∷ 0 ∷ 168 ∷ 0 ∷ 0 ∷ 0 ∷ 0 ∷ 1 ∷ 0 ∷ 0 ∷ []
unfolding list_bytes entries_bytes
index_root_written = refl
