-- The definitions at names that were worked out by hand.
use Rattle.std.specs.Prelude.{◌≡◌, true, false, [], ◌∷◌, ◌++◌, replicate, map, Some, None, refl}
use Rattle.std.specs.declared.cmp.Ordering.TheVariants.{Less, Equal, Greater}
use Rattle.reg_names.specs.declared.NameFault.TheVariants.{Empty, BadByte, NameTooLong, TooManyLevels}
use Rattle.reg_names.specs.Names.{fold, folded, name_cmp, key_name_fault, value_name_fault, fault_in, names_fault, path_fault, are_key_names, is_path, hash, path_of, text_of}

-- ---- folding: a letter a to z, and the bytes on either side of them

fold_letters : map fold (97 ∷ 109 ∷ 122 ∷ []) ≡ 65 ∷ 77 ∷ 90 ∷ []
fold_letters = refl

fold_others : map fold (0 ∷ 48 ∷ 64 ∷ 65 ∷ 90 ∷ 91 ∷ 96 ∷ 123 ∷ 127 ∷ 128 ∷ 255 ∷ []) ≡ 0 ∷ 48 ∷ 64 ∷ 65 ∷ 90 ∷ 91 ∷ 96 ∷ 123 ∷ 127 ∷ 128 ∷ 255 ∷ []
fold_others = refl

-- `Run` and `RUN`
fold_run : folded (82 ∷ 117 ∷ 110 ∷ []) ≡ 82 ∷ 85 ∷ 78 ∷ []
fold_run = refl

-- ---- the order

-- `run` and `RUN`
same_run : name_cmp (114 ∷ 117 ∷ 110 ∷ []) (82 ∷ 85 ∷ 78 ∷ []) ≡ Equal
same_run = refl

-- `a` before `B`, and `b` after `A`
letters : name_cmp (97 ∷ []) (66 ∷ []) ≡ Less
letters = refl

letters_back : name_cmp (98 ∷ []) (65 ∷ []) ≡ Greater
letters_back = refl

-- `[`, `\`, `]`, `^`, `_` and the backquote come after `z`, which folds to `Z`
bracket_after_z : name_cmp (91 ∷ []) (122 ∷ []) ≡ Greater
bracket_after_z = refl

backslash_after_z : name_cmp (92 ∷ []) (122 ∷ []) ≡ Greater
backslash_after_z = refl

closing_bracket_after_z : name_cmp (93 ∷ []) (122 ∷ []) ≡ Greater
closing_bracket_after_z = refl

caret_after_z : name_cmp (94 ∷ []) (122 ∷ []) ≡ Greater
caret_after_z = refl

underscore_after_z : name_cmp (95 ∷ []) (122 ∷ []) ≡ Greater
underscore_after_z = refl

backquote_after_z : name_cmp (96 ∷ []) (122 ∷ []) ≡ Greater
backquote_after_z = refl

-- `{` comes after `z` too
brace_after_z : name_cmp (123 ∷ []) (122 ∷ []) ≡ Greater
brace_after_z = refl

-- `Run` before `RunOnce`, and no name before any
prefix_first : name_cmp (82 ∷ 117 ∷ 110 ∷ []) (114 ∷ 117 ∷ 110 ∷ 79 ∷ 110 ∷ 99 ∷ 101 ∷ []) ≡ Less
prefix_first = refl

prefix_first_back : name_cmp (114 ∷ 117 ∷ 110 ∷ 79 ∷ 110 ∷ 99 ∷ 101 ∷ []) (82 ∷ 117 ∷ 110 ∷ []) ≡ Greater
prefix_first_back = refl

nothing_first : name_cmp [] (1 ∷ []) ≡ Less
nothing_first = refl

-- ---- faults of a key's name

key_fine : key_name_fault (82 ∷ 117 ∷ 110 ∷ []) ≡ None
unfolding fault_in
key_fine = refl

key_ends_of_the_profile : key_name_fault (1 ∷ 127 ∷ 47 ∷ []) ≡ None
unfolding fault_in
key_ends_of_the_profile = refl

key_empty : key_name_fault [] ≡ Some Empty
key_empty = refl

key_zero_byte : key_name_fault (82 ∷ 0 ∷ []) ≡ Some BadByte
unfolding fault_in
key_zero_byte = refl

key_byte_128 : key_name_fault (128 ∷ 82 ∷ []) ≡ Some BadByte
unfolding fault_in
key_byte_128 = refl

key_backslash : key_name_fault (65 ∷ 92 ∷ 66 ∷ []) ≡ Some BadByte
unfolding fault_in
key_backslash = refl

key_of_255 : key_name_fault (replicate 255 65) ≡ None
unfolding fault_in
key_of_255 = refl

key_of_256 : key_name_fault (replicate 256 65) ≡ Some NameTooLong
unfolding fault_in
key_of_256 = refl

-- the byte past the limit is too many, whatever it is; a bad byte before it comes first
key_bad_byte_past_the_limit : key_name_fault (replicate 255 65 ++ 0 ∷ []) ≡ Some NameTooLong
unfolding fault_in
key_bad_byte_past_the_limit = refl

key_bad_byte_at_the_limit : key_name_fault (replicate 254 65 ++ 0 ∷ 65 ∷ []) ≡ Some BadByte
unfolding fault_in
key_bad_byte_at_the_limit = refl

-- ---- faults of a value's name

value_default : value_name_fault [] ≡ None
unfolding fault_in
value_default = refl

value_backslash : value_name_fault (65 ∷ 92 ∷ 66 ∷ []) ≡ None
unfolding fault_in
value_backslash = refl

value_zero_byte : value_name_fault (0 ∷ 65 ∷ []) ≡ Some BadByte
unfolding fault_in
value_zero_byte = refl

value_byte_128 : value_name_fault (65 ∷ 128 ∷ []) ≡ Some BadByte
unfolding fault_in
value_byte_128 = refl

value_of_16383 : value_name_fault (replicate 16383 65) ≡ None
unfolding fault_in
value_of_16383 = refl

value_of_16384 : value_name_fault (replicate 16384 65) ≡ Some NameTooLong
unfolding fault_in
value_of_16384 = refl

-- ---- the hash

-- `Run`: 82, then 3119, then 115481
hash_run : hash (82 ∷ 117 ∷ 110 ∷ []) ≡ 115481
unfolding hash
hash_run = refl

-- `RUN`
hash_run_upper : hash (82 ∷ 85 ∷ 78 ∷ []) ≡ 115481
unfolding hash
hash_run_upper = refl

-- `ab`
hash_ab : hash (97 ∷ 98 ∷ []) ≡ 2471
unfolding hash
hash_ab = refl

-- `zzzzzz`: 6414316020 less 4294967296
hash_zzzzzz : hash (122 ∷ 122 ∷ 122 ∷ 122 ∷ 122 ∷ 122 ∷ []) ≡ 2119348724
unfolding hash
hash_zzzzzz = refl

hash_empty : hash [] ≡ 0
unfolding hash
hash_empty = refl

-- ---- paths as text

no_names : path_of [] ≡ []
no_names = refl

-- `A\B\C`
three_names : path_of (65 ∷ 92 ∷ 66 ∷ 92 ∷ 67 ∷ []) ≡ (65 ∷ []) ∷ (66 ∷ []) ∷ (67 ∷ []) ∷ []
three_names = refl

three_names_text : text_of ((65 ∷ []) ∷ (66 ∷ []) ∷ (67 ∷ []) ∷ []) ≡ 65 ∷ 92 ∷ 66 ∷ 92 ∷ 67 ∷ []
three_names_text = refl

-- a name is kept as it is given: `Run`
name_as_given : path_of (82 ∷ 117 ∷ 110 ∷ []) ≡ (82 ∷ 117 ∷ 110 ∷ []) ∷ []
name_as_given = refl

-- `A\`: the last name is empty
backslash_last : path_of (65 ∷ 92 ∷ []) ≡ (65 ∷ []) ∷ [] ∷ []
backslash_last = refl

-- `\A`: the first name is empty
backslash_first : path_of (92 ∷ 65 ∷ []) ≡ [] ∷ (65 ∷ []) ∷ []
backslash_first = refl

-- `A\\B`: the name between is empty
backslash_twice : path_of (65 ∷ 92 ∷ 92 ∷ 66 ∷ []) ≡ (65 ∷ []) ∷ [] ∷ (66 ∷ []) ∷ []
backslash_twice = refl

-- `\`
backslash_alone : path_of (92 ∷ []) ≡ [] ∷ [] ∷ []
backslash_alone = refl

-- ---- faults of a path

path_of_none : path_fault [] ≡ None
unfolding names_fault
path_of_none = refl

-- `A\B\C`
path_fine : path_fault (65 ∷ 92 ∷ 66 ∷ 92 ∷ 67 ∷ []) ≡ None
unfolding names_fault fault_in
path_fine = refl

-- `A\`
path_backslash_last : path_fault (65 ∷ 92 ∷ []) ≡ Some Empty
unfolding names_fault fault_in
path_backslash_last = refl

-- `\A`
path_backslash_first : path_fault (92 ∷ 65 ∷ []) ≡ Some Empty
unfolding names_fault fault_in
path_backslash_first = refl

-- an empty name before a bad byte, and a bad byte before an empty name
path_empty_before_bad : path_fault (65 ∷ 92 ∷ 92 ∷ 0 ∷ []) ≡ Some Empty
unfolding names_fault fault_in
path_empty_before_bad = refl

path_bad_before_empty : path_fault (65 ∷ 0 ∷ 92 ∷ 92 ∷ []) ≡ Some BadByte
unfolding names_fault fault_in
path_bad_before_empty = refl

-- a backslash past 255 bytes ends their name; every other byte there is too many
path_name_of_255 : path_fault (replicate 255 65 ++ 92 ∷ 66 ∷ []) ≡ None
unfolding names_fault fault_in
path_name_of_255 = refl

path_name_of_256 : path_fault (replicate 255 65 ++ 0 ∷ 92 ∷ 66 ∷ []) ≡ Some NameTooLong
unfolding names_fault fault_in
path_name_of_256 = refl

-- 512 names `A` are a path, and a backslash after them begins one name more, which is too many
path_of_512 : path_fault (text_of (replicate 512 (65 ∷ []))) ≡ None
unfolding names_fault fault_in
path_of_512 = refl

path_of_513 : path_fault (text_of (replicate 512 (65 ∷ []) ++ (0 ∷ []) ∷ [])) ≡ Some TooManyLevels
unfolding names_fault fault_in
path_of_513 = refl

path_of_512_and_backslash : path_fault (text_of (replicate 512 (65 ∷ []) ++ [] ∷ [])) ≡ Some TooManyLevels
unfolding names_fault fault_in
path_of_512_and_backslash = refl

path_of_511_and_backslash : path_fault (text_of (replicate 511 (65 ∷ []) ++ [] ∷ [])) ≡ Some Empty
unfolding names_fault fault_in
path_of_511_and_backslash = refl

is_path_of_none : is_path [] ≡ true
unfolding are_key_names
is_path_of_none = refl

is_path_of_513 : is_path (text_of (replicate 513 (65 ∷ []))) ≡ false
unfolding are_key_names
is_path_of_513 = refl
