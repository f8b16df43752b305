-- Whole trees deleted: refusals, replies and the worlds after. Expected numbers are those of the rules.
use Rattle.std.proofs.Common.{◌≡◌, ℕ, List, [], ◌∷◌, Some, None, true, false, refl}
use Rattle.std.specs.FinMap.{get, from_sorted, entries-from_sorted, get-from_sorted}
use Rattle.reg_names.specs.Names.{are_key_names}
use Rattle.reg_heap.specs.Paths.{Path, Tree, Rec, Member, path_cmp}
use Rattle.reg_heap.specs.Edits.{any_kept_within, any_kept_under}
use Rattle.reg_model.specs.Worlds.{Handle, At, Deleted}
use Rattle.reg_model.specs.Causes.{State, early_cause, late_cause, change_cause, rule_of}
use Rattle.reg_model.specs.Replies.{reply_to}
use Rattle.reg_model.specs.declared.call.Change.TheVariants.{DeleteTree}
use Rattle.reg_model.proofs.RowsRefusals.{handle}

-- ---- trees: the root, which has mark 0x08, `A`, `A\B`, `A\B\C` and `AB`

abbrev pub a : Path
a = (65 ∷ []) ∷ []

abbrev pub ab : Path
ab = (65 ∷ 66 ∷ []) ∷ []

abbrev pub a_b : Path
a_b = (65 ∷ []) ∷ (66 ∷ []) ∷ []

abbrev pub a_b_c : Path
a_b_c = (65 ∷ []) ∷ (66 ∷ []) ∷ (67 ∷ []) ∷ []

abbrev pub value : Member
value = record { name = 118 ∷ []; kind = 4; bytes = 1 ∷ [] }

-- keys with marks, a time and values
abbrev pub key : ℕ → ℕ → List Member → Rec
key marks time values = record { name = []; marks = marks; class = []; descriptor = []; time = time; values = values }

-- `A` has a value
abbrev pub tree : Tree
tree = from_sorted (([], key 8 0 []) ∷ (a, key 0 1 (value ∷ [])) ∷ (a_b, key 0 2 []) ∷ (a_b_c, key 0 3 []) ∷ (ab, key 0 4 []) ∷ [])

-- session 0 has handle 0 on the root, 1 on `A\B\C`, 2 on `A` with 131097, 3 on `A` with 65547, 4 on a deleted key, 5 on `AB` and 6 on
-- `A\B` with 65545; session 1 has 7 on `A\B`
abbrev pub handles : List Handle
handles = handle 0 0 983103 (At []) ∷ handle 1 0 983103 (At a_b_c) ∷ handle 2 0 131097 (At a) ∷ handle 3 0 65547 (At a) ∷ handle 4 0 983103 Deleted ∷ handle 5 0 983103
    (At ab) ∷ handle 6 0 65545 (At a_b) ∷ handle 7 1 983103 (At a_b) ∷ []

abbrev pub over : Tree → List Handle → ℕ → State
over t hs count = record { kept = count; next = count; world = record { tree = t; handles = hs }; pending = [] }

abbrev pub few : State
few = over tree handles 8

-- the journal has room for no entry more: 16,777,208 and the closings of 8 handles
abbrev full : State
full = over tree handles 16777208

-- the paths `A`, `a`, `B`, `X`, `B\` and the empty one
abbrev pub to_a : List ℕ
to_a = 65 ∷ []

abbrev pub to_lower_a : List ℕ
to_lower_a = 97 ∷ []

abbrev pub to_b : List ℕ
to_b = 66 ∷ []

abbrev to_x : List ℕ
to_x = 88 ∷ []

abbrev ended : List ℕ
ended = 66 ∷ 92 ∷ []

x_missing : get tree ((88 ∷ []) ∷ []) ≡ None
x_missing = get-from_sorted path_cmp _ _ tt

pub a_there : get tree a ≡ Some (key 0 1 (value ∷ []))
a_there = get-from_sorted path_cmp _ _ tt

pub a_goes : any_kept_within tree a ≡ false
a_goes = rw (entries-from_sorted, get-from_sorted path_cmp _ a tt, get-from_sorted path_cmp _ a_b tt, get-from_sorted path_cmp _ a_b_c tt) refl

a_b_there : get tree a_b ≡ Some (key 0 2 [])
a_b_there = get-from_sorted path_cmp _ _ tt

a_b_goes : any_kept_within tree a_b ≡ false
a_b_goes = rw (entries-from_sorted, get-from_sorted path_cmp _ a_b tt, get-from_sorted path_cmp _ a_b_c tt) refl

pub below_a_goes : any_kept_under tree a ≡ false
below_a_goes = rw (entries-from_sorted, get-from_sorted path_cmp _ a_b tt, get-from_sorted path_cmp _ a_b_c tt) refl

-- ---- 6, 1018, 87, 5 by rights, 1450, the callbacks' status, 2 and 5 by a mark, in this order

no_handle : change_cause full 0 (DeleteTree 9 ended) 31 ≡ Some 6
unfolding early_cause late_cause
no_handle = refl

another_session : change_cause full 1 (DeleteTree 0 ended) 31 ≡ Some 6
unfolding early_cause late_cause
another_session = refl

deleted : change_cause full 0 (DeleteTree 4 ended) 31 ≡ Some 1018
unfolding early_cause late_cause
deleted = refl

deleted_and_empty : change_cause full 0 (DeleteTree 4 []) 31 ≡ Some 1018
unfolding early_cause late_cause
deleted_and_empty = refl

bad_path : change_cause full 0 (DeleteTree 2 ended) 31 ≡ Some 87
unfolding early_cause late_cause are_key_names
bad_path = refl

without_rights : change_cause full 0 (DeleteTree 2 to_b) 31 ≡ Some 5
unfolding early_cause late_cause are_key_names
without_rights = refl

no_room : change_cause full 0 (DeleteTree 0 to_x) 31 ≡ Some 1450
unfolding early_cause late_cause are_key_names
no_room = refl

no_room_and_empty : change_cause full 0 (DeleteTree 3 []) 31 ≡ Some 1450
unfolding early_cause late_cause are_key_names
no_room_and_empty = refl

callbacks : change_cause few 0 (DeleteTree 0 to_x) 31 ≡ Some 31
unfolding early_cause late_cause are_key_names
callbacks = refl

missing : change_cause few 0 (DeleteTree 0 to_x) 0 ≡ Some 2
unfolding early_cause late_cause are_key_names
missing = rw x_missing refl

accepted : change_cause few 0 (DeleteTree 0 to_a) 0 ≡ None
unfolding early_cause late_cause are_key_names
accepted = rw (a_there, a_goes) refl

accepted_lower_case : change_cause few 0 (DeleteTree 0 to_lower_a) 0 ≡ None
unfolding early_cause late_cause are_key_names
accepted_lower_case = rw (a_there, a_goes) refl

accepted_and_empty : change_cause few 0 (DeleteTree 3 []) 0 ≡ None
unfolding early_cause late_cause are_key_names
accepted_and_empty = rw below_a_goes refl

-- the one entry of it takes room for one
last_room : change_cause (over tree handles 16777207) 0 (DeleteTree 0 to_a) 0 ≡ None
unfolding early_cause late_cause are_key_names
last_room = rw (a_there, a_goes) refl

-- it is never refused for space in the bins, opens nothing and tells no disposition
takes_no_space : (rule_of (DeleteTree 0 to_a)).takes_space ≡ false
takes_no_space = refl

reply : reply_to few 0 (DeleteTree 0 to_a) ≡ record { status = 0; number = Some 8; handle = None; disposition = None }
unfolding reply_to
reply = refl

-- ---- rights: 0x10009 with a path, 0x1000B with the empty one

-- one handle on `A` with these rights
abbrev by_mask : ℕ → State
by_mask mask = over tree (handle 0 0 mask (At a) ∷ []) 1

rights_of_a_path : change_cause (by_mask 65545) 0 (DeleteTree 0 to_b) 0 ≡ None
unfolding early_cause late_cause are_key_names
rights_of_a_path = rw (a_b_there, a_b_goes) refl

without_delete : change_cause (by_mask 917567) 0 (DeleteTree 0 to_b) 0 ≡ Some 5
unfolding early_cause late_cause are_key_names
without_delete = refl

without_query_value : change_cause (by_mask 983102) 0 (DeleteTree 0 to_b) 0 ≡ Some 5
unfolding early_cause late_cause are_key_names
without_query_value = refl

without_enumerate_sub_keys : change_cause (by_mask 983095) 0 (DeleteTree 0 to_b) 0 ≡ Some 5
unfolding early_cause late_cause are_key_names
without_enumerate_sub_keys = refl

rights_of_the_empty_path : change_cause (by_mask 65547) 0 (DeleteTree 0 []) 0 ≡ None
unfolding early_cause late_cause are_key_names
rights_of_the_empty_path = rw below_a_goes refl

empty_without_set_value : change_cause (by_mask 983101) 0 (DeleteTree 0 []) 0 ≡ Some 5
unfolding early_cause late_cause are_key_names
empty_without_set_value = refl

empty_without_delete : change_cause (by_mask 917567) 0 (DeleteTree 0 []) 0 ≡ Some 5
unfolding early_cause late_cause are_key_names
empty_without_delete = refl

empty_without_query_value : change_cause (by_mask 983102) 0 (DeleteTree 0 []) 0 ≡ Some 5
unfolding early_cause late_cause are_key_names
empty_without_query_value = refl

empty_without_enumerate_sub_keys : change_cause (by_mask 983095) 0 (DeleteTree 0 []) 0 ≡ Some 5
unfolding early_cause late_cause are_key_names
empty_without_enumerate_sub_keys = refl

-- ---- mark 0x08 of a key to be removed is 5; that of the key that stays is no matter

-- `A\B\C` has it, and `A` another mark
abbrev marked : Tree
marked = from_sorted (([], key 8 0 []) ∷ (a, key 32 1 (value ∷ [])) ∷ (a_b, key 0 2 []) ∷ (a_b_c, key 40 3 []) ∷ (ab, key 0 4 []) ∷ [])

marked_a : get marked a ≡ Some (key 32 1 (value ∷ []))
marked_a = get-from_sorted path_cmp _ _ tt

marked_a_stays : any_kept_within marked a ≡ true
marked_a_stays = rw (entries-from_sorted, get-from_sorted path_cmp _ a tt, get-from_sorted path_cmp _ a_b tt, get-from_sorted path_cmp _ a_b_c tt) refl

below_marked_a_stays : any_kept_under marked a ≡ true
below_marked_a_stays = rw (entries-from_sorted, get-from_sorted path_cmp _ a_b tt, get-from_sorted path_cmp _ a_b_c tt) refl

mark_below : change_cause (over marked handles 8) 0 (DeleteTree 0 to_a) 0 ≡ Some 5
unfolding early_cause late_cause are_key_names
mark_below = rw (marked_a, marked_a_stays) refl

mark_below_and_empty : change_cause (over marked handles 8) 0 (DeleteTree 3 []) 0 ≡ Some 5
unfolding early_cause late_cause are_key_names
mark_below_and_empty = rw below_marked_a_stays refl

-- handle 1 is on `A\B\C` itself, and nothing is below
nothing_below_c : any_kept_under marked a_b_c ≡ false
nothing_below_c = rw entries-from_sorted refl

own_mark_and_empty : change_cause (over marked handles 8) 0 (DeleteTree 1 []) 0 ≡ None
unfolding early_cause late_cause are_key_names
own_mark_and_empty = rw nothing_below_c refl

marked_c : get marked a_b_c ≡ Some (key 40 3 [])
marked_c = get-from_sorted path_cmp _ _ tt

marked_c_stays : any_kept_within marked a_b_c ≡ true
marked_c_stays = rw (entries-from_sorted, get-from_sorted path_cmp _ a_b_c tt) refl

-- by handle 0 and the path `A\B\C`
own_mark : change_cause (over marked handles 8) 0 (DeleteTree 0 (65 ∷ 92 ∷ 66 ∷ 92 ∷ 67 ∷ [])) 0 ≡ Some 5
unfolding early_cause late_cause are_key_names
own_mark = rw (marked_c, marked_c_stays) refl
