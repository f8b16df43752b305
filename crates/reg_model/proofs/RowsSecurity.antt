-- Descriptors asked for, set and given to a key that is made: refusals, answers and the keys after. Expected numbers are those of the
-- rules.
use Rattle.std.proofs.Common.{◌≡◌, ℕ, List, [], ◌∷◌, replicate, Some, None, true, refl}
use Rattle.std.specs.FinMap.{get, gets, insert, empty, from_sorted, entries-from_sorted, get-from_sorted}
use Rattle.reg_names.specs.Names.{are_key_names}
use Rattle.reg_heap.specs.Paths.{Path, Tree, Rec, path_cmp, children_of}
use Rattle.reg_model.specs.Worlds.{Handle, At, Deleted, after}
use Rattle.reg_model.specs.Causes.{State, early_cause, late_cause, change_cause, early_query_cause, late_query_cause, query_cause, rule_of}
use Rattle.reg_model.specs.Replies.{body_of, reply_to}
use Rattle.reg_model.specs.Callbacks.{handle_asked}
use Rattle.reg_model.specs.declared.call.Change.{Change}
use Rattle.reg_model.specs.declared.call.Change.TheVariants.{CreateKey, SetSecurity}
use Rattle.reg_model.specs.declared.call.Query.TheVariants.{GetSecurity}
use Rattle.reg_model.specs.declared.reply.Entry.{Entry}
use Rattle.reg_model.specs.declared.answer.AnswerBody.TheVariants.{Short, Security}
use Rattle.reg_model.proofs.HandleInvariant.{path_total}
use Rattle.reg_model.proofs.RowsReplies.{root_put}
use Rattle.reg_model.proofs.RowsRefusals.{handle, root, state}

-- a descriptor of three bytes
abbrev small : List ℕ
small = 1 ∷ 2 ∷ 3 ∷ []

-- session 0 has handle 0 with all rights, 1 on a deleted key, 2 with all but 0x40000, 3 with 0x40000 alone, 4 with all but 0x20000
-- and 5 with 0x20000 alone
abbrev handles : List Handle
handles = handle 0 0 983103 (At []) ∷ handle 1 0 983103 Deleted ∷ handle 2 0 720959 (At []) ∷ handle 3 0 262144 (At []) ∷ handle 4 0 852031 (At []) ∷ handle 5 0 131072
    (At []) ∷ []

abbrev few : State
few = state 6 handles root

-- the journal has room for no entry more: 16,777,210 and the closings of 6 handles
abbrev full : State
full = state 16777210 handles root

-- ---- SetSecurity: 6, 1018, 87, 5, 1450 and the callbacks' status, in this order

set_no_handle : change_cause full 0 (SetSecurity 9 []) 31 ≡ Some 6
unfolding early_cause late_cause
set_no_handle = refl

set_another_session : change_cause full 1 (SetSecurity 0 []) 31 ≡ Some 6
unfolding early_cause late_cause
set_another_session = refl

set_deleted : change_cause full 0 (SetSecurity 1 []) 31 ≡ Some 1018
unfolding early_cause late_cause
set_deleted = refl

set_empty : change_cause full 0 (SetSecurity 2 []) 31 ≡ Some 87
unfolding early_cause late_cause
set_empty = refl

set_65536 : change_cause full 0 (SetSecurity 2 (replicate 65536 0)) 31 ≡ Some 87
unfolding early_cause late_cause
set_65536 = refl

set_without_right : change_cause full 0 (SetSecurity 2 small) 31 ≡ Some 5
unfolding early_cause late_cause
set_without_right = refl

set_no_room : change_cause full 0 (SetSecurity 0 small) 31 ≡ Some 1450
unfolding early_cause late_cause
set_no_room = refl

set_callbacks : change_cause few 0 (SetSecurity 0 small) 31 ≡ Some 31
unfolding early_cause late_cause
set_callbacks = refl

set_accepted : change_cause few 0 (SetSecurity 0 small) 0 ≡ None
unfolding early_cause late_cause
set_accepted = refl

set_with_right : change_cause few 0 (SetSecurity 3 (1 ∷ [])) 0 ≡ None
unfolding early_cause late_cause
set_with_right = refl

set_65535 : change_cause few 0 (SetSecurity 0 (replicate 65535 0)) 0 ≡ None
unfolding early_cause late_cause
set_65535 = refl

-- the one entry of it takes room for one
set_last_room : change_cause (state 16777209 handles root) 0 (SetSecurity 0 small) 0 ≡ None
unfolding early_cause late_cause
set_last_room = refl

-- it may be refused for space in the bins, opens nothing and tells no disposition
set_takes_space : (rule_of (SetSecurity 0 small)).takes_space ≡ true
set_takes_space = refl

set_reply : reply_to few 0 (SetSecurity 0 small) ≡ record { status = 0; number = Some 6; handle = None; disposition = None }
unfolding reply_to
set_reply = refl

-- ---- GetSecurity: 6, 1018, 5 and the callbacks' status; 122 with the size, which is an answer; a full journal is no matter

get_no_handle : query_cause full 0 (GetSecurity 9 0) 31 ≡ Some 6
unfolding early_query_cause late_query_cause
get_no_handle = refl

get_deleted : query_cause full 0 (GetSecurity 1 0) 31 ≡ Some 1018
unfolding early_query_cause late_query_cause
get_deleted = refl

get_without_right : query_cause full 0 (GetSecurity 4 0) 31 ≡ Some 5
unfolding early_query_cause late_query_cause
get_without_right = refl

get_callbacks : query_cause full 0 (GetSecurity 0 0) 31 ≡ Some 31
unfolding early_query_cause late_query_cause
get_callbacks = refl

get_accepted : query_cause full 0 (GetSecurity 5 0) 0 ≡ None
unfolding early_query_cause late_query_cause
get_accepted = refl

get_asked_by : handle_asked (GetSecurity 5 0) ≡ 5
get_asked_by = refl

get_short : body_of few 0 (GetSecurity 0 19) ≡ Short 122 0 20
unfolding body_of
get_short = rw root_put refl

get_no_room : body_of few 0 (GetSecurity 0 0) ≡ Short 122 0 20
unfolding body_of
get_no_room = rw root_put refl

get_room_of_the_size : body_of few 0 (GetSecurity 0 20) ≡ Security (replicate 20 0)
unfolding body_of
get_room_of_the_size = rw root_put refl

get_larger_room : body_of few 0 (GetSecurity 0 4294967295) ≡ Security (replicate 20 0)
unfolding body_of
get_larger_room = rw root_put refl

-- ---- a key's descriptor is set and its time, and nothing else of it

abbrev entry : Change → Entry
entry change = record { number = 6; session = 0; moment = 7; change = change; reply = record { status = 0; number = Some 6; handle = None; disposition = None } }

-- the root with a descriptor and a time
abbrev root_with : List ℕ → ℕ → Rec
root_with descriptor time = record { name = 82 ∷ 79 ∷ 79 ∷ 84 ∷ []; marks = 8; class = []; descriptor = descriptor; time = time; values = root.values }

set_world : after few.world (entry (SetSecurity 0 small)) ≡ record { tree = insert (insert empty [] root) [] (root_with small 7); handles = handles }
unfolding after
set_world = rw root_put refl

set_root : get (after few.world (entry (SetSecurity 0 small))).tree [] ≡ Some (root_with small 7)
set_root = rw (set_world, root_put) refl

abbrev after_set : State
after_set = record { kept = 7; next = 7; world = after few.world (entry (SetSecurity 0 small)); pending = [] }

get_after_set : body_of after_set 0 (GetSecurity 5 3) ≡ Security small
unfolding body_of
get_after_set = rw (set_world, root_put) refl

get_short_after_set : body_of after_set 0 (GetSecurity 5 2) ≡ Short 122 0 3
unfolding body_of
get_short_after_set = rw (set_world, root_put) refl

-- ---- CreateKey's descriptor: 87 where it is bad, also where no key is made, before 1450 by a count

-- the key `K`, and the key `L` below it
abbrev k : List ℕ
k = 75 ∷ []

abbrev l : List ℕ
l = 76 ∷ []

abbrev k_path : Path
k_path = k ∷ []

abbrev l_path : Path
l_path = k ∷ l ∷ []

abbrev k_and_l : List ℕ
k_and_l = 75 ∷ 92 ∷ 76 ∷ []

-- keys of a name, a descriptor and a time
abbrev key : List ℕ → List ℕ → ℕ → Rec
key name descriptor time = record { name = name; marks = 0; class = []; descriptor = descriptor; time = time; values = [] }

-- a root alone, and one with `K` below it, whose descriptor is a byte
abbrev bare : Tree
bare = from_sorted (([], root) ∷ [])

abbrev with_k : Tree
with_k = from_sorted (([], root) ∷ (k_path, key k (9 ∷ []) 1) ∷ [])

abbrev over : Tree → ℕ → State
over tree count = record { kept = count; next = count; world = record { tree = tree; handles = handles }; pending = [] }

create_empty : change_cause (over bare 16777210) 0 (CreateKey 0 k 1 (Some [])) 31 ≡ Some 87
unfolding early_cause late_cause are_key_names
create_empty = refl

create_65536 : change_cause (over bare 16777210) 0 (CreateKey 0 k 1 (Some (replicate 65536 0))) 31 ≡ Some 87
unfolding early_cause late_cause are_key_names
create_65536 = refl

create_none_empty : change_cause (over with_k 16777210) 0 (CreateKey 0 k 1 (Some [])) 31 ≡ Some 87
unfolding early_cause late_cause are_key_names
create_none_empty = refl

create_none_65536 : change_cause (over with_k 16777210) 0 (CreateKey 0 [] 1 (Some (replicate 65536 0))) 31 ≡ Some 87
unfolding early_cause late_cause are_key_names
create_none_65536 = refl

create_deleted_first : change_cause (over bare 16777210) 0 (CreateKey 1 k 1 (Some [])) 31 ≡ Some 1018
unfolding early_cause late_cause are_key_names
create_deleted_first = refl

create_no_room : change_cause (over bare 16777210) 0 (CreateKey 0 k 1 (Some small)) 31 ≡ Some 1450
unfolding early_cause late_cause are_key_names
create_no_room = refl

bare_root : get bare [] ≡ Some root
bare_root = get-from_sorted path_cmp _ [] tt

bare_k : get bare k_path ≡ None
bare_k = get-from_sorted path_cmp _ k_path tt

bare_below_root : children_of bare [] ≡ []
bare_below_root = rw entries-from_sorted refl

-- a handle of any rights makes keys and gives a descriptor
create_accepted : change_cause (over bare 6) 0 (CreateKey 5 k 1 (Some (replicate 65535 0))) 0 ≡ None
unfolding early_cause late_cause are_key_names
create_accepted = rw (bare_k, bare_below_root) refl

-- ---- the last key made takes it, and each other one its parent's

abbrev made : Tree → Change → Tree
made tree change = (after (record { tree = tree; handles = handles }) (entry change)).tree

-- `K` and `L` made, both missing
abbrev two : Tree
two = made bare (CreateKey 0 k_and_l 1 (Some small))

bare_l : get bare l_path ≡ None
bare_l = get-from_sorted path_cmp _ l_path tt

two_root : get two [] ≡ Some (root_with (replicate 20 0) 7)
unfolding after
two_root = simp (gets, path_total, bare_k, bare_root, bare_l)

two_k : get two k_path ≡ Some (key k (replicate 20 0) 7)
unfolding after
two_k = simp (gets, path_total, bare_k, bare_root, bare_l)

two_l : get two l_path ≡ Some (key l small 7)
unfolding after
two_l = simp (gets, path_total, bare_k, bare_root, bare_l)

-- without one both have the parent's
abbrev two_without : Tree
two_without = made bare (CreateKey 0 k_and_l 1 None)

without_k : get two_without k_path ≡ Some (key k (replicate 20 0) 7)
unfolding after
without_k = simp (gets, path_total, bare_k, bare_root, bare_l)

without_l : get two_without l_path ≡ Some (key l (replicate 20 0) 7)
unfolding after
without_l = simp (gets, path_total, bare_k, bare_root, bare_l)

-- where one key is made, it is the last; `K` was there and keeps its own
abbrev one : Tree
one = made with_k (CreateKey 0 k_and_l 1 (Some small))

with_k_root : get with_k [] ≡ Some root
with_k_root = get-from_sorted path_cmp _ [] tt

with_k_k : get with_k k_path ≡ Some (key k (9 ∷ []) 1)
with_k_k = get-from_sorted path_cmp _ k_path tt

with_k_l : get with_k l_path ≡ None
with_k_l = get-from_sorted path_cmp _ l_path tt

one_root : get one [] ≡ Some root
unfolding after
one_root = simp (gets, path_total, with_k_root, with_k_k, with_k_l)

one_k : get one k_path ≡ Some (key k (9 ∷ []) 7)
unfolding after
one_k = simp (gets, path_total, with_k_root, with_k_k, with_k_l)

one_l : get one l_path ≡ Some (key l small 7)
unfolding after
one_l = simp (gets, path_total, with_k_root, with_k_k, with_k_l)

-- without one it has that of `K`
shared_l : get (made with_k (CreateKey 0 k_and_l 1 None)) l_path ≡ Some (key l (9 ∷ []) 7)
unfolding after
shared_l = simp (gets, path_total, with_k_root, with_k_k, with_k_l)

-- where no key is made, nothing takes it
none_made : made with_k (CreateKey 0 k 1 (Some small)) ≡ with_k
unfolding after
none_made = rw with_k_k refl

-- what is told, where it is made and where it is there, is as without a descriptor
made_reply : reply_to (over bare 6) 0 (CreateKey 0 k 1 (Some small)) ≡ record { status = 0; number = Some 6; handle = Some 6; disposition = Some 1 }
unfolding reply_to
made_reply = rw bare_k refl

there_reply : reply_to (over with_k 6) 0 (CreateKey 0 k 1 (Some small)) ≡ record { status = 0; number = Some 6; handle = Some 6; disposition = Some 2 }
unfolding reply_to
there_reply = rw with_k_k refl
