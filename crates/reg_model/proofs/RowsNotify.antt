-- Notifications: refusals of a registration, what changes are events of, what hits, and what is told. Expected numbers are those of the rules.
use Rattle.std.proofs.Common.{◌≡◌, ℕ, Bool, true, false, List, [], ◌∷◌, ◌++◌, replicate, Some, None, refl}
use Rattle.std.specs.FinMap.{get, insert, empty, from_sorted, entries-from_sorted, get-from_sorted}
use Rattle.reg_heap.specs.Paths.{Path, Tree, path_cmp}
use Rattle.reg_model.specs.declared.call.Change.{Change}
use Rattle.reg_model.specs.declared.call.Change.TheVariants.{OpenRoot, OpenKey, CreateKey, SetValue, DeleteValue, DeleteKey, DeleteTree, SetSecurity, Notify, Close}
use Rattle.reg_model.specs.declared.notice.Notice.{Notice}
use Rattle.reg_model.specs.declared.notice.Reason.{Reason}
use Rattle.reg_model.specs.declared.notice.Reason.TheVariants.{Matched, Gone, Closed}
use Rattle.reg_model.specs.declared.reply.Entry.{Entry}
use Rattle.reg_model.specs.Worlds.{World, At, after}
use Rattle.reg_model.specs.Watches.{Watch, event_at, is_hit, events, few_events, removes, closing, watch_of, ending, reason, notices}
use Rattle.reg_model.specs.Causes.{State, early_cause, late_cause, change_cause, rule_of}
use Rattle.reg_model.specs.Replies.{reply_to}
use Rattle.reg_model.specs.Histories.{pending, fired}
use Rattle.reg_model.proofs.RowsRefusals.{handle, root, handles, state, few, full}
use Rattle.reg_model.proofs.RowsDeleteTree.{a, ab, a_b, a_b_c, value, key}

-- ---- refusals: 6, 1018, 87, 5, 1450 and the callbacks' status, in this order

notify_no_handle : change_cause full 0 (Notify 9 0 false) 31 ≡ Some 6
unfolding early_cause late_cause
notify_no_handle = refl

notify_another_session : change_cause full 1 (Notify 0 0 false) 31 ≡ Some 6
unfolding early_cause late_cause
notify_another_session = refl

notify_deleted : change_cause full 0 (Notify 1 0 false) 31 ≡ Some 1018
unfolding early_cause late_cause
notify_deleted = refl

-- handle 2 lacks the right 0x10, and the filter has none of 1, 2, 4 and 8
notify_no_filter : change_cause full 0 (Notify 2 0 false) 31 ≡ Some 87
unfolding early_cause late_cause
notify_no_filter = refl

notify_agnostic_alone : change_cause full 0 (Notify 2 268435456 false) 31 ≡ Some 87
unfolding early_cause late_cause
notify_agnostic_alone = refl

notify_bit_4 : change_cause full 0 (Notify 2 17 false) 31 ≡ Some 87
unfolding early_cause late_cause
notify_bit_4 = refl

notify_bit_27 : change_cause full 0 (Notify 2 134217729 false) 31 ≡ Some 87
unfolding early_cause late_cause
notify_bit_27 = refl

notify_bit_31 : change_cause full 0 (Notify 2 2147483649 false) 31 ≡ Some 87
unfolding early_cause late_cause
notify_bit_31 = refl

notify_without_right : change_cause full 0 (Notify 2 1 false) 31 ≡ Some 5
unfolding early_cause late_cause
notify_without_right = refl

-- all rights but 0x10, and that alone
abbrev by_mask : ℕ → State
by_mask mask = record few { world = record { tree = few.world.tree; handles = handle 0 0 mask (At []) ∷ [] } }

notify_all_but_the_right : change_cause (by_mask 983087) 0 (Notify 0 1 false) 0 ≡ Some 5
unfolding early_cause late_cause
notify_all_but_the_right = refl

notify_right_alone : change_cause (by_mask 16) 0 (Notify 0 1 false) 0 ≡ None
unfolding early_cause late_cause
notify_right_alone = refl

notify_no_journal_room : change_cause full 0 (Notify 0 1 false) 31 ≡ Some 1450
unfolding early_cause late_cause
notify_no_journal_room = refl

-- 16,777,210 entries, the closings of 5 handles and this entry are just the 16,777,216 that the journal has room for; with one entry
-- more they are too many
notify_last_journal_room : change_cause (state 16777210 handles root) 0 (Notify 0 1 false) 0 ≡ None
unfolding early_cause late_cause
notify_last_journal_room = refl

notify_past_journal_room : change_cause (state 16777211 handles root) 0 (Notify 0 1 false) 0 ≡ Some 1450
unfolding early_cause late_cause
notify_past_journal_room = refl

abbrev watch : ℕ → ℕ → ℕ → Path → ℕ → Bool → Watch
watch number session h path filter subtree = record { number = number; session = session; handle = h; path = path; filter = filter; subtree = subtree }

abbrev waiting : ℕ → State
waiting n = record few { pending = replicate n (watch 1 0 0 [] 4 false) }

notify_4095 : change_cause (waiting 4095) 0 (Notify 0 1 false) 0 ≡ None
unfolding early_cause late_cause
notify_4095 = refl

notify_4096 : change_cause (waiting 4096) 0 (Notify 0 1 false) 31 ≡ Some 1450
unfolding early_cause late_cause
notify_4096 = refl

-- the count is the session's own
notify_4096_of_another : change_cause (waiting 4096) 1 (Notify 4 1 false) 0 ≡ None
unfolding early_cause late_cause
notify_4096_of_another = refl

notify_callbacks : change_cause few 0 (Notify 0 1 false) 31 ≡ Some 31
unfolding early_cause late_cause
notify_callbacks = refl

notify_each_bit : change_cause few 0 (Notify 0 15 true) 0 ≡ None
unfolding early_cause late_cause
notify_each_bit = refl

notify_agnostic : change_cause few 0 (Notify 0 268435458 true) 0 ≡ None
unfolding early_cause late_cause
notify_agnostic = refl

notify_takes_no_space : (rule_of (Notify 0 1 false)).takes_space ≡ false
notify_takes_no_space = refl

notify_reply : reply_to few 0 (Notify 0 1 false) ≡ record { status = 0; number = Some 5; handle = None; disposition = None }
unfolding reply_to
notify_reply = refl

-- ---- what hits

at_a : is_hit (watch 0 0 0 a 4 false) (event_at 4 a) ≡ true
at_a = refl

another_kind : is_hit (watch 0 0 0 a 1 true) (event_at 4 a) ≡ false
another_kind = refl

below_alone : is_hit (watch 0 0 0 a 4 false) (event_at 4 a_b) ≡ false
below_alone = refl

below_and_watched : is_hit (watch 0 0 0 a 4 true) (event_at 4 a_b_c) ≡ true
below_and_watched = refl

above_it : is_hit (watch 0 0 0 a_b 4 true) (event_at 4 a) ≡ false
above_it = refl

-- `A` isn't above `AB`
longer_name : is_hit (watch 0 0 0 a 4 true) (event_at 4 ab) ≡ false
longer_name = refl

-- a descriptor's event meets the filters 2 and 8
attributes : is_hit (watch 0 0 0 a 2 false) (event_at 10 a) ≡ true
attributes = refl

security : is_hit (watch 0 0 0 a 8 false) (event_at 10 a) ≡ true
security = refl

neither : is_hit (watch 0 0 0 a 268435461 false) (event_at 10 a) ≡ false
neither = refl

-- ---- events: the tree has `A` with a value, `A\B`, `A\B\C` and `AB`; handle 0 is on the root and handle 1 on `A`

abbrev tree : Tree
tree = from_sorted (([], key 8 0 []) ∷ (a, key 0 1 (value ∷ [])) ∷ (a_b, key 0 2 []) ∷ (a_b_c, key 0 3 []) ∷ (ab, key 0 4 []) ∷ [])

abbrev world : World
world = record { tree = tree; handles = handle 0 0 983103 (At []) ∷ handle 1 0 983103 (At a) ∷ handle 2 0 983103 (At ab) ∷ [] }

abbrev entry : ℕ → Change → Entry
entry number change = record { number = number; session = 0; moment = 9; change = change; reply = record { status = 0; number = Some number; handle = None; disposition = None } }

set_is : events world (entry 5 (SetValue 1 [] 4 [])) ≡ event_at 4 a ∷ []
unfolding events
set_is = refl

delete_is : events world (entry 5 (DeleteValue 1 [])) ≡ event_at 4 a ∷ []
unfolding events
delete_is = refl

secure_is : events world (entry 5 (SetSecurity 1 (1 ∷ []))) ≡ event_at 10 a ∷ []
unfolding events
secure_is = refl

-- the key `A\B`: at the key above it
delete_key_is : events world (entry 5 (DeleteKey 0 (97 ∷ 92 ∷ 98 ∷ []))) ≡ event_at 1 a ∷ []
unfolding events
delete_key_is = refl

open_is : events world (entry 5 (OpenKey 0 (65 ∷ []) 1)) ≡ []
unfolding events
open_is = refl

notify_is : events world (entry 5 (Notify 1 15 true)) ≡ []
unfolding events
notify_is = refl

close_is : events world (entry 5 (Close 1)) ≡ []
unfolding events
close_is = refl

a_there : get tree a ≡ Some (key 0 1 (value ∷ []))
a_there = get-from_sorted path_cmp _ _ tt

a_b_there : get tree a_b ≡ Some (key 0 2 [])
a_b_there = get-from_sorted path_cmp _ _ tt

ab_there : get tree ab ≡ Some (key 0 4 [])
ab_there = get-from_sorted path_cmp _ _ tt

a_x_missing : get tree ((65 ∷ []) ∷ (88 ∷ []) ∷ []) ≡ None
a_x_missing = get-from_sorted path_cmp _ _ tt

-- `A\X\Y`: one at `A` and one at `A\X`
create_two : events world (entry 5 (CreateKey 0 (65 ∷ 92 ∷ 88 ∷ 92 ∷ 89 ∷ []) 1 None)) ≡ event_at 1 a ∷ event_at 1 ((65 ∷ []) ∷ (88 ∷ []) ∷ []) ∷ []
unfolding events
create_two = rw (a_there, a_x_missing) refl

create_few : few_events world (entry 5 (CreateKey 0 (65 ∷ 92 ∷ 88 ∷ 92 ∷ 89 ∷ []) 1 None)) ≡ event_at 1 a ∷ []
unfolding few_events
create_few = rw (a_there, a_x_missing) refl

-- `A\B` is there: disposition 2, and no event
create_none : events world (entry 5 (CreateKey 0 (65 ∷ 92 ∷ 66 ∷ []) 1 None)) ≡ []
unfolding events
create_none = rw (a_there, a_b_there) refl

-- `A` with all below it: at the root, at `A` and at `A\B`
delete_tree_is : events world (entry 5 (DeleteTree 0 (65 ∷ []))) ≡ event_at 1 [] ∷ event_at 1 a ∷ event_at 1 a_b ∷ []
unfolding events
delete_tree_is = rw entries-from_sorted refl

delete_tree_few : few_events world (entry 5 (DeleteTree 0 (65 ∷ []))) ≡ event_at 1 [] ∷ []
unfolding few_events
delete_tree_few = refl

-- what is below `A`, and its value
empty_is : events world (entry 5 (DeleteTree 1 [])) ≡ event_at 1 a ∷ event_at 1 a_b ∷ event_at 4 a ∷ []
unfolding events
empty_is = rw (entries-from_sorted, a_there) refl

empty_few : few_events world (entry 5 (DeleteTree 1 [])) ≡ event_at 1 a ∷ event_at 4 a ∷ []
unfolding few_events
empty_few = rw (entries-from_sorted, a_there) refl

-- `AB` has nothing
empty_of_nothing : events world (entry 5 (DeleteTree 2 [])) ≡ []
unfolding events
empty_of_nothing = rw (entries-from_sorted, ab_there) refl

empty_few_of_nothing : few_events world (entry 5 (DeleteTree 2 [])) ≡ []
unfolding few_events
empty_few_of_nothing = rw (entries-from_sorted, ab_there) refl

-- ---- which comes first: the key gone, then the handle closed, then a match

gone_first : reason (ending world (entry 5 (DeleteTree 0 (65 ∷ [])))) (watch 3 0 1 a 1 true) ≡ Some Gone
unfolding reason ending removes
gone_first = refl

emptied_stays : reason (ending world (entry 5 (DeleteTree 1 []))) (watch 3 0 1 a 1 false) ≡ Some Matched
unfolding reason ending removes closing events
emptied_stays = rw entries-from_sorted refl

emptied_below : reason (ending world (entry 5 (DeleteTree 1 []))) (watch 3 0 1 a_b 1 false) ≡ Some Gone
unfolding reason ending removes closing events
emptied_below = refl

closed_one : reason (ending world (entry 5 (Close 1))) (watch 3 0 1 a 15 true) ≡ Some Closed
unfolding reason ending removes closing events
closed_one = refl

closed_another : reason (ending world (entry 5 (Close 2))) (watch 3 0 1 a 15 true) ≡ None
unfolding reason ending removes closing events
closed_another = refl

-- ---- whole scripts

abbrev bare : Tree
bare = insert empty [] root

abbrev told : ℕ → ℕ → Reason → Notice
told watch by why = record { watch = watch; by = by; reason = why }

abbrev v : List ℕ
v = 118 ∷ []

-- `A\B` made, `A` opened, and watched alone: a value of `A\B` tells nothing, one of `A` once
abbrev script : List Entry
script =
    entry 0 (OpenRoot 983103) ∷ entry 1 (CreateKey 0 (65 ∷ 92 ∷ 66 ∷ []) 983103 None) ∷ entry 2 (OpenKey 0 (65 ∷ []) 983103) ∷ entry 3 (Notify 2 4 false)
    ∷ entry 4 (SetValue 1 v 4 (1 ∷ [])) ∷ []

abbrev script_on : List Entry
script_on = script ++ entry 5 (SetValue 2 v 4 (1 ∷ [])) ∷ entry 6 (SetValue 2 v 4 (2 ∷ [])) ∷ []

not_yet : pending bare script ≡ watch 3 0 2 a 4 false ∷ []
unfolding after watch_of reason ending events removes closing
not_yet = refl

nothing_yet : fired bare script 0 ≡ []
unfolding after watch_of reason ending events removes closing
nothing_yet = refl

once : fired bare script_on 0 ≡ told 3 5 Matched ∷ []
unfolding after watch_of reason ending events removes closing
once = refl

none_left : pending bare script_on ≡ []
unfolding after watch_of reason ending events removes closing
none_left = refl

to_another : fired bare script_on 1 ≡ []
unfolding after watch_of reason ending events removes closing
to_another = refl

-- `K` made, watched, and deleted
gone : fired bare (entry 0 (OpenRoot 983103) ∷ entry 1 (CreateKey 0 (75 ∷ []) 983103 None) ∷ entry 2 (Notify 1 4 false) ∷ entry 3 (DeleteKey 0 (75 ∷ [])) ∷ []) 0 ≡ told 2 3 Gone ∷ []
unfolding after watch_of reason ending events removes closing
gone = refl

-- two registrations by one handle and one by another, on one key: each by its own filter, and the last ended by its handle
abbrev three : List Entry
three =
    entry 0 (OpenRoot 983103) ∷ entry 1 (CreateKey 0 (65 ∷ []) 983103 None) ∷ entry 2 (OpenKey 0 (65 ∷ []) 983103) ∷ entry 3 (Notify 1 4 false)
    ∷ entry 4 (Notify 2 268435460 false) ∷ entry 5 (Notify 1 2 false) ∷ entry 6 (SetValue 0 v 4 (1 ∷ [])) ∷ entry 7 (SetValue 2 v 4 (1 ∷ []))
    ∷ entry 8 (Close 1) ∷ entry 9 (SetSecurity 2 (1 ∷ [])) ∷ []

all_three : fired bare three 0 ≡ told 3 7 Matched ∷ told 4 7 Matched ∷ told 5 8 Closed ∷ []
unfolding after watch_of reason ending events removes closing
all_three = refl

-- the watch of the later entry is told first where an earlier entry ends it
abbrev crossed : List Entry
crossed =
    entry 0 (OpenRoot 983103) ∷ entry 1 (CreateKey 0 (65 ∷ []) 983103 None) ∷ entry 2 (Notify 1 4 false) ∷ entry 3 (Notify 0 4 false)
    ∷ entry 4 (SetValue 0 v 4 (1 ∷ [])) ∷ entry 5 (SetValue 1 v 4 (1 ∷ [])) ∷ []

by_then_watch : fired bare crossed 0 ≡ told 3 4 Matched ∷ told 2 5 Matched ∷ []
unfolding after watch_of reason ending events removes closing
by_then_watch = refl

-- a value set to the data that it has
equal_data : fired bare (entry 0 (OpenRoot 983103) ∷ entry 1 (SetValue 0 v 4 (1 ∷ [])) ∷ entry 2 (Notify 0 4 false) ∷ entry 3 (SetValue 0 v 4 (1 ∷ [])) ∷ []) 0 ≡ told 2 3 Matched ∷ []
unfolding after watch_of reason ending events removes closing
equal_data = refl

-- session 1 watches, and session 0 sets: session 1 is told
abbrev of_session : ℕ → Entry → Entry
of_session session e = record e { session = session }

abbrev two_sessions : List Entry
two_sessions =
    entry 0 (OpenRoot 983103) ∷ of_session 1 (entry 1 (OpenRoot 983103)) ∷ of_session 1 (entry 2 (Notify 1 4 false)) ∷ entry 3 (SetValue 0 v 4 (1 ∷ [])) ∷ []

told_who_watched : fired bare two_sessions 1 ≡ told 2 3 Matched ∷ []
unfolding after watch_of reason ending events removes closing
told_who_watched = refl

not_who_set : fired bare two_sessions 0 ≡ []
unfolding after watch_of reason ending events removes closing
not_who_set = refl

-- the key gone, and then the handle closed: told once
gone_once :
    fired bare (entry 0 (OpenRoot 983103) ∷ entry 1 (CreateKey 0 (75 ∷ []) 983103 None) ∷ entry 2 (Notify 1 4 false) ∷ entry 3 (DeleteKey 0 (75 ∷ [])) ∷ entry 4 (Close 1) ∷ []) 0
    ≡ told 2 3 Gone ∷ []
unfolding after watch_of reason ending events removes closing
gone_once = refl

-- `AB\X` isn't below `A`, and `A\X` is
abbrev subtree : Watch
subtree = watch 2 0 1 a 1 true

apart : notices 0 (ending world (entry 3 (CreateKey 0 (65 ∷ 66 ∷ 92 ∷ 88 ∷ []) 983103 None))) (subtree ∷ []) ≡ []
unfolding reason ending events removes closing
apart = rw (ab_there, get-from_sorted path_cmp _ ((65 ∷ 66 ∷ []) ∷ (88 ∷ []) ∷ []) tt) refl

below : notices 0 (ending world (entry 4 (CreateKey 0 (65 ∷ 92 ∷ 88 ∷ 92 ∷ 89 ∷ []) 983103 None))) (subtree ∷ []) ≡ told 2 4 Matched ∷ []
unfolding reason ending events removes closing
below = rw (a_there, a_x_missing) refl
