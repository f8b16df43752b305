-- The definitions of the script's lines, computed at lines and replies of the rules.
use Rattle.std.specs.Prelude.{◌≡◌, true, false, [], ◌∷◌, codes, Some, None, refl}
use Rattle.hex.proofs.OnLiterals.{hex_on_literals}
use Rattle.std.specs.Fmt.{digits}
use Rattle.reg_model.specs.declared.call.Call.{Call}
use Rattle.reg_model.specs.declared.call.Call.TheVariants.{Change, Query}
use Rattle.reg_model.specs.declared.call.Change.TheVariants.{OpenRoot, OpenKey, CreateKey, SetValue, DeleteValue, DeleteKey, DeleteTree, SetSecurity, Notify, Close}
use Rattle.reg_model.specs.declared.call.Query.TheVariants.{QueryValue, EnumKey, EnumValue, QueryInfo, GetSecurity}
use Rattle.reg_model.specs.declared.answer.AnswerBody.TheVariants.{Refused, Short, Value, Key, Member, Info, Security}
use Rattle.reg_model.specs.declared.notice.Reason.TheVariants.{Matched, Gone, Closed}
use Rattle.reg_model.specs.declared.step.Outcome.TheVariants.{Changed}
use Rattle.reg_script.specs.declared.engine.TheConstants.{LINE_LIMIT, LINES_LIMIT}
use Rattle.reg_script.specs.LineWords.{lines_of, words_of, number_of, unescaped, after_mark, name_of, data_of}
use Rattle.reg_script.specs.LineMeanings.{first_of, ending, room_of, subtree_of, given_of, call_verb_of, verb_of, by_verb, meaning_in, meaning_of}
use Rattle.reg_script.specs.LineMeanings.{nothing, at_moment, as_session, on_hive, asks, takes_notice, bad}
use Rattle.reg_script.specs.ReplyTexts.{changed_text, answer_text, notice_text, outcome_text}
use Rattle.reg_text.specs.Texts.{byte_text}

-- what computes a line's meaning
unfoldable pub on_lines : Unit {0}
unfolding words_of number_of unescaped after_mark name_of data_of first_of ending room_of subtree_of given_of call_verb_of verb_of by_verb meaning_in hex_on_literals
on_lines = tt

-- ---- lines

lines-empty : lines_of [] ≡ []
lines-empty = refl

lines-ended : lines_of (codes "a\n\nbc\n") ≡ codes "a" ∷ [] ∷ codes "bc" ∷ []
lines-ended = refl

-- the last line may lack its LF
lines-last : lines_of (codes "a\nbc") ≡ codes "a" ∷ codes "bc" ∷ []
lines-last = refl

-- ---- what lines mean

nothing-empty : meaning_of [] ≡ nothing
unfolding on_lines
nothing-empty = refl

nothing-comment : meaning_of (codes "#root 1") ≡ nothing
unfolding on_lines
nothing-comment = refl

first-root : meaning_of (codes "root 983103") ≡ asks (Change (OpenRoot 983103))
unfolding on_lines
first-root = refl

first-set : meaning_of (codes "set 0 = 4 x01000000") ≡ asks (Change (SetValue 0 [] 4 (1 ∷ 0 ∷ 0 ∷ 0 ∷ [])))
unfolding on_lines
first-set = refl

first-query : meaning_of (codes "query 0 = 4") ≡ asks (Query (QueryValue 0 [] (Some 4)))
unfolding on_lines
first-query = refl

query-no_room : meaning_of (codes "query 7 =v -") ≡ asks (Query (QueryValue 7 (codes "v") None))
unfolding on_lines
query-no_room = refl

open-path : meaning_of (codes "open 0 =A\\b%20c 131097") ≡ asks (Change (OpenKey 0 (codes "A\\b c") 131097))
unfolding on_lines
open-path = refl

-- the empty path opens the same key again
open-same : meaning_of (codes "open 18446744073709551615 = 1") ≡ asks (Change (OpenKey 18446744073709551615 [] 1))
unfolding on_lines
open-same = refl

create-path : meaning_of (codes "create 0 =A\\b\\C 983103") ≡ asks (Change (CreateKey 0 (codes "A\\b\\C") 983103 None))
unfolding on_lines
create-path = refl

create-given : meaning_of (codes "create 0 =K 983103 x0102") ≡ asks (Change (CreateKey 0 (codes "K") 983103 (Some (1 ∷ 2 ∷ []))))
unfolding on_lines
create-given = refl

-- no byte is a descriptor too, which the call refuses
create-given_none : meaning_of (codes "create 0 =K 983103 x") ≡ asks (Change (CreateKey 0 (codes "K") 983103 (Some [])))
unfolding on_lines
create-given_none = refl

delvalue-name : meaning_of (codes "delvalue 3 =A") ≡ asks (Change (DeleteValue 3 (codes "A")))
unfolding on_lines
delvalue-name = refl

delkey-path : meaning_of (codes "delkey 3 =A") ≡ asks (Change (DeleteKey 3 (codes "A")))
unfolding on_lines
delkey-path = refl

deltree-path : meaning_of (codes "deltree 0 =A") ≡ asks (Change (DeleteTree 0 (codes "A")))
unfolding on_lines
deltree-path = refl

-- the empty path is that of what the handle's own key holds
deltree-same : meaning_of (codes "deltree 0 =") ≡ asks (Change (DeleteTree 0 []))
unfolding on_lines
deltree-same = refl

setsec-bytes : meaning_of (codes "setsec 0 x0102") ≡ asks (Change (SetSecurity 0 (1 ∷ 2 ∷ [])))
unfolding on_lines
setsec-bytes = refl

-- digits of either case
setsec-cases : meaning_of (codes "setsec 7 xAbfF") ≡ asks (Change (SetSecurity 7 (171 ∷ 255 ∷ [])))
unfolding on_lines
setsec-cases = refl

-- no byte is a descriptor too, which the call refuses
setsec-none : meaning_of (codes "setsec 0 x") ≡ asks (Change (SetSecurity 0 []))
unfolding on_lines
setsec-none = refl

notify-key : meaning_of (codes "notify 2 4 0") ≡ asks (Change (Notify 2 4 false))
unfolding on_lines
notify-key = refl

notify-subtree : meaning_of (codes "notify 1 268435460 1") ≡ asks (Change (Notify 1 268435460 true))
unfolding on_lines
notify-subtree = refl

-- what no filter has is a number too, which the call refuses
notify-largest : meaning_of (codes "notify 18446744073709551615 4294967295 1") ≡ asks (Change (Notify 18446744073709551615 4294967295 true))
unfolding on_lines
notify-largest = refl

-- leading zeros are allowed in the handle and in the filter
notify-zeros : meaning_of (codes "notify 00 00 0") ≡ asks (Change (Notify 0 0 false))
unfolding on_lines
notify-zeros = refl

notice-next : meaning_of (codes "notice") ≡ takes_notice
unfolding on_lines
notice-next = refl

close-handle : meaning_of (codes "close 7") ≡ asks (Change (Close 7))
unfolding on_lines
close-handle = refl

enumkey-room : meaning_of (codes "enumkey 0 1 255") ≡ asks (Query (EnumKey 0 1 255))
unfolding on_lines
enumkey-room = refl

enumvalue-rooms : meaning_of (codes "enumvalue 0 1 16383 4") ≡ asks (Query (EnumValue 0 1 16383 (Some 4)))
unfolding on_lines
enumvalue-rooms = refl

enumvalue-no_room : meaning_of (codes "enumvalue 0 1 16383 -") ≡ asks (Query (EnumValue 0 1 16383 None))
unfolding on_lines
enumvalue-no_room = refl

info-handle : meaning_of (codes "info 0") ≡ asks (Query (QueryInfo 0))
unfolding on_lines
info-handle = refl

getsec-room : meaning_of (codes "getsec 0 1") ≡ asks (Query (GetSecurity 0 1))
unfolding on_lines
getsec-room = refl

getsec-largest : meaning_of (codes "getsec 18446744073709551615 4294967295") ≡ asks (Query (GetSecurity 18446744073709551615 4294967295))
unfolding on_lines
getsec-largest = refl

at-moment : meaning_of (codes "at 18446744073709551615") ≡ at_moment 18446744073709551615
unfolding on_lines
at-moment = refl

as-session : meaning_of (codes "as 63") ≡ as_session 63
unfolding on_lines
as-session = refl

hive-zero : meaning_of (codes "hive 0") ≡ on_hive 0
unfolding on_lines
hive-zero = refl

hive-last : meaning_in 16 (codes "hive 15") ≡ on_hive 15
unfolding on_lines
hive-last = refl

-- leading zeros are allowed
root-zeros : meaning_of (codes "root 00000000000000000000000001") ≡ asks (Change (OpenRoot 1))
unfolding on_lines
root-zeros = refl

-- a name with escapes of either case, and a `%` without two hexadecimal digits, which stands for itself
name-escaped : name_of (codes "=%41%zz%6a%6A%4") ≡ Some (codes "A%zzjj%4")
unfolding on_lines
name-escaped = refl

-- ---- bad lines

bad-odd : meaning_of (codes "set 0 =v 4 x0") ≡ bad
unfolding on_lines
bad-odd = refl

bad-verb : meaning_of (codes "frob") ≡ bad
unfolding on_lines
bad-verb = refl

bad-moment : meaning_of (codes "at 18446744073709551616") ≡ bad
unfolding on_lines
bad-moment = refl

bad-session : meaning_of (codes "as 64") ≡ bad
unfolding on_lines
bad-session = refl

bad-hive : meaning_of (codes "hive 1") ≡ bad
unfolding on_lines
bad-hive = refl

-- there are the hives 0 to 14
bad-hive_past : meaning_in 15 (codes "hive 15") ≡ bad
unfolding on_lines
bad-hive_past = refl

bad-hive_most : meaning_in 17 (codes "hive 16") ≡ bad
unfolding on_lines
bad-hive_most = refl

bad-mask : meaning_of (codes "root 4294967296") ≡ bad
unfolding on_lines
bad-mask = refl

bad-sign : meaning_of (codes "root +1") ≡ bad
unfolding on_lines
bad-sign = refl

-- two spaces part three words, of which one is empty
bad-spaces : meaning_of (codes "root  1") ≡ bad
unfolding on_lines
bad-spaces = refl

bad-end : meaning_of (codes "root 1 ") ≡ bad
unfolding on_lines
bad-end = refl

bad-few : meaning_of (codes "query 0 =") ≡ bad
unfolding on_lines
bad-few = refl

bad-name : meaning_of (codes "query 0 v 4") ≡ bad
unfolding on_lines
bad-name = refl

-- a room of names is a number
bad-room : meaning_of (codes "enumkey 0 0 -") ≡ bad
unfolding on_lines
bad-room = refl

bad-index : meaning_of (codes "enumvalue 0 4294967296 0 0") ≡ bad
unfolding on_lines
bad-index = refl

bad-path : meaning_of (codes "open 0 A 1") ≡ bad
unfolding on_lines
bad-path = refl

bad-close : meaning_of (codes "close 0 0") ≡ bad
unfolding on_lines
bad-close = refl

-- an empty last word
bad-given_end : meaning_of (codes "create 0 =K 983103 ") ≡ bad
unfolding on_lines
bad-given_end = refl

bad-given_more : meaning_of (codes "create 0 =K 983103 x0102 x01") ≡ bad
unfolding on_lines
bad-given_more = refl

bad-given_then_end : meaning_of (codes "create 0 =K 983103 x0102 ") ≡ bad
unfolding on_lines
bad-given_then_end = refl

bad-given : meaning_of (codes "create 0 =K 983103 -") ≡ bad
unfolding on_lines
bad-given = refl

bad-given_odd : meaning_of (codes "create 0 =K 983103 x010") ≡ bad
unfolding on_lines
bad-given_odd = refl

bad-deltree_few : meaning_of (codes "deltree 0") ≡ bad
unfolding on_lines
bad-deltree_few = refl

bad-deltree_mark : meaning_of (codes "deltree 0 K") ≡ bad
unfolding on_lines
bad-deltree_mark = refl

bad-deltree_more : meaning_of (codes "deltree 0 =K 1") ≡ bad
unfolding on_lines
bad-deltree_more = refl

bad-setsec_few : meaning_of (codes "setsec 0") ≡ bad
unfolding on_lines
bad-setsec_few = refl

bad-setsec_mark : meaning_of (codes "setsec 0 0102") ≡ bad
unfolding on_lines
bad-setsec_mark = refl

bad-setsec_odd : meaning_of (codes "setsec 0 x0") ≡ bad
unfolding on_lines
bad-setsec_odd = refl

bad-setsec_digit : meaning_of (codes "setsec 0 x0g") ≡ bad
unfolding on_lines
bad-setsec_digit = refl

bad-setsec_more : meaning_of (codes "setsec 0 x0102 x01") ≡ bad
unfolding on_lines
bad-setsec_more = refl

bad-getsec_few : meaning_of (codes "getsec 0") ≡ bad
unfolding on_lines
bad-getsec_few = refl

-- a room of a descriptor is a number
bad-getsec_none : meaning_of (codes "getsec 0 -") ≡ bad
unfolding on_lines
bad-getsec_none = refl

bad-getsec_room : meaning_of (codes "getsec 0 4294967296") ≡ bad
unfolding on_lines
bad-getsec_room = refl

bad-getsec_more : meaning_of (codes "getsec 0 1 1") ≡ bad
unfolding on_lines
bad-getsec_more = refl

bad-notify_few : meaning_of (codes "notify 0 4") ≡ bad
unfolding on_lines
bad-notify_few = refl

bad-notify_more : meaning_of (codes "notify 0 4 0 0") ≡ bad
unfolding on_lines
bad-notify_more = refl

bad-notify_end : meaning_of (codes "notify 0 4 0 ") ≡ bad
unfolding on_lines
bad-notify_end = refl

bad-notify_handle : meaning_of (codes "notify 18446744073709551616 4 0") ≡ bad
unfolding on_lines
bad-notify_handle = refl

bad-notify_filter : meaning_of (codes "notify 0 4294967296 0") ≡ bad
unfolding on_lines
bad-notify_filter = refl

bad-notify_subtree : meaning_of (codes "notify 0 4 2") ≡ bad
unfolding on_lines
bad-notify_subtree = refl

-- the word for the subtree has no leading zeros
bad-notify_one : meaning_of (codes "notify 0 4 01") ≡ bad
unfolding on_lines
bad-notify_one = refl

bad-notify_one_longer : meaning_of (codes "notify 0 4 001") ≡ bad
unfolding on_lines
bad-notify_one_longer = refl

bad-notify_zero : meaning_of (codes "notify 0 4 00") ≡ bad
unfolding on_lines
bad-notify_zero = refl

bad-notify_dash : meaning_of (codes "notify 0 4 -") ≡ bad
unfolding on_lines
bad-notify_dash = refl

bad-notify_path : meaning_of (codes "notify 0 =A 0") ≡ bad
unfolding on_lines
bad-notify_path = refl

bad-notice_more : meaning_of (codes "notice 0") ≡ bad
unfolding on_lines
bad-notice_more = refl

-- an empty last word
bad-notice_end : meaning_of (codes "notice ") ≡ bad
unfolding on_lines
bad-notice_end = refl

bad-notices : meaning_of (codes "notices") ≡ bad
unfolding on_lines
bad-notices = refl

-- ---- replies

text-opened : changed_text false (record { status = 0; number = Some 0; handle = Some 0; disposition = None }) ≡ codes "0 handle 0\n"
unfolding digits
text-opened = refl

text-changed : changed_text false (record { status = 0; number = Some 1; handle = None; disposition = None }) ≡ codes "0\n"
unfolding digits
text-changed = refl

text-created : changed_text false
    (record { status = 0; number = Some 9; handle = Some 9; disposition = Some 1 }) ≡ codes "0 handle 9 disposition 1\n"
unfolding digits
text-created = refl

text-refused : changed_text false (record { status = 1018; number = None; handle = None; disposition = None }) ≡ codes "1018\n"
unfolding digits
text-refused = refl

-- a watch has its entry's number, which no other change tells
text-watched : outcome_text (Change (Notify 2 4 false))
    (Changed (record { status = 0; number = Some 3; handle = None; disposition = None })) ≡ codes "0 watch 3\n"
unfolding digits
text-watched = refl

text-not_watched : outcome_text (Change (Close 2))
    (Changed (record { status = 0; number = Some 3; handle = None; disposition = None })) ≡ codes "0\n"
unfolding digits
text-not_watched = refl

text-watch_refused : outcome_text (Change (Notify 0 0 false))
    (Changed (record { status = 87; number = None; handle = None; disposition = None })) ≡ codes "87\n"
unfolding digits
text-watch_refused = refl

text-matched : notice_text (Some (record { watch = 3; by = 5; reason = Matched })) ≡ codes "notice 3 5 matched\n"
unfolding digits
text-matched = refl

text-gone : notice_text (Some (record { watch = 2; by = 3; reason = Gone })) ≡ codes "notice 2 3 gone\n"
unfolding digits
text-gone = refl

text-closed : notice_text (Some (record { watch = 5; by = 8; reason = Closed })) ≡ codes "notice 5 8 closed\n"
unfolding digits
text-closed = refl

text-no_notice : notice_text None ≡ codes "notice none\n"
text-no_notice = refl

-- a question for a value
abbrev asked : Call
asked = Query (QueryValue 0 [] None)

text-value : answer_text asked (Value 4 4 (Some (1 ∷ 0 ∷ 0 ∷ 0 ∷ []))) ≡ codes "0 type 4 size 4 x01000000\n"
unfolding digits hex_on_literals
text-value = refl

text-empty : answer_text asked (Value 3 0 (Some [])) ≡ codes "0 type 3 size 0 x\n"
unfolding digits hex_on_literals
text-empty = refl

text-no_room : answer_text asked (Value 3 0 None) ≡ codes "0 type 3 size 0\n"
unfolding digits
text-no_room = refl

text-short : answer_text asked (Short 234 3 10) ≡ codes "234 type 3 size 10\n"
unfolding digits
text-short = refl

text-absent : answer_text asked (Refused 2) ≡ codes "2\n"
unfolding digits
text-absent = refl

text-key : answer_text (Query (EnumKey 0 0 255)) (Key (codes "A") 0) ≡ codes "0 =A time 0\n"
unfolding digits byte_text
text-key = refl

-- a subkey has no type
text-short_key : answer_text (Query (EnumKey 0 0 0)) (Short 234 0 1) ≡ codes "234 size 1\n"
unfolding digits
text-short_key = refl

-- a space, a `%`, a byte above 0x7E, and the plain bytes at the ends
text-escaped : answer_text (Query (EnumKey 0 0 255))
    (Key (32 ∷ 37 ∷ 255 ∷ 33 ∷ 126 ∷ 10 ∷ []) 116444736000000000) ≡ codes "0 =%20%25%FF!~%0A time 116444736000000000\n"
unfolding digits byte_text
text-escaped = refl

text-member : answer_text (Query (EnumValue 0 0 255 (Some 4)))
    (Member (codes "v 1") 3 2 (Some (171 ∷ 0 ∷ []))) ≡ codes "0 =v%201 type 3 size 2 xab00\n"
unfolding digits hex_on_literals byte_text
text-member = refl

text-default_member : answer_text (Query (EnumValue 0 0 255 None)) (Member [] 1 2 None) ≡ codes "0 = type 1 size 2\n"
unfolding digits
text-default_member = refl

text-short_member : answer_text (Query (EnumValue 0 0 0 None)) (Short 234 1 2) ≡ codes "234 type 1 size 2\n"
unfolding digits
text-short_member = refl

text-info : answer_text (Query (QueryInfo 0))
    (Info 1 2 3 4 5 20 6) ≡ codes "0 subkeys 1 longest 2 values 3 longest 4 largest 5 security 20 time 6\n"
unfolding digits
text-info = refl

text-security : answer_text (Query (GetSecurity 0 2)) (Security (1 ∷ 2 ∷ [])) ≡ codes "0 x0102\n"
unfolding digits hex_on_literals
text-security = refl

text-security_cases : answer_text (Query (GetSecurity 0 9)) (Security (171 ∷ 0 ∷ 255 ∷ [])) ≡ codes "0 xab00ff\n"
unfolding digits hex_on_literals
text-security_cases = refl

-- a descriptor has no type
text-short_security : answer_text (Query (GetSecurity 0 1)) (Short 122 0 2) ≡ codes "122 size 2\n"
unfolding digits
text-short_security = refl

text-security_refused : answer_text (Query (GetSecurity 0 1)) (Refused 5) ≡ codes "5\n"
unfolding digits
text-security_refused = refl

text-no_more : answer_text (Query (EnumKey 0 9 255)) (Refused 259) ≡ codes "259\n"
unfolding digits
text-no_more = refl

-- the bounds of a script in digits: who changes a constant changes the rules
line_limit_is : LINE_LIMIT ≡ 2200000
line_limit_is = refl

lines_limit_is : LINES_LIMIT ≡ 1000000
lines_limit_is = refl
