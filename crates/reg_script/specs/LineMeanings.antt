-- What each line of a script means (this project's own rules of the script).
use Rattle.std.specs.Prelude.{ℕ, ◌-◌, ◌==◌, nat_lt, Bool, true, false, if◌then◌else◌, List, [], ◌∷◌, codes, Option, Some, None, option_map, option_and_then, unwrap_or}
use Rattle.std.specs.Str.{bytes_eq}
use Rattle.reg_model.specs.declared.limits.TheConstants.{SESSIONS_LIMIT}
use Rattle.reg_model.specs.declared.call.Call.{Call}
use Rattle.reg_model.specs.declared.call.Call.TheVariants.{Change, Query}
use Rattle.reg_model.specs.declared.call.Change.TheVariants.{OpenRoot, OpenKey, CreateKey, SetValue, DeleteValue, DeleteKey, DeleteTree, SetSecurity, Close}
use Rattle.reg_model.specs.declared.call.Change.TheVariants.{Notify as NotifyChange}
use Rattle.reg_model.specs.declared.call.Query.TheVariants.{QueryValue, EnumKey, EnumValue, QueryInfo, GetSecurity}
use Rattle.reg_script.specs.declared.line.Verb.{Verb}
use Rattle.reg_script.specs.declared.line.Verb.TheVariants.{At, As, Hive, Root, Open, Create, Set, DelValue, DelKey, DelTree, SetSec, Notify, Close as CloseVerb}
use Rattle.reg_script.specs.declared.line.Verb.TheVariants.{Query as QueryVerb, EnumKey as EnumKeyVerb, EnumValue as EnumValueVerb, Info, GetSec, Notice}
use Rattle.reg_script.specs.LineWords.{words_of, number_of, name_of, data_of}

-- what a line means: nothing, a setting for the lines after it (of the moment, the session, or the hive by its number), a call, the
-- taking of the next notice, or `bad`
pub data Meaning : Type 0 where
  nothing : Meaning
  at_moment : ℕ → Meaning
  as_session : ℕ → Meaning
  on_hive : ℕ → Meaning
  asks : Call → Meaning
  takes_notice : Meaning
  bad : Meaning

-- what the first of these words stands for, and the words after it
unfoldable pub first_of : {A : Type 0} → (List ℕ → Option A) → List (List ℕ) → Option (A × List (List ℕ))
first_of word [] = None
first_of word (w ∷ ws) = option_map (λ a. (a, ws)) (word w)

-- the first word read so, and then what the words after it mean with that
abbrev pub reading : {A B : Type 0} → (List ℕ → Option A) → (A → List (List ℕ) → Option B) → List (List ℕ) → Option B
reading word next words = option_and_then (λ p. next p.0 p.1) (first_of word words)

-- no word may be left
unfoldable pub ending : {B : Type 0} → B → List (List ℕ) → Option B
ending b [] = Some b
ending b (w ∷ ws) = None

-- numbers of 32 and of 64 bits
abbrev pub small_number_of : List ℕ → Option ℕ
small_number_of = number_of 4294967295

abbrev pub long_number_of : List ℕ → Option ℕ
long_number_of = number_of 18446744073709551615

-- a session: a number below how many there are
abbrev pub session_number_of : List ℕ → Option ℕ
session_number_of = number_of (SESSIONS_LIMIT - 1)

-- a hive: a number below the most hives that there may be
abbrev pub hive_number_of : List ℕ → Option ℕ
hive_number_of = number_of 15

-- a ROOM word: `-` for none, or a number
unfoldable pub room_of : List ℕ → Option (Option ℕ)
room_of word = if bytes_eq word (codes "-") then Some None else option_map Some (small_number_of word)

-- whether keys below are watched too: just the word `0` or the word `1`, so no leading zeros
unfoldable pub subtree_of : List ℕ → Option Bool
subtree_of word =
    if bytes_eq word (codes "0") then Some false
    else if bytes_eq word (codes "1") then Some true
    else None

-- the descriptor that the words behind a key to be made give it: none where there is no word, or the bytes of one DATA word
unfoldable pub given_of : List (List ℕ) → Option (Option (List ℕ))
given_of [] = Some None
given_of (word ∷ []) = option_map Some (data_of word)
given_of (word ∷ other ∷ words) = None

-- the first word of a call
unfoldable pub call_verb_of : List ℕ → Option Verb
call_verb_of word =
    if bytes_eq word (codes "root") then Some Root
    else if bytes_eq word (codes "open") then Some Open
    else if bytes_eq word (codes "create") then Some Create
    else if bytes_eq word (codes "set") then Some Set
    else if bytes_eq word (codes "delvalue") then Some DelValue
    else if bytes_eq word (codes "delkey") then Some DelKey
    else if bytes_eq word (codes "deltree") then Some DelTree
    else if bytes_eq word (codes "setsec") then Some SetSec
    else if bytes_eq word (codes "notify") then Some Notify
    else if bytes_eq word (codes "close") then Some CloseVerb
    else if bytes_eq word (codes "query") then Some QueryVerb
    else if bytes_eq word (codes "enumkey") then Some EnumKeyVerb
    else if bytes_eq word (codes "enumvalue") then Some EnumValueVerb
    else if bytes_eq word (codes "info") then Some Info
    else if bytes_eq word (codes "getsec") then Some GetSec
    else None

-- the first word of a setting, of a call, or of the taking of a notice
unfoldable pub verb_of : List ℕ → Option Verb
verb_of word =
    if bytes_eq word (codes "at") then Some At
    else if bytes_eq word (codes "as") then Some As
    else if bytes_eq word (codes "hive") then Some Hive
    else if bytes_eq word (codes "notice") then Some Notice
    else call_verb_of word

-- what the words after the first mean; a PATH word is of the form of a name
unfoldable pub by_verb : Verb → List (List ℕ) → Option Meaning
by_verb At = reading long_number_of (λ moment. ending (at_moment moment))
by_verb As = reading session_number_of (λ session. ending (as_session session))
by_verb Hive = reading hive_number_of (λ hive. ending (on_hive hive))
by_verb Root = reading small_number_of (λ mask. ending (asks (Change (OpenRoot mask))))
by_verb Open =
    reading long_number_of
    (λ handle. reading name_of (λ path. reading small_number_of (λ mask. ending (asks (Change (OpenKey handle path mask))))))
by_verb Create =
    reading long_number_of
    (λ handle. reading name_of
    (λ path. reading small_number_of
    (λ mask words. option_map (λ given. asks (Change (CreateKey handle path mask given))) (given_of words))))
by_verb Set =
    reading long_number_of
    (λ handle. reading name_of
    (λ name. reading small_number_of
    (λ kind. reading data_of (λ bytes. ending (asks (Change (SetValue handle name kind bytes)))))))
by_verb DelValue = reading long_number_of (λ handle. reading name_of (λ name. ending (asks (Change (DeleteValue handle name)))))
by_verb DelKey = reading long_number_of (λ handle. reading name_of (λ path. ending (asks (Change (DeleteKey handle path)))))
by_verb DelTree = reading long_number_of (λ handle. reading name_of (λ path. ending (asks (Change (DeleteTree handle path)))))
by_verb SetSec = reading long_number_of (λ handle. reading data_of (λ descriptor. ending (asks (Change (SetSecurity handle descriptor)))))
by_verb Notify =
    reading long_number_of
    (λ handle. reading small_number_of
    (λ filter. reading subtree_of (λ subtree. ending (asks (Change (NotifyChange handle filter subtree))))))
by_verb CloseVerb = reading long_number_of (λ handle. ending (asks (Change (Close handle))))
by_verb QueryVerb =
    reading long_number_of
    (λ handle. reading name_of (λ name. reading room_of (λ room. ending (asks (Query (QueryValue handle name room))))))
by_verb EnumKeyVerb =
    reading long_number_of
    (λ handle. reading small_number_of (λ index. reading small_number_of (λ room. ending (asks (Query (EnumKey handle index room))))))
by_verb EnumValueVerb =
    reading long_number_of
    (λ handle. reading small_number_of
    (λ index. reading small_number_of
    (λ name_room. reading room_of (λ room. ending (asks (Query (EnumValue handle index name_room room)))))))
by_verb Info = reading long_number_of (λ handle. ending (asks (Query (QueryInfo handle))))
by_verb GetSec = reading long_number_of (λ handle. reading small_number_of (λ room. ending (asks (Query (GetSecurity handle room)))))
by_verb Notice = ending takes_notice

-- what words mean where there are so many hives: a setting of a hive that isn't there is bad
abbrev pub within : ℕ → Meaning → Meaning
within hives nothing = nothing
within hives (at_moment moment) = at_moment moment
within hives (as_session session) = as_session session
within hives (on_hive hive) = if nat_lt hive hives then on_hive hive else bad
within hives (asks call) = asks call
within hives takes_notice = takes_notice
within hives bad = bad

-- a line means nothing where it is empty or a comment, and is bad where its words mean nothing
unfoldable pub meaning_in : ℕ → List ℕ → Meaning
meaning_in hives [] = nothing
meaning_in hives (b ∷ bs) = if b == 35 then nothing else within hives (unwrap_or (reading verb_of by_verb (words_of (b ∷ bs))) bad)

-- what a line means where there is one hive
abbrev pub meaning_of : List ℕ → Meaning
meaning_of line = meaning_in 1 line
