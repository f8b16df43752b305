-- Parts of the table of first words, by which it is looked up.
use Rattle.std.specs.Prelude.{ℕ, if◌then◌else◌, List, codes, Option, Some, None}
use Rattle.std.specs.Str.{bytes_eq}
use Rattle.reg_script.specs.declared.line.Verb.{Verb}
use Rattle.reg_script.specs.declared.line.Verb.TheVariants.{DelKey, DelTree, SetSec, Notify, Close, Query, EnumKey, EnumValue, Info, GetSec}

-- the first word of a question
unfoldable pub query_verb_of : List ℕ → Option Verb
query_verb_of word =
    if bytes_eq word (codes "query") then Some Query
    else if bytes_eq word (codes "enumkey") then Some EnumKey
    else if bytes_eq word (codes "enumvalue") then Some EnumValue
    else if bytes_eq word (codes "info") then Some Info
    else if bytes_eq word (codes "getsec") then Some GetSec
    else None

-- the first word of a call that neither opens a key nor changes a value
unfoldable pub key_verb_of : List ℕ → Option Verb
key_verb_of word =
    if bytes_eq word (codes "delkey") then Some DelKey
    else if bytes_eq word (codes "deltree") then Some DelTree
    else if bytes_eq word (codes "setsec") then Some SetSec
    else if bytes_eq word (codes "notify") then Some Notify
    else if bytes_eq word (codes "close") then Some Close
    else query_verb_of word
