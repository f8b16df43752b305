-- The text of replies, each of one line (this project's own rules of the script).
use Rattle.std.specs.Prelude.{ℕ, Bool, true, false, List, [], ◌++◌, codes, Option, Some, None}
use Rattle.std.specs.Fmt.{decimal}
use Rattle.reg_text.specs.Texts.{line_feed, escaped, digits_text}
use Rattle.reg_model.specs.declared.reply.ChangeReply.{ChangeReply}
use Rattle.reg_model.specs.declared.answer.AnswerBody.{AnswerBody}
use Rattle.reg_model.specs.declared.answer.AnswerBody.TheVariants.{Refused, Short, Value, Key, Member, Info, Security}
use Rattle.reg_model.specs.declared.notice.Notice.{Notice}
use Rattle.reg_model.specs.declared.notice.Reason.{Reason}
use Rattle.reg_model.specs.declared.notice.Reason.TheVariants.{Matched, Gone, Closed}
use Rattle.reg_model.specs.declared.call.Call.{Call}
use Rattle.reg_model.specs.declared.call.Call.TheVariants.{Change, Query}
use Rattle.reg_model.specs.declared.call.Change.TheVariants.{Notify}
use Rattle.reg_model.specs.declared.call.Query.TheVariants.{QueryValue, EnumKey, EnumValue, QueryInfo, GetSecurity}
use Rattle.reg_model.specs.declared.step.Outcome.{Outcome}
use Rattle.reg_model.specs.declared.step.Outcome.TheVariants.{Changed, Answered}

-- the handle that a change opened, if it opened one
abbrev pub handle_text : Option ℕ → List ℕ
handle_text None = []
handle_text (Some handle) = codes " handle " ++ decimal handle

-- whether a key was made, where a change tells it
abbrev pub disposition_text : Option ℕ → List ℕ
disposition_text None = []
disposition_text (Some disposition) = codes " disposition " ++ decimal disposition

-- whether a call asks for a notification
abbrev pub asks_watch : Call → Bool
asks_watch (Change (Notify handle filter subtree)) = true
asks_watch call = false

-- the number of a change's entry, where the change asked for a notification and was accepted
abbrev pub watch_text : Bool → Option ℕ → List ℕ
watch_text true (Some number) = codes " watch " ++ decimal number
watch_text true None = []
watch_text false number = []

-- the reply to a change: the status, the handle and the disposition, or the number of the watch
abbrev pub changed_text : Bool → ChangeReply → List ℕ
changed_text watches reply =
    decimal reply.status ++ (handle_text reply.handle ++ (disposition_text reply.disposition ++ (watch_text watches reply.number ++ line_feed)))

abbrev pub name_text : List ℕ → List ℕ
name_text name = codes " =" ++ escaped name

abbrev pub size_text : ℕ → List ℕ
size_text size = codes " size " ++ decimal size

-- a value's type and size
abbrev pub value_text : ℕ → ℕ → List ℕ
value_text kind size = codes " type " ++ (decimal kind ++ size_text size)

-- bytes, in lower case
abbrev pub bytes_text : List ℕ → List ℕ
bytes_text bytes = codes " x" ++ digits_text bytes

-- a value's bytes, if a room was given
abbrev pub data_text : Option (List ℕ) → List ℕ
data_text None = []
data_text (Some bytes) = bytes_text bytes

-- whether a call asks for what has no type: a subkey's name or a descriptor
abbrev pub asks_untyped : Call → Bool
asks_untyped (Query (EnumKey handle index room)) = true
asks_untyped (Query (GetSecurity handle room)) = true
asks_untyped (Query (QueryValue handle name room)) = false
asks_untyped (Query (EnumValue handle index name_room room)) = false
asks_untyped (Query (QueryInfo handle)) = false
asks_untyped (Change change) = false

-- what a room is too short for: a subkey's name or a descriptor, which has a size alone, or a value
abbrev pub short_text : Bool → ℕ → ℕ → List ℕ
short_text true kind size = size_text size
short_text false kind size = value_text kind size

-- a key's counts and largest lengths, and its time
abbrev pub info_text : (subkeys longest_key values longest_value largest security time : ℕ) → List ℕ
info_text subkeys longest_key values longest_value largest security time =
    codes " subkeys " ++ (decimal subkeys ++ (codes " longest " ++ (decimal longest_key
    ++ (codes " values " ++ (decimal values ++ (codes " longest " ++ (decimal longest_value ++ (codes " largest " ++ (decimal largest
    ++ (codes " security " ++ (decimal security ++ (codes " time " ++ decimal time))))))))))))

-- the answer to a call: a refusal's status alone, or the status with what was asked for
abbrev pub answer_text : Call → AnswerBody → List ℕ
answer_text call (Refused status) = decimal status ++ line_feed
answer_text call (Short status kind size) = decimal status ++ (short_text (asks_untyped call) kind size ++ line_feed)
answer_text call (Value kind size bytes) = codes "0" ++ (value_text kind size ++ (data_text bytes ++ line_feed))
answer_text call (Key name time) = codes "0" ++ (name_text name ++ (codes " time " ++ (decimal time ++ line_feed)))
answer_text call (Member name kind size bytes) = codes "0" ++ (name_text name ++ (value_text kind size ++ (data_text bytes ++ line_feed)))
answer_text call (Info subkeys longest_key values longest_value largest security time) =
    codes "0" ++ (info_text subkeys longest_key values longest_value largest security time ++ line_feed)
answer_text call (Security bytes) = codes "0" ++ (bytes_text bytes ++ line_feed)

-- why a watch ended
abbrev pub reason_text : Reason → List ℕ
reason_text Matched = codes "matched"
reason_text Gone = codes "gone"
reason_text Closed = codes "closed"

-- the reply to the taking of a notice: the number of its watch, of the entry that ended it, and why; or that none is left
abbrev pub notice_text : Option Notice → List ℕ
notice_text None = codes "notice none\n"
notice_text (Some notice) =
    codes "notice " ++ (decimal notice.watch ++ (codes " " ++ (decimal notice.by ++ (codes " " ++ (reason_text notice.reason ++ line_feed)))))

-- the text of a call's outcome
abbrev pub outcome_text : Call → Outcome → List ℕ
outcome_text call (Changed reply) = changed_text (asks_watch call) reply
outcome_text call (Answered answer) = answer_text call answer.body
