-- Journals: what they make of a world, which notifications they leave pending and send, and which are legal.
use Rattle.std.specs.Prelude.{◌≡◌, ◌+◌, ◌==◌, ℕ, Bool, List, [], ◌∷◌, ◌++◌, filter, length, map, if◌then◌else◌, Option, Some, None}
use Rattle.std.specs.List.{list_all}
use Rattle.reg_heap.specs.Paths.{Tree}
use Rattle.reg_model.specs.Worlds.{World, after}
use Rattle.reg_model.specs.Watches.{Watch, Ending, ending, watch_of, stays, notices}
use Rattle.reg_model.specs.Causes.{State, change_cause}
use Rattle.reg_model.specs.Replies.{reply_to}
use Rattle.reg_model.specs.declared.notice.Notice.{Notice}
use Rattle.reg_model.specs.declared.reply.Entry.{Entry}
use Rattle.reg_model.specs.declared.reply.Receipt.{Receipt}

-- the origin's tree, with no handles
abbrev pub opening : Tree → World
opening origin = record { tree = origin; handles = [] }

abbrev pub replay_from : World → List Entry → World
replay_from w [] = w
replay_from w (e ∷ es) = replay_from (after w e) es

-- the world that a journal's entries make of the origin, one after another
abbrev pub replay : Tree → List Entry → World
replay origin es = replay_from (opening origin) es

-- an entry with the world that it met
pub record Met : Type 0 where
  pub world : World
  pub entry : Entry

-- each entry with the world before it
abbrev pub mets_from : World → List Entry → List Met
mets_from w [] = []
mets_from w (e ∷ es) = record { world = w; entry = e } ∷ mets_from (after w e) es

abbrev pub mets : Tree → List Entry → List Met
mets origin es = mets_from (opening origin) es

-- how an entry ends watches, and the watch that it asks for
abbrev pub end_of : Met → Ending
end_of m = ending m.world m.entry

abbrev pub asked_by : Met → Option Watch
asked_by m = watch_of m.world m.entry

-- a watch, where no later entry ends it
abbrev pub unless_ended : Option Watch → List Met → List Watch
unless_ended None later = []
unless_ended (Some v) later = if list_all (λ (m : Met). stays (end_of m) v) later then v ∷ [] else []

-- of each entry the watch that it asks for, where none of the later ones ends it
abbrev pub pending_of : List Met → List Watch
pending_of [] = []
pending_of (m ∷ later) = unless_ended (asked_by m) later ++ pending_of later

-- the watches that are pending after a journal
abbrev pub pending : Tree → List Entry → List Watch
pending origin es = pending_of (mets origin es)

-- what each of some entries tells a session, after others: of the watches that were pending when it came
abbrev pub fired_after : ℕ → List Met → List Met → List Notice
fired_after session past [] = []
fired_after session past (m ∷ later) = notices session (end_of m) (pending_of past) ++ fired_after session (past ++ m ∷ []) later

-- all that a journal tells a session, in the order of the entries that tell it, and of each in the order of the watches
abbrev pub fired : Tree → List Entry → ℕ → List Notice
fired origin es session = fired_after session [] (mets origin es)

-- where a call finds the hive after these entries, the first of which has the number `base`
abbrev pub state_of : ℕ → Tree → List Entry → State
state_of base origin es = record { kept = length es; next = base + length es; world = replay origin es; pending = pending origin es }

-- an entry is legal after the entries so far: its number is the next one, nothing refused it, and its reply is the one due
pub record IsFit (base : ℕ) (origin : Tree) (past : List Entry) (e : Entry) : Type 0 where
  pub number : e.number ≡ (state_of base origin past).next
  pub accepted : change_cause (state_of base origin past) e.session e.change 0 ≡ None
  pub reply : e.reply ≡ reply_to (state_of base origin past) e.session e.change

abbrev pub IsLegalAfter : ℕ → Tree → List Entry → List Entry → Type 0
IsLegalAfter base origin past [] = Unit {0}
IsLegalAfter base origin past (e ∷ es) = IsFit base origin past e × IsLegalAfter base origin (past ++ e ∷ []) es

-- every entry of the journal is legal after those before it; the first has the number `base`
abbrev pub IsLegal : ℕ → Tree → List Entry → Type 0
IsLegal base origin es = IsLegalAfter base origin [] es

-- ---- of one session

abbrev pub is_of : ℕ → Entry → Bool
is_of session e = e.session == session

-- the entries of a session, in order
abbrev pub entries_of : ℕ → List Entry → List Entry
entries_of session es = filter (is_of session) es

-- how many entries a session has
abbrev pub count_of : ℕ → List Entry → ℕ
count_of session es = length (entries_of session es)

-- the receipt of an accepted change: its entry without the session
abbrev pub receipt_of : Entry → Receipt
receipt_of e = record { number = e.number; moment = e.moment; change = e.change; reply = e.reply }

-- the receipts of a session's accepted changes, in order
abbrev pub receipts_of : ℕ → List Entry → List Receipt
receipts_of session es = map receipt_of (entries_of session es)
