-- Which lines of a script failed (this project's own rules of the script).
use Rattle.std.specs.Prelude.{◌≡◌, ◌≢◌, ℕ, ◌+◌, ◌⊎◌, Bool, true, false, if◌then◌else◌, List, [], ◌∷◌, ◌++◌, codes, length, Option, Some, None}
use Rattle.std.specs.Io.KnownBytes.{Appends, Consumes, IsAtEnd}
use Rattle.reg_model.specs.Callbacks.{Callbacks}
use Rattle.reg_model.specs.declared.call.Call.{Call}
use Rattle.reg_model.specs.declared.call.Call.TheVariants.{Change, Query}
use Rattle.reg_model.specs.declared.reply.ChangeReply.{ChangeReply}
use Rattle.reg_model.specs.declared.step.Outcome.TheVariants.{Changed}
use Rattle.reg_calls.specs.Views.{View, IsApplied}
use Rattle.reg_script.specs.declared.engine.ScriptFault.TheVariants.{Write}
use Rattle.reg_script.specs.declared.failed.FailedLine.{FailedLine}
use Rattle.reg_script.specs.declared.failed.StrictFault.{StrictFault}
use Rattle.reg_script.specs.declared.failed.StrictFault.TheVariants.{Script, Line}
use Rattle.reg_script.specs.LineWords.{lines_of}
use Rattle.reg_script.specs.LineMeanings.{Meaning, nothing, at_moment, as_session, on_hive, asks, takes_notice, bad, meaning_of}
use Rattle.reg_script.specs.ReplyTexts.{outcome_text}
use Rattle.reg_script.specs.Lines.{Stand, begins_at, AreSaid}
use Rattle.reg_script.specs.Stops.{HasNoFeed, AreWithin, IsTaken, EndsWithFeed, StopsFrom}

-- whether a call asks for a change
abbrev pub is_change : Call → Bool
is_change (Change change) = true
is_change (Query query) = false

-- a line fails unless the journal grows by its entry where it has no form of a line, or asks for a change
abbrev pub wants_entry : Meaning → Bool
wants_entry nothing = false
wants_entry (at_moment moment) = false
wants_entry (as_session session) = false
wants_entry (on_hive hive) = false
wants_entry (asks call) = is_change call
wants_entry takes_notice = false
wants_entry bad = true

-- one where a test holds, and none where it doesn't
abbrev pub one_if : Bool → ℕ
one_if test = if test then 1 else 0

-- how many lines want an entry
abbrev pub wanting : List (List ℕ) → ℕ
wanting [] = 0
wanting (line ∷ lines) = one_if (wants_entry (meaning_of line)) + wanting lines

-- so many of some lines failed, which led from one hive to another: those that want an entry, less the entries that the journal grew by
abbrev pub HaveFailed : ℕ → List (List ℕ) → View → View → Type 0
HaveFailed failed lines old new = failed + length new.journal ≡ wanting lines + length old.journal

-- a call failed there: it is a change that wasn't made, and this was told, with the status
abbrev pub FailsCall : Call → Stand → List ℕ → Option ℕ → Type 0
FailsCall (Change change) there text status =
    (reply : ChangeReply) × IsApplied there.callbacks there.hive there.hive there.session there.moment change reply × (reply.status ≢ 0)
    × (text ≡ outcome_text (Change change) (Changed reply)) × (status ≡ Some reply.status)
FailsCall (Query query) there text status = ⊥

-- a line failed there, and left all as it was: it has no form of a line, or asks for a change that wasn't made; its reply, and the
-- status that it tells, if any
abbrev pub Fails : Meaning → Stand → List ℕ → Option ℕ → Type 0
Fails nothing there text status = ⊥
Fails (at_moment moment) there text status = ⊥
Fails (as_session session) there text status = ⊥
Fails (on_hive hive) there text status = ⊥
Fails (asks call) there text status = FailsCall call there text status
Fails takes_notice there text status = ⊥
Fails bad there text status = (text ≡ codes "bad\n") × (status ≡ None)

-- what is behind a line that has ended: its LF and what was read behind it, or nothing where it is the reader's last
abbrev pub IsBehindLine : List ℕ → Option (List ℕ) → Type 0
IsBehindLine rest left = ((more : List ℕ) × (rest ≡ 10 ∷ more)) ⊎ ((rest ≡ []) × IsAtEnd left)

-- a script that began at this moment stopped at a line that failed: the lines before it were answered, and none of them failed; it is the next, and the last that
-- was answered; what was read behind it did nothing; and this is said of all replies, its own the last
pub record StopsAtLine (begin : ℕ) (failed : FailedLine) (unread left : Option (List ℕ)) (callbacks : Callbacks) (old new : View)
    (AreWritten : List ℕ → Type 0) : Type 0 where
  pub lines : List ℕ
  pub rest : List ℕ
  pub read : Consumes unread left (lines ++ (failed.text.items ++ rest))
  pub whole : EndsWithFeed lines
  pub no_feed : HasNoFeed failed.text.items
  pub behind : IsBehindLine rest left
  pub within : AreWithin (lines_of lines)
  pub text : List ℕ
  pub last : Stand
  pub said : AreSaid (lines_of lines) (begins_at begin callbacks old) text last
  pub none : HaveFailed 0 (lines_of lines) old last.hive
  pub number : failed.number ≡ length (lines_of lines) + 1
  pub reply : List ℕ
  pub fails : Fails (meaning_of failed.text.items) last reply failed.status
  pub hive : new ≡ last.hive
  pub written : AreWritten (text ++ reply)

-- how a script ended that stops at a line that failed: there, with its reply written; or by a fault, and none of the lines that were
-- answered failed; or there, with its reply cut by a failed write
abbrev pub StopsStrictly : ℕ → StrictFault → (unread left : Option (List ℕ)) → Callbacks → (old new : View) → (before after : Option (List ℕ)) → Type 0
StopsStrictly begin (Line failed) unread left callbacks old new before after =
    StopsAtLine begin failed unread left callbacks old new (λ text. Appends before after text)
StopsStrictly begin (Script fault) unread left callbacks old new before after =
    ((stops : StopsFrom begin fault unread left callbacks old new before after) × HaveFailed 0 (lines_of stops.lines) old new)
    ⊎ ((failed : FailedLine) × (written : ℕ) × (fault ≡ Write written)
    × StopsAtLine begin failed unread left callbacks old new (λ text. IsTaken before after text written))
