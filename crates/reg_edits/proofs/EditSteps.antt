-- What an edit did, put together of what its steps did.
use Rattle.std.proofs.Common.{◌≡◌, ◌∙◌, ℕ, Bool, true, false, true≢false, List, [], map, ap, sym, subst}
use Rattle.std.specs.Prelude.{Option}
use Rattle.reg_text.specs.Failures.{Stays}
use Rattle.std.specs.Io.KnownBytes.{Appends, Consumes, IsAtEnd}
use Rattle.reg_model.specs.Callbacks.{Callbacks, no_callbacks}
use Rattle.reg_callbacks.specs.Asking.{Answers, asks}
use Rattle.reg_callbacks.specs.declared.row.Row.{Row}
use Rattle.reg_calls.specs.Views.{View}
use Rattle.reg_calls.specs.HiveView.{view_of}
use Rattle.reg_script.specs.LineWords.{lines_of}
use Rattle.reg_script.specs.Lines.{LinesFrom}
use Rattle.reg_script.specs.Stops.{AreWithin, StopsFrom}
use Rattle.reg_script.specs.FailedLines.{HaveFailed, StopsStrictly}
use Rattle.reg_script.specs.declared.engine.ScriptFault.{ScriptFault}
use Rattle.reg_script.specs.declared.failed.FailedLine.{FailedLine}
use Rattle.reg_script.specs.declared.failed.StrictFault.{StrictFault}
use Rattle.reg_script.specs.declared.failed.StrictFault.TheVariants.{Script as ByFault, Line as AtLine}
use Rattle.reg_edits.specs.Edits.{Opens, Leads, IsHalted, RunStops, Edits, EditStops, EditBlames, are_changed, next_sequence}
use Rattle.reg_edits.specs.declared.edits.Edited.{Edited}
use Rattle.reg_edits.specs.declared.edits.EditFault.{EditFault}
use Rattle.reg_edits.specs.declared.edits.EditFault.TheVariants.{Load, Script, Line}
use Rattle.reg_edits.proofs.KeptKeys.{script_kept}

-- where no callback is registered, none refuses
pub none_asked : {C : Type 0} (answers : C → Answers) (rows : List (Row C)) → rows ≡ [] →
    asks (map (λ row. answers row.callback) rows) ≡ no_callbacks
none_asked {C = C} answers rows none = ap (λ (some : List (Row C)). asks (map (λ row. answers row.callback) some)) none

-- ---- the script

module _ (keeps_going : Bool) (begin : ℕ) (old last : View) (callbacks : Callbacks) (unread left before after : Option (List ℕ))
    (none : callbacks ≡ no_callbacks) where
  pub leads : (moment failed : ℕ) → (keeps_going ≡ false → failed ≡ 0) → IsAtEnd left →
      ((script : List ℕ) × (text : List ℕ) × Consumes unread left script × LinesFrom begin callbacks old script text last moment
      × Appends before after text × AreWithin (lines_of script) × HaveFailed failed (lines_of script) old last)
      → Leads keeps_going begin old last moment failed unread left before after
  leads moment failed strict at_end h = record {
    at_end = at_end;
    script = h.0;
    consumed = h.2;
    text = h.1;
    lines = subst (λ (asked : Callbacks). LinesFrom begin asked old h.0 h.1 last moment) none h.3;
    within = h.5;
    failed_are = h.6;
    strict = strict;
    appended = h.4;
  }

  -- where it goes on behind a line that fails
  pub halts : (fault : ScriptFault) → keeps_going ≡ true → StopsFrom begin fault unread left callbacks old last before after →
      RunStops (Script fault) keeps_going begin old unread left before after
  halts fault goes h = (
    last,
    subst (λ (g : Bool). IsHalted g fault begin old last unread left before after) (sym goes)
        (subst (λ (asked : Callbacks). StopsFrom begin fault unread left asked old last before after) none h),
  )

  -- where it doesn't
  module _ (found : StrictFault) (stops : keeps_going ≡ false) (h : StopsStrictly begin found unread left callbacks old last before after) where
    stops_unasked : StopsStrictly begin found unread left no_callbacks old last before after
    stops_unasked = subst (λ (asked : Callbacks). StopsStrictly begin found unread left asked old last before after) none h

    pub halts_strictly : (fault : ScriptFault) → found ≡ ByFault fault → RunStops (Script fault) keeps_going begin old unread left before after
    halts_strictly fault is = (
      last,
      subst (λ (g : Bool). IsHalted g fault begin old last unread left before after) (sym stops)
          (subst (λ (f : StrictFault). StopsStrictly begin f unread left no_callbacks old last before after) is stops_unasked),
    )

    pub ends_at_line : (line : FailedLine) → found ≡ AtLine line → RunStops (Line line) keeps_going begin old unread left before after
    ends_at_line line is =
        (stops, (last, subst (λ (f : StrictFault). StopsStrictly begin f unread left no_callbacks old last before after) is stops_unasked))

-- of a script that goes on behind lines that fail, any number may
pub any_number : (keeps_going : Bool) (failed : ℕ) → keeps_going ≡ true → keeps_going ≡ false → failed ≡ 0
any_number keeps_going failed goes stops = absurd (true≢false (sym goes ∙ stops))

-- what ended it
pub stopped : (fault : EditFault) (keeps_going : Bool) (begin : ℕ) (file file_left : Option (List ℕ)) (old : View) (sequence : ℕ)
    (unread left before after : Option (List ℕ)) → Opens file file_left old sequence →
    RunStops fault keeps_going begin old unread left before after → EditStops fault keeps_going begin file file_left unread left before after
stopped (Load fault) keeps_going begin file file_left old sequence unread left before after o h = absurd h
stopped (Script fault) keeps_going begin file file_left old sequence unread left before after o h = (old, sequence, o, h)
stopped (Line line) keeps_going begin file file_left old sequence unread left before after o h = (old, sequence, o, h)

-- then no read of the file failed
pub none_blamed : (fault : EditFault) (keeps_going : Bool) (begin : ℕ) (old : View) (unread left before after : Option (List ℕ)) (read now_read : Option ℕ) →
    RunStops fault keeps_going begin old unread left before after → Stays read now_read → EditBlames fault read now_read
none_blamed (Load fault) keeps_going begin old unread left before after read now_read h stays = absurd h
none_blamed (Script fault) keeps_going begin old unread left before after read now_read h stays = stays
none_blamed (Line line) keeps_going begin old unread left before after read now_read h stays = stays

-- ---- the whole

pub edits : (keeps_going : Bool) (begin : ℕ) (edited : Edited) (file file_left unread left before after : Option (List ℕ)) (old : View)
    (sequence moment failed : ℕ) → Opens file file_left old sequence →
    Leads keeps_going begin old (view_of edited.seated.hive) moment failed unread left before after →
    edited.moment ≡ moment → edited.failed ≡ failed → edited.sequence ≡ next_sequence sequence →
    edited.is_changed ≡ are_changed (view_of edited.seated.hive).journal → Edits keeps_going begin edited file file_left unread left before after
edits keeps_going begin edited file file_left unread left before after old sequence moment failed o led moment_is failed_is next changed = record {
  old = old;
  sequence = sequence;
  opens = o;
  leads = subst (λ (n : ℕ). Leads keeps_going begin old (view_of edited.seated.hive) n edited.failed unread left before after) (sym moment_is)
      (subst (λ (n : ℕ). Leads keeps_going begin old (view_of edited.seated.hive) moment n unread left before after) (sym failed_is) led);
  next = next;
  changed = record {
    by_calls = changed;
    same = λ same. script_kept begin old (view_of edited.seated.hive) led.script led.text moment led.lines o.loaded.journal (sym changed ∙ same);
  };
}
