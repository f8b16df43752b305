-- What each command did, put together of what its steps did.
use Rattle.std.proofs.Common.{◌≡◌, ◌∙◌, List, [], ℕ, ap, sym, subst, inl, inr, map}
use Rattle.std.specs.Prelude.{Option}
use Rattle.reg_callbacks.specs.Asking.{Answers, asks}
use Rattle.reg_callbacks.specs.declared.row.Row.{Row}
use Rattle.reg_model.specs.Callbacks.{Callbacks, no_callbacks}
use Rattle.std.specs.Io.KnownBytes.{Appends, Consumes, IsAtEnd}
use Rattle.reg_heap.specs.Paths.{Tree}
use Rattle.reg_calls.specs.Views.{View}
use Rattle.reg_script.specs.LineWords.{lines_of}
use Rattle.reg_script.specs.Lines.{IsFresh, Lines, LinesTo}
use Rattle.reg_script.specs.Stops.{AreWithin, Stops as ScriptStops, StopsFresh}
use Rattle.reg_script.specs.declared.engine.ScriptFault.{ScriptFault}
use Rattle.reg_tree_image.specs.declared.LoadFault.{LoadFault}
use Rattle.reg_tree_image.specs.Loads.{ReadsImage, MeetsFault}
use Rattle.reg_command.specs.ScriptRuns.{RunsScript, LeadsTo, image_at}
use Rattle.reg_command.specs.ImageRuns.{WritesTreeText, fault_line}
use Rattle.reg_command.specs.Failures.{ImageStops, TextStops, script_line}
use Rattle.reg_command.specs.Internal.Steps.{SendStops, TreeTextStops, IsFaultReported}
use Rattle.reg_command.specs.declared.failure.Stop.{Stop}
use Rattle.reg_command.specs.declared.failure.Stop.TheVariants.{Script, Load, Write, Memory}

-- ---- scripts

-- where no callback is registered, none refuses
pub none_asked : {C : Type 0} (answers : C → Answers) (rows : List (Row C)) → rows ≡ [] →
    asks (map (λ row. answers row.callback) rows) ≡ no_callbacks
none_asked {C = C} answers rows none = ap (λ (some : List (Row C)). asks (map (λ row. answers row.callback) some)) none

module _ (fresh last : View) (callbacks : Callbacks) (unread left : Option (List ℕ)) (is_fresh : IsFresh fresh)
    (none : callbacks ≡ no_callbacks) (at_end : IsAtEnd left) where
  pub runs : (before after : Option (List ℕ)) →
      ((script : List ℕ) × (text : List ℕ) × Consumes unread left script × Lines callbacks fresh script text last × Appends before after text ×
      AreWithin (lines_of script))
      → RunsScript unread left before after
  runs before after h = record {
    at_end = at_end;
    script = h.0;
    text = h.1;
    consumed = h.2;
    writes = record { fresh = fresh; is_fresh = is_fresh; last = last; lines = subst (λ (asked : Callbacks). Lines asked fresh h.0 h.1 last) none h.3 };
    appended = h.4;
  }

  pub leads : (moment : ℕ) (told kept : Option (List ℕ)) →
      ((script : List ℕ) × (text : List ℕ) × Consumes unread left script × LinesTo callbacks fresh script text last moment ×
      Appends told kept text × AreWithin (lines_of script))
      → LeadsTo unread left last moment
  leads moment told kept h =
      record {
        at_end = at_end;
        script = h.0;
        consumed = h.2;
        fresh = fresh;
        is_fresh = is_fresh;
        text = h.1;
        lines = subst (λ (asked : Callbacks). LinesTo asked fresh h.0 h.1 last moment) none h.3;
      }

pub stops_fresh : (fault : ScriptFault) (fresh last : View) (callbacks : Callbacks) (unread left before after : Option (List ℕ)) →
    IsFresh fresh → callbacks ≡ no_callbacks →
    ScriptStops fault unread left callbacks fresh last before after → StopsFresh fault unread left before after
stops_fresh fault fresh last callbacks unread left before after is_fresh none h = record {
  fresh = fresh;
  is_fresh = is_fresh;
  last = last;
  stops = subst (λ (asked : Callbacks). ScriptStops fault unread left asked fresh last before after) none h;
}

-- what ended the image's writing ended the command
pub image_stops : (sequence : ℕ) (last : View) (moment : ℕ) (stop : Stop) (unread left before after : Option (List ℕ)) →
    LeadsTo unread left last moment →
    SendStops (image_at last moment sequence) stop before after → ImageStops sequence stop unread left before after
image_stops sequence last moment (Write written) unread left before after leads h = (last, moment, leads, h)
image_stops sequence last moment Memory unread left before after leads h = (h, inr (last, moment, leads))
image_stops sequence last moment (Script fault) unread left before after leads h = absurd h
image_stops sequence last moment (Load fault) unread left before after leads h = absurd h

-- ---- images

module _ (text_of : Tree → List ℕ) (unread left before after : Option (List ℕ)) where
  pub writes_text : (tree : Tree) → ReadsImage unread left tree → Appends before after (text_of tree) →
      WritesTreeText text_of unread left before after
  writes_text tree reads appended = record { tree = tree; reads = reads; appended = appended }

  pub text_stops : (tree : Tree) (stop : Stop) → ReadsImage unread left tree → TreeTextStops (text_of tree) stop before after
      → TextStops text_of stop unread left before after
  text_stops tree (Write written) reads h = inl (tree, reads, h)
  text_stops tree Memory reads h = (tree, reads, h)
  text_stops tree (Script fault) reads h = absurd h
  text_stops tree (Load fault) reads h = absurd h

  pub fault_reported : (fault : LoadFault) (stop : Stop) → MeetsFault fault unread left → IsFaultReported fault stop before after
      → TextStops text_of stop unread left before after
  fault_reported fault (Load told) meets h =
      subst (λ (f : LoadFault). MeetsFault f unread left × Appends before after (fault_line f)) (sym h.0) (meets, h.1)
  fault_reported fault (Write written) meets h = inr (fault, meets, h)
  fault_reported fault (Script told) meets h = absurd h
  fault_reported fault Memory meets h = absurd h

-- the line of a fault that is known
pub line_at : (fault known : LoadFault) (line : List ℕ) → fault ≡ known → line ≡ fault_line known → line ≡ fault_line fault
line_at fault known line is e = e ∙ ap fault_line (sym is)

-- and of a script's fault that is
pub script_line_at : (fault known : ScriptFault) (line : List ℕ) → fault ≡ known → line ≡ script_line known → line ≡ script_line fault
script_line_at fault known line is e = e ∙ ap script_line (sym is)
