-- What a change did, put together of what its steps did.
use Rattle.std.proofs.Common.{◌≡◌, ◌∙◌, List, ℕ, sym, subst}
use Rattle.std.specs.Prelude.{Option, None}
use Rattle.reg_text.specs.Failures.{Stays}
use Rattle.reg_model.specs.Callbacks.{Callbacks, no_callbacks}
use Rattle.reg_calls.specs.Views.{View, IsHive}
use Rattle.reg_calls.specs.HiveView.{view_of}
use Rattle.reg_words.specs.declared.typed.change.KeyChange.{KeyChange}
use Rattle.reg_dotreg_reader.specs.declared.entry.Entry.{Entry}
use Rattle.reg_dotreg_reader.specs.declared.entry.Numbered.{Numbered}
use Rattle.reg_dotreg_import.specs.Imports.{imported, entries_of}
use Rattle.reg_dotreg_import.specs.ImportCalls.{Accepts, import_calls}
use Rattle.reg_dotreg_import.specs.ImportStops.{ImportStops}
use Rattle.reg_dotreg_import.specs.declared.fault.ImportFault.{ImportFault}
use Rattle.reg_edits.specs.Edits.{Opens, are_changed, next_sequence}
use Rattle.reg_edits.specs.KeyChanges.{hindrance_of, entries_for, Alters, IsCallRefused, AlterStops, Changes, ChangeEnds, ChangeBlames}
use Rattle.reg_edits.specs.declared.edits.Edited.{Edited}
use Rattle.reg_edits.specs.declared.changing.ChangeEnd.{ChangeEnd}
use Rattle.reg_edits.specs.declared.changing.ChangeEnd.TheVariants.{Load, Hindered, Call, Memory}
use Rattle.reg_edits.proofs.KeptByCalls.{calls_kept}

-- its entries were made
pub alters : (moment : ℕ) (asked : KeyChange) (old last : View) (entries : List Numbered) → hindrance_of old.keys.tree asked ≡ None →
    entries_of entries ≡ entries_for asked → last.keys.tree ≡ imported moment old.keys.tree (entries_of entries) →
    Accepts moment old (import_calls moment old (entries_of entries)) last → Alters moment asked old last
alters moment asked old last entries free are tree calls = record {
  free = free;
  tree = subst (λ (es : List Entry). last.keys.tree ≡ imported moment old.keys.tree es) are tree;
  calls = subst (λ (es : List Entry). Accepts moment old (import_calls moment old es) last) are calls;
}

-- a call was refused, where no callback is asked
pub call_refused : (fault : ImportFault) (moment : ℕ) (asked : KeyChange) (old last : View) (entries : List Numbered) →
    hindrance_of old.keys.tree asked ≡ None → entries_of entries ≡ entries_for asked → {callbacks : Callbacks} → callbacks ≡ no_callbacks →
    IsHive last → ImportStops callbacks moment fault old entries last → IsCallRefused fault moment asked old
call_refused fault moment asked old last entries free are none hive stops = record {
  free = free;
  entries = entries;
  are = are;
  last = last;
  hive = hive;
  stops = subst (λ (callbacks : Callbacks). ImportStops callbacks moment fault old entries last) none stops;
}

-- it wasn't made
pub alter_ends : (fault : ChangeEnd) (moment : ℕ) (asked : KeyChange) (file file_left : Option (List ℕ)) (old : View) (sequence : ℕ) →
    Opens file file_left old sequence → AlterStops fault moment asked old → ChangeEnds fault moment asked file file_left
alter_ends (Load fault) moment asked file file_left old sequence o h = absurd h
alter_ends (Hindered why) moment asked file file_left old sequence o h = (old, sequence, o, h)
alter_ends (Call fault) moment asked file file_left old sequence o h = (old, sequence, o, h)
alter_ends Memory moment asked file file_left old sequence o h = (old, sequence, o, h)

-- no read of the file failed
pub alter_blames : (fault : ChangeEnd) (moment : ℕ) (asked : KeyChange) (old : View) (before after : Option ℕ) →
    AlterStops fault moment asked old → Stays before after → ChangeBlames fault before after
alter_blames (Load fault) moment asked old before after h stays = absurd h
alter_blames (Hindered why) moment asked old before after h stays = stays
alter_blames (Call fault) moment asked old before after h stays = stays
alter_blames Memory moment asked old before after h stays = stays

-- the whole
pub changes : (moment : ℕ) (asked : KeyChange) (edited : Edited) (file file_left : Option (List ℕ)) (old : View) (sequence : ℕ) →
    Opens file file_left old sequence → Alters moment asked old (view_of edited.seated.hive) → edited.moment ≡ moment →
    edited.sequence ≡ next_sequence sequence → edited.is_changed ≡ are_changed (view_of edited.seated.hive).journal → edited.failed ≡ 0 →
    Changes moment asked edited file file_left
changes moment asked edited file file_left old sequence o made saved_at next changed none_failed = record {
  old = old;
  sequence = sequence;
  opens = o;
  alters = made;
  saved_at = saved_at;
  next = next;
  changed = record {
    by_calls = changed;
    same = λ same. calls_kept moment old (view_of edited.seated.hive) (import_calls moment old (entries_for asked)) made.calls o.loaded.journal
        (sym changed ∙ same);
  };
  none_failed = none_failed;
}
