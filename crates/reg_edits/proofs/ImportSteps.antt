-- What an import did, put together of what its steps did.
use Rattle.std.proofs.Common.{◌≡◌, ◌∙◌, Bool, List, ℕ, sym, subst}
use Rattle.std.specs.Prelude.{Option}
use Rattle.std.specs.Io.KnownBytes.{Consumes, IsAtEnd}
use Rattle.reg_text.specs.Failures.{Stays}
use Rattle.reg_text.proofs.FailureCounts.{stays-at}
use Rattle.reg_tree_image.specs.declared.LoadFault.{LoadFault}
use Rattle.reg_tree_image.specs.Loads.{IsBlamed}
use Rattle.reg_dotreg_reader.specs.declared.entry.Numbered.{Numbered}
use Rattle.reg_model.specs.Callbacks.{Callbacks, no_callbacks}
use Rattle.reg_calls.specs.Views.{View, IsHive}
use Rattle.reg_calls.specs.HiveView.{view_of}
use Rattle.reg_dotreg_import.specs.Imports.{imported, entries_of}
use Rattle.reg_dotreg_import.specs.ImportCalls.{Accepts, import_calls}
use Rattle.reg_dotreg_import.specs.ImportStops.{ImportStops}
use Rattle.reg_dotreg_import.specs.declared.fault.ImportFault.{ImportFault}
use Rattle.reg_edits.specs.Edits.{Opens, are_changed, next_sequence}
use Rattle.reg_edits.specs.TextImports.{IsText, front_of, Applies, ApplyStops, ReadStops, TextBlames, Imports, ImportEnds, ImportBlames}
use Rattle.reg_edits.specs.declared.edits.Edited.{Edited}
use Rattle.reg_edits.specs.declared.importing.ImportEnd.{ImportEnd}
use Rattle.reg_edits.specs.declared.importing.ImportEnd.TheVariants.{Load, Input, Text, Lines, Entry, Memory}
use Rattle.reg_edits.proofs.KeptByCalls.{calls_kept}

-- the entries of a text were made
pub applies : (front : Option (List ℕ)) (moment : ℕ) (text : List ℕ) (old last : View) (entries : List Numbered) → IsText (front_of front old) text entries →
    last.keys.tree ≡ imported moment old.keys.tree (entries_of entries) → Accepts moment old (import_calls moment old (entries_of entries)) last →
    Applies front moment text old last
applies front moment text old last entries is_text tree calls = record { entries = entries; is_text = is_text; tree = tree; calls = calls }

-- an entry stopped it, where no callback is asked
pub entry_stops : (front : Option (List ℕ)) (tells_all : Bool) (moment : ℕ) (text : List ℕ) (old last : View) (entries : List Numbered) (fault : ImportFault) →
    IsText (front_of front old) text entries → {asked : Callbacks} → asked ≡ no_callbacks → IsHive last →
    ImportStops asked moment fault old entries last → ApplyStops (Entry fault) front tells_all moment text old
entry_stops front tells_all moment text old last entries fault is_text none hive stops =
    (entries, last, is_text, hive, subst (λ (asked : Callbacks). ImportStops asked moment fault old entries last) none stops)

-- what was read, as it is handed on
pub read_as : (unread left : Option (List ℕ)) (bytes text : List ℕ) → text ≡ bytes → Consumes unread left bytes → Consumes unread left text
read_as unread left bytes text same h = subst (λ (w : List ℕ). Consumes unread left w) (sym same) h

-- the text wasn't read to its end
pub unread_ends : (fault : ImportEnd) (front : Option (List ℕ)) (tells_all : Bool) (moment : ℕ) (file file_left unread left : Option (List ℕ)) (old : View) (sequence : ℕ) →
    Opens file file_left old sequence → ReadStops fault unread left → ImportEnds fault front tells_all moment file file_left unread left
unread_ends (Load fault) front tells_all moment file file_left unread left old sequence o h = absurd h
unread_ends (Input error) front tells_all moment file file_left unread left old sequence o h = (old, sequence, h.0, o, h.1)
unread_ends (Text fault) front tells_all moment file file_left unread left old sequence o h = absurd h
unread_ends (Lines bad) front tells_all moment file file_left unread left old sequence o h = absurd h
unread_ends (Entry fault) front tells_all moment file file_left unread left old sequence o h = absurd h
unread_ends Memory front tells_all moment file file_left unread left old sequence o h = (old, sequence, h.0, o, h.1)

-- its entries weren't made
pub apply_ends : (fault : ImportEnd) (front : Option (List ℕ)) (tells_all : Bool) (moment : ℕ) (file file_left unread left : Option (List ℕ)) (text : List ℕ) (old : View) (sequence : ℕ) →
    Opens file file_left old sequence → IsAtEnd left → Consumes unread left text → ApplyStops fault front tells_all moment text old →
    ImportEnds fault front tells_all moment file file_left unread left
apply_ends (Load fault) front tells_all moment file file_left unread left text old sequence o at_end consumed h = absurd h
apply_ends (Input error) front tells_all moment file file_left unread left text old sequence o at_end consumed h = absurd h
apply_ends (Text fault) front tells_all moment file file_left unread left text old sequence o at_end consumed h = (old, sequence, text, o, at_end, consumed, h)
apply_ends (Lines bad) front tells_all moment file file_left unread left text old sequence o at_end consumed h = (old, sequence, text, o, at_end, consumed, h)
apply_ends (Entry fault) front tells_all moment file file_left unread left text old sequence o at_end consumed h = (old, sequence, text, o, at_end, consumed, h)
apply_ends Memory front tells_all moment file file_left unread left text old sequence o at_end consumed h = absurd h

-- ---- which reads failed

-- none of the text where the image doesn't load
pub load_blames : (fault : LoadFault) (file file_after text : Option ℕ) → IsBlamed fault file file_after → ImportBlames (Load fault) file file_after text text
load_blames fault file file_after text blamed = (blamed, stays-at text)

-- none of the file where the text wasn't read to its end
pub unread_blames : (fault : ImportEnd) (file file_after text text_after : Option ℕ) (unread left : Option (List ℕ)) → ReadStops fault unread left →
    Stays file file_after → TextBlames fault text text_after → ImportBlames fault file file_after text text_after
unread_blames (Load fault) file file_after text text_after unread left h stays blames = absurd h
unread_blames (Input error) file file_after text text_after unread left h stays blames = (stays, blames)
unread_blames (Text fault) file file_after text text_after unread left h stays blames = absurd h
unread_blames (Lines bad) file file_after text text_after unread left h stays blames = absurd h
unread_blames (Entry fault) file file_after text text_after unread left h stays blames = absurd h
unread_blames Memory file file_after text text_after unread left h stays blames = (stays, blames)

-- none where its entries weren't made
pub apply_blames : (fault : ImportEnd) (front : Option (List ℕ)) (tells_all : Bool) (moment : ℕ) (bytes : List ℕ) (old : View) (file file_after text text_after : Option ℕ) →
    ApplyStops fault front tells_all moment bytes old → Stays file file_after → Stays text text_after → ImportBlames fault file file_after text text_after
apply_blames (Load fault) front tells_all moment bytes old file file_after text text_after h stays still = absurd h
apply_blames (Input error) front tells_all moment bytes old file file_after text text_after h stays still = absurd h
apply_blames (Text fault) front tells_all moment bytes old file file_after text text_after h stays still = (stays, still)
apply_blames (Lines bad) front tells_all moment bytes old file file_after text text_after h stays still = (stays, still)
apply_blames (Entry fault) front tells_all moment bytes old file file_after text text_after h stays still = (stays, still)
apply_blames Memory front tells_all moment bytes old file file_after text text_after h stays still = absurd h

-- the whole
pub imports : (front : Option (List ℕ)) (moment : ℕ) (edited : Edited) (file file_left unread left : Option (List ℕ)) (text : List ℕ) (old : View) (sequence : ℕ) →
    Opens file file_left old sequence → IsAtEnd left → Consumes unread left text → Applies front moment text old (view_of edited.seated.hive) →
    edited.moment ≡ moment → edited.sequence ≡ next_sequence sequence → edited.is_changed ≡ are_changed (view_of edited.seated.hive).journal →
    edited.failed ≡ 0 → Imports front moment edited file file_left unread left
imports front moment edited file file_left unread left text old sequence o at_end consumed made saved_at next changed none_failed = record {
  old = old;
  sequence = sequence;
  opens = o;
  at_end = at_end;
  text = text;
  consumed = consumed;
  applies = made;
  saved_at = saved_at;
  next = next;
  changed = record {
    by_calls = changed;
    same = λ same. calls_kept moment old (view_of edited.seated.hive) (import_calls moment old (entries_of made.entries)) made.calls o.loaded.journal
        (sym changed ∙ same);
  };
  none_failed = none_failed;
}
