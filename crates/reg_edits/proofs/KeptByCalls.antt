-- Calls that are accepted, one after another, leave the keys of a hive that was loaded as they were where none may have changed one.
use Rattle.std.proofs.Common.{◌≡◌, ◌∙◌, ℕ, false, List, [], ◌∷◌, ◌++◌, ap, sym, subst, append_assoc, append-nil}
use Rattle.std.specs.List.{AllByRecursion}
use Rattle.reg_model.specs.Calls.{changes_keys}
use Rattle.reg_model.specs.declared.call.Change.{Change}
use Rattle.reg_model.specs.declared.reply.ChangeReply.{ChangeReply}
use Rattle.reg_model.specs.declared.reply.Entry.{Entry}
use Rattle.reg_calls.specs.Views.{View, entry_of}
use Rattle.reg_script.proofs.KeptKeys.{LeavesKeys}
use Rattle.reg_dotreg_import.specs.ImportCalls.{Accepts}
use Rattle.reg_edits.specs.Edits.{are_changed}
use Rattle.reg_edits.proofs.KeptKeys.{all-left}

-- the journal grew by some entries, and where each of them left the keys, they are as they were
record Grows (old new : View) : Type 0 where
  more : List Entry
  journal : new.journal ≡ old.journal ++ more
  keys : AllByRecursion LeavesKeys more → new.keys ≡ old.keys

accepted-grow : (moment : ℕ) (old new : View) (changes : List Change) → Accepts moment old changes new → Grows old new
accepted-grow moment old new [] same = record {
  more = [];
  journal = ap (λ (v : View). v.journal) same ∙ sym (append-nil old.journal);
  keys = λ all. ap (λ (v : View). v.keys) same;
}
accepted-grow moment old new (change ∷ changes) h =
    let rest = accepted-grow moment h.0 new changes h.3 in record {
      more = entry_of old 0 moment change ∷ rest.more;
      journal = rest.journal ∙ ap (λ (es : List Entry). es ++ rest.more) h.2.journal
          ∙ append_assoc old.journal (entry_of old 0 moment change ∷ []) rest.more;
      keys = λ all. rest.keys all.1 ∙ h.2.kept_keys (subst (λ (r : ChangeReply). changes_keys change r ≡ false) (sym h.2.says) all.0);
    }

grown-kept : (old new : View) → Grows old new → old.journal ≡ [] → are_changed new.journal ≡ false → new.keys ≡ old.keys
grown-kept old new g fresh none =
    let all_of : new.journal ≡ g.more = g.journal ∙ ap (λ (es : List Entry). es ++ g.more) fresh in
    g.keys (all-left g.more (subst (λ (es : List Entry). are_changed es ≡ false) all_of none))

pub calls_kept : (moment : ℕ) (old new : View) (changes : List Change) → Accepts moment old changes new →
    old.journal ≡ [] → are_changed new.journal ≡ false → new.keys ≡ old.keys
calls_kept moment old new changes h fresh none = grown-kept old new (accepted-grow moment old new changes h) fresh none
