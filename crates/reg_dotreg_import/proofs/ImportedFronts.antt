-- Entries one after another, and where they stop.
use Rattle.std.proofs.Common.{◌≡◌, ℕ, List, [], ◌∷◌, ◌++◌, length, refl, sym, ap, ◌∙◌, subst, inl, inr, arith, append-nil}
use Rattle.reg_model.specs.Callbacks.{Callbacks}
use Rattle.reg_callbacks.specs.declared.callbacks.Callbacks.{Callbacks as TheCallbacks}
use Rattle.reg_callbacks.specs.Asking.{Answers, asks}
use Rattle.reg_callbacks.specs.Lists.{answers_of}
use Rattle.reg_model.specs.declared.call.Change.TheVariants.{OpenRoot}
use Rattle.reg_model.specs.declared.reply.ChangeReply.{ChangeReply}
use Rattle.reg_calls.specs.Views.{View, IsAccepted}
use Rattle.reg_dotreg_reader.specs.declared.entry.Numbered.{Numbered}
use Rattle.reg_dotreg_import.specs.declared.entries.Handles.{Handles}
use Rattle.reg_dotreg_import.specs.declared.fault.ImportFault.{ImportFault}
use Rattle.reg_dotreg_import.specs.declared.fault.ImportFault.TheVariants.{Refused, Memory}
use Rattle.reg_dotreg_import.specs.declared.entries.TheConstants.{ALL_RIGHTS}
use Rattle.reg_dotreg_import.specs.Imports.{Stand, after_entry, after_entries, entries_of}
use Rattle.reg_dotreg_import.specs.ImportCalls.{Hands, opened}
use Rattle.reg_dotreg_import.specs.ImportStops.{IsStoppedAt, StopsAmong, ImportStops}
use Rattle.reg_dotreg_import.specs.Internal.Standing.{IsFaultOf, IsImporting, AreEntriesMade}
use Rattle.reg_dotreg_import.proofs.CallsInTurn.{accepts-one, applied-push}

-- all of them, where none is left
no_more : (rest : List Numbered) → length rest ≡ 0 → rest ≡ []
no_more [] e = refl
no_more (n ∷ rest) e = absurd (omega (arith, e))

pub all-applied : (done rest entries : List Numbered) → done ++ rest ≡ entries → length rest ≡ 0 → done ≡ entries
all-applied done rest entries e none = sym (append-nil done) ∙ ap (λ (more : List Numbered). done ++ more) (sym (no_more rest none)) ∙ e

-- the first of the rest stops all, where callbacks and moment are those of the beginning
pub stops-on : {C : Type 0} (answers : C → Answers) (a b : TheCallbacks C) (m moment : ℕ) (h last : Hands) (entries front : List Numbered) (n : Numbered)
    (rest : List Numbered) (old between new : View) (fault : ImportFault) → a ≡ b → m ≡ moment → entries ≡ front ++ n ∷ rest →
    AreEntriesMade moment h (entries_of front) old between last →
    IsStoppedAt (asks (answers_of answers a)) m n.line last n.entry between new fault →
    StopsAmong (asks (answers_of answers b)) moment fault h entries old new
stops-on answers a b m moment h last entries front n rest old between new fault callbacks same are made f = record {
  front = front;
  stopped = n;
  rest = rest;
  are = are;
  between = between;
  led = made.led;
  stops = subst (λ (g : Hands). IsStoppedAt (asks (answers_of answers b)) moment n.line g n.entry between new fault) made.last_is
      (subst (λ k. IsStoppedAt (asks (answers_of answers k)) moment n.line last n.entry between new fault) callbacks
      (subst (λ (m : ℕ). IsStoppedAt (asks (answers_of answers a)) m n.line last n.entry between new fault) same f));
}

-- one entry more of those that were applied
pub applied-on : (before : List ℕ) (handles : Handles) (v : View) (m moment : ℕ) (s : Stand) (front : List Numbered) (n : Numbered) → m ≡ moment →
    IsImporting before handles v (after_entry m (after_entries moment s (entries_of front)) n.entry) →
    IsImporting before handles v (after_entries moment s (entries_of (front ++ n ∷ [])))
applied-on before handles v m moment s front n same i =
    subst (IsImporting before handles v) (sym (applied-push moment s front n))
    (subst (λ (m : ℕ). IsImporting before handles v (after_entry m (after_entries moment s (entries_of front)) n.entry)) same i)

-- one of the entries stopped it, once the root was opened
pub stops-later : {C : Type 0} (answers : C → Answers) (a b : TheCallbacks C) (moment : ℕ) (h : Hands) (old rooted : View) (entries : List Numbered) (new : View)
    (fault : ImportFault) (reply : ChangeReply) → a ≡ b → IsAccepted old rooted 0 moment (OpenRoot ALL_RIGHTS) reply → h ≡ opened old →
    StopsAmong (asks (answers_of answers a)) moment fault h entries rooted new → ImportStops (asks (answers_of answers b)) moment fault old entries new
stops-later answers a b moment h old rooted entries new fault reply callbacks begins same f =
    inr (
      rooted,
      accepts-one moment (OpenRoot ALL_RIGHTS) old rooted reply begins,
      subst (λ (g : Hands). StopsAmong (asks (answers_of answers b)) moment fault g entries rooted new) same
          (subst (λ k. StopsAmong (asks (answers_of answers k)) moment fault h entries rooted new) callbacks f),
    )

-- the root wasn't opened
pub not-opened : (asked : Callbacks) (moment : ℕ) (old new : View) (entries : List Numbered) (fault : ImportFault) → new ≡ old →
    IsFaultOf asked old moment 0 (OpenRoot ALL_RIGHTS) fault → ImportStops asked moment fault old entries new
not-opened asked moment old new entries (Refused line status) same f = inl (f.0, same, f.1)
not-opened asked moment old new entries Memory same f = inl same
