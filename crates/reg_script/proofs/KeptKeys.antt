-- The keys that a script leaves as they were.
use Rattle.std.proofs.Common.{◌≡◌, ℕ, ◌≤◌, ◌⊎◌, false, List, [], ◌∷◌, ◌++◌, length, Some, refl, sym, subst, ap, ◌∙◌, arith, append_assoc, append-nil, inl, inr}
use Rattle.std.specs.List.{AllByRecursion, slice_get}
use Rattle.std.proofs.lemmas.List.{append_cancel_left, length-append}
use Rattle.std.proofs.lemmas.Option.{slice_get_read}
use Rattle.std.proofs.Math.Seq.{get_or-append_seam}
use Rattle.reg_model.specs.Callbacks.{Callbacks}
use Rattle.reg_model.specs.Calls.{changes_keys}
use Rattle.reg_model.specs.declared.call.Call.{Call}
use Rattle.reg_model.specs.declared.call.Call.TheVariants.{Change, Query}
use Rattle.reg_model.specs.declared.call.Change.{Change as AnyChange}
use Rattle.reg_model.specs.declared.reply.Entry.{Entry}
use Rattle.reg_model.specs.declared.reply.ChangeReply.{ChangeReply}
use Rattle.reg_model.specs.declared.step.Outcome.{Outcome}
use Rattle.reg_model.specs.declared.step.Outcome.TheVariants.{Changed, Answered}
use Rattle.reg_calls.specs.Views.{View, IsAccepted, entry_of}
use Rattle.reg_calls.specs.Runs.{IsStep}
use Rattle.reg_calls.proofs.AcceptedChanges.{either}
use Rattle.reg_script.specs.LineWords.{lines_of}
use Rattle.reg_script.specs.LineMeanings.{Meaning, nothing, at_moment, as_session, on_hive, asks, takes_notice, bad, meaning_of}
use Rattle.reg_script.specs.Lines.{Stand, begins_at, IsSaid, AreSaid, LinesFrom}

-- an entry left the keys as they were
abbrev pub LeavesKeys : Entry → Type 0
LeavesKeys e = changes_keys e.change e.reply ≡ false

-- the journal grew by some entries, and where each of them left the keys, they are as they were
record Grows (old new : View) : Type 0 where
  more : List Entry
  journal : new.journal ≡ old.journal ++ more
  keys : AllByRecursion LeavesKeys more → new.keys ≡ old.keys

-- ---- one line

none-more : (old new : View) → new.journal ≡ old.journal → new.keys ≡ old.keys → Grows old new
none-more old new journal keys = record { more = []; journal = journal ∙ sym (append-nil old.journal); keys = λ all. keys }

same-hive : (old new : View) → new ≡ old → Grows old new
same-hive old new same = none-more old new (ap (λ (v : View). v.journal) same) (ap (λ (v : View). v.keys) same)

accepted-hive : (old new : View) (session moment : ℕ) (change : AnyChange) (reply : ChangeReply) → IsAccepted old new session moment change reply → Grows old new
accepted-hive old new session moment change reply a = record {
  more = entry_of old session moment change ∷ [];
  journal = a.journal;
  keys = λ all. a.kept_keys (subst (λ (r : ChangeReply). changes_keys change r ≡ false) (sym a.says) all.0);
}

changed-hive : (old new : View) (session moment : ℕ) (change : AnyChange) (reply : ChangeReply) → (new ≡ old) ⊎ IsAccepted old new session moment change reply →
    Grows old new
changed-hive old new session moment change reply (inl same) = same-hive old new same
changed-hive old new session moment change reply (inr a) = accepted-hive old new session moment change reply a

stepped : (callbacks : Callbacks) (old new : View) (session moment : ℕ) (call : Call) (outcome : Outcome) →
    IsStep callbacks old (record { session = session; moment = moment; call = call }) outcome new → Grows old new
stepped callbacks old new session moment (Change change) (Changed reply) h = changed-hive old new session moment change reply (either _ old new session moment change reply h)
stepped callbacks old new session moment (Query query) (Answered answer) h = same-hive old new h.2
stepped callbacks old new session moment (Change change) (Answered answer) h = absurd h
stepped callbacks old new session moment (Query query) (Changed reply) h = absurd h

stood : (old new : Stand) → new ≡ old → Grows old.hive new.hive
stood old new same = same-hive old.hive new.hive (ap (λ (s : Stand). s.hive) same)

line-grows : (meaning : Meaning) (old new : Stand) (text : List ℕ) → IsSaid meaning old text new → Grows old.hive new.hive
line-grows nothing old new text h = stood old new h.1
line-grows (at_moment moment) old new text h = stood (record old { moment = moment }) new h.1
line-grows (as_session session) old new text h = stood (record old { session = session }) new h.1
line-grows (on_hive hive) old new text h = stood old new h.1
line-grows (asks call) old new text h = stepped old.callbacks old.hive new.hive old.session old.moment call h.0 h.1
line-grows takes_notice old new text h = none-more old.hive new.hive h.1.journal h.1.keys
line-grows bad old new text h = stood old new h.1

-- ---- lines

both-left : (es fs : List Entry) → AllByRecursion LeavesKeys (es ++ fs) → AllByRecursion LeavesKeys es × AllByRecursion LeavesKeys fs
both-left [] fs all = (tt, all)
both-left (e ∷ es) fs all = let rest = both-left es fs all.1 in ((all.0, rest.0), rest.1)

grows-then : (a b c : View) → Grows a b → Grows b c → Grows a c
grows-then a b c h k = record {
  more = h.more ++ k.more;
  journal = k.journal ∙ ap (λ (es : List Entry). es ++ k.more) h.journal ∙ append_assoc a.journal h.more k.more;
  keys = λ all. let parts = both-left h.more k.more all in k.keys parts.1 ∙ h.keys parts.0;
}

lines-grow : (lines : List (List ℕ)) (old new : Stand) (text : List ℕ) → AreSaid lines old text new → Grows old.hive new.hive
lines-grow [] old new text h = stood old new h.1
lines-grow (line ∷ lines) old new text h =
    grows-then old.hive h.0.hive new.hive (line-grows (meaning_of line) old h.0 h.1 h.3) (lines-grow lines h.0 new h.2 h.4)

grown-keys : (old new : View) → Grows old new → (more : List Entry) → new.journal ≡ old.journal ++ more → AllByRecursion LeavesKeys more → new.keys ≡ old.keys
grown-keys old new g more journal all =
    let same : g.more ≡ more = append_cancel_left old.journal g.more more (sym g.journal ∙ journal) in
    g.keys (subst (λ (es : List Entry). AllByRecursion LeavesKeys es) (sym same) all)

-- by the entries that the journal grew by
pub kept_keys : (lines : List (List ℕ)) (old new : Stand) (text : List ℕ) → AreSaid lines old text new → (more : List Entry) →
    new.hive.journal ≡ old.hive.journal ++ more → AllByRecursion LeavesKeys more → new.hive.keys ≡ old.hive.keys
kept_keys lines old new text h more journal all = grown-keys old.hive new.hive (lines-grow lines old new text h) more journal all

-- ---- by the places of these entries in the journal

-- each entry from a place on left the keys
abbrev pub LeaveKeysFrom : ℕ → List Entry → Type 0
LeaveKeysFrom from journal = (n : ℕ) (e : Entry) → from ≤ n → slice_get journal n ≡ Some e → LeavesKeys e

all-from : (front more : List Entry) → LeaveKeysFrom (length front) (front ++ more) → AllByRecursion LeavesKeys more
all-from front [] f = tt
all-from front (e ∷ more) f =
    let here = slice_get_read (front ++ e ∷ more) (length (front ++ e ∷ more)) (length front) e refl (omega (arith, length-append front (e ∷ more)))
    (sym (get_or-append_seam front e more e)) in
    let behind : LeaveKeysFrom (length (front ++ e ∷ [])) ((front ++ e ∷ []) ++ more) = λ n d below is.
    f n d (omega (arith, below, length-append front (e ∷ []))) (ap (λ (es : List Entry). slice_get es n) (sym (append_assoc front (e ∷ []) more)) ∙ is) in
    (f (length front) e (omega arith) here, all-from (front ++ e ∷ []) more behind)

grown-from : (old new : View) → Grows old new → LeaveKeysFrom (length old.journal) new.journal → new.keys ≡ old.keys
grown-from old new g f =
    g.keys (all-from old.journal g.more (subst (λ (es : List Entry). LeaveKeysFrom (length old.journal) es) g.journal f))

pub kept_keys_from : (lines : List (List ℕ)) (old new : Stand) (text : List ℕ) → AreSaid lines old text new →
    LeaveKeysFrom (length old.hive.journal) new.hive.journal → new.hive.keys ≡ old.hive.keys
kept_keys_from lines old new text h f = grown-from old.hive new.hive (lines-grow lines old new text h) f

-- ---- of a whole script

whole-grows : (begin : ℕ) (callbacks : Callbacks) (old new : View) (script text : List ℕ) (moment : ℕ) → LinesFrom begin callbacks old script text new moment → Grows old new
whole-grows begin callbacks old new script text moment h =
    subst (λ (v : View). Grows old v) h.2 (lines-grow (lines_of script) (begins_at begin callbacks old) h.0 text h.1)

pub script_kept_keys : (begin : ℕ) (callbacks : Callbacks) (old new : View) (script text : List ℕ) (moment : ℕ) →
    LinesFrom begin callbacks old script text new moment → (more : List Entry) → new.journal ≡ old.journal ++ more → AllByRecursion LeavesKeys more → new.keys ≡ old.keys
script_kept_keys begin callbacks old new script text moment h more journal all =
    grown-keys old new (whole-grows begin callbacks old new script text moment h) more journal all

pub script_kept_keys_from : (begin : ℕ) (callbacks : Callbacks) (old new : View) (script text : List ℕ) (moment : ℕ) →
    LinesFrom begin callbacks old script text new moment → LeaveKeysFrom (length old.journal) new.journal → new.keys ≡ old.keys
script_kept_keys_from begin callbacks old new script text moment h f = grown-from old new (whole-grows begin callbacks old new script text moment h) f
