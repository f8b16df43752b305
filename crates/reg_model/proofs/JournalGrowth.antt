-- A journal with one more entry.
use Rattle.std.proofs.Common.{◌≡◌, ℕ, List, [], ◌∷◌, ◌++◌, filter, Option, Some, None, refl, sym, ap, ◌∙◌, append_assoc, subst, arith}
use Rattle.std.specs.Prelude.{option_to_list}
use Rattle.std.proofs.lemmas.List.{append-nil}
use Rattle.std.proofs.lemmas.List.Elements.{filter-append}
use Rattle.std.proofs.lemmas.List.Folds.{list_all-append}
use Rattle.reg_heap.specs.Paths.{Tree}
use Rattle.reg_model.specs.Worlds.{World, after}
use Rattle.reg_model.specs.Watches.{Watch, ending, watch_of, stays, pending_past, notices}
use Rattle.reg_model.specs.Histories.{replay_from, replay, opening, IsFit, IsLegalAfter, IsLegal}
use Rattle.reg_model.specs.Histories.{Met, mets_from, mets, end_of, asked_by, unless_ended, pending_of, pending, fired_after, fired}
use Rattle.reg_model.specs.declared.reply.Entry.{Entry}

replay_from-push : (w : World) (es : List Entry) (e : Entry) → replay_from w (es ++ e ∷ []) ≡ after (replay_from w es) e
replay_from-push w [] e = refl
replay_from-push w (x ∷ es) e = replay_from-push (after w x) es e

-- the world after one more entry is the world before, changed by it
pub replay-push : (origin : Tree) (es : List Entry) (e : Entry) → replay origin (es ++ e ∷ []) ≡ after (replay origin es) e
replay-push origin es e = replay_from-push (opening origin) es e

legal_after-push : (base : ℕ) (origin : Tree) (past es : List Entry) (e : Entry) → IsLegalAfter base origin past es → IsFit base origin (past ++ es) e → IsLegalAfter base origin past (es ++ e ∷ [])
legal_after-push base origin past [] e l f = let P : List Entry → Type 0 = λ p. IsFit base origin p e in (subst P (append-nil past) f, tt)
legal_after-push base origin past (x ∷ es) e l f =
    let P : List Entry → Type 0 = λ p. IsFit base origin p e in
    (l.0, legal_after-push base origin (past ++ x ∷ []) es e l.1 (subst P (sym (append_assoc past (x ∷ []) es)) f))

-- a legal journal with a fit entry more is legal
pub legal-push : (base : ℕ) (origin : Tree) (es : List Entry) (e : Entry) → IsLegal base origin es → IsFit base origin es e → IsLegal base origin (es ++ e ∷ [])
legal-push base origin es e l f = legal_after-push base origin [] es e l f

-- ---- notifications

mets_from-push : (w : World) (es : List Entry) (e : Entry) → mets_from w (es ++ e ∷ []) ≡ mets_from w es ++ record { world = replay_from w es; entry = e } ∷ []
mets_from-push w [] e = refl
mets_from-push w (x ∷ es) e = ap (λ (rest : List Met). record { world = w; entry = x } ∷ rest) (mets_from-push (after w x) es e)

unless_ended-push : (v : Option Watch) (later : List Met) (m : Met) → unless_ended v (later ++ m ∷ []) ≡ filter (stays (end_of m)) (unless_ended v later)
unless_ended-push None later m = refl
unless_ended-push (Some v) later m = grind (arith, list_all-append (λ (x : Met). stays (end_of x) v) later (m ∷ []))

unless_ended-none : (v : Option Watch) → unless_ended v [] ++ [] ≡ option_to_list v
unless_ended-none None = refl
unless_ended-none (Some v) = refl

pub pending_of-push : (past : List Met) (m : Met) → pending_of (past ++ m ∷ []) ≡ pending_past (end_of m) (asked_by m) (pending_of past)
pending_of-push [] m = unless_ended-none (asked_by m)
pending_of-push (x ∷ past) m =
    grind (arith, pending_of-push past m, unless_ended-push (asked_by x) past m, filter-append (stays (end_of m)) (unless_ended (asked_by x) past) (pending_of past), append_assoc)

fired_after-push : (s : ℕ) (past so_far : List Met) (m : Met) →
    fired_after s past (so_far ++ m ∷ []) ≡ fired_after s past so_far ++ notices s (end_of m) (pending_of (past ++ so_far))
fired_after-push s past [] m =
    append-nil (notices s (end_of m) (pending_of past)) ∙ ap (λ (before : List Met). notices s (end_of m) (pending_of before)) (sym (append-nil past))
fired_after-push s past (x ∷ more) m =
    let rest = fired_after-push s (past ++ x ∷ []) more m in
    let joined = append_assoc past (x ∷ []) more in
    let told = ap (λ (before : List Met). notices s (end_of m) (pending_of before)) joined in
    let split = append_assoc (notices s (end_of x) (pending_of past)) (fired_after s (past ++ x ∷ []) more) (notices s (end_of m) (pending_of (past ++ x ∷ more))) in
    cc

-- an entry with the world that a journal leaves
abbrev pub met : Tree → List Entry → Entry → Met
met origin es e = record { world = replay origin es; entry = e }

-- one more entry ends some of the pending watches, and adds the one that it asks for
pub pending-push : (origin : Tree) (es : List Entry) (e : Entry) →
    pending origin (es ++ e ∷ []) ≡ pending_past (ending (replay origin es) e) (watch_of (replay origin es) e) (pending origin es)
pending-push origin es e = ap pending_of (mets_from-push (opening origin) es e) ∙ pending_of-push (mets origin es) (met origin es e)

-- and what it tells is appended
pub fired-push : (origin : Tree) (es : List Entry) (e : Entry) (session : ℕ) →
    fired origin (es ++ e ∷ []) session ≡ fired origin es session ++ notices session (ending (replay origin es) e) (pending origin es)
fired-push origin es e session =
    ap (fired_after session []) (mets_from-push (opening origin) es e) ∙ fired_after-push session [] (mets origin es) (met origin es e)
