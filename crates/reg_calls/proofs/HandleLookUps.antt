-- What a look-up by a handle finds.
use Rattle.std.proofs.Common.{◌≡◌, ◌==◌, ℕ, Bool, true, false, cond, List, [], ◌++◌, map, Option, Some, None, refl, sym, ap, ◌∙◌, subst}
use Rattle.std.proofs.lemmas.List.{append-nil, map-append}
use Rattle.std.proofs.lemmas.Option.{none-some, same_Some}
use Rattle.std.specs.Prelude.{Result, Ok, Err, IfOk, IfSome}
use Rattle.reg_names.specs.Names.{folded, path_of}
use Rattle.reg_names.proofs.FoldingLemmas.{names-again}
use Rattle.reg_heap.specs.Paths.{Path}
use Rattle.reg_heap.specs.Edits.{folded_path}
use Rattle.reg_model.specs.Worlds.{Handle, At, IsStanding, look, numbered, owned, path_at, path_from}
use Rattle.reg_model.specs.Causes.{by_handle}
use Rattle.reg_model.proofs.HandleInvariant.{Has, target-there}
use Rattle.reg_tree.specs.TreeKeys.{IsAt}
use Rattle.reg_tree.specs.declared.node.Node.{Node}
use Rattle.reg_handles.specs.HandleTables.{payload_on, IsFoldedPath, IsLeadingTo}
use Rattle.reg_handles.specs.FoundHandles.{destination_shown, IfLeads, HasPayload}
use Rattle.reg_handles.specs.declared.keys.Target.{Target}
use Rattle.reg_handles.specs.declared.handles.Found.{Found}
use Rattle.reg_calls.specs.declared.store.Store.{Store}
use Rattle.reg_calls.specs.Internal.Stores.{IsTarget, KnowsKeys}

abbrev handle_of : ℕ → ℕ → Found Node → Handle
handle_of session number f = record { number = number; session = session; mask = f.mask; destination = destination_shown f.target }

-- a handle with a path leads to the key at it
abbrev pub lent : (store : Store) (session number : ℕ) (f : Found Node) (target : Target Node) →
    Some (handle_of session number f) ≡ look session number store.handles.handles → f.target ≡ Some target → IsTarget store session number
lent store session number f target e is =
    record { handle = handle_of session number f; path = path_of target.path.now; found = sym e; destination = ap destination_shown is }

-- it comes with that key's node
pub lent-node : (store : Store) (f : Found Node) (target : Target Node) → KnowsKeys store → HasPayload store.handles (Some f) → f.target ≡ Some target →
    IsAt store.tree (path_of target.path.now) target.payload
lent-node store f target known has is =
    known target.path.now target.payload (subst (λ (o : Option (Target Node)). IfSome o (λ t. payload_on store.handles t.path.now ≡ Some t.payload)) is has)

-- and with a path's text
pub lent-text : (f : Found Node) (target : Target Node) → IfLeads (Some f) IsFoldedPath → f.target ≡ Some target → IsFoldedPath target.path.now
lent-text f target text is = subst (λ (o : Option (Target Node)). IfSome o (λ t. IsFoldedPath t.path.now)) is text

-- the key of a target is there
pub target-has : (store : Store) (session number : ℕ) (t : IsTarget store session number) → IsStanding store.tree.tree store.handles.handles → Has store.tree.tree t.path
target-has store session number t s = target-there store.tree.tree session number store.handles.handles t.handle t.path t.found t.destination s

-- the path that a handle's number leads to
pub target-at : (store : Store) (session number : ℕ) (t : IsTarget store session number) → path_at session number store.handles.handles ≡ t.path
target-at store session number t = rw (t.found, t.destination) refl

pub target-from : (store : Store) (session number : ℕ) (t : IsTarget store session number) (text : List ℕ) → path_from session number store.handles.handles text ≡ t.path ++ folded_path text
target-from store session number t text = ap (λ (p : Path). p ++ folded_path text) (target-at store session number t)

-- the empty path from it leads there
pub target-own : (store : Store) (session number : ℕ) (t : IsTarget store session number) (text : List ℕ) → text ≡ [] → t.path ≡ path_from session number store.handles.handles text
target-own store session number t text empty =
    sym (target-from store session number t text ∙ (ap (λ (x : List ℕ). t.path ++ folded_path x) empty ∙ append-nil t.path))

-- its handle leads there, whosever it is
pub target-leads : (store : Store) (session number : ℕ) (t : IsTarget store session number) → IsLeadingTo t.path (numbered number store.handles.handles)
target-leads store session number t = by (numbered number store.handles.handles) t.found
  where
    one : (h : Handle) (b : Bool) → cond b (Some h) None ≡ Some t.handle → h ≡ t.handle
    one h true e = same_Some _ _ e
    one h false e = absurd (none-some _ e)

    by : (o : Option Handle) → owned session o ≡ Some t.handle → IsLeadingTo t.path o
    by None e = absurd (none-some _ e)
    by (Some h) e = ap (λ (x : Handle). x.destination) (one h (h.session == session) e) ∙ t.destination

-- what its handle's causes are is what they are of the handle that it is
pub by_handle-at : (store : Store) (session number : ℕ) (t : IsTarget store session number) (f : Handle → Option ℕ) → by_handle f (look session number store.handles.handles) ≡ f t.handle
by_handle-at store session number t f = ap (by_handle f) t.found ∙ by_destination t.handle t.destination
  where
    by_destination : (h : Handle) → h.destination ≡ At t.path → by_handle f (Some h) ≡ f h
    by_destination h e = rw e refl

pub if_ok : {A E : Type 0} (P Q : A → Type 0) → ((a : A) → P a → Q a) → (r : Result A E) → IfOk r P → IfOk r Q
if_ok P Q f (Ok a) p = f a p
if_ok P Q f (Err e) p = p

-- names joined after folding stay when they are folded again
pub joined-folded : (names a b : List (List ℕ)) → names ≡ map folded a ++ map folded b → map folded names ≡ names
joined-folded names a b e = ap (map folded) e ∙ map-append folded (map folded a) (map folded b) ∙ rw (names-again a, names-again b) (sym e)
