-- Where handles lead: after an accepted change to no key that they didn't lead to before.
use Rattle.std.proofs.Common.{◌≡◌, ℕ, ◌<◌, Bool, true, false, not, cond, eqb, List, [], ◌∷◌, ◌++◌, length, Option, Some, None, refl, sym, ap, ◌∙◌, subst, arith}
use Rattle.std.specs.Prelude.{◌==◌, option_map}
use Rattle.std.proofs.lemmas.Bool.{ne_eqb, eqb-true}
use Rattle.std.proofs.lemmas.List.Elements.{recursion_from_All}
use Rattle.reg_heap.specs.Paths.{Path}
use Rattle.reg_heap.specs.Edits.{is_within, is_under}
use Rattle.reg_model.specs.Worlds.{World, Handle, Destination, At, Deleted, numbered, path_at, path_from, path_in, opened, closed, destination_past, turned_past}
use Rattle.reg_model.specs.Worlds.{same_path, without_branch, without_contents, after}
use Rattle.reg_model.specs.declared.reply.Entry.{Entry}
use Rattle.reg_model.specs.declared.call.Change.{Change}
use Rattle.reg_model.specs.declared.call.Change.TheVariants.{OpenRoot, OpenKey, CreateKey, SetValue, DeleteValue, DeleteKey, DeleteTree, SetSecurity, Notify, Close}
use Rattle.reg_model.proofs.HandlesUntilClosed.{found, numbered-more, numbered-others, numbered-turned, turned_one, numbered-below}
use Rattle.reg_calls.specs.declared.store.Store.{Store}
use Rattle.reg_calls.specs.Internal.Stores.{IsReady, IsTarget}
use Rattle.reg_calls.specs.Internal.QuietKeys.{LeadsTo}
use Rattle.reg_calls.specs.declared.store.JournalEnd.{JournalEnd}
use Rattle.reg_calls.proofs.HandleLookUps.{target-at}

-- the same look-up
lead-same : (hs hs' : List Handle) (n : ℕ) (p : Path) → numbered n hs' ≡ numbered n hs → LeadsTo hs' n p → LeadsTo hs n p
lead-same hs hs' n p same l = record { handle = l.handle; found = sym same ∙ l.found; destination = l.destination }

no-handle : {A : Type 0} (h : Handle) → ◌≡◌ {A = Option Handle} None (Some h) → A
no-handle h e = absurd (cc)

one-handle : (a b : Handle) → ◌≡◌ {A = Option Handle} (Some a) (Some b) → a ≡ b
one-handle a b e = cc

-- where keys are gone
lead-turned : (gone : Path → Bool) (hs : List Handle) (n : ℕ) (p : Path) → LeadsTo (turned_past gone hs) n p → LeadsTo hs n p
lead-turned gone hs n p l = by (numbered n hs) refl (sym (numbered-turned n gone hs) ∙ l.found)
  where
    led : (d : Destination) → destination_past gone d ≡ At p → d ≡ At p
    led (At q) e = stood (gone q) e
      where
        stood : (b : Bool) → cond b Deleted (At q) ≡ At p → At q ≡ At p
        stood true e = absurd (cc)
        stood false e = e
    led Deleted e = e

    by : (o : Option Handle) → numbered n hs ≡ o → option_map (turned_one gone) o ≡ Some l.handle → LeadsTo hs n p
    by None is e = no-handle l.handle e
    by (Some h) is e = record {
      handle = h;
      found = is;
      destination = led h.destination (ap (λ (x : Handle). x.destination) (one-handle (turned_one gone h) l.handle e) ∙ l.destination);
    }

-- where a handle was closed
closed-none : (n : ℕ) (hs : List Handle) → numbered n (closed n hs) ≡ None
closed-none n [] = refl
closed-none n (x ∷ hs) = by (eqb x.number n) refl (closed-none n hs)
  where
    by : (b : Bool) → eqb x.number n ≡ b → numbered n (closed n hs) ≡ None → numbered n (cond (not b) (x ∷ closed n hs) (closed n hs)) ≡ None
    by true e rest = rest
    by false e rest = rw (e, rest) refl

lead-closed : (k : ℕ) (hs : List Handle) (n : ℕ) (p : Path) → LeadsTo (closed k hs) n p → LeadsTo hs n p
lead-closed k hs n p l = by (eqb n k) refl
  where
    by : (b : Bool) → eqb n k ≡ b → LeadsTo hs n p
    by true e =
        let none = subst (λ (m : ℕ). numbered n (closed m hs) ≡ None) (eqb-true n k e) (closed-none n hs) in
        no-handle l.handle (sym none ∙ l.found)
    by false e = lead-same hs (closed k hs) n p (numbered-others n k hs e) l

pub lead-before : (w : World) (e : Entry) (n : ℕ) (p : Path) → n < e.number → LeadsTo (after w e).handles n p → LeadsTo w.handles n p
unfolding after
lead-before w e n p below = elim e.change as (λ (change : Change). LeadsTo (after w (record e { change = change })).handles n p → LeadsTo w.handles n p) [
  | OpenRoot mask ↦ pushed (opened e [] mask) refl
  | OpenKey k path mask ↦ pushed (opened e (path_from e.session k w.handles path) mask) refl
  | CreateKey k path mask given ↦ pushed (opened e (path_from e.session k w.handles path) mask) refl
  | SetValue k name kind bytes ↦ λ l. l
  | DeleteValue k name ↦ λ l. l
  | DeleteKey k path ↦ lead-turned (λ (q : Path). same_path q (path_from e.session k w.handles path)) w.handles n p
  | DeleteTree k path ↦ in-tree k path (length path == 0)
  | SetSecurity k descriptor ↦ λ l. l
  | Notify k filter subtree ↦ λ l. l
  | Close k ↦ lead-closed k w.handles n p
]
  where
    pushed : (new : Handle) → new.number ≡ e.number → LeadsTo (w.handles ++ new ∷ []) n p → LeadsTo w.handles n p
    pushed new is = lead-same w.handles (w.handles ++ new ∷ []) n p (numbered-more n new w.handles (ne_eqb new.number n (λ same. omega (arith, below, is, same))))

    in-tree : (k : ℕ) (path : List ℕ) (b : Bool) →
        LeadsTo (World.handles (cond b (without_contents w (path_at e.session k w.handles) e.moment) (without_branch w (path_from e.session k w.handles path) e.moment))) n p →
        LeadsTo w.handles n p
    in-tree k path true = lead-turned (is_under (path_at e.session k w.handles)) w.handles n p
    in-tree k path false = lead-turned (is_within (path_from e.session k w.handles path)) w.handles n p

-- ---- the handle of a change

module _ (n : JournalEnd) (store : Store) (session h : ℕ) (t : IsTarget store session h) where
  target-leads : LeadsTo store.handles.handles h t.path
  target-leads = record { handle = t.handle; found = (found session h store.handles.handles t.handle t.found).number; destination = t.destination }

  -- it leads where it is found to
  pub leads-here : LeadsTo store.handles.handles h (path_at session h store.handles.handles)
  leads-here = subst (LeadsTo store.handles.handles h) (sym (target-at store session h t)) target-leads

  pub path-led : (p : Path) → LeadsTo store.handles.handles h p → p ≡ path_at session h store.handles.handles
  unfolding target-leads
  path-led p l =
      let same = one-handle l.handle t.handle (sym l.found ∙ target-leads.found) in
      ap path_in (sym l.destination ∙ ap (λ (x : Handle). x.destination) same ∙ t.destination) ∙ sym (target-at store session h t)

  -- and is older than the next entry
  pub opened-before : IsReady n store → h < n.next
  unfolding target-leads
  opened-before ready =
      numbered-below h n.next store.handles.handles t.handle (recursion_from_All (λ (x : Handle). x.number < n.next) store.handles.handles ready.below) target-leads.found
