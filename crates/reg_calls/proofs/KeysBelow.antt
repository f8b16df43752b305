-- A key with a key below it has a subkey; and the events of a key whose contents go.
use Rattle.std.proofs.Common.{◌≡◌, ℕ, Bool, true, false, cond, nat_lt, List, [], ◌∷◌, ◌++◌, length, Option, None, Some, is_some, refl, sym, ap, ◌∙◌, arith}
use Rattle.std.specs.List.{list_any}
use Rattle.std.specs.FinMap.{get, keys}
use Rattle.std.proofs.lemmas.Bool.{false≢true, true≢false}
use Rattle.std.proofs.lemmas.Bool.Decides.{nat_tests}
use Rattle.reg_heap.specs.Paths.{Path, Tree, Rec, children_of}
use Rattle.reg_heap.specs.Edits.{is_under, values_at}
use Rattle.reg_heap.specs.Trees.{IsTree}
use Rattle.reg_heap.proofs.DeletedTrees.{none-passes, all-fail}
use Rattle.reg_model.specs.declared.filters.TheConstants.{NAME, LAST_SET}
use Rattle.reg_model.specs.Watches.{Event, event_at, few_removals, cleared}
use Rattle.reg_model.proofs.FewEvents.{held-above}
use Rattle.reg_tree.proofs.PruneTree.ThinnedTrees.{none-under, bare-of}
use Rattle.reg_notify.specs.Asked.{events_in}
use Rattle.reg_notify.specs.declared.asked.Event.{Event as Asked}

none-or : (t : Tree) (q : Path) (b : Bool) → is_some (get t q) ≡ b → (is_some (get t q) ≡ true → ⊥) → get t q ≡ None
none-or t q true is lacks = absurd (lacks is)
none-or t q false is lacks = by (get t q) is
  where
    by : (o : Option Rec) → is_some o ≡ false → o ≡ None
    by None e = refl
    by (Some r) e = absurd (true≢false e)

has-below : (t : Tree) → IsTree t → (p : Path) → list_any (is_under p) (keys t) ≡ nat_lt 0 (length (children_of t p))
has-below t i p = by (children_of t p) refl
  where
    some-below : (b : Bool) → list_any (is_under p) (keys t) ≡ b → (children_of t p ≡ [] → ⊥) → list_any (is_under p) (keys t) ≡ true
    some-below true is some = is
    some-below false is some =
        absurd (some (bare-of t p (λ q under. none-or t q (is_some (get t q)) refl (λ held. false≢true (sym (none-passes t (is_under p) q is held) ∙ under)))))

    by : (paths : List Path) → children_of t p ≡ paths → list_any (is_under p) (keys t) ≡ nat_lt 0 (length paths)
    by [] e =
        all-fail t (is_under p) (λ q held. apart q held (is_under p q) refl)
        ∙ sym (grind (arith, nat_tests))
      where
        apart : (q : Path) → is_some (get t q) ≡ true → (b : Bool) → is_under p q ≡ b → is_under p q ≡ false
        apart q held true under = absurd (false≢true (sym (ap is_some (none-under t (held-above t i) p e q under)) ∙ held))
        apart q held false under = under
    by (x ∷ xs) e = some-below (list_any (is_under p) (keys t)) refl (λ none. absurd (cc)) ∙ sym (grind (arith, nat_tests))

-- the events by what is counted
pub contents-happen : (t : Tree) → IsTree t → (p : Path) (made first all : List Asked) (subkeys values : ℕ) → made ≡ [] → subkeys ≡ length (children_of t p) → values ≡ length (values_at t p) →
    events_in first ≡ events_in made ++ cond (nat_lt 0 subkeys) (event_at NAME p ∷ []) [] →
    events_in all ≡ events_in first ++ cond (nat_lt 0 values) (event_at LAST_SET p ∷ []) [] → events_in all ≡ few_removals t p ++ cleared t p
contents-happen t i p made first all subkeys values none counted valued one two =
    two
    ∙ ap (λ (es : List Event). es ++ cond (nat_lt 0 values) (event_at LAST_SET p ∷ []) []) (one ∙ ap (λ (es : List Asked). events_in es ++ cond (nat_lt 0 subkeys) (event_at NAME p ∷ []) []) none)
    ∙ ap (λ (b : Bool). cond b (event_at NAME p ∷ []) [] ++ cond (nat_lt 0 values) (event_at LAST_SET p ∷ []) []) (ap (nat_lt 0) counted ∙ sym (has-below t i p))
    ∙ ap (λ (n : ℕ). few_removals t p ++ cond (nat_lt 0 n) (event_at LAST_SET p ∷ []) []) valued
