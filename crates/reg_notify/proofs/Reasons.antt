-- Why rows end, by the model's words.
use Rattle.std.proofs.Common.{◌≡◌, ℕ, ◌<◌, ◌≤◌, ◌%◌, ◌^◌, Bool, true, false, not, cond, ◌==◌, ◌&&◌, ◌||◌, nat_le, List, [], ◌∷◌, Some, None, refl, ap, ◌∙◌}
use Rattle.std.proofs.Common.{arith, bit_and}
use Rattle.std.specs.List.{AllByRecursion, list_any}
use Rattle.std.specs.Int.Bits.{mask_lt}
use Rattle.std.specs.Int.{to_be_bytes, w64}
use Rattle.std.proofs.lemmas.Cmp.{eq_by_cmp_equiv}
use Rattle.std.proofs.lemmas.Bool.Decides.{nat_tests}
use Rattle.std.proofs.lemmas.Nat.{and_assoc, and_comm, and_mask}
use Rattle.reg_heap.specs.Paths.{Path}
use Rattle.reg_heap.specs.Edits.{is_within, is_under}
use Rattle.reg_model.specs.Worlds.{same_path}
use Rattle.reg_model.specs.Watches.{is_hit, event_at, reason}
use Rattle.reg_model.specs.declared.notice.Reason.TheVariants.{Matched, Gone, Closed}
use Rattle.reg_notify.specs.Asked.{events_in, ending_by, closing_by}
use Rattle.reg_notify.specs.declared.asked.Event.{Event}
use Rattle.reg_notify.specs.declared.asked.Removed.{Removed}
use Rattle.reg_notify.specs.declared.table.Row.{Row}
use Rattle.reg_notify.specs.Internal.Firing.{if_passes, then_why, first_of}
use Rattle.reg_notify.specs.Internal.Hits.{is_event_hit, any_event, is_gone}
use Rattle.reg_model.specs.Internal.TextNumbers.{goes_on}
use Rattle.reg_notify.specs.Internal.Keys.{class_of, is_met}
use Rattle.reg_notify.specs.Internal.Rows.{watch_at, holder_of, IsRow}
use Rattle.reg_notify.proofs.KeyTexts.{of-handle}
use Rattle.reg_notify.proofs.Removals.{within-parts}
use Rattle.reg_notify.proofs.TextKeys.{path_total}

-- ---- the kinds of an event

kinds-kept : (filter bits : ℕ) → bits ≤ 15 → bit_and (bit_and filter 15) bits ≡ bit_and filter bits
kinds-kept filter bits small =
    and_assoc bits filter 15 ∙ ap (bit_and filter) (and_comm 15 bits ∙ and_mask bits 4 ∙ below bits small)
  where
    below : (b : ℕ) → b ≤ 15 → b % 16 ≡ b
    below b l = omega (arith, l)

class-kinds : (filter : ℕ) (subtree : Bool) → class_of filter subtree % 16 ≡ bit_and filter 15
class-kinds filter true = let l = mask_lt filter 4 in omega (arith, l)
class-kinds filter false = let l = mask_lt filter 4 in omega (arith, l)

class-below : (filter : ℕ) (subtree : Bool) → nat_le 16 (class_of filter subtree) ≡ subtree
class-below filter true = grind (arith, nat_tests)
class-below filter false = let l = mask_lt filter 4 in grind (arith, nat_tests, l)

met-is : (filter bits : ℕ) (subtree itself : Bool) → bits ≤ 15 →
    is_met bits itself (class_of filter subtree) ≡ (not (bit_and filter bits == 0) && (itself || subtree))
met-is filter bits subtree itself small =
    rw (class-kinds filter subtree, class-below filter subtree, kinds-kept filter bits small) refl

-- ---- an event hits a row where it hits its watch

same-flip : (p q : Path) → same_path p q ≡ same_path q p
same-flip p q = (eq_by_cmp_equiv path_total).symm p q

bools : (hit same under below : Bool) → (same && (hit && true) || under && (hit && below)) ≡ (hit && (same || below && (same || under)))
bools true true true true = refl
bools true true true false = refl
bools true true false true = refl
bools true true false false = refl
bools true false true true = refl
bools true false true false = refl
bools true false false true = refl
bools true false false false = refl
bools false true true below = refl
bools false true false below = refl
bools false false true below = refl
bools false false false below = refl

hit-is : (e : ℕ × Row) (p : Path) (bits : ℕ) → bits ≤ 15 → is_event_hit p bits e ≡ is_hit (watch_at e) (event_at bits p)
hit-is e p bits small =
    ap (λ (m : Bool). same_path e.1.place p && m || is_under e.1.place p && is_met bits false (class_of e.1.filter e.1.subtree))
    (met-is e.1.filter bits e.1.subtree true small)
    ∙ ap (λ (m : Bool). same_path e.1.place p && (not (bit_and e.1.filter bits == 0) && true) || is_under e.1.place p && m)
    (met-is e.1.filter bits e.1.subtree false small)
    ∙ bools (not (bit_and e.1.filter bits == 0)) (same_path e.1.place p) (is_under e.1.place p) e.1.subtree
    ∙ ap (λ (w : Bool). not (bit_and e.1.filter bits == 0) && (same_path e.1.place p || e.1.subtree && w)) within
  where
    within : (same_path e.1.place p || is_under e.1.place p) ≡ is_within e.1.place p
    within = ap (λ (s : Bool). s || is_under e.1.place p) (same-flip e.1.place p) ∙ within-parts e.1.place p

any-is : (e : ℕ × Row) (events : List Event) → AllByRecursion (λ (x : Event). x.bits ≤ 15) events → any_event events e ≡ list_any (is_hit (watch_at e))
    (events_in events)
any-is e [] small = refl
any-is e (x ∷ xs) small = ap (λ (b : Bool). b || any_event xs e) (hit-is e x.place x.bits small.0) ∙ ap
    (λ (b : Bool). is_hit (watch_at e) (event_at x.bits x.place) || b) (any-is e xs small.1)

-- ---- why a row ends

first-is : (gone hit : Bool) → first_of (cond gone (Some Gone) None) (cond hit (Some Matched) None) ≡ cond gone (Some Gone) (cond hit (Some Matched) None)
first-is true hit = refl
first-is false hit = refl

-- by events and removed keys
pub fire-why : (events : List Event) (removed : Removed) (by : ℕ) → AllByRecursion (λ (x : Event). x.bits ≤ 15) events → (e : ℕ × Row) →
    then_why (if_passes (is_gone removed) Gone) (if_passes (any_event events) Matched) e ≡ reason (ending_by events removed by) (watch_at e)
unfolding reason
fire-why events removed by small e =
    ap (λ (b : Bool). first_of (cond (is_gone removed e) (Some Gone) None) (cond b (Some Matched) None)) (any-is e events small)
    ∙ first-is (is_gone removed e) (list_any (is_hit (watch_at e)) (events_in events))

-- by a handle that is closed
pub drop-why : (handle by : ℕ) → handle < 2 ^ 64 → (n : ℕ) (r : Row) → IsRow n r →
    if_passes (λ (e : ℕ × Row). goes_on (to_be_bytes w64 handle) (holder_of e.0 e.1)) Closed (n, r) ≡ reason (closing_by handle by) (watch_at (n, r))
unfolding reason
drop-why handle by small n r fit = ap (λ (b : Bool). cond b (Some Closed) None) (of-handle handle r.handle n small fit.handle)
