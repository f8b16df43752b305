-- Rows whose keys are marked.
use Rattle.std.proofs.Common.{◌≡◌, ℕ, ◌&&◌, ◌||◌, Bool, true, false, cond, List, [], ◌∷◌, ◌++◌, refl, sym, ap, ◌∙◌}
use Rattle.std.specs.List.{AllByRecursion}
use Rattle.std.specs.Map.{remove_entry}
use Rattle.std.proofs.lemmas.Bool.{false≢true}
use Rattle.std.proofs.lemmas.List.{append-nil}
use Rattle.reg_heap.specs.Paths.{Path}
use Rattle.reg_heap.specs.Edits.{is_under}
use Rattle.reg_heap.proofs.ChildrenOfPath.{path-is}
use Rattle.reg_heap.proofs.DeletedTrees.{under-rest}
use Rattle.reg_model.proofs.AcceptedCalls.{both_false}
use Rattle.reg_model.specs.Worlds.{same_path}
use Rattle.reg_model.specs.declared.notice.Reason.TheVariants.{Matched}
use Rattle.reg_notify.specs.declared.table.Row.{Row}
use Rattle.reg_notify.specs.declared.table.Table.{Table}
use Rattle.reg_notify.specs.Internal.Keys.{lead_of, is_met, class_of}
use Rattle.reg_notify.specs.Internal.Marks.{slot_past, slot_from, mark_in, is_marked, any_from, AreMarked}
use Rattle.reg_notify.specs.Internal.Hits.{hit_itself, hit_above, is_event_hit}
use Rattle.reg_notify.specs.Internal.Firing.{if_passes}
use Rattle.reg_notify.specs.Internal.States.{IsReady, Ends}
use Rattle.reg_notify.proofs.KeyTexts.{lead-append}
use Rattle.reg_notify.proofs.EndsSteps.{ends-test, ends-never}

-- ---- rows that come and go

pub marks-less : (slots : List Bool) (test : ℕ → Bool) (es : List (ℕ × Row)) → AreMarked slots es → AreMarked slots (remove_entry test es)
marks-less slots test [] all = tt
marks-less slots test (e ∷ es) all = by (test e.0) (marks-less slots test es all.1)
  where
    by : (b : Bool) → AreMarked slots (remove_entry test es) → AreMarked slots (cond b es (e ∷ remove_entry test es))
    by true rest = all.1
    by false rest = (all.0, rest)

pub marks-more : (slots : List Bool) (n : ℕ) (r : Row) (es : List (ℕ × Row)) → AreMarked slots es → is_marked slots (lead_of r.place) ≡ true → AreMarked slots
    (es ++ (n, r) ∷ [])
marks-more slots n r [] all one = (one, tt)
marks-more slots n r (e ∷ es) all one = (all.0, marks-more slots n r es all.1 one)

pub marks-kept : (slots slots' : List Bool) → ((other : List ℕ) → is_marked slots other ≡ true → is_marked slots' other ≡ true) → (es : List (ℕ × Row)) →
    AreMarked slots es → AreMarked slots' es
marks-kept slots slots' kept [] all = tt
marks-kept slots slots' kept (e ∷ es) all = (kept (lead_of e.1.place) all.0, marks-kept slots slots' kept es all.1)

-- ---- a key without marks, and above it

no-front : (front : List ℕ) (rest : Path) (slots : List Bool) (slot : ℕ) → any_from (front ++ lead_of rest) slots slot ≡ false → mark_in slots
    (slot_from front slot) ≡ false
no-front [] [] slots slot none = none
no-front [] (name ∷ names) slots slot none = (both_false (mark_in slots slot) _ none).0
no-front (b ∷ bs) rest slots slot none = no-front bs rest slots (slot_past slot b) (both_false _ _ none).1

module _ (slots : List Bool) (p : Path) (bits : ℕ) (none : any_from (lead_of p) slots 0 ≡ false) where
  -- a marked key is no front of it
  no-within : (q rest : Path) → is_marked slots (lead_of q) ≡ true → p ≡ q ++ rest → ⊥
  no-within q rest marked is =
      let front = no-front (lead_of q) rest slots 0 (ap (λ (l : List ℕ). any_from l slots 0) (sym (lead-append q rest) ∙ sym (ap lead_of is)) ∙ none) in
      false≢true (sym front ∙ marked)

  not-itself : (q : Path) (met : Bool) → is_marked slots (lead_of q) ≡ true → (b : Bool) → same_path q p ≡ b → (b && met) ≡ false
  not-itself q met marked false e = refl
  not-itself q met marked true e = absurd (no-within q [] marked (sym (path-is q p e) ∙ sym (append-nil q)))

  not-above : (q : Path) (met : Bool) → is_marked slots (lead_of q) ≡ true → (b : Bool) → is_under q p ≡ b → (b && met) ≡ false
  not-above q met marked false e = refl
  not-above q met marked true e = let r = under-rest q p e in absurd (no-within q (r.0 ∷ r.1) marked r.2)

  not-hit : (e : ℕ × Row) → is_marked slots (lead_of e.1.place) ≡ true → false ≡ is_event_hit p bits e
  not-hit e marked =
      let itself : hit_itself p bits e ≡ false = not-itself e.1.place (is_met bits true (class_of e.1.filter e.1.subtree)) marked (same_path e.1.place p) refl in
      let above : hit_above p bits e ≡ false = not-above e.1.place (is_met bits false (class_of e.1.filter e.1.subtree)) marked (is_under e.1.place p) refl in
      sym (ap (λ (b : Bool). b || hit_above p bits e) itself ∙ above)

  not-hits : (es : List (ℕ × Row)) → AreMarked slots es → AllByRecursion (λ (e : ℕ × Row). false ≡ is_event_hit p bits e) es
  not-hits [] all = tt
  not-hits (e ∷ es) all = (not-hit e all.0, not-hits es all.1)

-- an event there ends nothing
pub none-marked : (by bits : ℕ) (p : Path) (text : List ℕ) (t : Table) → IsReady t → text ≡ lead_of p → any_from text t.marks.slots.items 0 ≡ false → Ends by
    (if_passes (is_event_hit p bits) Matched) t t
none-marked by bits p text t ready is none =
    ends-test by (λ (e : ℕ × Row). false) (is_event_hit p bits) Matched t t
    (not-hits t.marks.slots.items p bits (ap (λ (l : List ℕ). any_from l t.marks.slots.items 0) (sym is) ∙ none) t.rows.entries ready.marks)
    (ends-never by (λ (e : ℕ × Row). false) Matched t ready (λ e. refl))
