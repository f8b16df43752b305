-- Slots and marks of texts.
use Rattle.std.proofs.Common.{◌≡◌, ℕ, ◌+◌, ◌<◌, ◌≤◌, ◌==◌, ◌&&◌, ◌||◌, Bool, true, false, cond, eqb, nat_lt, List, ◌++◌, length, take, drop, get_or, ◌-◌}
use Rattle.std.proofs.Common.{refl, sym, ap, ◌∙◌, arith}
use Rattle.std.proofs.lemmas.Bool.{eqb-true, eqb-false}
use Rattle.std.proofs.lemmas.Bool.Decides.{nat_tests}
use Rattle.std.proofs.lemmas.List.{at_drop_more, drop_all, take_all, get_or-replicate, get_or-append-add, get_or-set_same, get_or-set_other}
use Rattle.std.proofs.Math.ListN.{set, replicate, length-replicate, get_or-append, get_or-eq_default}
use Rattle.reg_notify.specs.Internal.Marks.{slot_past, slot_from, mark_in, any_from}

-- ---- byte by byte

pub slot-step : (text : List ℕ) (i slot now whole : ℕ) → i < length text → slot_from (drop i text) slot ≡ whole → now ≡ slot_past slot (get_or text i 0) →
    slot_from (drop (i + 1) text) now ≡ whole
slot-step text i slot now whole within before e =
    ap (λ (n : ℕ). slot_from (drop (i + 1) text) n) e ∙ sym (at_drop_more (λ (l : List ℕ). slot_from l slot) text i 0 within) ∙ before

pub slot-whole : (text : List ℕ) (i slot whole : ℕ) → length text ≤ i → slot_from (drop i text) slot ≡ whole → slot ≡ whole
slot-whole text i slot whole past e = sym (ap (λ (l : List ℕ). slot_from l slot) (drop_all i text past)) ∙ e

module _ (slots : List Bool) (text : List ℕ) (i slot : ℕ) (whole : Bool) (before : any_from (drop i text) slots slot ≡ whole) where
  here : i < length text → any_from (drop i text) slots slot ≡
      (get_or text i 0 == 92 && mark_in slots slot || any_from (drop (i + 1) text) slots (slot_past slot (get_or text i 0)))
  here within = at_drop_more (λ (l : List ℕ). any_from l slots slot) text i 0 within

  -- there is a mark before the byte
  pub any-found : i < length text → (has : Bool) → has ≡ (get_or text i 0 == 92 && mark_in slots slot) → has ≡ true → true ≡ whole
  any-found within has is found = sym (ap (λ (b : Bool). b || any_from (drop (i + 1) text) slots (slot_past slot (get_or text i 0))) (sym is ∙ found)) ∙ sym
      (here within) ∙ before

  -- there is none
  pub any-step : (now : ℕ) → i < length text → (has : Bool) → has ≡ (get_or text i 0 == 92 && mark_in slots slot) → has ≡ false → now ≡ slot_past slot
      (get_or text i 0) →
      any_from (drop (i + 1) text) slots now ≡ whole
  any-step now within has is none e =
      ap (λ (n : ℕ). any_from (drop (i + 1) text) slots n) e
      ∙ sym (ap (λ (b : Bool). b || any_from (drop (i + 1) text) slots (slot_past slot (get_or text i 0))) (sym is ∙ none)) ∙ sym (here within) ∙ before

  pub any-whole : length text ≤ i → mark_in slots slot ≡ whole
  any-whole past = sym (ap (λ (l : List ℕ). any_from l slots slot) (drop_all i text past)) ∙ before

-- ---- marks that stay

none-new : (n slot : ℕ) → get_or (replicate n false) slot false ≡ false
none-new n slot = by (nat_lt slot n) refl
  where
    by : (b : Bool) → nat_lt slot n ≡ b → get_or (replicate n false) slot false ≡ false
    by true e = get_or-replicate n slot false false (grind (arith, nat_tests, e))
    by false e =
        let long = length-replicate n false in
        let past : n ≤ slot = grind (arith, nat_tests, e) in
        get_or-eq_default (replicate n false) false (omega (arith, long, past))

longer : (old : List Bool) (n slot : ℕ) → mark_in (old ++ replicate n false) slot ≡ mark_in old slot
longer old n slot = by (nat_lt slot (length old)) refl
  where
    by : (b : Bool) → nat_lt slot (length old) ≡ b → mark_in (old ++ replicate n false) slot ≡ mark_in old slot
    by true e = get_or-append old (replicate n false) false slot (grind (arith, nat_tests, e))
    by false e =
        let past : length old ≤ slot = grind (arith, nat_tests, e) in
        let place : slot ≡ length old + (slot - length old) = omega (arith, past) in
        ap (λ (k : ℕ). mark_in (old ++ replicate n false) k) place ∙ get_or-append-add old (replicate n false) (slot - length old) false ∙ none-new n
        (slot - length old)
        ∙ sym (get_or-eq_default old false past)

-- where all marks have room, those that were there say what they said
pub same-marks : (made : Bool) (old now : List Bool) (limit n : ℕ) → length old < limit → now ≡ cond made (take limit old ++ replicate n false) old →
    (slot : ℕ) → mark_in now slot ≡ mark_in old slot
same-marks false old now limit n less is slot = ap (λ (l : List Bool). mark_in l slot) is
same-marks true old now limit n less is slot =
    ap (λ (l : List Bool). mark_in l slot) (is ∙ ap (λ (l : List Bool). l ++ replicate n false) (take_all limit old (omega (arith, less)))) ∙ longer old n slot

-- ---- a mark set

pub set-here : (was : List Bool) (slot : ℕ) → slot < length was → mark_in (set was slot true) slot ≡ true
set-here was slot within = get_or-set_same was slot true false within

pub set-kept : (was : List Bool) (slot other : ℕ) → slot < length was → mark_in was other ≡ true → mark_in (set was slot true) other ≡ true
set-kept was slot other within marked = by (eqb other slot) refl
  where
    by : (b : Bool) → eqb other slot ≡ b → mark_in (set was slot true) other ≡ true
    by true e = ap (mark_in (set was slot true)) (eqb-true other slot e) ∙ set-here was slot within
    by false e = get_or-set_other was slot other true false (eqb-false other slot e) ∙ marked
