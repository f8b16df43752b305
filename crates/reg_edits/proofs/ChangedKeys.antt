-- Whether a call of a journal may have changed a key, looked for by the numbers of its entries, from 0 on.
use Rattle.std.proofs.Common.{◌≡◌, ◌∙◌, ◌+◌, ◌-◌, ◌<◌, ◌≤◌, ℕ, zero, suc, Bool, true, false, nat_lt, List, [], ◌∷◌, length, take, get_or, ap, sym, refl, arith}
use Rattle.std.specs.Prelude.{Option, Some, None, ◌||◌, if◌then◌else◌}
use Rattle.std.specs.List.{slice_get}
use Rattle.std.proofs.lemmas.Bool.Decides.{nat_tests}
use Rattle.std.proofs.lemmas.List.{take_all}
use Rattle.std.proofs.lemmas.List.Folds.{list_any_more, list_any_at}
use Rattle.std.proofs.lemmas.Option.{slice_get_within, get_or_from_slice_get}
use Rattle.reg_model.specs.Calls.{changes_keys}
use Rattle.reg_model.specs.declared.reply.Entry.{Entry}
use Rattle.reg_edits.specs.Edits.{are_changed}

abbrev may-change : Entry → Bool
may-change e = changes_keys e.change e.reply

-- ---- by places

module _ (journal : List Entry) (n : ℕ) (e : Entry) (there : slice_get journal n ≡ Some e) where
  -- none of those so far may, nor does the next
  more : are_changed (take n journal) ≡ false → changes_keys e.change e.reply ≡ false → are_changed (take (n + 1) journal) ≡ false
  more before here =
      list_any_more may-change journal n e (slice_get_within journal n e there)
      ∙ ap (λ (b : Bool). b || may-change (get_or journal n e)) before
      ∙ ap may-change (get_or_from_slice_get journal n e e there)
      ∙ here

  -- one may
  at_place : changes_keys e.change e.reply ≡ true → true ≡ are_changed journal
  at_place here = sym (list_any_at may-change journal n e (slice_get_within journal n e there)
      (ap may-change (get_or_from_slice_get journal n e e there) ∙ here))

-- behind the last there is none
beyond : (journal : List Entry) (n : ℕ) → slice_get journal n ≡ None → length journal ≤ n
beyond [] n none = omega (arith)
beyond (e ∷ journal) zero none = absurd (cc)
beyond (e ∷ journal) (suc n) none = let rest = beyond journal n none in omega (arith, rest)

-- ---- by numbers

less : (a b : ℕ) → nat_lt a b ≡ true → a < b
less a b e = grind (arith, nat_tests)

not_less : (a b : ℕ) → nat_lt a b ≡ false → b ≤ a
not_less a b e = grind (arith, nat_tests)

module _ (journal : List Entry) (base number : ℕ) where
  -- the entry of the number, where the journal begins with that of another
  abbrev numbered : Bool → Option Entry
  numbered below = if below then None else slice_get journal (number - base)

  -- none of those before it may, and the number has no entry
  pub none_here : numbered (nat_lt number base) ≡ None → are_changed (take (number - base) journal) ≡ false →
      are_changed (take (number + 1 - base) journal) ≡ false
  none_here none before = by (nat_lt number base) refl none
    where
      by : (below : Bool) → nat_lt number base ≡ below → numbered below ≡ None → are_changed (take (number + 1 - base) journal) ≡ false
      by true is e =
          let l = less number base is in
          let first : number + 1 - base ≡ 0 = omega (arith, l) in
          ap (λ (n : ℕ). are_changed (take n journal)) first
      by false is e =
          let all = beyond journal (number - base) e in
          let more : length journal ≤ number + 1 - base = omega (arith, all) in
          ap are_changed (take_all (number + 1 - base) journal more) ∙ sym (ap are_changed (take_all (number - base) journal all)) ∙ before

  module _ (e : Entry) (there : numbered (nat_lt number base) ≡ Some e) where
    -- it stands in its place
    record Stands : Type 0 where
      place : slice_get journal (number - base) ≡ Some e
      within : base ≤ number

    stands : Stands
    stands = by (nat_lt number base) refl there
      where
        by : (below : Bool) → nat_lt number base ≡ below → numbered below ≡ Some e → Stands
        by true is some = absurd (cc)
        by false is some = record { place = some; within = not_less number base is }

    -- none of those before it may, nor does it
    pub none_more : are_changed (take (number - base) journal) ≡ false → changes_keys e.change e.reply ≡ false →
        are_changed (take (number + 1 - base) journal) ≡ false
    none_more before here =
        let l = stands.within in
        let next : number + 1 - base ≡ number - base + 1 = omega (arith, l) in
        ap (λ (n : ℕ). are_changed (take n journal)) next ∙ more journal (number - base) e stands.place before here

    -- it may
    pub found : changes_keys e.change e.reply ≡ true → true ≡ are_changed journal
    found here = at_place journal (number - base) e stands.place here

-- none of all may
pub none_of_all : (journal : List Entry) (base n : ℕ) → n ≡ base + length journal → are_changed (take (n - base) journal) ≡ false →
    false ≡ are_changed journal
none_of_all journal base n all before =
    let many : length journal ≤ n - base = omega (arith, all) in sym before ∙ ap are_changed (take_all (n - base) journal many)
