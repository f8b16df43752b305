-- What a session has at each of its hives, after a call at one of them.
use Rattle.std.proofs.Common.{◌≡◌, ◌≢◌, ◌+◌, ◌==◌, ◌<◌, ◌≤◌, ◌⊎◌, ℕ, zero, suc, List, [], ◌∷◌, ◌++◌, length, get_or, set, inl, inr, length-append, refl, sym, ap, ◌∙◌, arith, subst, if◌then◌else◌, Option, Some, None, eq-eqb}
use Rattle.std.specs.Prelude.{IfSome, IfNone}
use mathlib.Core.List.{IsPrefix}
use Rattle.std.proofs.lemmas.List.{get_or-set_same, get_or-set_other, get_or_append_left, get_or_default}
use Rattle.std.proofs.lemmas.Bool.{cases_eq, cases_lt}
use Rattle.std.proofs.Math.Seq.{get_or-append_seam}
use Rattle.std.proofs.lemmas.Bool.Decides.{nat_tests}
use Rattle.reg_journal.specs.Kept.{Seat, seat}
use Rattle.reg_model.specs.declared.notice.Notice.{Notice}
use Rattle.reg_sessions.specs.Sessions.{PlaceState, SessionState, no_place, notice_of, place_of, seat_of, taken_at, waiting_at, notifies_at}

pub place_set : (ps : List PlaceState) (i h : ℕ) (p : PlaceState) → i < length ps → get_or (set ps i p) h no_place ≡ (if h == i then p else get_or ps h no_place)
place_set ps i h p within = grind (arith, nat_tests, get_or-set_same ps i p no_place, get_or-set_other ps i h p no_place)

pub one_place_more : (ps : List PlaceState) (p : PlaceState) (n : ℕ) → ((h : ℕ) → h < length ps → (get_or ps h no_place).seat.session ≡ n) → p.seat.session ≡ n
    → (h : ℕ) → h < length (ps ++ p ∷ []) → (get_or (ps ++ p ∷ []) h no_place).seat.session ≡ n
one_place_more ps p n all one h below =
    elim (cases_lt h (length ps)) [
      | inl b ↦ rw (get_or_append_left ps (p ∷ []) no_place h b) (all h b)
      | inr b ↦ (let at : h ≡ length ps = omega (arith, below, length-append ps (p ∷ [])) in rw (at, get_or-append_seam ps p [] no_place) one)
    ]

-- the place at a hive, as code finds it there
pub own-place : (ps : List PlaceState) (h : ℕ) (found : PlaceState) → h < length ps → found ≡ get_or ps h found → found ≡ place_of ps h
own-place ps h found within is = is ∙ get_or_default ps h found no_place within

-- the seat there, the mark and how many handles are open: the session's own
pub own-seat : (P : Seat → (mark handles : ℕ) → Type 0) (ps : List PlaceState) (h number : ℕ) (found : PlaceState) → h < length ps → found ≡ get_or ps h found
    → ((k : ℕ) → k < length ps → (place_of ps k).seat.session ≡ number) → P (seat_of found) found.mark found.handles
    → P (seat number ((place_of ps h).dropped + length (place_of ps h).receipts)) (place_of ps h).mark (place_of ps h).handles
own-seat P ps h number found within is all p =
    subst (λ (n : ℕ). P (seat n ((place_of ps h).dropped + length (place_of ps h).receipts)) (place_of ps h).mark (place_of ps h).handles) (all h within)
    (subst (λ (x : PlaceState). P (seat_of x) x.mark x.handles) (own-place ps h found within is) p)

-- a place that stays as it was
pub set_same : (ps : List PlaceState) (h : ℕ) (found : PlaceState) → found ≡ get_or ps h found → h < length ps → set ps h found ≡ ps
set_same [] h found is within = absurd (omega (arith, within))
set_same (p ∷ ps) zero found is within = ap (λ (x : PlaceState). x ∷ ps) is
set_same (p ∷ ps) (suc h) found is within = ap (λ (xs : List PlaceState). p ∷ xs) (set_same ps h found is (omega (arith, within)))

abbrev MayBeNone : ℕ → SessionState → Type 0
MayBeNone hive s = (waiting_at hive s ≡ []) ⊎ (notifies_at hive s ≤ length (taken_at hive s))

-- of the notices that were known to wait the first is gone, where one was taken at this hive
pub known_wait : (hive : ℕ) (old new : SessionState) (taken : Option Notice) →
    IfSome taken (λ notice. IsPrefix (waiting_at hive old) (notice ∷ waiting_at hive new)) → IfNone taken ((new ≡ old) × MayBeNone hive old) →
    ((h : ℕ) → h ≢ hive → waiting_at h new ≡ waiting_at h old) →
    (h : ℕ) → length (waiting_at h old) ≤ length (waiting_at h new) + length (if h == hive then notice_of taken else [])
known_wait hive old new taken some none others h =
    elim (cases_eq h hive) [
      | inl e ↦ (let Q : ℕ → Type 0 = λ k. length (waiting_at k old) ≤ length (waiting_at k new) + length (if k == hive then notice_of taken else []) in
          subst Q (sym e) (rw (eq-eqb hive hive refl) (at taken some none)))
      | inr ne ↦ (let same = ap (λ (l : List Notice). length l) (others h ne) in omega (arith, same))
    ]
  where
    at : (taken : Option Notice) → IfSome taken (λ notice. IsPrefix (waiting_at hive old) (notice ∷ waiting_at hive new)) → IfNone taken ((new ≡ old) × MayBeNone hive old) →
        length (waiting_at hive old) ≤ length (waiting_at hive new) + length (notice_of taken)
    at None some none = let same = ap (λ (s : SessionState). length (waiting_at hive s)) none.0 in omega (arith, same)
    at (Some notice) some none =
        let whole = ap (λ (l : List Notice). length l) some.1 in
        let long = length-append (waiting_at hive old) some.0 in
        omega (arith, whole, long)
