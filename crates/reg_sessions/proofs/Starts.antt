-- Sessions that were just started, and the seats that a hive gives them.
use Rattle.std.proofs.Common.{◌≡◌, ◌+◌, ◌≤◌, ◌<◌, ℕ, zero, suc, Bool, true, false, List, [], ◌∷◌, ◌++◌, length, map, get_or, set, drop, nat_lt, refl, sym, ap, ◌∙◌, subst, inl, inr, arith, if◌then◌else◌, length-append, add-one, drop-cons, length-drop}
use Rattle.std.proofs.lemmas.List.{get_or-set_same, get_or-set_other, get_or_append_left, get_or_default, length-set}
use Rattle.std.proofs.lemmas.Bool.{cases_eq, cases_lt}
use Rattle.std.proofs.lemmas.Bool.Decides.{nat_tests}
use Rattle.std.proofs.Math.Seq.{get_or-append_seam}
use Rattle.std.specs.List.{range_with_len}
use Rattle.std.proofs.lemmas.List.FromFn.{length-map-range_with_len, get_or-map-range_with_len}
use Rattle.reg_journal.specs.Kept.{Seat, seat}
use Rattle.reg_sessions.specs.Sessions.{PlaceState, SessionState, IsFresh, AreFresh, AreInOrder, no_place, no_session, session_of}

-- ---- sessions without a seat

pub fresh_new : (n : ℕ) → IsFresh n 0 (record { number = n; places = [] })
fresh_new n = record { is_number = refl; seats = refl; receipts = λ h. refl; dropped = λ h. refl; marks = λ h. refl; taken = λ h. refl; popped = λ h. refl; waiting = λ h. refl; notifies = λ h. refl; handles = λ h. refl }

not_below_0 : (n : ℕ) → nat_lt n 0 ≡ false
not_below_0 n = grind (arith, nat_tests)

pub fresh_more : (ss : List SessionState) (x : SessionState) → AreFresh 0 0 ss → IsFresh (length ss) 0 x → AreFresh 0 0 (ss ++ x ∷ [])
fresh_more ss x all one s below =
    elim (cases_lt s (length ss)) [
      | inl b ↦ (let P : SessionState → Type 0 = λ y. IsFresh s (if nat_lt s 0 then 0 + 1 else 0) y in subst P (sym (get_or_append_left ss (x ∷ []) no_session s b)) (all s b))
      | inr b ↦ (let at : length ss ≡ s = omega (arith, below, length-append ss (x ∷ [])) in
          let P : ℕ → Type 0 = λ n. IsFresh n (if nat_lt n 0 then 0 + 1 else 0) (get_or (ss ++ x ∷ []) n no_session) in
          subst P at (rw (get_or-append_seam ss x [] no_session, not_below_0 (length ss)) one))
    ]

-- ---- one hive more

by_place : (P : PlaceState → Type 0) (ps : List PlaceState) (p : PlaceState) → ((i : ℕ) → P (get_or ps i no_place)) → P p → P no_place → (h : ℕ) → P (get_or (ps ++ p ∷ []) h no_place)
by_place P [] p all one none zero = one
by_place P [] p all one none (suc h) = none
by_place P (q ∷ ps) p all one none zero = all 0
by_place P (q ∷ ps) p all one none (suc h) = by_place P ps p (λ i. all (suc i)) one none h

-- the seat that a session gets at the next hive
place_more : (n k : ℕ) (x : SessionState) (p : PlaceState) → IsFresh n k x → p.receipts ≡ [] → p.dropped ≡ 0 → p.mark ≡ 0 → p.taken ≡ [] → p.popped ≡ [] →
    p.waiting ≡ [] → p.notifies ≡ 0 → p.handles ≡ 0 →
    IsFresh n (k + 1) (record x { places = x.places ++ p ∷ [] })
place_more n k x p f r z m t o w e c = record {
  is_number = f.is_number;
  seats = length-append x.places (p ∷ []) ∙ ap (λ (l : ℕ). l + 1) f.seats;
  receipts = λ h. by_place (λ q. q.receipts ≡ []) x.places p (λ i. f.receipts i) r refl h;
  dropped = λ h. by_place (λ q. q.dropped ≡ 0) x.places p (λ i. f.dropped i) z refl h;
  marks = λ h. by_place (λ q. q.mark ≡ 0) x.places p (λ i. f.marks i) m refl h;
  taken = λ h. by_place (λ q. q.taken ≡ []) x.places p (λ i. f.taken i) t refl h;
  popped = λ h. by_place (λ q. q.popped ≡ []) x.places p (λ i. f.popped i) o refl h;
  waiting = λ h. by_place (λ q. q.waiting ≡ []) x.places p (λ i. f.waiting i) w refl h;
  notifies = λ h. by_place (λ q. q.notifies ≡ 0) x.places p (λ i. f.notifies i) e refl h;
  handles = λ h. by_place (λ q. q.handles ≡ 0) x.places p (λ i. f.handles i) c refl h;
}

below_next : (n : ℕ) → nat_lt n (n + 1) ≡ true
below_next n = grind (arith, nat_tests)

not_self : (n : ℕ) → nat_lt n n ≡ false
not_self n = grind (arith, nat_tests)

same_side : (s at : ℕ) → (s ≡ at → ⊥) → nat_lt s at ≡ nat_lt s (at + 1)
same_side s at ne = grind (arith, nat_tests)

fresh_place : ℕ → PlaceState
fresh_place at = record { seat = seat at 0; receipts = []; dropped = 0; mark = 0; taken = []; popped = []; waiting = []; handles = 0; notifies = 0 }

-- one session more has its seat
fresh_set : (k at : ℕ) (ss : List SessionState) (x : SessionState) → at < length ss → AreFresh k at ss
    → x ≡ record (get_or ss at no_session) { places = (get_or ss at no_session).places ++ fresh_place at ∷ [] } → AreFresh k (at + 1) (set ss at x)
unfolding fresh_place
fresh_set k at ss x within all is s below =
    elim (cases_eq s at) [
      | inl e ↦ (let P : ℕ → Type 0 = λ n. IsFresh n (if nat_lt n (at + 1) then k + 1 else k) (get_or (set ss at x) n no_session) in
          subst P (sym e) (rw (get_or-set_same ss at x no_session within, below_next at, is) (place_more at k (get_or ss at no_session) _
          (let Q : Bool → Type 0 = λ b. IsFresh at (if b then k + 1 else k) (get_or ss at no_session) in subst Q (not_self at) (all at within)) refl refl refl refl refl refl refl refl)))
      | inr ne ↦ (let P : SessionState → Type 0 = λ y. IsFresh s (if nat_lt s (at + 1) then k + 1 else k) y in
          subst P (sym (get_or-set_other ss at s x no_session ne))
          (let Q : Bool → Type 0 = λ b. IsFresh s (if b then k + 1 else k) (get_or ss s no_session) in
          subst Q (same_side s at ne) (all s (omega (arith, below, length-set ss at x)))))
    ]

is_below : (s at : ℕ) → s < at → nat_lt s at ≡ true
is_below s at b = grind (arith, nat_tests)

-- all have their seats
pub fresh_all : (k at : ℕ) (ss : List SessionState) → length ss ≤ at → AreFresh k at ss → AreFresh (k + 1) 0 ss
fresh_all k at ss whole all s below =
    let Q : Bool → Type 0 = λ b. IsFresh s (if b then k + 1 else k) (get_or ss s no_session) in
    let f : IsFresh s (k + 1) (get_or ss s no_session) = subst Q (is_below s at (omega (arith, below, whole))) (all s below) in
    rw (not_below_0 s) f

-- ---- the shares that a hive gives

pub shares_long : (n : ℕ) → length (map {B = Seat} (λ s. seat s 0) (range_with_len 0 n)) ≡ n
shares_long n = length-map-range_with_len (λ s. seat s 0) 0 n

head_is : (x y : Seat) (s t : List Seat) → x ∷ s ≡ y ∷ t → x ≡ y
head_is x y s t e = cc

tail_is : (x y : Seat) (s t : List Seat) → x ∷ s ≡ y ∷ t → s ≡ t
tail_is x y s t e = cc

share_there : (n at : ℕ) (x : Seat) (t : List Seat) → x ∷ t ≡ drop at (map (λ s. seat s 0) (range_with_len 0 n)) → at < n
share_there n at x t is =
    let l = ap (λ (l : List Seat). length l) is in
    let m = length-drop at (map (λ s. seat s 0) (range_with_len 0 n)) in
    let k = shares_long n in
    omega (arith, l, m, k)

share_is : (n at : ℕ) (d : Seat) → at < n → get_or (map (λ s. seat s 0) (range_with_len 0 n)) at d ≡ seat at 0
share_is n at d below = get_or-map-range_with_len (λ s. seat s 0) 0 n at at d below (omega arith)

pub share_next : (n at : ℕ) (x : Seat) (t : List Seat) → x ∷ t ≡ drop at (map (λ s. seat s 0) (range_with_len 0 n))
    → (x ≡ seat at 0) × (at < n) × (t ≡ drop (at + 1) (map (λ s. seat s 0) (range_with_len 0 n)))
share_next n at x t is =
    let all : List Seat = map (λ s. seat s 0) (range_with_len 0 n) in
    let below : at < n = share_there n at x t is in
    let len : length all ≡ n = shares_long n in
    let cut = drop-cons all at x (omega (arith, len)) in
    let here : x ≡ get_or all at x = head_is x (get_or all at x) t (drop (suc at) all) (is ∙ cut) in (
      here ∙ share_is n at x below,
      below,
      tail_is x (get_or all at x) t (drop (suc at) all) (is ∙ cut) ∙ ap (λ (k : ℕ). drop k all) (sym (add-one at)),
    )

-- the share and the session of one turn belong together
pub same_number : (n k at : ℕ) (ss : List SessionState) (x : Seat) (t : List Seat) (s : SessionState) → length ss ≡ n → AreFresh k at ss
    → x ∷ t ≡ drop at (map (λ s. seat s 0) (range_with_len 0 n)) → s ≡ get_or ss at s → x.session ≡ s.number
same_number n k at ss x t s len all is here =
    let a = share_next n at x t is in
    let below : at < length ss = omega (arith, a.1, len) in
    ap (λ (y : Seat). y.session) a.0 ∙ sym (ap (λ (y : SessionState). y.number) (here ∙ get_or_default ss at s no_session below) ∙ (all at below).is_number)

-- the session that got its seat
pub seated_more : (k at : ℕ) (ss : List SessionState) (x : Seat) (s : SessionState) (p : PlaceState) (new : SessionState) → at < length ss → AreFresh k at ss
    → s ≡ get_or ss at s → x ≡ seat at 0 → p ≡ record { seat = x; receipts = []; dropped = 0; mark = 0; taken = []; popped = []; waiting = []; handles = 0; notifies = 0 } → new ≡ record s { places = s.places ++ p ∷ [] }
    → AreFresh k (at + 1) (set ss at new)
unfolding fresh_place
seated_more k at ss x s p new below all here share place is =
    fresh_set k at ss new below all
    (is
    ∙ ap (λ (q : PlaceState). record s { places = s.places ++ q ∷ [] }) (place ∙ ap (λ (y : Seat). record { seat = y; receipts = []; dropped = 0; mark = 0; taken = []; popped = []; waiting = []; handles = 0; notifies = 0 }) share)
    ∙ ap (λ (y : SessionState). record y { places = y.places ++ fresh_place at ∷ [] }) (here ∙ get_or_default ss at s no_session below))

-- ---- all sessions

pub in_order : (n k : ℕ) (ss : List SessionState) → length ss ≡ n → AreFresh k 0 ss → AreInOrder n ss
in_order n k ss len all = (len, (λ s below. (all s (omega (arith, len))).is_number))

pub each_fresh : (n k : ℕ) (ss : List SessionState) → length ss ≡ n → AreFresh k 0 ss → (s : ℕ) → s < n → IsFresh s k (session_of ss s)
each_fresh n k ss len all s below =
    let Q : Bool → Type 0 = λ b. IsFresh s (if b then k + 1 else k) (get_or ss s no_session) in
    subst Q (not_below_0 s) (all s (omega (arith, len)))
