-- Notices handed out one after another.
use Rattle.std.proofs.Common.{◌≡◌, ℕ, ◌+◌, ◌-◌, ◌<◌, ◌≤◌, Bool, true, false, cond, eqb, List, [], ◌∷◌, ◌++◌, length, take, drop, get_or, refl, sym, ap, ◌∙◌}
use Rattle.std.proofs.Common.{arith, append_assoc, length-append}
use Rattle.std.proofs.lemmas.Bool.{eq-eqb}
use Rattle.std.proofs.lemmas.List.{append-nil, take_more, take_all, take-append-drop}
use Rattle.reg_model.specs.declared.notice.Notice.{Notice}
use Rattle.reg_notify.specs.declared.queues.Queue.{Queue}
use Rattle.reg_notify.specs.declared.queues.Sent.{Sent}
use Rattle.reg_notify.specs.Internal.Firing.{sent_to, notices_to}
use Rattle.reg_notify.specs.Internal.Queues.{told_at, room_at, pending_at, HaveRoom}
use Rattle.reg_notify.proofs.HandedOut.{told-length}

told-append : (s : ℕ) (xs ys : List Sent) → notices_to s (xs ++ ys) ≡ notices_to s xs ++ notices_to s ys
told-append s [] ys = refl
told-append s (x ∷ xs) ys = one (eqb x.session s) (told-append s xs ys)
  where
    one : (b : Bool) → notices_to s (xs ++ ys) ≡ notices_to s xs ++ notices_to s ys →
        cond b (x.notice ∷ notices_to s (xs ++ ys)) (notices_to s (xs ++ ys)) ≡ cond b (x.notice ∷ notices_to s xs) (notices_to s xs) ++ notices_to s ys
    one true rest = ap (λ (l : List Notice). x.notice ∷ l) rest
    one false rest = rest

sent-append : (s : ℕ) (xs ys : List Sent) → sent_to s (xs ++ ys) ≡ sent_to s xs + sent_to s ys
sent-append s [] ys = omega arith
sent-append s (x ∷ xs) ys = let rest = sent-append s xs ys in omega (arith, rest)

sent-front : (s k : ℕ) (xs : List Sent) → sent_to s (take k xs) ≤ sent_to s xs
sent-front s k xs =
    let whole = ap (sent_to s) (take-append-drop k xs) in
    let parts = sent-append s (take k xs) (drop k xs) in
    omega (arith, whole, parts)

-- a front with one more
module _ (xs : List Sent) (i : ℕ) (x : Sent) (within : i < length xs) (at : x ≡ get_or xs i x) where
  front : take (i + 1) xs ≡ take i xs ++ x ∷ []
  front = take_more xs i x within ∙ ap (λ (z : Sent). take i xs ++ z ∷ []) (sym at)

  told-front : (s : ℕ) → notices_to s (take (i + 1) xs) ≡ notices_to s (take i xs) ++ cond (eqb x.session s) (x.notice ∷ []) []
  told-front s = ap (notices_to s) front ∙ told-append s (take i xs) (x ∷ [])

  sent-more : (s : ℕ) → sent_to s (take (i + 1) xs) ≡ sent_to s (take i xs) + cond (eqb x.session s) 1 0
  sent-more s = ap (sent_to s) front ∙ sent-append s (take i xs) (x ∷ []) ∙ ap (λ (n : ℕ). sent_to s (take i xs) + n) (plain (cond (eqb x.session s) 1 0))
    where
      plain : (n : ℕ) → n + 0 ≡ n
      plain n = omega arith

  flip : (s : ℕ) → eqb s x.session ≡ eqb x.session s
  flip s = grind arith

  pub told-step : (s : ℕ) (old was now : List Notice) → was ≡ old ++ notices_to s (take i xs) → now ≡ cond (eqb s x.session) (was ++ x.notice ∷ []) was →
      now ≡ old ++ notices_to s (take (i + 1) xs)
  told-step s old was now before step =
      step ∙ ap (λ (b : Bool). cond b (was ++ x.notice ∷ []) was) (flip s) ∙ one (eqb x.session s)
      ∙ ap (λ (l : List Notice). l ++ cond (eqb x.session s) (x.notice ∷ []) []) before
      ∙ append_assoc old (notices_to s (take i xs)) (cond (eqb x.session s) (x.notice ∷ []) []) ∙ ap (λ (l : List Notice). old ++ l) (sym (told-front s))
    where
      one : (b : Bool) → cond b (was ++ x.notice ∷ []) was ≡ was ++ cond b (x.notice ∷ []) []
      one true = refl
      one false = sym (append-nil was)

  -- its session has a watch whose notice is still to come
  pub some-pending : (old was : ℕ) → sent_to x.session xs ≤ old → was + sent_to x.session (take i xs) ≡ old → 0 < was
  some-pending old was all before =
      let more = sent-more x.session in
      let front_less = sent-front x.session (i + 1) xs in
      let own : ◌≡◌ {A = ℕ} (cond (eqb x.session x.session) 1 0) 1 = ap (λ (b : Bool). cond b 1 0) (eq-eqb x.session x.session refl) in
      omega (arith, all, before, more, front_less, own)

  pub pending-step : (s old was now : ℕ) → sent_to s xs ≤ old → was + sent_to s (take i xs) ≡ old → now ≡ cond (eqb s x.session) (was - 1) was →
      now + sent_to s (take (i + 1) xs) ≡ old
  pending-step s old was now all before step = by (eqb x.session s) (step ∙ ap (λ (b : Bool). cond b (was - 1) was) (flip s)) (sent-more s)
    where
      by : (b : Bool) → now ≡ cond b (was - 1) was → sent_to s (take (i + 1) xs) ≡ sent_to s (take i xs) + cond b 1 0 → now + sent_to s (take (i + 1) xs) ≡ old
      by true e more = let l = sent-front s (i + 1) xs in omega (arith, e, more, before, all, l)
      by false e more = omega (arith, e, more, before)

  -- and room for it
  pub room-there : (before now : List Queue) → HaveRoom before → told_at now x.session ≡ told_at before x.session ++ notices_to x.session (take i xs) →
      pending_at now x.session + sent_to x.session (take i xs) ≡ pending_at before x.session → room_at before x.session ≤ room_at now x.session →
      0 < pending_at now x.session →
      length (told_at now x.session) < room_at now x.session
  room-there before now have told pending rooms some =
      let l = ap length told ∙ length-append (told_at before x.session) (notices_to x.session (take i xs)) in
      let n = told-length x.session (take i xs) in
      let h = have x.session in
      omega (arith, l, n, h, pending, rooms, some)

-- all of them
pub told-whole : (s i : ℕ) (xs : List Sent) (old now : List Notice) → length xs ≤ i → now ≡ old ++ notices_to s (take i xs) → now ≡ old ++ notices_to s xs
told-whole s i xs old now past told = told ∙ ap (λ (l : List Sent). old ++ notices_to s l) (take_all i xs past)

pub pending-whole : (s i : ℕ) (xs : List Sent) (old now : ℕ) → length xs ≤ i → now + sent_to s (take i xs) ≡ old → now + sent_to s xs ≡ old
pending-whole s i xs old now past pending = ap (λ (l : List Sent). now + sent_to s l) (sym (take_all i xs past)) ∙ pending
