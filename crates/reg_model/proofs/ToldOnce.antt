-- Each watch that was asked for is pending, or was told of once.
use Rattle.std.proofs.Common.{◌≡◌, ℕ, ◌+◌, Bool, true, false, not, cond, eqb, ◌==◌, ◌&&◌, List, [], ◌∷◌, ◌++◌, filter, Option, Some, None, is_some}
use Rattle.std.proofs.Common.{refl, ap, ◌∙◌, append_assoc, arith}
use Rattle.std.specs.Prelude.{count_by, option_to_list}
use Rattle.std.specs.List.{cons_option, filter_map}
use Rattle.std.proofs.lemmas.List.{append-nil}
use Rattle.std.proofs.lemmas.List.Recursion.{is_count_by}
use Rattle.reg_heap.specs.Paths.{Tree}
use Rattle.reg_model.specs.Watches.{Watch, Ending, reason, stays, notice_for, notices}
use Rattle.reg_model.specs.Histories.{Met, mets, end_of, asked_by, pending_of, pending, fired_after, fired}
use Rattle.reg_model.specs.declared.notice.Notice.{Notice}
use Rattle.reg_model.specs.declared.notice.Reason.{Reason}
use Rattle.reg_model.specs.declared.reply.Entry.{Entry}
use Rattle.reg_model.proofs.JournalGrowth.{pending_of-push}

module _ (session number : ℕ) where
  abbrev one_of : Watch → ℕ
  one_of v = cond (eqb v.session session && eqb v.number number) 1 0

  -- how often it is among watches, and among notices
  abbrev waiting : List Watch → ℕ
  waiting [] = 0
  waiting (v ∷ vs) = one_of v + waiting vs

  abbrev told : List Notice → ℕ
  told [] = 0
  told (x ∷ xs) = cond (eqb x.watch number) 1 0 + told xs

  waiting-append : (vs ws : List Watch) → waiting (vs ++ ws) ≡ waiting vs + waiting ws
  waiting-append [] ws = omega arith
  waiting-append (v ∷ vs) ws = let rest = waiting-append vs ws in omega (arith, rest)

  told-append : (xs ys : List Notice) → told (xs ++ ys) ≡ told xs + told ys
  told-append [] ys = omega arith
  told-append (x ∷ xs) ys = let rest = told-append xs ys in omega (arith, rest)

  -- a watch that ends is told of
  ends-one : (x : Ending) (vs : List Watch) → waiting (filter (stays x) vs) + told (notices session x vs) ≡ waiting vs
  ends-one x [] = refl
  ends-one x (v ∷ vs) = by (reason x v) (eqb v.session session) refl (ends-one x vs)
    where
      by : (o : Option Reason) (b : Bool) → eqb v.session session ≡ b → waiting (filter (stays x) vs) + told (notices session x vs) ≡ waiting vs →
          waiting (cond (not (is_some o)) (v ∷ filter (stays x) vs) (filter (stays x) vs)) +
          told (cons_option (cond b (notice_for v.number x.by o) None) (notices session x vs)) ≡
          one_of v + waiting vs
      by None true e rest = omega (arith, rest)
      by None false e rest = omega (arith, rest)
      by (Some r) true e rest = let own = ap {B = ℕ} (λ (b : Bool). cond (b && eqb v.number number) 1 0) e in omega (arith, rest, own)
      by (Some r) false e rest = let own = ap {B = ℕ} (λ (b : Bool). cond (b && eqb v.number number) 1 0) e in omega (arith, rest, own)

  asked-first : (o : Option Watch) (vs : List Watch) → waiting (cons_option o vs) ≡ waiting (option_to_list o) + waiting vs
  asked-first None vs = omega arith
  asked-first (Some v) vs = omega arith

  all-told : (past later : List Met) →
      waiting (pending_of (past ++ later)) + told (fired_after session past later) ≡ waiting (pending_of past) + waiting (filter_map asked_by later)
  all-told past [] = ap (λ (ms : List Met). waiting (pending_of ms) + 0) (append-nil past)
  all-told past (m ∷ later) =
      let rest = all-told (past ++ m ∷ []) later in
      let joined = ap (λ (ms : List Met). waiting (pending_of ms)) (append_assoc past (m ∷ []) later) in
      let split = told-append (notices session (end_of m) (pending_of past)) (fired_after session (past ++ m ∷ []) later) in
      let pushed = ap waiting (pending_of-push past m) ∙ waiting-append (filter (stays (end_of m)) (pending_of past)) (option_to_list (asked_by m)) in
      let ended = ends-one (end_of m) (pending_of past) in
      let asked = asked-first (asked_by m) (filter_map asked_by later) in
      omega (arith, rest, joined, split, pushed, ended, asked)

  is_waiting : (vs : List Watch) → waiting vs ≡ count_by (λ (v : Watch). v.session == session && v.number == number) vs
  is_waiting vs = is_count_by waiting (λ (v : Watch). eqb v.session session && eqb v.number number) refl one vs
    where
      one : (v : Watch) (vs : List Watch) →
          waiting (v ∷ vs) ≡ cond (eqb v.session session && eqb v.number number) (1 + waiting vs) (waiting vs)
      one v vs = by (eqb v.session session && eqb v.number number)
        where
          by : (b : Bool) → cond b 1 0 + waiting vs ≡ cond b (1 + waiting vs) (waiting vs)
          by true = refl
          by false = omega arith

  is_told : (xs : List Notice) → told xs ≡ count_by (λ (x : Notice). x.watch == number) xs
  is_told xs = is_count_by told (λ (x : Notice). eqb x.watch number) refl one xs
    where
      one : (x : Notice) (xs : List Notice) → told (x ∷ xs) ≡ cond (eqb x.watch number) (1 + told xs) (told xs)
      one x xs = by (eqb x.watch number)
        where
          by : (b : Bool) → cond b 1 0 + told xs ≡ cond b (1 + told xs) (told xs)
          by true = refl
          by false = omega arith

  pub pending-or-told : (origin : Tree) (es : List Entry) →
      count_by (λ (v : Watch). v.session == session && v.number == number) (pending origin es) + count_by (λ (x : Notice). x.watch == number) (fired origin es session) ≡
      count_by (λ (v : Watch). v.session == session && v.number == number) (filter_map asked_by (mets origin es))
  pending-or-told origin es =
      let all = all-told [] (mets origin es) in
      let a = is_waiting (pending origin es) in
      let b = is_told (fired origin es session) in
      let c = is_waiting (filter_map asked_by (mets origin es)) in
      omega (arith, all, a, b, c)
