-- Notices that move from a hive into a ring.
use Rattle.std.proofs.Common.{◌≡◌, ℕ, zero, suc, ◌+◌, ◌∙◌, ◌≤◌, Bool, true, false, cond, eqb, List, [], ◌∷◌, ◌++◌, length, drop, ◌&&◌, Some, None, refl, sym, ap, arith, append_assoc, add-one, eq-eqb}
use Rattle.std.specs.Prelude.{slice_get, slice_index_or}
use Rattle.reg_model.specs.Histories.{fired}
use Rattle.reg_model.specs.declared.notice.Notice.{Notice}
use Rattle.reg_notify.specs.Tables.{taken_by}
use Rattle.reg_calls.specs.Views.{View, IsNoticeTaken, told_in}
use Rattle.reg_outbox.specs.Rings.{IsAhead, IsHandedOut, backlog_of}

-- ---- lists from a place on

some_is : {A : Type 0} (x y : A) → Some x ≡ Some y → y ≡ x
some_is x y e = cc

nothing_there : {A : Type 0} (x : A) (i : ℕ) → Some x ≡ slice_get [] i → ⊥
nothing_there x i e = cc

something_there : {A : Type 0} (y : A) (xs : List A) → None ≡ slice_get (y ∷ xs) 0 → ⊥
something_there y xs e = cc

drop_at : {A : Type 0} (xs : List A) (i : ℕ) (x : A) → Some x ≡ slice_get xs i → drop i xs ≡ x ∷ drop (suc i) xs
drop_at [] i x e = absurd (nothing_there x i e)
drop_at (y ∷ xs) zero x e = ap (λ z. z ∷ xs) (some_is x y e)
drop_at (y ∷ xs) (suc i) x e = drop_at xs i x e

drop_nil : {A : Type 0} (i : ℕ) → drop {A = A} i [] ≡ []
drop_nil zero = refl
drop_nil (suc i) = refl

drop_past : {A : Type 0} (xs : List A) (i : ℕ) → None ≡ slice_get xs i → drop i xs ≡ []
drop_past [] i e = drop_nil i
drop_past (y ∷ xs) zero e = absurd (something_there y xs e)
drop_past (y ∷ xs) (suc i) e = drop_past xs i e

drop_all : {A : Type 0} (xs : List A) (i : ℕ) → length xs ≤ i → drop i xs ≡ []
drop_all [] i past = drop_nil i
drop_all (y ∷ xs) zero past = absurd (omega (arith, past))
drop_all (y ∷ xs) (suc i) past = drop_all xs i (omega (arith, past))

-- the session itself
own : (session : ℕ) → eqb session session ≡ true
own session = eq-eqb session session refl

-- ---- what a session was told

told_same : (old new : View) (s : ℕ) → new.origin ≡ old.origin → new.before ≡ old.before → new.journal ≡ old.journal → told_in new s ≡ told_in old s
told_same old new s origin before journal =
    ap (λ (b : List (List Notice)). slice_index_or b s [] ++ fired new.origin new.journal s) before
    ∙ ap (λ o. slice_index_or old.before s [] ++ fired o new.journal s) origin
    ∙ ap (λ j. slice_index_or old.before s [] ++ fired old.origin j s) journal

-- ---- handed out

pub none_yet : (session : ℕ) (v : View) → IsHandedOut session 0 v v
none_yet session v = record {
  taken = λ s. by (eqb s session) (taken_by v.watches s);
  told = refl;
  pending = refl;
  origin = refl;
  base = refl;
  before = refl;
  journal = refl;
  keys = refl;
  handles = refl;
  hive = λ h. h;
}
  where
    by : (b : Bool) (n : ℕ) → n ≡ cond b (n + 0) n
    by true n = omega arith
    by false n = refl

pub one_more : (session count : ℕ) (old mid new : View) (notice : Notice) → IsHandedOut session count old mid → IsNoticeTaken mid new session (Some notice) →
    IsHandedOut session (count + 1) old new
one_more session count old mid new notice h t = record {
  taken = λ s. t.taken s ∙ by s (eqb s session) (h.taken s);
  told = t.told ∙ h.told;
  pending = t.pending ∙ h.pending;
  origin = t.origin ∙ h.origin;
  base = t.base ∙ h.base;
  before = t.before ∙ h.before;
  journal = t.journal ∙ h.journal;
  keys = t.keys ∙ h.keys;
  handles = t.handles ∙ h.handles;
  hive = λ old_hive. t.hive;
}
  where
    by : (s : ℕ) (b : Bool) → taken_by mid.watches s ≡ cond b (taken_by old.watches s + count) (taken_by old.watches s) →
        cond (b && true) (taken_by mid.watches s + 1) (taken_by mid.watches s) ≡ cond b (taken_by old.watches s + (count + 1)) (taken_by old.watches s)
    by s true e = omega (arith, e)
    by s false e = e

-- a notice that moves leaves what was sent, followed by what is kept back
pub front_next : (sent : List Notice) (session : ℕ) (old new : View) (notice : Notice) → IsNoticeTaken old new session (Some notice) →
    (sent ++ notice ∷ []) ++ backlog_of session new ≡ sent ++ backlog_of session old
front_next sent session old new notice t =
    let same = told_same old new session t.origin t.before t.journal in
    let rest = drop_at (told_in old session) (taken_by old.watches session) notice t.next in
    let count : taken_by new.watches session ≡ taken_by old.watches session + 1 = t.taken session ∙ by (eqb session session) (own session) in
    append_assoc sent (notice ∷ []) (backlog_of session new)
    ∙ ap (λ (n : ℕ). sent ++ notice ∷ drop n (told_in new session)) (count ∙ add-one (taken_by old.watches session))
    ∙ ap (λ (all : List Notice). sent ++ notice ∷ drop (suc (taken_by old.watches session)) all) same
    ∙ ap (λ (l : List Notice). sent ++ l) (sym rest)
  where
    by : (b : Bool) → b ≡ true → cond (b && true) (taken_by old.watches session + 1) (taken_by old.watches session) ≡ taken_by old.watches session + 1
    by true e = refl
    by false e = absurd cc

pub ahead_moved : (before after : List Notice) (session count : ℕ) (old new : View) → IsHandedOut session count old new →
    after ++ backlog_of session new ≡ before ++ backlog_of session old → IsAhead before session old → IsAhead after session new
ahead_moved before after session count old new h front ahead = front ∙ ahead ∙ sym (told_same old new session h.origin h.before h.journal)

pub none_left : (session : ℕ) (v new : View) → IsNoticeTaken v new session None → backlog_of session new ≡ []
none_left session v new t =
    let same = told_same v new session t.origin t.before t.journal in
    let count : taken_by new.watches session ≡ taken_by v.watches session = t.taken session ∙ by (eqb session session) in
    ap (λ (n : ℕ). drop n (told_in new session)) count
    ∙ ap (λ (all : List Notice). drop (taken_by v.watches session) all) same
    ∙ drop_past (told_in v session) (taken_by v.watches session) t.next
  where
    by : (b : Bool) → cond (b && false) (taken_by v.watches session + 1) (taken_by v.watches session) ≡ taken_by v.watches session
    by true = refl
    by false = refl

pub all_moved : (session count kept : ℕ) (old new : View) → IsHandedOut session count old new → kept + taken_by old.watches session ≡ length (told_in old session) →
    kept ≤ count → backlog_of session new ≡ []
all_moved session count kept old new h all most =
    let same = told_same old new session h.origin h.before h.journal in
    let long = ap (λ (l : List Notice). length l) same in
    let there : taken_by new.watches session ≡ taken_by old.watches session + count = h.taken session ∙ by (eqb session session) (own session) in
    drop_all (told_in new session) (taken_by new.watches session) (omega (arith, all, most, long, there))
  where
    by : (b : Bool) → b ≡ true → cond b (taken_by old.watches session + count) (taken_by old.watches session) ≡ taken_by old.watches session + count
    by true e = refl
    by false e = absurd cc
