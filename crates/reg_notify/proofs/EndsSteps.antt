-- Firings of the table, one after another.
use Rattle.std.proofs.Common.{◌≡◌, ℕ, Bool, true, false, cond, ◌||◌, List, [], ◌∷◌, Some, None, refl, ap, ◌∙◌}
use Rattle.std.specs.List.{AllByRecursion}
use Rattle.std.proofs.lemmas.Bool.{cond-false}
use Rattle.reg_model.specs.declared.notice.Reason.{Reason}
use Rattle.reg_notify.specs.declared.table.Row.{Row}
use Rattle.reg_notify.specs.declared.table.Table.{Table}
use Rattle.reg_notify.specs.Internal.Firing.{Why, if_passes, first_of, then_why}
use Rattle.reg_notify.specs.Internal.States.{IsReady, Ends}
use Rattle.reg_notify.proofs.Firings.{ended-none, ended-then, ended-same}

pub each : (P : ℕ × Row → Type 0) → ((e : ℕ × Row) → P e) → (es : List (ℕ × Row)) → AllByRecursion P es
each P f [] = tt
each P f (e ∷ es) = (f e, each P f es)

-- nothing ended
pub ends-none : (by : ℕ) (why : Why) (t : Table) → IsReady t → ((e : ℕ × Row) → why e ≡ None) → Ends by why t t
ends-none by why t ready none = record { ready = ready; ended = ended-none by why t.rows.entries t.sent.items none; queues = refl }

-- one firing after another
pub ends-then : (by : ℕ) (a b : Why) (t t' t'' : Table) → Ends by a t t' → Ends by b t' t'' → Ends by (then_why a b) t t''
ends-then by a b t t' t'' x y = record {
  ready = y.ready;
  ended = ended-then by a b t.rows.entries t'.rows.entries t''.rows.entries t.sent.items t'.sent.items t''.sent.items x.ended y.ended;
  queues = y.queues ∙ x.queues;
}

-- the same for reasons that agree
pub ends-same : (by : ℕ) (a b : Why) (t t' : Table) → AllByRecursion (λ (e : ℕ × Row). a e ≡ b e) t.rows.entries → Ends by a t t' → Ends by b t t'
ends-same by a b t t' same x = record {
  ready = x.ready;
  ended = ended-same by a b t.rows.entries t'.rows.entries t.sent.items t'.sent.items same x.ended;
  queues = x.queues;
}

either : (a b : Bool) (r : Reason) → first_of (cond a (Some r) None) (cond b (Some r) None) ≡ cond (a || b) (Some r) None
either true b r = refl
either false b r = refl

-- two tests with one reason
pub ends-or : (by : ℕ) (p q : ℕ × Row → Bool) (r : Reason) (t t' t'' : Table) → Ends by (if_passes p r) t t' → Ends by (if_passes q r) t' t'' →
    Ends by (if_passes (λ (e : ℕ × Row). p e || q e) r) t t''
ends-or by p q r t t' t'' x y =
    ends-same by (then_why (if_passes p r) (if_passes q r)) (if_passes (λ (e : ℕ × Row). p e || q e) r) t t''
    (each _ (λ e. either (p e) (q e) r) t.rows.entries) (ends-then by (if_passes p r) (if_passes q r) t t' t'' x y)

-- a test that none passes
pub ends-never : (by : ℕ) (p : ℕ × Row → Bool) (r : Reason) (t : Table) → IsReady t → ((e : ℕ × Row) → p e ≡ false) → Ends by (if_passes p r) t t
ends-never by p r t ready none = ends-none by (if_passes p r) t ready (λ e. cond-false _ _ _ (none e))

-- tests that agree
pub ends-test : (by : ℕ) (p q : ℕ × Row → Bool) (r : Reason) (t t' : Table) → AllByRecursion (λ (e : ℕ × Row). p e ≡ q e) t.rows.entries → Ends by
    (if_passes p r) t t' → Ends by (if_passes q r) t t'
ends-test by p q r t t' same x = ends-same by (if_passes p r) (if_passes q r) t t' (all t.rows.entries same) x
  where
    all : (es : List (ℕ × Row)) → AllByRecursion (λ (e : ℕ × Row). p e ≡ q e) es → AllByRecursion (λ (e : ℕ × Row). if_passes p r e ≡ if_passes q r e) es
    all [] s = tt
    all (e ∷ es) s = (ap (λ (b : Bool). cond b (Some r) None) s.0, all es s.1)
