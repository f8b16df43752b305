-- What a firing does to rows: those for which there is a reason go, and a notice of each is put into a list.
use Rattle.std.specs.Prelude.{◌≡◌, ℕ, ◌+◌, ◌==◌, Bool, not, if◌then◌else◌, List, [], ◌∷◌, ◌++◌, map, filter, Option, Some, None, is_some}
use Rattle.std.specs.List.{filter_map}
use Rattle.std.specs.List.Sorted.{IsPermutation, IsStrictlySortedBy}
use Rattle.std.specs.Ordering.{nat_cmp}
use Rattle.reg_model.specs.declared.notice.Notice.{Notice}
use Rattle.reg_model.specs.declared.notice.Reason.{Reason}
use Rattle.reg_notify.specs.declared.table.Row.{Row}
use Rattle.reg_notify.specs.declared.queues.Sent.{Sent}

-- why the row of a number ends, if it does
abbrev pub Why : Type 0
Why = ℕ × Row → Option Reason

-- the one reason, where a test passes
abbrev pub if_passes : (ℕ × Row → Bool) → Reason → Why
if_passes test r e = if test e then Some r else None

-- the first reason of two
abbrev pub first_of : Option Reason → Option Reason → Option Reason
first_of None b = b
first_of (Some r) b = Some r

abbrev pub then_why : Why → Why → Why
then_why a b e = first_of (a e) (b e)

abbrev pub sent_for : ℕ → ℕ × Row → Option Reason → Option Sent
sent_for by e None = None
sent_for by e (Some r) = Some (record { session = e.1.session; notice = record { watch = e.0; by = by; reason = r } })

-- the notices of rows that end, in their order
abbrev pub sent_by : ℕ → Why → List (ℕ × Row) → List Sent
sent_by by why es = filter_map (λ (e : ℕ × Row). sent_for by e (why e)) es

-- the rows that stay
abbrev pub left_by : Why → List (ℕ × Row) → List (ℕ × Row)
left_by why es = filter (λ (e : ℕ × Row). not (is_some (why e))) es

-- of each session, how many notices of a list are its
abbrev pub sent_to : ℕ → List Sent → ℕ
sent_to session [] = 0
sent_to session (x ∷ xs) = (if x.session == session then 1 else 0) + sent_to session xs

-- the notices of a list that are a session's
abbrev pub notices_to : ℕ → List Sent → List Notice
notices_to session [] = []
notices_to session (x ∷ xs) = if x.session == session then x.notice ∷ notices_to session xs else notices_to session xs

-- the numbers of their watches rise
abbrev pub AreInOrder : List Sent → Type 0
AreInOrder sent = IsStrictlySortedBy nat_cmp (map (λ (x : Sent). x.notice.watch) sent)

-- the rows with a reason went, and their notices came, in any order
pub record AreEnded (by : ℕ) (why : Why) (es : List (ℕ × Row)) (sent : List Sent) (es' : List (ℕ × Row)) (sent' : List Sent) : Type 0 where
  pub left : es' ≡ left_by why es
  pub came : IsPermutation (sent ++ sent_by by why es) sent'
