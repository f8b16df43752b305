-- What callers see of a table of watches.
use Rattle.std.specs.Prelude.{◌≡◌, ℕ, zero, suc, Bool, true, false, List, [], get_or, Option, Some, None, refl}
use Rattle.std.specs.Coded.{Coded, code_by, coded×, coded_ℕ, coded_list, coded_option}
use Rattle.reg_heap.specs.Paths.{Path, coded_bytes}
use Rattle.reg_model.specs.Watches.{Watch}
use Rattle.reg_model.specs.declared.notice.Notice.{Notice}
use Rattle.reg_model.specs.declared.notice.Reason.{Reason}
use Rattle.reg_model.specs.declared.notice.Reason.TheVariants.{Matched, Gone, Closed}

-- the pending watches in the order of their numbers; of each session all notices that it was told, and how many of them it took
pub record Table : Type 0 where
  pub pending : List Watch
  pub told : List (List Notice)
  pub taken : List ℕ

-- all notices that a session was told, in order
abbrev pub told_to : Table → ℕ → List Notice
told_to t session = get_or t.told session []

-- how many of them it took
abbrev pub taken_by : Table → ℕ → ℕ
taken_by t session = get_or t.taken session 0

-- ---- as numbers

abbrev pub bit_to : Bool → ℕ
bit_to true = 1
bit_to false = 0

abbrev pub bit_of : ℕ → Bool
bit_of zero = false
bit_of (suc n) = true

pub bit-back : (b : Bool) → bit_of (bit_to b) ≡ b
bit-back true = refl
bit-back false = refl

abbrev pub reason_to : Reason → Option ℕ
reason_to Matched = None
reason_to Gone = Some 0
reason_to Closed = Some 1

abbrev pub reason_of : Option ℕ → Reason
reason_of None = Matched
reason_of (Some zero) = Gone
reason_of (Some (suc n)) = Closed

pub reason-back : (r : Reason) → reason_of (reason_to r) ≡ r
reason-back Matched = refl
reason-back Gone = refl
reason-back Closed = refl

abbrev pub coded_path : Coded Path
coded_path = coded_list coded_bytes

abbrev pub coded_bit : Coded Bool
coded_bit = code_by ℕ coded_ℕ bit_to bit_of bit-back

abbrev pub coded_reason : Coded Reason
coded_reason = code_by (Option ℕ) (coded_option coded_ℕ) reason_to reason_of reason-back

abbrev pub coded_watch : Coded Watch
coded_watch =
    code_by ((ℕ × ℕ) × ((ℕ × Path) × (ℕ × Bool))) (coded× (coded× coded_ℕ coded_ℕ) (coded× (coded× coded_ℕ coded_path) (coded× coded_ℕ coded_bit)))
    (λ v. ((v.number, v.session), ((v.handle, v.path), (v.filter, v.subtree))))
    (λ p. record { number = p.0.0; session = p.0.1; handle = p.1.0.0; path = p.1.0.1; filter = p.1.1.0; subtree = p.1.1.1 }) (λ _. refl)

abbrev pub coded_notice : Coded Notice
coded_notice =
    code_by ((ℕ × ℕ) × Reason) (coded× (coded× coded_ℕ coded_ℕ) coded_reason) (λ n. ((n.watch, n.by), n.reason))
    (λ p. record { watch = p.0.0; by = p.0.1; reason = p.1 }) (λ _. refl)

abbrev pub coded_table : Coded Table
coded_table =
    code_by ((List Watch × List (List Notice)) × List ℕ) (coded× (coded× (coded_list coded_watch) (coded_list (coded_list coded_notice))) (coded_list coded_ℕ))
    (λ t. ((t.pending, t.told), t.taken)) (λ p. record { pending = p.0.0; told = p.0.1; taken = p.1 }) (λ _. refl)
