use Rattle.std.proofs.Common.{◌≡◌, ℕ, ◌+◌, ◌≤◌, ◌&&◌, cond, eqb, is_some, List, refl, sym, ap, ◌∙◌, arith}
use Rattle.std.specs.Prelude.{slice_get}
use Rattle.reg_model.specs.declared.notice.Notice.{Notice}
use Rattle.reg_notify.specs.Tables.{Table, told_to, taken_by}
use Rattle.reg_notify.specs.Internal.Queues.{taken_at, room_at}
use Rattle.reg_notify.proofs.Added.{as-before}
use Rattle.reg_notify.proofs.QueueSteps.{same-length-of, told-is, taken-is, told-same}
use Rattle.reg_notify.proofs.watches.Watches.take.Goals as goal

pub invariant_of-self : goal.invariant_of-self
invariant_of-self c =
    let q = c.take_from.ensures in
    let room : (s : ℕ) → room_at c.self.inside.table.queues.items s ≤ room_at c.take_from.new.queues.items s = λ s. let e = q.rooms s in omega (arith, e) in
    record {
      settled = as-before c.self.inside.table _ c.self.invariant.settled refl (λ text. refl) (λ text. refl) (λ other is. is) refl refl
          (omega arith) q.told q.pending room q.len;
      room = c.self.invariant.room;
    }

pub returns-clause-notice : goal.returns-clause-notice
returns-clause-notice c =
    let qs = c.self.inside.table.queues.items in
    let s = c.args.session in
    c.take_from.ensures.notice
    ∙ ap (λ (l : List Notice). slice_get l (taken_at qs s)) (sym (told-is qs s) ∙ ap (λ (t : Table). told_to t s) c.self.view_is)
    ∙ ap (slice_get (told_to c.args.self.now s)) (sym (taken-is qs s) ∙ ap (λ (t : Table). taken_by t s) c.self.view_is)

pub returns-clause-taken : goal.returns-clause-taken
returns-clause-taken c = λ s.
    let qs = c.self.inside.table.queues.items in
    let was : taken_at qs s ≡ taken_by c.args.self.now s = sym (taken-is qs s) ∙ ap (λ (t : Table). taken_by t s) c.self.view_is in
    taken-is c.take_from.new.queues.items s ∙ c.take_from.ensures.taken s
    ∙ ap (λ (n : ℕ). cond (eqb s c.args.session && is_some c.take_from.result) (n + 1) n) was

pub returns-clause-told : goal.returns-clause-told
returns-clause-told c =
    told-same c.self.inside.table.queues.items c.take_from.new.queues.items
    (same-length-of c.self.inside.table.queues c.take_from.new.queues c.take_from.ensures.len) c.take_from.ensures.told
    ∙ ap (λ (t : Table). t.told) c.self.view_is

pub returns-clause-pending : goal.returns-clause-pending
returns-clause-pending c = ap (λ (t : Table). t.pending) c.self.view_is
