use Rattle.std.proofs.Common.{◌≡◌, ℕ, Option, Some, sym, ◌∙◌, subst}
use Rattle.std.specs.Prelude.{Result, Ok, Err, IfOk, IfErr}
use Rattle.std.specs.Result.{result_err}
use Rattle.reg_model.specs.Callbacks.{change_status}
use Rattle.reg_model.specs.Causes.{change_cause}
use Rattle.reg_model.specs.declared.call.Change.{Change}
use Rattle.reg_model.specs.declared.call.Change.TheVariants.{Close as Closed}
use Rattle.reg_callbacks.specs.Asking.{asks}
use Rattle.reg_callbacks.specs.Lists.{answers_of}
use Rattle.reg_calls.specs.declared.close.Close.{Close}
use Rattle.reg_calls.specs.declared.store.JournalEnd.{JournalEnd}
use Rattle.reg_calls.specs.declared.store.Store.{Store}
use Rattle.reg_calls.specs.Internal.Stores.{at, world_of}
use Rattle.reg_calls.specs.Internal.Admissions.{IsClear}
use Rattle.reg_calls.proofs.store.Store.cause.Goals as goal

-- what is told of a Close is its cause, whatever the callbacks answer
close-told : (end : JournalEnd) (store : Store) (session handle c : ℕ) (found : Result Close ℕ) →
    IfErr found (λ status. (n : JournalEnd) → (k : ℕ) → change_cause (at n store) session (Closed handle) k ≡ Some status) →
    IfOk found (λ x. (n : JournalEnd) → IsClear n store session (Closed handle)) → (told : Option ℕ) → told ≡ result_err found →
    told ≡ change_cause (at end store) session (Closed handle) c
close-told end store session handle c (Ok x) refused clear told is = is ∙ sym (clear end)
close-told end store session handle c (Err status) refused clear told is = is ∙ sym (refused end c)

pub returns-in-Close : goal.returns-in-Close
returns-in-Close g c =
    let status = change_status (asks (answers_of g.C.Callback.answers c.args.callbacks.now)) (world_of c.args.self.now) c.args.session c.args.moment c.args.change.now in
    subst (λ (x : Change). c.err-in-Close.result ≡ change_cause (at c.args.end c.args.self.now) c.args.session x status) (sym c.in-Close.is)
    (close-told c.args.end c.args.self.now c.args.session c.in-Close.handle status c.admit-in-Close.result c.admit-in-Close.ensures.refused c.admit-in-Close.ensures.clear
    c.err-in-Close.result c.err-in-Close.ensures.value)
