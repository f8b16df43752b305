use Rattle.std.proofs.Common.{◌≡◌, ℕ, Result, Ok, Err, false, refl}
use Rattle.std.specs.Prelude.{◌≢◌, IfOk, OnErr, IsErr}
use Rattle.reg_model.specs.declared.call.Change.{Change}
use Rattle.reg_model.specs.declared.call.Change.TheVariants.{OpenRoot, OpenKey, CreateKey, SetValue, DeleteValue, DeleteKey, DeleteTree, SetSecurity, Notify, Close}
use Rattle.reg_sessions.specs.Sessions.{closes}
use Rattle.reg_sessions.proofs.place.two_copies.Goals as goal

-- what is so in any case is so behind a fault
behind : {A E : Type 0} (P : Type 0) (r : Result A E) → P → OnErr r P
behind P (Ok a) p = tt
behind P (Err e) p = p

-- of a fault nothing is said of an answer
unsaid : {A E : Type 0} (P : A → Type 0) (r : Result A E) → IsErr r → IfOk r P
unsaid P (Ok a) h = absurd (cc)
unsaid P (Err e) h = tt

not_close : (x : Change) → ((h : ℕ) → x ≢ Close h) → closes x ≡ false
not_close (OpenRoot m) n = refl
not_close (OpenKey h p m) n = refl
not_close (CreateKey h p m d) n = refl
not_close (SetValue h a k b) n = refl
not_close (DeleteValue h a) n = refl
not_close (DeleteKey h p) n = refl
not_close (DeleteTree h p) n = refl
not_close (SetSecurity h d) n = refl
not_close (Notify h f s) n = refl
not_close (Close h) n = absurd (n h refl)

pub returns-in_err-kept : goal.returns-in_err-kept
returns-in_err-kept c =
    let e = c.from_residual-in_err-kept.ensures in
    record {
      copies = unsaid _ c.from_residual-in_err-kept.result e.0;
      spared = behind _ c.from_residual-in_err-kept.result (not_close c.args.change.now c.in_default.not-Close);
    }
