-- What holds where a call failed.
use Rattle.std.specs.Prelude.{◌≡◌, Result, Ok, Err, IfOk, OnErr, IfErr, is_ok, false, refl}
use Rattle.std.specs.Result.{IsErrAnd}
use Rattle.std.proofs.Common.{sym, subst}

pub on_err : {T E Q : Type 0} (r : Result T E) → Q → OnErr r Q
on_err (Ok x) q = tt
on_err (Err e) q = q

pub if_err : {T E : Type 0} (P : E → Type 0) (r : Result T E) (e : E) → IsErrAnd r (λ y. y ≡ e) → P e → IfErr r P
if_err P (Ok x) e h q = tt
if_err P (Err y) e h q = subst P (sym h) q

pub on_err_with : {T E Q : Type 0} (r : Result T E) → (is_ok r ≡ false → Q) → OnErr r Q
on_err_with (Ok x) q = tt
on_err_with (Err e) q = q refl

-- ---- where a match has told how a call ended

pub at_ok : {T E : Type 0} (P : T → Type 0) (r : Result T E) (x : T) → r ≡ Ok x → IfOk r P → P x
at_ok {T} {E} P r x e p = subst (λ (w : Result T E). IfOk w P) e p

pub at_err : {T E : Type 0} (P : E → Type 0) (r : Result T E) (x : E) → r ≡ Err x → IfErr r P → P x
at_err {T} {E} P r x e p = subst (λ (w : Result T E). IfErr w P) e p
