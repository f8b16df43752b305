-- What holds of a result that is known.
use Rattle.std.proofs.Common.{◌≡◌, sym, subst}
use Rattle.std.specs.Prelude.{Result, Ok, Err, MatchResult}
use Rattle.std.specs.Result.{IsErrAnd}

-- of a fault
pub match_err : {T E : Type 0} (P : T → Type 0) (Q : E → Type 0) (r : Result T E) (e : E) → IsErrAnd r (λ y. y ≡ e) → Q e → MatchResult r P Q
match_err P Q (Ok x) e h q = absurd h
match_err P Q (Err y) e h q = subst Q (sym h) q
