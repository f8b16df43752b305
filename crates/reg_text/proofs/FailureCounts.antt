-- How often a device failed, over several calls.
use Rattle.std.proofs.Common.{ℕ, Option, Some, None, refl, subst}
use Rattle.reg_text.specs.Failures.{Stays, Fails}

-- no call
pub stays-at : (at : Option ℕ) → Stays at at
stays-at None = tt
stays-at (Some n) = refl

pub stays-then : (old mid new : Option ℕ) → Stays old mid → Stays mid new → Stays old new
stays-then None mid new a b = tt
stays-then (Some n) mid new a b = subst (λ m. Stays m new) a b

-- none failed, and then one did
pub fails-then : (old mid new : Option ℕ) → Stays old mid → Fails mid new → Fails old new
fails-then None mid new a b = tt
fails-then (Some n) mid new a b = subst (λ m. Fails m new) a b
