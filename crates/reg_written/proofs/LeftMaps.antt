-- The map of the securities that a walk hasn't gone through.
use Rattle.std.proofs.Common.{◌≡◌, ℕ, Bool, cond, eqb, List, [], ◌∷◌, length, Option, Some, None, refl, sym, ap, ◌∙◌, arith}
use Rattle.std.specs.Ordering.{nat_cmp}
use Rattle.std.specs.BTreeMap.{is_at}
use Rattle.std.specs.Map.{lookup}
use Rattle.std.proofs.lemmas.Bool.{eq-eqb}
use Rattle.std.proofs.lemmas.Bool.Decides.{nat_tests}
use Rattle.std.proofs.lemmas.Option.{none-some}

-- the map's test is that of equal numbers
pub at-eqb : (a b : ℕ) → is_at (nat_cmp a) b ≡ eqb a b
at-eqb a b = grind (arith, nat_tests)

-- an empty map has nothing
pub empty-none : (es : List (ℕ × ℕ)) → length es ≡ 0 → (offset : ℕ) → lookup (is_at (nat_cmp offset)) es ≡ None
empty-none [] e offset = refl
empty-none (x ∷ es) e offset = absurd (omega arith)

-- a map that has nothing is empty
pub none-empty : (es : List (ℕ × ℕ)) → ((offset : ℕ) → lookup (is_at (nat_cmp offset)) es ≡ None) → length es ≡ 0
none-empty [] none = refl
none-empty (x ∷ es) none =
    absurd (none-some x.1 (sym (none x.0)
    ∙ ap (λ (b : Bool). cond b (Some x.1) (lookup (is_at (nat_cmp x.0)) es)) (at-eqb x.0 x.0 ∙ eq-eqb x.0 x.0 refl)))

-- what was at one number is taken out
pub taken-at : (at : ℕ) (old new : ℕ → Option ℕ) → ((offset : ℕ) → new offset ≡ cond (is_at (nat_cmp at) offset) None (old offset)) →
    (offset : ℕ) → new offset ≡ cond (eqb at offset) None (old offset)
taken-at at old new t offset = t offset ∙ ap (λ (b : Bool). cond b None (old offset)) (at-eqb at offset)
